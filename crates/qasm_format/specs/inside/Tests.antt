-- The tests of words that the reader makes.
use Rattle.std.specs.Prelude.{ℕ, Bool, not, ◌&&◌, if◌then◌else◌, List, codes, slice_index, Option, Some, None}
use Rattle.std.specs.List.{list_any}
use Rattle.std.specs.Str.{bytes_eq}
use Rattle.std.specs.Char.{is_ascii_lowercase}
use Rattle.qasm_format.specs.declared.words.RegisterKind.{RegisterKind}
use Rattle.qasm_format.specs.declared.words.RegisterKind.TheVariants.{Qubits, Bits}
use Rattle.qasm_format.specs.declared.words.Use.{Use}
use Rattle.qasm_format.specs.declared.words.Use.TheVariants.{Barrier, Flip}
use Rattle.qasm_format.specs.Registers.{kept_words}

-- the include, once
abbrev pub is_include : List ℕ → Bool → Bool
is_include word included = not included && bytes_eq word (codes "include")

-- the kind of register that a word declares
abbrev pub kind_of : List ℕ → Option RegisterKind
kind_of word =
    if bytes_eq word (codes "qreg") then Some Qubits
    else (if bytes_eq word (codes "creg") then Some Bits
    else None)

-- the gates that stand in the included file
abbrev pub flip_of : List ℕ → Option Use
flip_of word =
    if bytes_eq word (codes "x") then Some (Flip 0)
    else (if bytes_eq word (codes "cx") then Some (Flip 1)
    else (if bytes_eq word (codes "ccx") then Some (Flip 2)
    else None))

-- what the arguments behind a word are for
abbrev pub use_of : List ℕ → Bool → Option Use
use_of word included =
    if bytes_eq word (codes "barrier") then Some Barrier
    else (if bytes_eq word (codes "CX") then Some (Flip 1)
    else (if included then flip_of word else None))

-- whether a word names no register
abbrev pub is_kept : List ℕ → Bool
is_kept word = list_any (bytes_eq word) kept_words

-- whether an identifier of at most 64 bytes may name a register
abbrev pub is_free : List ℕ → Bool
is_free word = is_ascii_lowercase (slice_index word 0) && not (is_kept word)
