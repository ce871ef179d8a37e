-- Tokens without the bytes of their names, beside the text that these stand in.
use Rattle.std.specs.Prelude.{ℕ, ◌+◌, ◌≤◌, List, [], ◌∷◌, length, take, drop, map}
use Rattle.revc_base.specs.declared.limits.TheConstants.{MOST_NAME_BYTES}
use Rattle.revs_lexer.specs.declared.packed.Packed.{Packed}
use Rattle.revs_lexer.specs.declared.token.Kind.{Kind}
use Rattle.revs_lexer.specs.declared.token.Kind.TheVariants as kinds
use Rattle.revs_lexer.specs.declared.token.Token.{Token}
use Rattle.revs_lexer.specs.Kinds.{tok_of}

-- the bytes of a name of this kind
abbrev pub bytes_of : List ℕ → Kind → List ℕ
bytes_of text (kinds.Name len start) = take len (drop start text)
bytes_of text (kinds.Number n) = []
bytes_of text (kinds.Word w) = []
bytes_of text (kinds.Sign s) = []
bytes_of text kinds.End = []

-- the token
abbrev pub token_of : List ℕ → Packed → Token
token_of text packed =
    record { tok = tok_of packed.kind (bytes_of text packed.kind); at = packed.at }

abbrev pub tokens_of : List ℕ → List Packed → List Token
tokens_of text packed = map (token_of text) packed

-- A name stands in the text, and has 1 to 64 bytes.
abbrev pub IsWithin : List ℕ → Kind → Type 0
IsWithin text (kinds.Name len start) =
    (1 ≤ len) × (len ≤ MOST_NAME_BYTES) × (start + len ≤ length text)
IsWithin text (kinds.Number n) = Unit {0}
IsWithin text (kinds.Word w) = Unit {0}
IsWithin text (kinds.Sign s) = Unit {0}
IsWithin text kinds.End = Unit {0}

abbrev pub AreWithin : List ℕ → List Packed → Type 0
AreWithin text [] = Unit {0}
AreWithin text (p ∷ ps) = IsWithin text p.kind × AreWithin text ps
