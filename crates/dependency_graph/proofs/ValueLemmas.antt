-- The bits of a tape are those of its graph.
use Rattle.std.proofs.Common.{◌≡◌, ℕ, zero, suc, ◌+◌, ◌<◌, Bool, true, false, ◌&&◌, inl, inr, List, [], ◌∷◌, ◌++◌, length, map, refl, sym, ap, subst}
use Rattle.std.proofs.Common.{◌∙◌, arith}
use Rattle.std.specs.Bool.{xor}
use Rattle.std.specs.List.{AllByRecursion}
use Rattle.std.proofs.lemmas.Bool.{cases_Bool}
use Rattle.std.proofs.lemmas.List.{map_push}
use Rattle.std.proofs.Math.ListN.{get_or-map}
use Rattle.list_facts.specs.Bits.{bit_of}
use Rattle.list_facts.proofs.BitLemmas.{xor_one, xor_none, xor_nothing, xor_same, xor_swap, and_nothing}
use Rattle.revs_tape.specs.declared.tape.Ref.{Ref}
use Rattle.revs_tape.specs.declared.tape.Ref.TheVariants as refs
use Rattle.revs_tape.specs.declared.tape.Entry.{Entry}
use Rattle.revs_tape.specs.declared.tape.Entry.TheVariants as entries
use Rattle.revs_tape.specs.Measures.{inputs_of}
use Rattle.revs_tape.specs.Tapes.{TapeView, IsTape, AreKnown, bit_at, bit_on, entry_bit, written_by}
use Rattle.dependency_graph.proofs.MadeLemmas.{bits_made-append, length-bits_made}
use Rattle.dependency_graph.specs.declared.fold.Reduct.{Reduct}
use Rattle.dependency_graph.specs.declared.fold.Reduct.TheVariants.{Known, New}
use Rattle.dependency_graph.specs.declared.node.Base.{Base}
use Rattle.dependency_graph.specs.declared.node.Base.TheVariants as bases
use Rattle.dependency_graph.specs.declared.node.Sig.{Sig}
use Rattle.dependency_graph.specs.declared.node.Sig.TheVariants.{Const, Is}
use Rattle.dependency_graph.specs.Graphs.{IsKnownSig, IsGraphOf, sig_of, base_bit, sig_bit, node_bit, made_by, value_on}
use Rattle.dependency_graph.specs.Folds.{FoldView, is_same, xor_of, and_of, folded, with_folded, with_write, folded_by, nothing_folded, graph_of}
use Rattle.dependency_graph.proofs.FoldLemmas.{IsFolded, same_bases, write_is, nothing_is, length-all}

-- ---- one write

abbrev folded_bit : (ℕ → Bool) → List Bool → Reduct → Bool
folded_bit input made (Known sig) = sig_bit input made sig
folded_bit input made (New node) = node_bit input made node

and_one : (v : Bool) → (v && true) ≡ v
and_one true = refl
and_one false = refl

and_same : (v : Bool) → (v && v) ≡ v
and_same true = refl
and_same false = refl

xor_value : (input : ℕ → Bool) (made : List Bool) (a b : Sig)
    → folded_bit input made (xor_of a b) ≡ xor (sig_bit input made a) (sig_bit input made b)
xor_value input made (Const a) (Const b) = refl
xor_value input made (Const true) (Is base) = sym (xor_one (base_bit input made base))
xor_value input made (Const false) (Is base) = sym (xor_none (base_bit input made base))
xor_value input made (Is base) (Const true) = sym (xor_swap (base_bit input made base) true ∙ xor_one (base_bit input made base))
xor_value input made (Is base) (Const false) = sym (xor_nothing (base_bit input made base))
xor_value input made (Is a) (Is b) = elim (cases_Bool (is_same a b)) [
  | inl e ↦ rw e (subst (λ (z : Base). false ≡ xor (base_bit input made a) (base_bit input made z)) (same_bases a b e)
      (sym (xor_same (base_bit input made a))))
  | inr e ↦ rw e refl
]

and_value : (input : ℕ → Bool) (made : List Bool) (a b : Sig)
    → folded_bit input made (and_of a b) ≡ (sig_bit input made a && sig_bit input made b)
and_value input made (Const a) (Const b) = refl
and_value input made (Const true) (Is base) = refl
and_value input made (Const false) (Is base) = refl
and_value input made (Is base) (Const true) = sym (and_one (base_bit input made base))
and_value input made (Is base) (Const false) = sym (and_nothing (base_bit input made base))
and_value input made (Is a) (Is b) = elim (cases_Bool (is_same a b)) [
  | inl e ↦ rw e (subst (λ (z : Base). base_bit input made a ≡ (base_bit input made a && base_bit input made z)) (same_bases a b e)
      (sym (and_same (base_bit input made a))))
  | inr e ↦ rw e refl
]

ref_value : (input made : List Bool) (writes : List Sig) (ref : Ref)
    → bit_at input (map (sig_bit (bit_of input) made) writes) ref ≡ sig_bit (bit_of input) made (sig_of writes ref)
ref_value input made writes (refs.Input i) = refl
ref_value input made writes (refs.Write j) = get_or-map (sig_bit (bit_of input) made) writes j (Const false)

entry_value : (input made : List Bool) (writes : List Sig) (e : Entry)
    → folded_bit (bit_of input) made (folded writes e) ≡ entry_bit input (map (sig_bit (bit_of input) made) writes) e
entry_value input made writes (entries.Const bit) = refl
entry_value input made writes (entries.Xor a b) =
    rw (ref_value input made writes a, ref_value input made writes b) (xor_value (bit_of input) made (sig_of writes a) (sig_of writes b))
entry_value input made writes (entries.And a b) =
    rw (ref_value input made writes a, ref_value input made writes b) (and_value (bit_of input) made (sig_of writes a) (sig_of writes b))

-- ---- bits stay as nodes come

pub bit_stays : (bits more : List Bool) (j : ℕ) → j < length bits → bit_of (bits ++ more) j ≡ bit_of bits j
bit_stays [] more j low = absurd (omega (arith, low))
bit_stays (b ∷ bits) more zero low = refl
bit_stays (b ∷ bits) more (suc j) low = bit_stays bits more j (omega (arith, low))

pub bit_last : (bits : List Bool) (b : Bool) → bit_of (bits ++ b ∷ []) (length bits) ≡ b
bit_last [] b = refl
bit_last (c ∷ bits) b = bit_last bits b

pub sig_stays : (input : ℕ → Bool) (n : ℕ) (bits more : List Bool) (sig : Sig) → IsKnownSig n (length bits) sig
    → sig_bit input (bits ++ more) sig ≡ sig_bit input bits sig
sig_stays input n bits more (Const bit) known = refl
sig_stays input n bits more (Is (bases.Input i)) known = refl
sig_stays input n bits more (Is (bases.Node j)) known = bit_stays bits more j known

sigs_stay : (input : ℕ → Bool) (n : ℕ) (bits more : List Bool) (writes : List Sig) → AllByRecursion (IsKnownSig n (length bits)) writes
    → map (sig_bit input (bits ++ more)) writes ≡ map (sig_bit input bits) writes
sigs_stay input n bits more [] known = refl
sigs_stay input n bits more (sig ∷ writes) known =
    ap (λ (b : Bool). b ∷ map (sig_bit input (bits ++ more)) writes) (sig_stays input n bits more sig known.0)
    ∙ ap (λ (z : List Bool). sig_bit input bits sig ∷ z) (sigs_stay input n bits more writes known.1)

-- ---- all writes

abbrev made_in : (ℕ → Bool) → FoldView → List Bool
made_in input f = made_by input [] f.nodes

-- the bits of the writes so far
abbrev bits_in : (ℕ → Bool) → FoldView → List Bool
bits_in input f = map (sig_bit input (made_in input f)) f.sigs

bits_folded : (input : ℕ → Bool) (n : ℕ) (f : FoldView) (x : Reduct) → IsFolded n f
    → bits_in input (with_folded f x) ≡ bits_in input f ++ folded_bit input (made_in input f) x ∷ []
bits_folded input n f (Known sig) is = map_push (sig_bit input (made_in input f)) f.sigs sig
bits_folded input n f (New node) is =
    let made = made_in input f in
    let bit = node_bit input made node in
    let last : Sig = Is (bases.Node (length f.nodes)) in
    let size : length made ≡ length f.nodes = length-bits_made (node_bit input) [] f.nodes ∙ omega arith in
    let known : AllByRecursion (IsKnownSig n (length made)) f.sigs =
    subst (λ (z : ℕ). AllByRecursion (IsKnownSig n z) f.sigs) (sym size) is.sigs in
    let here : bit_of (made ++ bit ∷ []) (length f.nodes) ≡ bit =
    subst (λ (z : ℕ). bit_of (made ++ bit ∷ []) z ≡ bit) size (bit_last made bit) in
    ap (λ (z : List Bool). map (sig_bit input z) (f.sigs ++ last ∷ [])) (bits_made-append (node_bit input) [] f.nodes (node ∷ []))
    ∙ map_push (sig_bit input (made ++ bit ∷ [])) f.sigs last
    ∙ ap (λ (z : List Bool). z ++ bit_of (made ++ bit ∷ []) (length f.nodes) ∷ []) (sigs_stay input n made (bit ∷ []) f.sigs known)
    ∙ ap (λ (b : Bool). bits_in input f ++ b ∷ []) here

bits_write : (input : List Bool) (n : ℕ) (f : FoldView) (e : Entry) → IsFolded n f
    → bits_in (bit_of input) (with_write f e) ≡ bits_in (bit_of input) f ++ entry_bit input (bits_in (bit_of input) f) e ∷ []
bits_write input n f e is =
    bits_folded (bit_of input) n f (folded f.sigs e) is
    ∙ ap (λ (b : Bool). bits_in (bit_of input) f ++ b ∷ []) (entry_value input (made_in (bit_of input) f) f.sigs e)

bits_all : (input : List Bool) (n m : ℕ) (f : FoldView) (es : List Entry) → IsFolded n f → AreKnown n m es
    → bits_in (bit_of input) (folded_by f es) ≡ written_by input (bits_in (bit_of input) f) es
bits_all input n m f [] is known = refl
bits_all input n m f (e ∷ es) is known =
    bits_all input n (m + 1) (with_write f e) es (write_is n m f e is known.0) known.1
    ∙ ap (λ (z : List Bool). written_by input z es) (bits_write input n f e is)

graph_values : (t : TapeView) → IsTape t → (input : List Bool) (ref : Ref)
    → value_on (graph_of t) (bit_of input) (sig_of (graph_of t).sigs ref) ≡ bit_on t input ref
graph_values t is input ref =
    let all = folded_by nothing_folded t.entries in
    sym (ref_value input (made_in (bit_of input) all) all.sigs ref)
    ∙ ap (λ (z : List Bool). bit_at input z ref) (bits_all input (inputs_of t) 0 nothing_folded t.entries (nothing_is (inputs_of t)) is.known)

pub graph_of_tape : (t : TapeView) → IsTape t → IsGraphOf t (graph_of t)
graph_of_tape t is = record {
  inputs = refl;
  writes = length-all nothing_folded t.entries ∙ omega arith;
  outputs = refl;
  values = graph_values t is;
}
