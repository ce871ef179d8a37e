-- What a write is folded to comes from its own operands.
use Rattle.std.proofs.Common.{◌≡◌, ℕ, Bool, true, false, ◌&&◌, inl, inr, List, [], ◌∷◌, map}
use Rattle.std.proofs.Common.{refl, sym, ap, ◌∙◌}
use Rattle.std.specs.Bool.{xor}
use Rattle.std.proofs.lemmas.Bool.{cases_Bool}
use Rattle.list_facts.specs.Lists.{IsAmong}
use Rattle.revs_tape.specs.declared.tape.Ref.{Ref}
use Rattle.revs_tape.specs.declared.tape.Entry.{Entry}
use Rattle.revs_tape.specs.declared.tape.Entry.TheVariants as entries
use Rattle.revs_tape.specs.Tapes.{TapeView, IsTape}
use Rattle.revs_tape.specs.Tapes as tape
use Rattle.dependency_graph.specs.declared.fold.Reduct.{Reduct}
use Rattle.dependency_graph.specs.declared.fold.Reduct.TheVariants.{Known, New}
use Rattle.dependency_graph.specs.declared.node.Base.{Base}
use Rattle.dependency_graph.specs.declared.node.Base.TheVariants as bases
use Rattle.dependency_graph.specs.declared.node.Sig.{Sig}
use Rattle.dependency_graph.specs.declared.node.Sig.TheVariants.{Const, Is}
use Rattle.dependency_graph.specs.Graphs.{operands, sig_of}
use Rattle.dependency_graph.specs.Folds.{is_same, xor_of, and_of, folded}

-- a sig is that of an operand, or no node; the operands of a node are those of the write
abbrev pub ComesFrom : List Sig → List Ref → Reduct → Type 0
ComesFrom writes reads (Known sig) = (k : ℕ) → sig ≡ Is (bases.Node k) → IsAmong sig (map (sig_of writes) reads)
ComesFrom writes reads (New node) = (base : Base) → IsAmong base (operands node) → IsAmong (Is base) (map (sig_of writes) reads)

pub no_node : (bit : Bool) (k : ℕ) (P : Type 0) → Const bit ≡ Is (bases.Node k) → P
no_node bit k P e = absurd (let clash : Const bit ≡ Is (bases.Node k) = e in cc)

-- a fold of two sigs that comes from them
abbrev ComesFromTwo : Sig → Sig → Reduct → Type 0
ComesFromTwo a b (Known sig) = (k : ℕ) → sig ≡ Is (bases.Node k) → IsAmong sig (a ∷ b ∷ [])
ComesFromTwo a b (New node) = (base : Base) → IsAmong base (operands node) → IsAmong (Is base) (a ∷ b ∷ [])

as_first : (a b : Sig) (c base : Base) → a ≡ Is c → IsAmong base (c ∷ []) → IsAmong (Is base) (a ∷ b ∷ [])
as_first a b c base same k = elim k as (λ _. IsAmong (Is base) (a ∷ b ∷ [])) [ inl e ↦ inl (ap Is e ∙ sym same) | inr none ↦ absurd none ]

as_second : (a b : Sig) (c base : Base) → b ≡ Is c → IsAmong base (c ∷ []) → IsAmong (Is base) (a ∷ b ∷ [])
as_second a b c base same k = elim k as (λ _. IsAmong (Is base) (a ∷ b ∷ [])) [ inl e ↦ inr (inl (ap Is e ∙ sym same)) | inr none ↦ absurd none ]

as_both : (c d base : Base) → IsAmong base (c ∷ d ∷ []) → IsAmong (Is base) (Is c ∷ Is d ∷ [])
as_both c d base k = elim k as (λ _. IsAmong (Is base) (Is c ∷ Is d ∷ [])) [
  | inl e ↦ inl (ap Is e)
  | inr later ↦ elim later as (λ _. IsAmong (Is base) (Is c ∷ Is d ∷ [])) [ inl e ↦ inr (inl (ap Is e)) | inr none ↦ absurd none ]
]

xor_comes : (a b : Sig) → ComesFromTwo a b (xor_of a b)
xor_comes (Const a) (Const b) = λ k e. no_node (xor a b) k (IsAmong (Const (xor a b)) (Const a ∷ Const b ∷ [])) e
xor_comes (Const true) (Is c) = λ base k. as_second (Const true) (Is c) c base refl k
xor_comes (Const false) (Is c) = λ k e. inr (inl refl)
xor_comes (Is c) (Const true) = λ base k. as_first (Is c) (Const true) c base refl k
xor_comes (Is c) (Const false) = λ k e. inl refl
xor_comes (Is c) (Is d) = elim (cases_Bool (is_same c d)) as (λ _. ComesFromTwo (Is c) (Is d) (xor_of (Is c) (Is d))) [
  | inl e ↦ rw e (λ k same. no_node false k (IsAmong (Const false) (Is c ∷ Is d ∷ [])) same)
  | inr e ↦ rw e (λ base k. as_both c d base k)
]

and_comes : (a b : Sig) → ComesFromTwo a b (and_of a b)
and_comes (Const a) (Const b) = λ k e. no_node (a && b) k (IsAmong (Const (a && b)) (Const a ∷ Const b ∷ [])) e
and_comes (Const true) (Is c) = λ k e. inr (inl refl)
and_comes (Const false) (Is c) = λ k e. inl refl
and_comes (Is c) (Const true) = λ k e. inl refl
and_comes (Is c) (Const false) = λ k e. inr (inl refl)
and_comes (Is c) (Is d) = elim (cases_Bool (is_same c d)) as (λ _. ComesFromTwo (Is c) (Is d) (and_of (Is c) (Is d))) [
  | inl e ↦ rw e (λ k same. inl refl)
  | inr e ↦ rw e (λ base k. as_both c d base k)
]

as_comes : (writes : List Sig) (a b : Ref) (x : Reduct) → ComesFromTwo (sig_of writes a) (sig_of writes b) x → ComesFrom writes (a ∷ b ∷ []) x
as_comes writes a b (Known sig) comes = comes
as_comes writes a b (New node) comes = comes

pub folded_comes : (writes : List Sig) (e : Entry) → ComesFrom writes (tape.operands e) (folded writes e)
folded_comes writes (entries.Const bit) = λ k e. no_node bit k (IsAmong (Const bit) []) e
folded_comes writes (entries.Xor a b) = as_comes writes a b (xor_of (sig_of writes a) (sig_of writes b)) (xor_comes (sig_of writes a) (sig_of writes b))
folded_comes writes (entries.And a b) = as_comes writes a b (and_of (sig_of writes a) (sig_of writes b)) (and_comes (sig_of writes a) (sig_of writes b))
