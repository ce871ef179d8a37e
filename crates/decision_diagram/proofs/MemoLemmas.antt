-- The memo of a call: what it gives stays true while the diagram grows.
use Rattle.std.proofs.Common.{◌≡◌, ◌⊎◌, ℕ, ◌≤◌, ◌&&◌, true, cond, nat_eq, List, [], length, Some, Result, Ok, Err, IsOk, OnOk, OnErr}
use Rattle.std.proofs.Common.{refl, sym, ap, ap₂, ◌∙◌, subst, inl, inr, arith, eqb-true}
use Rattle.std.proofs.lemmas.Bool.{cases_Bool, eq-eqb, true≢false}
use Rattle.indexmap.specs.IndexMap.{IndexMap, Updates}
use Rattle.decision_diagram.specs.declared.memo.Operands.{Operands}
use Rattle.decision_diagram.specs.declared.memo.TheConstants.{MOST_RESULTS}
use Rattle.decision_diagram.specs.Diagrams.{Triple, DiagramView, IsNumber, first_variable, IsBehind}
use Rattle.decision_diagram.specs.Growth.{KeepsNodes, StandsFor}
use Rattle.decision_diagram.specs.inside.Flipping.{AreBehind, AreNumbers, first_asked, flipped_at}
use Rattle.decision_diagram.specs.inside.Memos.{same_operands, recalled_from, IsFlip, HoldsFlips, KeepsOrNotes, Notes}
use Rattle.decision_diagram.proofs.LookupLemmas.{both_true}
use Rattle.decision_diagram.proofs.GrowthLemmas.{known-kept, function-kept, first-added, flipped-same, stands-kept, StandsFor-same}

first-kept : (old now : DiagramView) → KeepsNodes old now → (n : ℕ) → IsNumber old.nodes n
    → first_variable now.vars now.nodes n ≡ first_variable old.vars old.nodes n
first-kept old now kept n known =
    ap₂ (λ (vars : ℕ) (nodes : List Triple). first_variable vars nodes n) kept.vars kept.nodes
    ∙ first-added old.vars kept.added old.nodes n known

pub numbers-kept : (old now : DiagramView) → KeepsNodes old now → (o : Operands) → AreNumbers old.nodes o → AreNumbers now.nodes o
numbers-kept old now kept o known = record {
  target = known-kept old now kept o.target known.target;
  left = known-kept old now kept o.left known.left;
  right = known-kept old now kept o.right known.right;
}

-- what was made in a diagram that has grown is what operands from before ask for
pub made_flip : (old now : DiagramView) → KeepsNodes old now → (o : Operands) (h : ℕ) → AreNumbers old.nodes o
    → StandsFor now.nodes h (flipped_at old.nodes o) → first_asked old.vars old.nodes o ≤ first_variable now.vars now.nodes h → IsFlip now o h
made_flip old now kept o h known stands first = record {
  numbers = numbers-kept old now kept o known;
  stands = StandsFor-same now.nodes h (flipped_at old.nodes o) (flipped_at now.nodes o)
      (λ a. flipped-same old.nodes now.nodes o o a a (sym (function-kept old now kept o.target a known.target))
      (sym (function-kept old now kept o.left a known.left)) (sym (function-kept old now kept o.right a known.right)))
      stands;
  first =
      let target = first-kept old now kept o.target known.target in
      let left = first-kept old now kept o.left known.left in
      let right = first-kept old now kept o.right known.right in
      rw (target, left, right) first;
}

IsFlip-kept : (old now : DiagramView) → KeepsNodes old now → (o : Operands) (h : ℕ) → IsFlip old o h → IsFlip now o h
IsFlip-kept old now kept o h flip =
    made_flip old now kept o h flip.numbers (stands-kept old now kept h (flipped_at old.nodes o) flip.stands)
    (rw (first-kept old now kept h flip.stands.known) flip.first)

pub holds-kept : (old now : DiagramView) → KeepsNodes old now → (memo : List (Operands × ℕ)) → HoldsFlips old memo → HoldsFlips now memo
holds-kept old now kept memo holds = record {
  each = λ o h given. IsFlip-kept old now kept o h (holds.each o h given);
  within = holds.within;
}

abbrev made_of : ℕ → ℕ → ℕ → Operands
made_of target left right = record { target = target; left = left; right = right }

some_same : {A : Type 0} {x y : A} → Some x ≡ Some y → x ≡ y
some_same e = cc

operands-equal : (t t' l l' r r' : ℕ) → t ≡ t' → l ≡ l' → r ≡ r'
    → made_of t l r ≡ made_of t' l' r'
operands-equal t t' l l' r r' target left right = rw (target, left, right) refl

operands-same : (o p : Operands) → same_operands o p ≡ true → o ≡ p
operands-same o p e =
    let outer = both_true (nat_eq o.target p.target) (nat_eq o.left p.left && nat_eq o.right p.right) e in
    let inner = both_true (nat_eq o.left p.left) (nat_eq o.right p.right) outer.1 in
    let target : o.target ≡ p.target = eqb-true o.target p.target outer.0 in
    let left : o.left ≡ p.left = eqb-true o.left p.left inner.0 in
    let right : o.right ≡ p.right = eqb-true o.right p.right inner.1 in
    operands-equal o.target p.target o.left p.left o.right p.right target left right

same_operands-itself : (o : Operands) → same_operands o o ≡ true
same_operands-itself o =
    rw (eq-eqb o.target o.target refl) (rw (eq-eqb o.left o.left refl) (eq-eqb o.right o.right refl))

-- one more result is noted, or none, in a memo that stays or is emptied
noted_in : (d : DiagramView) (o : Operands) (h : ℕ) (old new : List (Operands × ℕ))
    → ((p : Operands) (k : ℕ) → recalled_from old p ≡ Some k → IsFlip d p k) → IsFlip d o h → (new ≡ old) ⊎ Notes o h old new
    → (p : Operands) (k : ℕ) → recalled_from new p ≡ Some k → IsFlip d p k
noted_in d o h old new each flip noted p k given =
    elim noted as (λ _. IsFlip d p k) [
      | inl same ↦ each p k (subst (λ (memo : List (Operands × ℕ)). recalled_from memo p ≡ Some k) same given)
      | inr notes ↦ elim (cases_Bool (same_operands o p)) as (λ _. IsFlip d p k) [
        | inl here ↦
            let is : h ≡ k = some_same (sym (notes p ∙ ap (λ b. cond b (Some h) (recalled_from old p)) here) ∙ given) in
            subst (λ (q : Operands). IsFlip d q k) (operands-same o p here) (subst (λ (n : ℕ). IsFlip d o n) is flip)
        | inr other ↦ each p k (sym (notes p ∙ ap (λ b. cond b (Some h) (recalled_from old p)) other) ∙ given)
      ]
    ]

pub holds-noted : (d : DiagramView) (o : Operands) (h : ℕ) (old new : List (Operands × ℕ)) → HoldsFlips d old → IsFlip d o h
    → KeepsOrNotes o h old new → length new ≤ MOST_RESULTS → HoldsFlips d new
holds-noted d o h old new holds flip noted within = record {
  each = noted_in d o h noted.kept new
      (λ p k given. elim noted.before as (λ _. IsFlip d p k) [
        | inl same ↦ holds.each p k (subst (λ (memo : List (Operands × ℕ)). recalled_from memo p ≡ Some k) same given)
        | inr emptied ↦
            let given_none : recalled_from [] p ≡ Some k = subst (λ (memo : List (Operands × ℕ)). recalled_from memo p ≡ Some k) emptied.1 given in
            cc
      ]) flip noted.noted;
  within = within;
}

-- a result that is recalled asks no variable before one that all operands ask later
pub recalled_behind : (d : DiagramView) (o : Operands) (h : ℕ) → IsFlip d o h → (v : ℕ) → AreBehind d.vars d.nodes v o
    → IsBehind d.vars d.nodes v h
recalled_behind d o h flip v behind = record {
  known = flip.stands.known;
  behind = omega (arith, flip.first, behind.target.behind, behind.left.behind, behind.right.behind);
}

-- ---- how the code notes

module _ {A E S : Type 0} (r : Result A E) (o : Operands) (flipped : ℕ) (old new : IndexMap Operands ℕ S) where
  pub noted_or_same : OnOk r (Updates same_operands old new o (Some flipped)) → OnErr r (new.entries ≡ old.entries)
      → (new.entries ≡ old.entries) ⊎ Notes o flipped old.entries new.entries
  noted_or_same updates same =
      elim r as (λ x. OnOk x (Updates same_operands old new o (Some flipped))
      → OnErr x (new.entries ≡ old.entries) → (new.entries ≡ old.entries) ⊎ Notes o flipped old.entries new.entries) [
        | Ok a ↦ λ u e. inr (λ m. u.0 m)
        | Err x ↦ λ u e. inl e
      ] updates same

  -- where there was room, the memo recalls it
  pub recalled_where_ok : IsOk r → OnOk r (Updates same_operands old new o (Some flipped)) → recalled_from new.entries o ≡ Some flipped
  recalled_where_ok is_ok updates =
      elim r as (λ x. IsOk x → OnOk x (Updates same_operands old new o (Some flipped)) → recalled_from new.entries o ≡ Some flipped) [
        | Ok a ↦ λ k u. u.0 o ∙ ap (λ b. cond b (Some flipped) (recalled_from old.entries o)) (same_operands-itself o)
        | Err x ↦ λ k u. absurd (true≢false (sym k))
      ] is_ok updates
