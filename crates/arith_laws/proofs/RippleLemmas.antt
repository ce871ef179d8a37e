-- What the lines of a ripple compute.
use Rattle.std.proofs.Common.{◌≡◌, ℕ, zero, suc, ◌+◌, ◌*◌, ◌≤◌, ◌<◌, Bool, List, [], ◌∷◌, ◌++◌, Some, refl, ap, ◌∙◌, subst, arith}
use Rattle.std.proofs.lemmas.List.{append_assoc, length-append}
use Rattle.revc_base.specs.declared.place.Place.{Place}
use Rattle.revs_grammar.specs.Forms.{BodyTree, name_of}
use Rattle.revs_terms.specs.Trees as t
use Rattle.built_texts.specs.Meanings.{Scope, of_bit, of_bits, named, meaning_of, IsRun, no_operands, operand, RunsBody, last_is, let_is}
use Rattle.built_texts.proofs.PlaceLemmas.{lettered}
use Rattle.built_texts.proofs.RunLemmas.{run_name, run_reg, run_within}
use Rattle.arith_laws.proofs.RipplePieces.{Ripple}
use Rattle.arith_laws.proofs.RippleReadingLemmas.{Reads, behind_sum, behind_place, in_places, at_carry, at_places, at_open, at_outputs, at_close}
use Rattle.arith_laws.proofs.RippleReadingLemmas.{last_body, inner_body}
use Rattle.arith_laws.proofs.StageLemmas.{IsKept, Made, Stage, behind, stage_next, stage_same, within, outputs_run}

-- The bits of places, and what goes on from each to the next: of so many places from this one on, and what goes out of the last.
abbrev pub rippled : (ℕ → Bool → Bool) → (ℕ → Bool → Bool) → Bool → ℕ → ℕ → List Bool
rippled sums carries c i zero = c ∷ []
rippled sums carries c i (suc count) = sums i c ∷ rippled sums carries (carries i c) (i + 1) count

-- what the lines of the places below n compute, where this is known of the names
pub record Works (K : Ripple) (l : ℕ) (R : Reads K l) (d : ℕ) (Known : Scope → Type 0) (sums carries : ℕ → Bool → Bool) (n : ℕ) : Type 1 where
  pub kept : IsKept K.letter Known
  pub sum_works : (i : ℕ) (c : Bool) (made : List Bool) (sc : Scope) (p : ℕ → Place) → i < n → Stage K.letter Known i c made sc
      → IsRun d sc (R.sum_term i p) (of_bit (sums i c)) 8
  pub carry_works : (i : ℕ) (c s : Bool) (made : List Bool) (sc : Scope) (p : ℕ → Place) → i < n → Stage K.letter Known i c made sc
      → IsRun d (named (lettered K.letter i) (of_bit s) sc) (R.carry_term i p) (of_bit (carries i c)) 27

module _ (K : Ripple) (l : ℕ) (R : Reads K l) (d : ℕ) (Known : Scope → Type 0) (sums carries : ℕ → Bool → Bool) (n : ℕ) (few : n ≤ 999)
    (W : Works K l R (suc (suc d)) Known sums carries n) where
  -- a body behind all places puts out what was made and what goes out of the last
  abbrev Behind : BodyTree → ℕ → Type 0
  Behind last k = (sc : Scope) (c : Bool) (made : List Bool) → Stage K.letter Known n c made sc
      → RunsBody (suc (suc d)) sc last.items last.last (of_bits (made ++ c ∷ [])) k

  places_run : (count i : ℕ) (p : ℕ → Place) (last : BodyTree) (k : ℕ) (c : Bool) (made : List Bool) (sc : Scope) → i + count ≡ n
      → Stage K.letter Known i c made sc → Behind last k
      → RunsBody (suc (suc d)) sc (in_places K l R i count p last).items (in_places K l R i count p last).last
      (of_bits (made ++ rippled sums carries c i count)) (35 * count + k)
  places_run zero i p last k c made sc there now rest =
      let here : i ≡ n = omega arith in
      let units : k ≡ 35 * 0 + k = omega arith in
      within {rest = last} (rest sc c made (stage_same K.letter Known W.kept here refl now)) units
  places_run (suc count) i p last k c made sc there now rest =
      let s = sums i c in
      let next = carries i c in
      let low : i < n = omega arith in
      let below : i ≤ 999 = omega arith in
      let there' : i + 1 + count ≡ n = omega arith in
      let units : 8 + (27 + (35 * count + k)) ≡ 35 * suc count + k = omega arith in
      let more = places_run count (i + 1) (behind_place K l R i p) last k next (made ++ s ∷ []) (behind K.letter i s next sc) there'
      (stage_next K.letter Known W.kept i s next made sc below now.below) rest in
      let whole = in_places K l R i (suc count) p last in
      subst (λ (bs : List Bool). RunsBody (suc (suc d)) sc whole.items whole.last (of_bits bs) (35 * suc count + k))
      (append_assoc made (s ∷ []) (rippled sums carries next (i + 1) count))
      (within {rest = whole} (let_is {name = name_of (lettered K.letter i) (p 1)} (W.sum_works i c made sc p low now)
      (let_is {name = name_of (lettered 99 (i + 1)) (behind_sum K l R i p 1)} (W.carry_works i c s made sc (behind_sum K l R i p) low now) more)) units)

  -- the last line, and the whole body, for numbers of one bit more than this
  abbrev pub end_units : ℕ → ℕ
  end_units m = 1 + (suc m + 1 + (suc m + 1))

  abbrev pub ripple_units : ℕ → ℕ
  ripple_units m = 8 + (27 + (35 * m + end_units m))

  module _ (m : ℕ) (p : ℕ → Place) (size : suc m ≡ n) where
    end_run : Behind (last_body K l R m p) (end_units m)
    end_run sc c made now =
        let last = name_of (lettered 99 (suc m)) (at_close K l R m p 0) in
        let size' = length-append made (c ∷ []) in
        let count = now.below.count in
        let last_in : meaning_of (lettered 99 (suc m)) sc ≡ Some (of_bit c) = ap (λ (j : ℕ). meaning_of (lettered 99 j) sc) size ∙ now.c_is in
        let outs = outputs_run K.letter d 0 (suc m) (at_outputs K l R m p) (t.used last) [] (c ∷ []) 1 made made sc now.below.bits_are refl (omega arith)
        (operand (run_name last last_in) no_operands) in
        last_is (run_within (run_reg (at_open K l R m p 0) outs (omega arith)) (omega arith))

    pub ripple_run : (b c : Bool) (own : Scope) → Known own → IsRun (suc (suc d)) own (R.first_sum_term p) (of_bit b) 8
        → IsRun (suc (suc d)) (named (lettered K.letter 0) (of_bit b) own) (R.first_carry_term (at_carry K l R m p)) (of_bit c) 27
        → RunsBody (suc (suc d)) own (inner_body K l R m p).items (inner_body K l R m p).last
        (of_bits (b ∷ rippled sums carries c 1 m)) (ripple_units m)
    ripple_run b c own known sum carry =
        let there : 1 + m ≡ n = omega arith in
        let begun : Made K.letter Known 0 [] own = record { known = known; bits_are = λ k z is. cc; count = refl } in
        let now : Stage K.letter Known 1 c (b ∷ []) (behind K.letter 0 b c own) = stage_next K.letter Known W.kept 0 b c [] own (omega arith) begun in
        let_is {name = name_of (lettered K.letter 0) (p 1)} sum
        (let_is {name = name_of (lettered 99 1) (at_carry K l R m p 1)} carry
        (places_run m 1 (at_places K l R m p) (last_body K l R m p) (end_units m) c (b ∷ []) (behind K.letter 0 b c own) there now end_run))
