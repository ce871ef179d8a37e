-- How many gates stand in place of a flip under positive controls.
use Rattle.std.proofs.Common.{◌≡◌, ℕ, ◌+◌, ◌-◌, ◌*◌, ◌<◌, ◌≤◌, Bool, true, false, eqb, cond, List, [], ◌∷◌, ◌++◌, length, take, drop, reverse, Some, refl, sym}
use Rattle.std.proofs.Common.{ap, ◌∙◌, inl, inr, arith}
use Rattle.std.proofs.lemmas.List.{length-append, length-take-le, length-drop, length-reverse}
use Rattle.std.proofs.lemmas.Bool.Decides.{leb_tells, eqb_tells}
use Rattle.mct_circuit.specs.Gates.{GateView, IsGateOn, flip_of}
use Rattle.gate_split.specs.Split.{idle_lines, in_falling_order, ladder, there_and_back, over_idle_lines, with_enough_idle, first_half, first_flips}
use Rattle.gate_split.specs.Split.{second_flips, in_halves, over_few_lines}
use Rattle.gate_split.specs.Costs.{SplitCosts}
use Rattle.gate_split.proofs.BuildingLemmas.{length-ladder}
use Rattle.gate_split.proofs.EffectLemmas.{Halves, some_is, idle_serves}
use Rattle.gate_split.proofs.WideLemmas.{halves_of}
use Rattle.gate_split.proofs.WideLemmas.{second_length, first_length}

length-there : (gates : List GateView) → length (there_and_back gates) ≡ length gates + (length gates - 1)
length-there gates = length-append gates (drop 1 (reverse gates)) ∙ ap (λ m. length gates + m)
    (length-drop 1 (reverse gates) ∙ ap (λ m. m - 1) (length-reverse gates))

length-over : (controls : List ℕ) (target : ℕ) (idle : List ℕ) → length controls ≡ length idle + 2 → 1 ≤ length idle
    → length (over_idle_lines controls target idle) ≡ 4 * length idle
length-over controls target idle e h =
    let rungs = ladder target (reverse controls) (reverse idle) in
    let even : length (reverse controls) ≡ length (reverse idle) + 2 = rw (length-reverse controls, length-reverse idle) e in
    let long : length rungs ≡ length (reverse idle) + 1 = length-ladder target (reverse controls) (reverse idle) even in
    let back = length-reverse idle in
    let one = length-there rungs in
    let two = length-there (drop 1 rungs) in
    let lower = length-drop 1 rungs in
    let whole = length-append (there_and_back rungs) (there_and_back (drop 1 rungs)) in
    omega arith

cut_over : (controls : List ℕ) (target : ℕ) (idle : List ℕ) → 3 ≤ length controls → length controls ≤ length idle + 2
    → length (over_idle_lines controls target (take (length controls - 2) idle)) ≡ 4 * (length controls - 2)
cut_over controls target idle h enough =
    let cut : length (take (length controls - 2) idle) ≡ length controls - 2 = length-take-le (length controls - 2) idle (omega arith) in
    length-over controls target (take (length controls - 2) idle) (omega arith) (omega arith) ∙ ap (λ m. 4 * m) cut

few : (controls : List ℕ) (target : ℕ) (idle : List ℕ) → length controls ≤ 2 → length (with_enough_idle controls target idle) ≡ 1
few controls target idle h = elim (leb_tells (length controls) 2) [ inl t ↦ rw t.0 refl | inr t ↦ absurd (omega (arith, t.1)) ]

many : (controls : List ℕ) (target : ℕ) (idle : List ℕ) → 3 ≤ length controls → length controls ≤ length idle + 2
    → length (with_enough_idle controls target idle) ≡ 4 * (length controls - 2)
many controls target idle h enough = elim (leb_tells (length controls) 2)
    [ inl t ↦ absurd (omega (arith, t.1)) | inr t ↦ rw t.0 (cut_over controls target idle h enough) ]

length-halves : (n : ℕ) (controls : List ℕ) (target idle : ℕ) → Halves n (take (first_half controls) controls) (drop (first_half controls) controls) target idle
    → 4 ≤ length controls
    → length (in_halves n controls target idle) ≡ cond (eqb (length controls) 4) 10 (8 * (length controls - 3))
length-halves n controls target idle s four =
    let h = first_half controls in
    let first = take h controls in
    let second = drop h controls in
    let Q = second_flips n controls target idle in
    let P = first_flips n controls target idle in
    let long_first : length first ≡ h = length-take-le h controls (omega arith) in
    let long_second : length second ≡ length controls - h = length-drop h controls in
    let more : length (second ++ idle ∷ []) ≡ length second + 1 = length-append second (idle ∷ []) in
    let enough_second = second_length n controls target idle s four in
    let enough_first = first_length n controls target idle s four in
    let q : length Q ≡ 4 * (length (second ++ idle ∷ []) - 2) = many (second ++ idle ∷ []) target (in_falling_order n first) (omega arith) enough_second in
    let once = length-append Q P in
    let twice = length-append (Q ++ P) (Q ++ P) in
    elim (eqb_tells (length controls) 4) [
      | inl t ↦ (let is = t.1 in let p : length P ≡ 1 = few first idle (in_falling_order n (second ++ target ∷ [])) (omega arith) in rw t.0 (omega arith))
      | inr t ↦ (let is = t.1 in let p : length P ≡ 4 * (length first - 2) =
          many first idle (in_falling_order n (second ++ target ∷ [])) (omega arith) enough_first in rw t.0 (omega arith))
    ]

few_cost : (b : Bool) (k m : ℕ) → m ≡ cond b 10 (8 * (k - 3)) → 4 ≤ k → m ≤ 8 * k
few_cost true k m e h = omega arith
few_cost false k m e h = omega arith

few_lines_cost : (n : ℕ) (controls : List ℕ) (target : ℕ) (idle : List ℕ) (gates : List GateView) → IsGateOn n (flip_of controls target) → 3 ≤ length controls
    → idle ≡ idle_lines n (controls ++ target ∷ []) → length idle < length controls - 2
    → over_few_lines n controls target idle ≡ Some gates → length gates ≡ cond (eqb (length controls) 4) 10 (8 * (length controls - 3))
few_lines_cost n controls target [] gates g h i less e = absurd (cc)
few_lines_cost n controls target (a ∷ ls) gates g h i less e =
    let s = idle_serves n controls target g in
    let below = rw (← i) at s.below in
    let apart = rw (← i) at s.apart in
    ap length (sym (some_is (in_halves n controls target a) gates e)) ∙ length-halves n controls target a (halves_of n controls target a g below.0 apart.0)
    (omega arith)

most : (n : ℕ) (controls : List ℕ) (target : ℕ) (idle : List ℕ) (gates : List GateView) → length idle < length controls - 2
    → length gates ≡ cond (eqb (length controls) 4) 10 (8 * (length controls - 3))
    → over_few_lines n controls target idle ≡ Some gates → length gates ≤ 8 * length controls
most n controls target [] gates less long e = absurd (cc)
most n controls target (a ∷ ls) gates less long e = few_cost (eqb (length controls) 4) (length controls) (length gates) long (omega arith)

pub costs : SplitCosts
costs n controls target gates g h e =
    let idle = idle_lines n (controls ++ target ∷ []) in
    elim (leb_tells (length controls) 2) [
      | inl t ↦ absurd (omega (arith, t.1))
      | inr t ↦ (let found = rw t.0 at e in elim (leb_tells (length controls - 2) (length idle)) [
        | inl u ↦ (let enough = u.1 in let list = rw u.0 at found in
            let long : length gates ≡ 4 * (length controls - 2) = ap length (sym (some_is _ gates list)) ∙ cut_over controls target idle h (omega arith) in
            record { with_enough = λ p. long; with_few = λ p. absurd (omega arith); at_most = omega arith })
        | inr u ↦ (let less = u.1 in
            let long = few_lines_cost n controls target idle gates g h refl less (rw u.0 at found) in
            record { with_enough = λ p. absurd (omega arith); with_few = λ p. long; at_most = most n controls target idle gates less long (rw u.0 at found) })
      ])
    ]
