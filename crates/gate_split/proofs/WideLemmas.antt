-- What the calls of the code need, and what their answers make.
use Rattle.std.proofs.Common.{◌≡◌, ◌≢◌, ℕ, zero, suc, ◌+◌, ◌-◌, ◌<◌, ◌≤◌, leb, cond, List, [], ◌∷◌, ◌++◌, length, take, drop, get_or, reverse, Some, None, refl}
use Rattle.std.proofs.Common.{sym, ap, ◌∙◌, subst, inl, inr, arith}
use Rattle.std.specs.List.{AllByRecursion}
use Rattle.std.proofs.lemmas.List.{append_assoc, append-nil, length-append, length-take, length-take-le, length-drop, take-append-drop, take-take}
use Rattle.std.proofs.lemmas.Bool.Decides.{leb_tells}
use Rattle.list_facts.proofs.AllLemmas.{AllByRecursion-left, AllByRecursion-right, AllByRecursion-weaker}
use Rattle.list_facts.proofs.OrderLemmas.{AreDifferent-left, AreDifferent-parts}
use Rattle.mct_circuit.specs.Gates.{GateView, flip_of, HasDifferentLines, IsGateOn}
use Rattle.gate_split.specs.inside.Idle.{Serves}
use Rattle.gate_split.specs.Split.{Avoids}
use Rattle.gate_split.specs.Split.{idle_lines, in_falling_order, ladder, over_idle_lines, with_enough_idle, first_half, first_flips, second_flips, in_halves}
use Rattle.gate_split.specs.Split.{over_few_lines, split_positive}
use Rattle.gate_split.proofs.LadderLemmas.{fits_gates}
use Rattle.gate_split.proofs.FallingLineLemmas.{length-in_falling_order}
use Rattle.gate_split.proofs.EffectLemmas.{different_of, below_of, serves_fits, serves_take, idle_serves, Halves, first_serves, second_serves}

pub rungs_differ : (n : ℕ) (controls : List ℕ) (target : ℕ) (idle : List ℕ) → Serves n controls target idle → length controls ≡ length idle + 2
    → AllByRecursion HasDifferentLines (ladder target (reverse controls) (reverse idle))
rungs_differ n controls target idle s e =
    AllByRecursion-weaker (IsGateOn n) HasDifferentLines (λ g p. p.different) (ladder target (reverse controls) (reverse idle))
    (fits_gates n target (reverse controls) (reverse idle) (serves_fits n controls target idle s e))

pub cut_differ : (n : ℕ) (controls : List ℕ) (target : ℕ) (idle : List ℕ) → Serves n controls target idle → 2 < length controls
    → length controls ≤ length idle + 2
    → AllByRecursion HasDifferentLines (ladder target (reverse controls) (reverse (take (length controls - 2) idle)))
cut_differ n controls target idle s h enough =
    let cut : length (take (length controls - 2) idle) ≡ length controls - 2 = length-take-le (length controls - 2) idle (omega arith) in
    rungs_differ n controls target (take (length controls - 2) idle) (serves_take n controls target (length controls - 2) idle s) (omega arith)

-- ---- halves

pub halves_of : (n : ℕ) (controls : List ℕ) (target idle : ℕ) → IsGateOn n (flip_of controls target) → idle < n → Avoids idle (controls ++ target ∷ [])
    → Halves n (take (first_half controls) controls) (drop (first_half controls) controls) target idle
halves_of n controls target idle g low off =
    let h = first_half controls in
    let grouped : take h controls ++ (drop h controls ++ target ∷ []) ≡ controls ++ target ∷ [] =
    sym (append_assoc (take h controls) (drop h controls) (target ∷ [])) ∙ ap (λ c. c ++ target ∷ []) (take-append-drop h controls) in
    record {
      different = rw grouped (different_of n controls target g);
      below = rw grouped (below_of n controls target g);
      low = low;
      apart = rw grouped off;
    }

pub at_most : (k : ℕ) (ls : List ℕ) → k ≤ length ls + 2 → k ≤ length (take k ls) + 2
at_most k ls h = let cut = length-take k ls in omega arith

cut_le : (k : ℕ) (ls : List ℕ) → length (take k ls) ≡ k → k ≤ length ls
cut_le k ls e = let cut = length-take k ls in omega arith

pub second_length : (n : ℕ) (controls : List ℕ) (target idle : ℕ) → Halves n (take (first_half controls) controls)
    (drop (first_half controls) controls) target idle → 4 ≤ length controls
    → length (drop (first_half controls) controls ++ idle ∷ []) ≤ length (in_falling_order n (take (first_half controls) controls)) + 2
second_length n controls target idle s four =
    let h = first_half controls in
    let first = take h controls in
    let second = drop h controls in
    let first_is = length-in_falling_order n first (AreDifferent-left first (second ++ target ∷ []) s.different)
    (AllByRecursion-left (λ x. x < n) first (second ++ target ∷ []) s.below) in
    let long_first : length first ≡ h = length-take-le h controls (omega arith) in
    let long_second : length second ≡ length controls - h = length-drop h controls in
    let long = length-append second (idle ∷ []) in
    omega arith

pub first_length : (n : ℕ) (controls : List ℕ) (target idle : ℕ) → Halves n (take (first_half controls) controls)
    (drop (first_half controls) controls) target idle → 4 ≤ length controls
    → length (take (first_half controls) controls) ≤ length (in_falling_order n (drop (first_half controls) controls ++ target ∷ [])) + 2
first_length n controls target idle s four =
    let h = first_half controls in
    let first = take h controls in
    let second = drop h controls in
    let parts = AreDifferent-parts first (second ++ target ∷ []) s.different in
    let rest_is = length-in_falling_order n (second ++ target ∷ []) parts.1 (AllByRecursion-right (λ x. x < n) first (second ++ target ∷ []) s.below) in
    let long_first : length first ≡ h = length-take-le h controls (omega arith) in
    let long_second : length second ≡ length controls - h = length-drop h controls in
    let long = length-append second (target ∷ []) in
    omega arith

pub same_cut : (controls : List ℕ) (target : ℕ) (idle : List ℕ) → with_enough_idle controls target (take (length controls) idle)
    ≡ with_enough_idle controls target idle
same_cut controls target idle = ap (λ ls. cond (leb (length controls) 2) (flip_of controls target ∷ []) (over_idle_lines controls target ls))
    (take-take (length controls - 2) (length controls) idle (omega arith))

-- the half with the idle line, as the code puts it together, among the first half
pub second_goes : (n : ℕ) (controls front back more : List ℕ) (target idle : ℕ) → Halves n (take (first_half controls) controls)
    (drop (first_half controls) controls) target idle → front ≡ take (first_half controls) controls → back ≡ drop (first_half controls) controls
    → more ≡ back ++ idle ∷ [] → 4 ≤ length controls
    → Serves n more target (in_falling_order n (front ++ [])) × (length more ≤ length (in_falling_order n (front ++ [])) + 2)
second_goes n controls front back more target idle s f b e four =
    let first = take (first_half controls) controls in
    let second = drop (first_half controls) controls in
    rw (e, b, append-nil front, f) (second_serves n first second target idle s, second_length n controls target idle s four)

-- the first half, among the other lines of the gate
pub first_goes : (n m : ℕ) (controls front back : List ℕ) (target idle : ℕ) → Halves n (take (first_half controls) controls)
    (drop (first_half controls) controls) target idle → front ≡ take (first_half controls) controls → back ≡ drop (first_half controls) controls
    → m ≡ n → 4 ≤ length controls
    → Serves m front idle (in_falling_order m (back ++ target ∷ [])) × (length front ≤ length (in_falling_order m (back ++ target ∷ [])) + 2)
first_goes n m controls front back target idle s f b e four =
    let first = take (first_half controls) controls in
    let second = drop (first_half controls) controls in
    rw (e, b, f) (first_serves n first second target idle s, first_length n controls target idle s four)

-- both halves behind what is done
pub halves_put : (n m : ℕ) (controls front back more : List ℕ) (target idle : ℕ) (done half now : List GateView)
    → front ≡ take (first_half controls) controls → back ≡ drop (first_half controls) controls → more ≡ back ++ idle ∷ [] → m ≡ n
    → half ≡ done ++ with_enough_idle more target (in_falling_order n (front ++ []))
    → now ≡ half ++ with_enough_idle front idle (in_falling_order m (back ++ target ∷ []))
    → now ≡ done ++ (second_flips n controls target idle ++ first_flips n controls target idle)
halves_put n m controls front back more target idle done half now f b e same p q =
    let one : List GateView = with_enough_idle more target (in_falling_order n (front ++ [])) in
    let other : List GateView = with_enough_idle front idle (in_falling_order m (back ++ target ∷ [])) in
    let one_is : one ≡ second_flips n controls target idle =
    ap (λ l. with_enough_idle more target (in_falling_order n l)) (append-nil front ∙ f)
    ∙ ap (λ l. with_enough_idle l target (in_falling_order n (take (first_half controls) controls))) (e ∙ ap (λ l. l ++ idle ∷ []) b) in
    let other_is : other ≡ first_flips n controls target idle =
    ap (λ k. with_enough_idle front idle (in_falling_order k (back ++ target ∷ []))) same
    ∙ ap (λ l. with_enough_idle front idle (in_falling_order n (l ++ target ∷ []))) b
    ∙ ap (λ l. with_enough_idle l idle (in_falling_order n (drop (first_half controls) controls ++ target ∷ []))) f in
    q ∙ ap (λ h. h ++ other) p ∙ append_assoc done one other ∙ ap (λ l. done ++ (l ++ other)) one_is
    ∙ ap (λ l. done ++ (second_flips n controls target idle ++ l)) other_is

-- both halves, twice
pub put_twice : (done once both now : List GateView) → once ≡ both → now ≡ (done ++ once) ++ once → now ≡ done ++ (both ++ both)
put_twice done once both now is e = e ∙ append_assoc done once once ∙ ap (λ o. done ++ (o ++ o)) is

pub back_below : (n : ℕ) (first second back : List ℕ) (target idle : ℕ) → Halves n first second target idle → back ≡ second
    → AllByRecursion (λ x. x < n) (back ++ target ∷ [])
back_below n first second back target idle s b = rw b (AllByRecursion-right (λ x. x < n) first (second ++ target ∷ []) s.below)

pub front_below : (n m : ℕ) (first second front : List ℕ) (target idle : ℕ) → Halves n first second target idle → front ≡ first → m ≡ n
    → AllByRecursion (λ x. x < m) (front ++ [])
front_below n m first second front target idle s f e = rw (append-nil front, f, e) (AllByRecursion-left (λ x. x < n) first (second ++ target ∷ []) s.below)

-- ---- which list

pub positive_over : (n : ℕ) (controls : List ℕ) (target : ℕ) (idle : List ℕ) → 2 < length controls
    → idle ≡ take (length controls - 2) (idle_lines n (controls ++ target ∷ [])) → length idle ≡ length controls - 2
    → split_positive n controls target ≡ Some (over_idle_lines controls target idle)
positive_over n controls target idle h e long =
    let all = idle_lines n (controls ++ target ∷ []) in
    let enough : length controls - 2 ≤ length all = cut_le (length controls - 2) all (sym (ap length e) ∙ long) in
    elim (leb_tells (length controls) 2) [
      | inl t ↦ absurd (omega (arith, t.1))
      | inr t ↦ elim (leb_tells (length controls - 2) (length all)) [
        | inl u ↦ rw (t.0, u.0) (ap (λ ls. Some (over_idle_lines controls target ls)) (sym e))
        | inr u ↦ absurd (omega (arith, u.1))
      ]
    ]

pub positive_few : (n : ℕ) (controls : List ℕ) (target : ℕ) (idle : List ℕ) → 2 < length controls
    → idle ≡ take (length controls - 2) (idle_lines n (controls ++ target ∷ [])) → length idle ≢ length controls - 2
    → split_positive n controls target ≡ over_few_lines n controls target (idle_lines n (controls ++ target ∷ []))
positive_few n controls target idle h e short =
    let all = idle_lines n (controls ++ target ∷ []) in
    elim (leb_tells (length controls) 2) [
      | inl t ↦ absurd (omega (arith, t.1))
      | inr t ↦ elim (leb_tells (length controls - 2) (length all)) [
        | inl u ↦ absurd (short (ap length e ∙ length-take-le (length controls - 2) all u.1))
        | inr u ↦ rw (t.0, u.0) refl
      ]
    ]

few_none : (n : ℕ) (controls : List ℕ) (target m : ℕ) (all : List ℕ) → 0 < m → take m all ≡ [] → over_few_lines n controls target all ≡ None
few_none n controls target m [] h e = refl
few_none n controls target zero (a ∷ ls) h e = absurd (omega arith)
few_none n controls target (suc m) (a ∷ ls) h e = absurd (cc)

few_some : (n : ℕ) (controls : List ℕ) (target m : ℕ) (all : List ℕ) (a : ℕ) (ls : List ℕ) → take m all ≡ a ∷ ls
    → over_few_lines n controls target all ≡ Some (in_halves n controls target a)
few_some n controls target zero all a ls e = absurd (cc)
few_some n controls target (suc m) [] a ls e = absurd (cc)
few_some n controls target (suc m) (b ∷ bs) a ls e = let same : b ≡ a = cc in ap (λ x. Some (in_halves n controls target x)) same

pub positive_none : (n : ℕ) (controls : List ℕ) (target : ℕ) (idle : List ℕ) → 2 < length controls
    → idle ≡ take (length controls - 2) (idle_lines n (controls ++ target ∷ [])) → idle ≡ [] → split_positive n controls target ≡ None
positive_none n controls target idle h e none =
    let zero_long : length idle ≡ 0 = ap length none in
    positive_few n controls target idle h e (λ q. absurd (omega arith)) ∙ few_none n controls target (length controls - 2)
    (idle_lines n (controls ++ target ∷ [])) (omega arith) (sym e ∙ none)

-- the first idle line, of which there is one where there are gates
first_is : (n : ℕ) (controls : List ℕ) (target : ℕ) (idle : List ℕ) → 2 < length controls
    → idle ≡ take (length controls - 2) (idle_lines n (controls ++ target ∷ [])) → split_positive n controls target ≢ None
    → idle ≡ get_or idle 0 0 ∷ drop 1 idle
first_is n controls target [] h e some = absurd (some (positive_none n controls target [] h e refl))
first_is n controls target (line ∷ lines) h e some = refl

pub positive_halves : (n : ℕ) (controls : List ℕ) (target : ℕ) (idle : List ℕ) → 2 < length controls
    → idle ≡ take (length controls - 2) (idle_lines n (controls ++ target ∷ [])) → length idle ≢ length controls - 2
    → split_positive n controls target ≢ None → split_positive n controls target ≡ Some (in_halves n controls target (get_or idle 0 0))
positive_halves n controls target idle h e short some =
    positive_few n controls target idle h e short ∙ few_some n controls target (length controls - 2) (idle_lines n (controls ++ target ∷ []))
    (get_or idle 0 0) (drop 1 idle) (sym e ∙ first_is n controls target idle h e some)

-- it is none of the gate's lines
pub first_idle_apart : (n : ℕ) (controls : List ℕ) (target : ℕ) (idle : List ℕ) → IsGateOn n (flip_of controls target) → 2 < length controls
    → idle ≡ take (length controls - 2) (idle_lines n (controls ++ target ∷ [])) → split_positive n controls target ≢ None
    → (get_or idle 0 0 < n) × Avoids (get_or idle 0 0) (controls ++ target ∷ [])
first_idle_apart n controls target idle g h e some =
    let cut = serves_take n controls target (length controls - 2) (idle_lines n (controls ++ target ∷ [])) (idle_serves n controls target g) in
    let s : Serves n controls target (get_or idle 0 0 ∷ drop 1 idle) =
    subst (Serves n controls target) (sym e ∙ first_is n controls target idle h e some) cut in
    (s.below.0, s.apart.0)
