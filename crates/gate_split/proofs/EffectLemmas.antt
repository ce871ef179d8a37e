-- What the gates in place of one do: they stand on the lines, are narrow, and have the gate's effect for every content of the lines.
use Rattle.std.proofs.Common.{◌≡◌, ◌≢◌, ℕ, ◌+◌, ◌-◌, ◌<◌, ◌≤◌, Bool, List, [], ◌∷◌, ◌++◌, length, take, drop, reverse, Some, refl, sym, ap, ◌∙◌, subst, inl}
use Rattle.std.proofs.Common.{inr, arith}
use Rattle.std.specs.List.{AllByRecursion}
use Rattle.std.proofs.lemmas.List.{reverse-append, reverse-reverse, append_assoc, length-reverse, length-append, length-drop, length-take-le, take-append-drop}
use Rattle.std.proofs.lemmas.Bool.Decides.{leb_tells}
use Rattle.list_facts.proofs.AllLemmas.{AllByRecursion-append, AllByRecursion-both, AllByRecursion-drop, AllByRecursion-left, AllByRecursion-reverse}
use Rattle.list_facts.proofs.AllLemmas.{AllByRecursion-right, AllByRecursion-take, AllByRecursion-weaker}
use Rattle.list_facts.proofs.OrderLemmas.{AreDifferent-left, AreDifferent-parts, AreDifferent-push, AreDifferent-reverse, AreDifferent-take}
use Rattle.mct_circuit.specs.Gates.{GateView, after_gate, line_map, flip_of, IsGateOn, AreGatesOn, IsNarrow, AreNarrow}
use Rattle.list_facts.specs.Lists.{AreDifferent}
use Rattle.mct_circuit.proofs.ReversalLemmas.{line_map-append, lines_of-flip_of}
use Rattle.gate_split.specs.inside.Idle.{Serves}
use Rattle.gate_split.specs.Split.{Avoids}
use Rattle.gate_split.specs.Split.{idle_lines, in_falling_order, ladder, there_and_back, over_idle_lines, with_enough_idle, first_half, first_flips}
use Rattle.gate_split.specs.Split.{second_flips, in_halves, over_few_lines, split_positive}
use Rattle.gate_split.proofs.FlipLemmas.{length-flip_of, flip_of-flip_of, before_and_behind}
use Rattle.gate_split.proofs.LadderLemmas.{Fits, fits, fits_gates, fits_narrow, ladders_flip, Avoids-flip, Avoids-back, heads_apart, tails_apart}
use Rattle.gate_split.proofs.FallingLineLemmas.{falling_below, falling_different, idle_apart, falling_members, length-in_falling_order}

pub record Does (n : ℕ) (gates : List GateView) (gate : GateView) : Type 0 where
  pub placed : AreGatesOn n gates
  pub narrow : AreNarrow gates
  pub effect : (bits : List Bool) → length bits ≡ n → line_map gates bits ≡ after_gate gate bits

-- ---- lists

apart_flip : (xs ys : List ℕ) → AllByRecursion (λ x. Avoids x ys) xs → AllByRecursion (λ y. Avoids y xs) ys
apart_flip xs [] p = tt
apart_flip xs (y ∷ ys) p = (Avoids-flip y xs (heads_apart y ys xs p), apart_flip xs ys (tails_apart y ys xs p))

-- the lines of a flip
pub different_of : (n : ℕ) (controls : List ℕ) (target : ℕ) → IsGateOn n (flip_of controls target) → AreDifferent (controls ++ target ∷ [])
different_of n controls target g = rw (lines_of-flip_of controls target) at g.different

pub below_of : (n : ℕ) (controls : List ℕ) (target : ℕ) → IsGateOn n (flip_of controls target) → AllByRecursion (λ x. x < n) (controls ++ target ∷ [])
below_of n controls target g = rw (lines_of-flip_of controls target) at g.in_range

pub gate_on : (n : ℕ) (controls : List ℕ) (target : ℕ) → AreDifferent (controls ++ target ∷ []) → AllByRecursion (λ x. x < n) (controls ++ target ∷ [])
    → IsGateOn n (flip_of controls target)
gate_on n controls target d r = record { different = rw (lines_of-flip_of controls target) d; in_range = rw (lines_of-flip_of controls target) r }

-- ---- over idle lines

pub serves_fits : (n : ℕ) (controls : List ℕ) (target : ℕ) (idle : List ℕ) → Serves n controls target idle → length controls ≡ length idle + 2
    → Fits n target (reverse controls) (reverse idle)
serves_fits n controls target idle s e =
    let d = different_of n controls target s.gate in
    let r = below_of n controls target s.gate in
    let turned : AreDifferent (target ∷ reverse controls) = rw (reverse-append controls (target ∷ [])) at (AreDifferent-reverse (controls ++ target ∷ []) d) in
    let off_target : Avoids target idle = Avoids-flip target idle (heads_apart target [] idle
    (AllByRecursion-weaker (λ a. Avoids a (controls ++ target ∷ [])) (λ a. Avoids a (target ∷ []))
    (λ a p. AllByRecursion-right (λ y. a ≢ y) controls (target ∷ []) p) idle s.apart)) in
    let off_controls = AllByRecursion-weaker (λ a. Avoids a (controls ++ target ∷ [])) (λ a. Avoids a (reverse controls))
    (λ a p. AllByRecursion-reverse (λ y. a ≢ y) controls (AllByRecursion-left (λ y. a ≢ y) controls (target ∷ []) p)) idle s.apart in
    fits n target (reverse controls) (reverse idle)
    (AllByRecursion-right (λ x. x < n) controls (target ∷ []) r).0
    turned
    (AllByRecursion-reverse (λ x. x < n) controls (AllByRecursion-left (λ x. x < n) controls (target ∷ []) r))
    (AllByRecursion-reverse (λ y. target ≢ y) idle off_target, AreDifferent-reverse idle s.different)
    (AllByRecursion-reverse (λ x. x < n) idle s.below)
    (AllByRecursion-reverse (λ a. Avoids a (reverse controls)) idle off_controls)
    (rw (length-reverse controls, length-reverse idle) e)

pub all_twice : (P : GateView → Type 0) (rungs : List GateView) → AllByRecursion P rungs
    → AllByRecursion P (there_and_back rungs ++ there_and_back (drop 1 rungs))
all_twice P rungs p =
    let there : (gates : List GateView) → AllByRecursion P gates → AllByRecursion P (there_and_back gates) =
    λ gates q. AllByRecursion-append P gates (drop 1 (reverse gates)) q (AllByRecursion-drop P 1 (reverse gates) (AllByRecursion-reverse P gates q)) in
    AllByRecursion-append P (there_and_back rungs) (there_and_back (drop 1 rungs)) (there rungs p) (there (drop 1 rungs) (AllByRecursion-drop P 1 rungs p))

pub over_idle : (n : ℕ) (controls : List ℕ) (target : ℕ) (idle : List ℕ) → Serves n controls target idle → length controls ≡ length idle + 2
    → 3 ≤ length controls → Does n (over_idle_lines controls target idle) (flip_of controls target)
over_idle n controls target idle s e h =
    let f = serves_fits n controls target idle s e in
    let rungs = ladder target (reverse controls) (reverse idle) in
    let some : 1 ≤ length (reverse idle) = rw (length-reverse idle) (omega arith) in
    record {
      placed = all_twice (IsGateOn n) rungs (fits_gates n target (reverse controls) (reverse idle) f);
      narrow = all_twice IsNarrow rungs (fits_narrow n target (reverse controls) (reverse idle) f);
      effect = λ bits q. rw (reverse-reverse controls) at (ladders_flip n target (reverse controls) (reverse idle) bits f some q);
    }

pub serves_take : (n : ℕ) (controls : List ℕ) (target m : ℕ) (idle : List ℕ) → Serves n controls target idle → Serves n controls target (take m idle)
serves_take n controls target m idle s = record {
  gate = s.gate;
  below = AllByRecursion-take (λ a. a < n) m idle s.below;
  different = AreDifferent-take m idle s.different;
  apart = AllByRecursion-take (λ a. Avoids a (controls ++ target ∷ [])) m idle s.apart;
}

pub alone : (n : ℕ) (controls : List ℕ) (target : ℕ) → IsGateOn n (flip_of controls target) → length controls ≤ 2
    → Does n (flip_of controls target ∷ []) (flip_of controls target)
alone n controls target g few = record {
  placed = (g, tt);
  narrow = (record { controls = controls; target = target; few = few; is_flip = refl }, tt);
  effect = λ bits q. refl;
}

pub over_first : (n : ℕ) (controls : List ℕ) (target : ℕ) (idle : List ℕ) → Serves n controls target idle → 3 ≤ length controls
    → length controls ≤ length idle + 2
    → Does n (over_idle_lines controls target (take (length controls - 2) idle)) (flip_of controls target)
over_first n controls target idle s h enough =
    let cut : length (take (length controls - 2) idle) ≡ length controls - 2 = length-take-le (length controls - 2) idle (omega arith) in
    over_idle n controls target (take (length controls - 2) idle) (serves_take n controls target (length controls - 2) idle s) (omega arith) h

pub enough_does : (n : ℕ) (controls : List ℕ) (target : ℕ) (idle : List ℕ) → Serves n controls target idle → length controls ≤ length idle + 2
    → Does n (with_enough_idle controls target idle) (flip_of controls target)
enough_does n controls target idle s enough = elim (leb_tells (length controls) 2) [
  | inl t ↦ rw t.0 (alone n controls target s.gate t.1)
  | inr t ↦ rw t.0 (over_first n controls target idle s (omega (arith, t.1)) enough)
]

-- ---- in halves

pub record Halves (n : ℕ) (first second : List ℕ) (target idle : ℕ) : Type 0 where
  pub different : AreDifferent (first ++ (second ++ target ∷ []))
  pub below : AllByRecursion (λ x. x < n) (first ++ (second ++ target ∷ []))
  pub low : idle < n
  pub apart : Avoids idle (first ++ (second ++ target ∷ []))

pub first_serves : (n : ℕ) (first second : List ℕ) (target idle : ℕ) → Halves n first second target idle
    → Serves n first idle (in_falling_order n (second ++ target ∷ []))
first_serves n first second target idle s =
    let rest = second ++ target ∷ [] in
    let parts = AreDifferent-parts first rest s.different in
    let off = AllByRecursion-left (λ y. idle ≢ y) first rest s.apart in
    let back = Avoids-back idle rest (AllByRecursion-right (λ y. idle ≢ y) first rest s.apart) in
    record {
      gate = gate_on n first idle (AreDifferent-push first idle (AreDifferent-left first rest s.different) (Avoids-back idle first off))
          (AllByRecursion-append (λ x. x < n) first (idle ∷ []) (AllByRecursion-left (λ x. x < n) first rest s.below) (s.low, tt));
      below = falling_below _ n;
      different = falling_different _ n;
      apart = falling_members (λ y. Avoids y (first ++ idle ∷ [])) n rest
          (AllByRecursion-both (λ y. Avoids y first) (λ y. y ≢ idle) (λ y. Avoids y (first ++ idle ∷ []))
          (λ y p q. AllByRecursion-append (λ z. y ≢ z) first (idle ∷ []) p (q, tt)) rest (apart_flip first rest parts.0) back);
    }

pub second_serves : (n : ℕ) (first second : List ℕ) (target idle : ℕ) → Halves n first second target idle
    → Serves n (second ++ idle ∷ []) target (in_falling_order n first)
second_serves n first second target idle s =
    let rest = second ++ target ∷ [] in
    let parts = AreDifferent-parts first rest s.different in
    let ends = AreDifferent-parts second (target ∷ []) parts.1 in
    let off = AllByRecursion-right (λ y. idle ≢ y) first rest s.apart in
    let low = AllByRecursion-right (λ x. x < n) first rest s.below in
    let behind = Avoids-back idle first (AllByRecursion-left (λ y. idle ≢ y) first rest s.apart) in
    record {
      gate = gate_on n (second ++ idle ∷ []) target
          (AreDifferent-push (second ++ idle ∷ []) target
          (AreDifferent-push second idle (AreDifferent-left second (target ∷ []) parts.1)
          (Avoids-back idle second (AllByRecursion-left (λ y. idle ≢ y) second (target ∷ []) off)))
          (AllByRecursion-append (λ y. y ≢ target) second (idle ∷ []) (heads_apart target [] second ends.0)
          ((AllByRecursion-right (λ y. idle ≢ y) second (target ∷ []) off).0, tt)))
          (AllByRecursion-append (λ x. x < n) (second ++ idle ∷ []) (target ∷ [])
          (AllByRecursion-append (λ x. x < n) second (idle ∷ []) (AllByRecursion-left (λ x. x < n) second (target ∷ []) low) (s.low, tt))
          (AllByRecursion-right (λ x. x < n) second (target ∷ []) low));
      below = falling_below _ n;
      different = falling_different _ n;
      apart = falling_members (λ y. Avoids y ((second ++ idle ∷ []) ++ target ∷ [])) n first
          (AllByRecursion-both (λ x. Avoids x rest) (λ x. x ≢ idle) (λ x. Avoids x ((second ++ idle ∷ []) ++ target ∷ []))
          (λ x p q. AllByRecursion-append (λ z. x ≢ z) (second ++ idle ∷ []) (target ∷ [])
          (AllByRecursion-append (λ z. x ≢ z) second (idle ∷ []) (AllByRecursion-left (λ z. x ≢ z) second (target ∷ []) p) (q, tt))
          (AllByRecursion-right (λ z. x ≢ z) second (target ∷ []) p)) first
          parts.0 behind);
    }

-- two flips, twice each, flip the target by the controls of both (Barenco and others 1995, Lemma 7.3)
halves_do : (n : ℕ) (first second : List ℕ) (target idle : ℕ) (Q P : List GateView) → Halves n first second target idle
    → Does n Q (flip_of (second ++ idle ∷ []) target) → Does n P (flip_of first idle)
    → Does n ((Q ++ P) ++ (Q ++ P)) (flip_of (first ++ second) target)
halves_do n first second target idle Q P s dq dp =
    let rest = second ++ target ∷ [] in
    let parts = AreDifferent-parts first rest s.different in
    let ends = AreDifferent-parts second (target ∷ []) parts.1 in
    let G : List Bool → List Bool = after_gate (flip_of (second ++ idle ∷ []) target) in
    let F : List Bool → List Bool = after_gate (flip_of first idle) in
    let off_first = AllByRecursion-left (λ y. idle ≢ y) first rest s.apart in
    let off_rest = AllByRecursion-right (λ y. idle ≢ y) first rest s.apart in
    let target_low : target < n = (AllByRecursion-right (λ x. x < n) second (target ∷ []) (AllByRecursion-right (λ x. x < n) first rest s.below)).0 in
    let off_target = AllByRecursion-right (λ y. idle ≢ y) second (target ∷ []) off_rest in
    let target_second : Avoids target second = Avoids-flip target second (heads_apart target [] second ends.0) in
    let target_first : Avoids target first = Avoids-flip target first (heads_apart target [] first
    (AllByRecursion-weaker (λ x. Avoids x rest) (λ x. Avoids x (target ∷ []))
    (λ x p. AllByRecursion-right (λ z. x ≢ z) second (target ∷ []) p) first parts.0)) in
    record {
      placed = AllByRecursion-append (IsGateOn n) (Q ++ P) (Q ++ P) (AllByRecursion-append (IsGateOn n) Q P dq.placed dp.placed)
          (AllByRecursion-append (IsGateOn n) Q P dq.placed dp.placed);
      narrow = AllByRecursion-append IsNarrow (Q ++ P) (Q ++ P) (AllByRecursion-append IsNarrow Q P dq.narrow dp.narrow)
          (AllByRecursion-append IsNarrow Q P dq.narrow dp.narrow);
      effect = λ bits e.
          let W : List Bool = after_gate (flip_of (first ++ second) target) bits in
          let once : (b : List Bool) → length b ≡ n → line_map (Q ++ P) b ≡ F (G b) =
          λ b q. line_map-append Q P b ∙ ap (line_map P) (dq.effect b q) ∙ dp.effect (G b) (length-flip_of (second ++ idle ∷ []) target b ∙ q) in
          let long : length (F (G bits)) ≡ n = length-flip_of first idle (G bits) ∙ length-flip_of (second ++ idle ∷ []) target bits ∙ e in
          let long_W : length W ≡ n = length-flip_of (first ++ second) target bits ∙ e in
          let turn : G (F (G bits)) ≡ F W = before_and_behind bits idle target second first (rw e s.low) (rw e target_low) off_target.0
          (AllByRecursion-left (λ y. idle ≢ y) second (target ∷ []) off_rest) target_second off_first target_first in
          line_map-append (Q ++ P) (Q ++ P) bits ∙ ap (line_map (Q ++ P)) (once bits e) ∙ once (F (G bits)) long ∙ ap F turn
          ∙ flip_of-flip_of first idle W off_first (rw long_W s.low);
    }

pub in_halves_does : (n : ℕ) (controls : List ℕ) (target idle : ℕ) → IsGateOn n (flip_of controls target) → 4 ≤ length controls → idle < n
    → Avoids idle (controls ++ target ∷ []) → Does n (in_halves n controls target idle) (flip_of controls target)
in_halves_does n controls target idle g four low off =
    let h = first_half controls in
    let first = take h controls in
    let second = drop h controls in
    let whole : first ++ second ≡ controls = take-append-drop h controls in
    let grouped : first ++ (second ++ target ∷ []) ≡ controls ++ target ∷ [] = sym (append_assoc first second (target ∷ []))
    ∙ ap (λ c. c ++ target ∷ []) whole in
    let s : Halves n first second target idle = record {
      different = rw grouped (different_of n controls target g);
      below = rw grouped (below_of n controls target g);
      low = low;
      apart = rw grouped off;
    } in
    let parts = AreDifferent-parts first (second ++ target ∷ []) s.different in
    let rest_is = length-in_falling_order n (second ++ target ∷ []) parts.1 (AllByRecursion-right (λ x. x < n) first (second ++ target ∷ []) s.below) in
    let first_is = length-in_falling_order n first (AreDifferent-left first (second ++ target ∷ []) s.different)
    (AllByRecursion-left (λ x. x < n) first (second ++ target ∷ []) s.below) in
    let long_first : length first ≡ h = length-take-le h controls (omega arith) in
    let long_second : length second ≡ length controls - h = length-drop h controls in
    let dp = enough_does n first idle (in_falling_order n (second ++ target ∷ [])) (first_serves n first second target idle s)
    (omega (arith, rest_is, length-append second (target ∷ []))) in
    let dq = enough_does n (second ++ idle ∷ []) target (in_falling_order n first) (second_serves n first second target idle s)
    (omega (arith, first_is, length-append second (idle ∷ []))) in
    subst (λ (c : List ℕ). Does n (in_halves n controls target idle) (flip_of c target)) whole
    (halves_do n first second target idle (second_flips n controls target idle) (first_flips n controls target idle) s dq dp)

-- ---- a flip under positive controls

pub some_is : {X : Type 0} (x y : X) → Some x ≡ Some y → x ≡ y
some_is x y e = cc

few_lines : (n : ℕ) (controls : List ℕ) (target : ℕ) (idle : List ℕ) (gates : List GateView) → Serves n controls target idle → 3 ≤ length controls
    → length idle + 2 < length controls
    → over_few_lines n controls target idle ≡ Some gates → Does n gates (flip_of controls target)
few_lines n controls target [] gates s three few e = absurd (cc)
few_lines n controls target (a ∷ ls) gates s three few e =
    rw (sym (some_is (in_halves n controls target a) gates e)) (in_halves_does n controls target a s.gate (omega arith) s.below.0 s.apart.0)

pub idle_serves : (n : ℕ) (controls : List ℕ) (target : ℕ) → IsGateOn n (flip_of controls target)
    → Serves n controls target (idle_lines n (controls ++ target ∷ []))
idle_serves n controls target g = record {
  gate = g;
  below = falling_below _ n;
  different = falling_different _ n;
  apart = idle_apart n (controls ++ target ∷ []);
}

pub positive_does : (n : ℕ) (controls : List ℕ) (target : ℕ) (gates : List GateView) → IsGateOn n (flip_of controls target)
    → split_positive n controls target ≡ Some gates → Does n gates (flip_of controls target)
positive_does n controls target gates g e =
    let idle = idle_lines n (controls ++ target ∷ []) in
    let s = idle_serves n controls target g in
    elim (leb_tells (length controls) 2) [
      | inl t ↦ (let found = rw t.0 at e in rw (sym (some_is _ gates found)) (alone n controls target g t.1))
      | inr t ↦ (let found = rw t.0 at e in elim (leb_tells (length controls - 2) (length idle)) [
        | inl u ↦ (let list = rw u.0 at found in rw (sym (some_is _ gates list))
            (over_first n controls target idle s (omega (arith, t.1)) (omega (arith, t.1, u.1))))
        | inr u ↦ few_lines n controls target idle gates s (omega (arith, t.1)) (omega (arith, t.1, u.1)) (rw u.0 at found)
      ])
    ]
