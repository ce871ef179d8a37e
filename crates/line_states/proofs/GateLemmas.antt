-- The gates of copies and toggles are narrow gates on the lines.
use Rattle.std.proofs.Common.{◌≡◌, ◌≢◌, ℕ, ◌<◌, ◌≤◌, Bool, true, false, List, [], ◌∷◌, ◌++◌, length, reverse, sum_by, refl, sym, ap, ◌∙◌, subst, arith}
use Rattle.std.specs.List.{AllByRecursion, flat_map}
use Rattle.std.proofs.lemmas.List.Sums.{sum_by-cons}
use Rattle.list_facts.specs.Lists.{AreDifferent}
use Rattle.list_facts.proofs.AllLemmas.{AllByRecursion-append, AllByRecursion-reverse}
use Rattle.mct_circuit.specs.Gates.{AreGatesOn, AreNarrow, GateView, IsGateOn, IsNarrow, flip_of}
use Rattle.mct_circuit.specs.Sizes.{weight_of}
use Rattle.mct_circuit.proofs.ReversalLemmas.{lines_of-flip_of}
use Rattle.sum_toggles.proofs.GatherLemmas.{copy_on}
use Rattle.sum_toggles.specs.Toggles.{one_gates}
use Rattle.line_states.specs.Gathers.{GatherView, PairView, both_gates, gather_gates, pair_gates, toggle_gates}
use Rattle.line_states.specs.inside.Places.{ArePlaced, CanFlip, IsPlaced}

-- ---- gates on lines

gathers_on : (n on : ℕ) (xs : List ℕ) → on < n → AllByRecursion (λ (l : ℕ). l < n) xs → AllByRecursion (λ (l : ℕ). l ≢ on) xs
    → AreGatesOn n (gather_gates on xs)
gathers_on n on [] low lows apart = tt
gathers_on n on (x ∷ xs) low lows apart = (copy_on n x on lows.0 low apart.0, gathers_on n on xs low lows.1 apart.1)

factor_on : (n target : ℕ) (g : GatherView) → IsPlaced n target g → AreGatesOn n (gather_gates g.on g.others)
factor_on n target g is = gathers_on n g.on g.others is.low is.others_low is.own

pub both_on : (n target : ℕ) (pair : PairView) → ArePlaced n target pair → AreGatesOn n (both_gates pair)
both_on n target pair is =
    AllByRecursion-append (IsGateOn n) (gather_gates pair.first.on pair.first.others) (gather_gates pair.second.on pair.second.others)
    (factor_on n target pair.first is.first) (factor_on n target pair.second is.second)

flip_different : (n target : ℕ) (pair : PairView) → ArePlaced n target pair → AreDifferent (pair.first.on ∷ pair.second.on ∷ target ∷ [])
flip_different n target pair is = (((λ same. is.different (sym same)), (is.first.apart, tt)), ((is.second.apart, tt), (tt, tt)))

pub can_flip : (n target : ℕ) (pair : PairView) → ArePlaced n target pair → CanFlip target pair
can_flip n target pair is = record {
  first = record { own = is.first.own };
  second = record { own = is.second.own };
  different = flip_different n target pair is;
}

pair_on : (n target : ℕ) (pair : PairView) → target < n → ArePlaced n target pair → AreGatesOn n (pair_gates target pair)
pair_on n target pair low is =
    let both = both_on n target pair is in
    let flip : IsGateOn n (flip_of (pair.first.on ∷ pair.second.on ∷ []) target) = record {
      different = subst AreDifferent (sym (lines_of-flip_of (pair.first.on ∷ pair.second.on ∷ []) target)) (flip_different n target pair is);
      in_range = subst (AllByRecursion (λ l. l < n)) (sym (lines_of-flip_of (pair.first.on ∷ pair.second.on ∷ []) target))
          (is.first.low, (is.second.low, (low, tt)));
    } in
    AllByRecursion-append (IsGateOn n) (both_gates pair ++ flip_of (pair.first.on ∷ pair.second.on ∷ []) target ∷ []) (reverse (both_gates pair))
    (AllByRecursion-append (IsGateOn n) (both_gates pair) (flip_of (pair.first.on ∷ pair.second.on ∷ []) target ∷ []) both (flip, tt))
    (AllByRecursion-reverse (IsGateOn n) (both_gates pair) both)

pairs_on : (n target : ℕ) (pairs : List PairView) → target < n → AllByRecursion (ArePlaced n target) pairs
    → AreGatesOn n (flat_map (pair_gates target) pairs)
pairs_on n target [] low are = tt
pairs_on n target (p ∷ ps) low are =
    AllByRecursion-append (IsGateOn n) (pair_gates target p) (flat_map (pair_gates target) ps) (pair_on n target p low are.0) (pairs_on n target ps low are.1)

one_on : (n target : ℕ) (one : Bool) → target < n → AreGatesOn n (one_gates target one)
one_on n target true low = (
  record {
    different = subst AreDifferent (sym (lines_of-flip_of [] target)) (tt, tt);
    in_range = subst (AllByRecursion (λ l. l < n)) (sym (lines_of-flip_of [] target)) (low, tt);
  },
  tt,
)
one_on n target false low = tt

pub toggle_on : (n target : ℕ) (pairs : List PairView) (one : Bool) → target < n → AllByRecursion (ArePlaced n target) pairs
    → AreGatesOn n (toggle_gates target pairs one)
toggle_on n target pairs one low are =
    AllByRecursion-append (IsGateOn n) (flat_map (pair_gates target) pairs) (one_gates target one) (pairs_on n target pairs low are) (one_on n target one low)

-- ---- narrow gates

pub narrow_flip : (controls : List ℕ) (target : ℕ) → length controls ≤ 2 → IsNarrow (flip_of controls target)
narrow_flip controls target few = record { controls = controls; target = target; few = few; is_flip = refl }

narrow_gathers : (on : ℕ) (xs : List ℕ) → AreNarrow (gather_gates on xs)
narrow_gathers on [] = tt
narrow_gathers on (x ∷ xs) = (narrow_flip (x ∷ []) on (omega arith), narrow_gathers on xs)

narrow_pair : (target : ℕ) (pair : PairView) → AreNarrow (pair_gates target pair)
narrow_pair target pair =
    let a = pair.first.on in
    let b = pair.second.on in
    let both = AllByRecursion-append IsNarrow (gather_gates a pair.first.others) (gather_gates b pair.second.others) (narrow_gathers a pair.first.others)
    (narrow_gathers b pair.second.others) in
    AllByRecursion-append IsNarrow (both_gates pair ++ flip_of (a ∷ b ∷ []) target ∷ []) (reverse (both_gates pair))
    (AllByRecursion-append IsNarrow (both_gates pair) (flip_of (a ∷ b ∷ []) target ∷ []) both (narrow_flip (a ∷ b ∷ []) target (omega arith), tt))
    (AllByRecursion-reverse IsNarrow (both_gates pair) both)

narrow_pairs : (target : ℕ) (pairs : List PairView) → AreNarrow (flat_map (pair_gates target) pairs)
narrow_pairs target [] = tt
narrow_pairs target (p ∷ ps) =
    AllByRecursion-append IsNarrow (pair_gates target p) (flat_map (pair_gates target) ps) (narrow_pair target p) (narrow_pairs target ps)

narrow_one : (target : ℕ) (one : Bool) → AreNarrow (one_gates target one)
narrow_one target true = (narrow_flip [] target (omega arith), tt)
narrow_one target false = tt

pub narrow_toggle : (target : ℕ) (pairs : List PairView) (one : Bool) → AreNarrow (toggle_gates target pairs one)
narrow_toggle target pairs one =
    AllByRecursion-append IsNarrow (flat_map (pair_gates target) pairs) (one_gates target one) (narrow_pairs target pairs) (narrow_one target one)

-- ---- narrow gates weigh 1

one_weight : (controls : List ℕ) (target : ℕ) → length controls ≤ 2 → weight_of (flip_of controls target) ≡ 1
one_weight [] t few = refl
one_weight (a ∷ []) t few = refl
one_weight (a ∷ b ∷ []) t few = refl
one_weight (a ∷ b ∷ c ∷ cs) t few = absurd (omega (arith, few))

pub narrow_weight : (gates : List GateView) → AreNarrow gates → sum_by weight_of gates ≡ length gates
narrow_weight [] are = refl
narrow_weight (g ∷ gs) are =
    let all = sum_by-cons weight_of g gs in
    let one : weight_of g ≡ 1 = ap weight_of are.0.is_flip ∙ one_weight are.0.controls are.0.target are.0.few in
    omega (arith, all, one, narrow_weight gs are.1)
