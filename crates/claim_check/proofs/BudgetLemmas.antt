-- A settled graph is within the measures of its tape, and so no budget number of it is greater.
use Rattle.std.proofs.Common.{◌≡◌, ℕ, zero, suc, ◌+◌, ◌*◌, ◌<◌, ◌≤◌, ◌^◌, Bool, true, inl, inr, List, [], ◌∷◌, length, map, min, if◌then◌else◌}
use Rattle.std.proofs.Common.{get_or, refl, sym, ap, ◌∙◌, subst, arith}
use Rattle.std.specs.List.{AllByRecursion, list_all, sum_by}
use Rattle.std.proofs.Math.Nat.{le-min, min-le_left, min-le_right, mul-le-mul_left, pow-le-pow_right}
use Rattle.std.proofs.lemmas.Bool.{cases_Bool}
use Rattle.std.proofs.lemmas.List.{ext_get_or, length-map}
use Rattle.list_facts.proofs.AllLemmas.{AllByRecursion-at, AllByRecursion-weaker}
use Rattle.revs_tape.specs.Levels.{IsLevels}
use Rattle.revs_tape.specs.Measures.{writes_of}
use Rattle.revs_tape.proofs.MonomialLemmas.{monomials_are_determined}
use Rattle.dependency_graph.proofs.TableLemmas.{length-steps_of}
use Rattle.claim_check.specs.Settled.{SettledView, as_graph}
use Rattle.claim_check.specs.Budgets.{Measures, is_cleaned, step_gates}
use Rattle.claim_check.specs.Measures.{AreMeasuresOfSettled, AreSelected, BudgetsAreNoGreater, HasMonomials}
use Rattle.claim_check.specs.Measures.{IsWithin, OwnMeasuresAreWithin, SettledGraphsAreWithin, node_function, write_function}
use Rattle.claim_check.proofs.SelectedLemmas.{at, selected_pass, selected_sum, selects_all}

-- ---- within the measures of the tape

map_at : (f : ℕ → ℕ) (xs : List ℕ) (k : ℕ) → k < length xs → get_or (map f xs) k 0 ≡ f (get_or xs k 0)
map_at f [] k inside = absurd (omega (arith, inside))
map_at f (x ∷ xs) zero inside = refl
map_at f (x ∷ xs) (suc k) inside = map_at f xs k (omega (arith, inside))

-- a function with the same values has as many monomials
same_function : (n m : ℕ) (f g : List Bool → Bool) (count : ℕ) → n ≡ m → ((input : List Bool) → f input ≡ g input)
    → HasMonomials n f count → HasMonomials m g count
same_function n m f g count one same has = subst (λ (z : ℕ). HasMonomials z g count) one (record {
  monomials = has.monomials;
  are = record {
    is_polynomial = has.are.is_polynomial;
    over_inputs = has.are.over_inputs;
    values = λ input size. has.are.values input size ∙ same input;
  };
  counted = has.counted;
})

pub settled_graphs_are_within : SettledGraphsAreWithin
settled_graphs_are_within t s m of no_larger measures =
    let own = no_larger.writes in
    let counts = map (at m.monomials) own.writes in
    let size : length counts ≡ length s.nodes = length-map own.writes (at m.monomials) ∙ own.one_each in
    let inside : AllByRecursion (λ place. place < length m.monomials) own.writes =
    AllByRecursion-weaker (λ write. write < writes_of t) (λ place. place < length m.monomials)
    (λ write known. omega (arith, known, measures.one_each)) own.writes own.known in
    record {
      inputs = of.inputs ∙ sym measures.inputs;
      outputs = of.outputs ∙ sym measures.outputs;
      steps = omega (arith, of.few, measures.steps);
      cuts = (no_larger.cuts m.width measures.width).cuts;
      counts = counts;
      one_each = size;
      monomials = λ k low.
          let write = get_or own.writes k 0 in
          let within : k < length own.writes = omega (arith, low, length-map own.writes (at m.monomials)) in
          let node : k < length s.nodes = omega (arith, low, size) in
          subst (λ (z : ℕ). HasMonomials s.inputs (node_function s k) z) (sym (map_at (at m.monomials) own.writes k within))
          (same_function _ s.inputs (write_function t write) (node_function s k) (at m.monomials write) (sym of.inputs) (λ input. sym (own.same k node input))
          (measures.monomials write (AllByRecursion-at (λ place. place < length m.monomials) own.writes k 0 inside within)));
      selected = record { places = own.writes; different = own.different; inside = inside; are = refl };
    }

pub own_measures_are_within : OwnMeasuresAreWithin
own_measures_are_within s m measures = record {
  inputs = sym measures.inputs;
  outputs = sym measures.outputs;
  steps = omega (arith, measures.steps);
  cuts = λ j inside. measures.width.most j (omega (arith, inside, length-steps_of (as_graph s)));
  counts = m.monomials;
  one_each = measures.one_each;
  monomials = measures.monomials;
  selected = selects_all m.monomials;
}

-- ---- the numbers

-- a function has one number of monomials
one_count : (n : ℕ) (f : List Bool → Bool) (a b : ℕ) → HasMonomials n f a → HasMonomials n f b → a ≡ b
one_count n f a b first second =
    let one = monomials_are_determined n f in
    sym first.counted
    ∙ ap length (one.only first.monomials first.are ∙ sym (one.only second.monomials second.are))
    ∙ second.counted

-- the numbers of monomials of the nodes are those of the measures
one_list : (s : SettledView) (own m : Measures) → AreMeasuresOfSettled s own → (within : IsWithin s m) → own.monomials ≡ within.counts
one_list s own m measures within =
    ext_get_or 0 own.monomials within.counts (measures.one_each ∙ sym within.one_each)
    (λ k low. one_count s.inputs (node_function s k) (get_or own.monomials k 0) (get_or within.counts k 0) (measures.monomials k low)
    (within.monomials k (omega (arith, low, measures.one_each, within.one_each))))

own_selected : (s : SettledView) (own m : Measures) → AreMeasuresOfSettled s own → IsWithin s m → AreSelected own.monomials m.monomials
own_selected s own m measures within =
    subst (λ (z : List ℕ). AreSelected z m.monomials) (sym (one_list s own m measures within)) within.selected

fewer_levels : (block less more few many : ℕ) → less ≤ more → IsLevels block less few → IsLevels block more many → few ≤ many
fewer_levels block less more few many le first second = first.least many (omega (arith, le, second.enough))

own_width : (s : SettledView) (own m : Measures) → AreMeasuresOfSettled s own → IsWithin s m → own.width ≤ m.width
own_width s own m measures within =
    omega (arith, measures.width.reached, within.cuts measures.width.at (omega (arith, measures.width.inside, length-steps_of (as_graph s))))

product : (a b c d : ℕ) → a ≤ b → c ≤ d → a * c ≤ b * d
product a b c d le also = omega (arith, mul-le-mul_left a also, mul-le-mul_left d le)

min_up : (a b c d : ℕ) → a ≤ b → c ≤ d → min a c ≤ min b d
min_up a b c d le also = le-min (omega (arith, le, min-le_left a c)) (omega (arith, also, min-le_right a c))

work_up : (less more : Measures) → less.steps ≤ more.steps → less.width ≤ more.width → AreSelected less.monomials more.monomials
    → (if list_all is_cleaned less.monomials then min less.steps (less.width + 1) else less.steps)
    ≤ (if list_all is_cleaned more.monomials then min more.steps (more.width + 1) else more.steps)
work_up less more steps width selected =
    let both : min less.steps (less.width + 1) ≤ min more.steps (more.width + 1) =
    min_up less.steps more.steps (less.width + 1) (more.width + 1) steps (omega (arith, width)) in
    elim (cases_Bool (list_all is_cleaned more.monomials)) [
      | inl all ↦
          let some : list_all is_cleaned less.monomials ≡ true = selected_pass is_cleaned less.monomials more.monomials selected all in
          rw (all, some) both
      | inr not ↦ elim (cases_Bool (list_all is_cleaned less.monomials)) [
        | inl some ↦ rw (not, some) (omega (arith, steps, min-le_left less.steps (less.width + 1)))
        | inr none ↦ rw (not, none) steps
      ]
    ]

three_up : (few many : ℕ) → few ≤ many → 3 ^ few ≤ 3 ^ many
three_up few many le = pow-le-pow_right (omega arith) le

pub budgets_are_no_greater : BudgetsAreNoGreater
budgets_are_no_greater s own m measures within =
    let inputs : own.inputs ≡ m.inputs = measures.inputs ∙ within.inputs in
    let outputs : own.outputs ≡ m.outputs = measures.outputs ∙ within.outputs in
    let steps : own.steps ≤ m.steps = omega (arith, measures.steps, within.steps) in
    let width : own.width ≤ m.width = own_width s own m measures within in
    let selected : AreSelected own.monomials m.monomials = own_selected s own m measures within in
    record {
      plain_lines = λ borrowed. omega (arith, inputs, outputs, steps);
      plain_gates = omega (arith, outputs, steps);
      fine_lines = λ few many borrowed first second.
          let levels = fewer_levels 1 own.steps m.steps few many steps first second in
          omega (arith, inputs, outputs, product own.width m.width few many width levels);
      fine_gates = λ few many first second.
          omega (arith, outputs, three_up few many (fewer_levels 1 own.steps m.steps few many steps first second));
      block_lines = λ block few many borrowed first second.
          let levels = fewer_levels block own.steps m.steps few many steps first second in
          omega (arith, inputs, outputs, product own.width m.width few many width levels, min_up block block own.steps m.steps (omega arith) steps);
      block_gates = λ block few many first second.
          let more = three_up few many (fewer_levels block own.steps m.steps few many steps first second) in
          omega (arith, outputs, mul-le-mul_left (8 * block) more);
      eager_lines = λ borrowed. omega (arith, inputs, outputs, work_up own m steps width selected);
      eager_gates =
          let same : sum_by (step_gates own.inputs) own.monomials ≡ sum_by (step_gates m.inputs) own.monomials =
          ap (λ (z : ℕ). sum_by (step_gates z) own.monomials) inputs in
          omega (arith, outputs, same, selected_sum (step_gates m.inputs) own.monomials m.monomials selected);
    }
