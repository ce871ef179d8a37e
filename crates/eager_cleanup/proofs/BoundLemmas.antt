-- What is held and paid for stays within the eager numbers.
use Rattle.std.proofs.Common.{◌≡◌, ℕ, zero, suc, ◌+◌, ◌*◌, ◌<◌, ◌≤◌, Bool, true, ltb, min, inl, inr, List, [], ◌∷◌, length, get_or, slice_get, Option, Some}
use Rattle.std.proofs.Common.{None, refl, sym, ap, ◌∙◌, subst, arith}
use Rattle.std.specs.List.{AllByRecursion, list_all, sum_by}
use Rattle.std.proofs.lemmas.Bool.{cases_Bool, ltb-true, ltb-false, true≢false}
use Rattle.std.proofs.lemmas.Bool.Decides.{leb_tells}
use Rattle.std.proofs.lemmas.List.Folds.{list_all_at}
use Rattle.std.proofs.Math.Nat.{mul-le-mul_right}
use Rattle.claim_check.specs.Budgets.{Measures, eager_gates, eager_lines, is_cleaned, most_cleaned, step_gates}
use Rattle.claim_check.specs.Measures.{HasMonomials, IsWithin, node_function}
use Rattle.claim_check.specs.Settled.{SettledView}
use Rattle.claim_check.proofs.SelectedLemmas.{selected_pass, selected_sum}
use Rattle.dependency_graph.specs.declared.node.Base.{Base}
use Rattle.dependency_graph.specs.declared.node.Base.TheVariants as bases
use Rattle.dependency_graph.specs.declared.node.Node.{Node}
use Rattle.dependency_graph.specs.Graphs.{IsKnownBase, operands}
use Rattle.circuit_plans.specs.declared.plan.PlanFault.{PlanFault}
use Rattle.circuit_plans.specs.declared.plan.PlanFault.TheVariants.{Lines, Gates, Memory}
use Rattle.circuit_plans.specs.Plans.{BudgetView}
use Rattle.held_nodes.specs.Held.{ForwardView, held_count, is_held}
use Rattle.sum_graph.specs.Graphs.{first_work}
use Rattle.held_nodes.specs.Moves.{IsReadyBase, IsReadyNode, IsStartFault, IsToggleFault}
use Rattle.circuit_plans.specs.Plans.{HasPortLines, wanted_lines}
use Rattle.list_facts.specs.Lists.{IsAmong}
use Rattle.list_facts.proofs.AmongLemmas.{all_among, all_from_among}
use Rattle.revs_tape.specs.Monomials.{AreMonomialsOf}
use Rattle.revs_tape.proofs.MonomialLemmas.{monomials_are_determined}
use Rattle.std.proofs.lemmas.List.{length-map}
use Rattle.sum_graph.specs.Graphs.{SumGraphView}
use Rattle.sum_graph.specs.Plain.{plain_of, plain_output, plain_sum}
use Rattle.sum_graph.proofs.PlainLemmas.{same_operands}
use Rattle.held_nodes.proofs.PlainLemmas.{sum_of_node}
use Rattle.eager_cleanup.specs.Eager.{HasFewGates, IsEagerFault, ports_of}
use Rattle.eager_cleanup.specs.inside.Known.{AreFirstValues, HasLargeNode, IsKnownValue, Polynomial, last_use_of, value_at}
use Rattle.eager_cleanup.specs.inside.Sweeps.{BoundsCleanings, BoundsCuts, HasHeavy, IsSwept, IsUseFault, all_paid, cleaning_gates, gates_in, paid_gates, total}
use Rattle.eager_cleanup.proofs.CostLemmas.{light_forward, plain_weight}
use Rattle.eager_cleanup.proofs.HolderLemmas.{held_below}
use Rattle.eager_cleanup.proofs.KnownLemmas.{operands_earlier}
use Rattle.eager_cleanup.proofs.SweepLemmas.{held_in_cut, settled_of, value_used}
use Rattle.eager_cleanup.proofs.TotalLemmas.{sum_total, total_longer, total_no_more, total_with}
use Rattle.eager_cleanup.proofs.UserLemmas.{used_here}

-- ---- the numbers of monomials

pub same_count : (n : ℕ) (f : List Bool → Bool) (p : Polynomial) (count : ℕ) → AreMonomialsOf n f p → HasMonomials n f count → length p ≡ count
same_count n f p count are has =
    let own = monomials_are_determined n f in
    ap length (own.only p are ∙ sym (own.only has.monomials has.are)) ∙ has.counted

cleaned_at : (counts : List ℕ) (k : ℕ) → list_all is_cleaned counts ≡ true → k < length counts → get_or counts k 0 ≤ most_cleaned
cleaned_at counts k all low = elim (leb_tells (get_or counts k 0) most_cleaned) as (λ _. get_or counts k 0 ≤ most_cleaned) [
  | inl t ↦ t.1
  | inr t ↦ absurd (true≢false (sym all ∙ list_all_at is_cleaned counts k 0 low t.0))
]

-- where each step of the measures is cleaned no node is large
pub all_small : (s : SettledView) (m : Measures) → IsWithin s m → list_all is_cleaned m.monomials ≡ true → ¬ HasLargeNode s
all_small s m within all large =
    let low : large.node < length within.counts = omega (arith, large.inside, within.one_each) in
    let few = cleaned_at within.counts large.node (selected_pass is_cleaned within.counts m.monomials within.selected all) low in
    let count = same_count s.inputs (node_function s large.node) large.monomials (get_or within.counts large.node 0) large.are
    (within.monomials large.node low) in
    omega (arith, large.large, few, count)

-- ---- gates

value_gates : (s : SettledView) (k count : ℕ) (value : Option Polynomial) → IsKnownValue s k value → HasMonomials s.inputs (node_function s k) count
    → cleaning_gates s.inputs value ≤ 2 + min count most_cleaned * (10 * s.inputs + 1)
value_gates s k count None large has = omega arith
value_gates s k count (Some p) is has =
    let same = same_count s.inputs (node_function s k) p count is.are has in
    let few : length p ≤ min count most_cleaned = omega (arith, same, is.few) in
    let product : length p * (10 * s.inputs + 1) ≤ min count most_cleaned * (10 * s.inputs + 1) = mul-le-mul_right (10 * s.inputs + 1) few in
    omega (arith, product)

-- the most gates that clean a node, by the number of its monomials
abbrev pub cost_in : (s : SettledView) (m : Measures) → IsWithin s m → ℕ → ℕ
cost_in s m within k = 2 + min (get_or within.counts k 0) most_cleaned * (10 * s.inputs + 1)

pub costs_bound : (s : SettledView) (m : Measures) (within : IsWithin s m) → BoundsCleanings s (cost_in s m within)
costs_bound s m within = record {
  each = λ k value low is. value_gates s k (get_or within.counts k 0) value is (within.monomials k (omega (arith, low, within.one_each)));
}

abbrev pub most_total : SettledView → (ℕ → ℕ) → ℕ
most_total s cost = total (λ k. 2 + cost k) (length s.nodes)

pub total_within : (s : SettledView) (m : Measures) (within : IsWithin s m) → m.outputs + 2 * most_total s (cost_in s m within) ≤ eager_gates m
total_within s m within =
    let counts : List ℕ = within.counts in
    let each = total_no_more (λ k. 2 + cost_in s m within k) (λ k. step_gates s.inputs (get_or counts k 0)) (length s.nodes) (λ k low. omega arith) in
    let length_same = ap (total (λ k. step_gates s.inputs (get_or counts k 0))) within.one_each in
    let selected = selected_sum (step_gates s.inputs) counts m.monomials within.selected in
    let inputs = ap (λ (n : ℕ). sum_by (step_gates n) m.monomials) within.inputs in
    omega (arith, each, sum_total (step_gates s.inputs) counts, length_same, selected, inputs)

pub few_gates : (s : SettledView) (b : BudgetView) (gates : ℕ) → b.gates < 2 * gates
    → ((cost : ℕ → ℕ) → BoundsCleanings s cost → gates ≤ most_total s cost) → HasFewGates s b
few_gates s b gates over within = record {
  few = λ m is. omega (arith, over, within (cost_in s m is) (costs_bound s m is), total_within s m is);
}

less_paid : (cost : ℕ) (lines : List (Option ℕ)) (k : ℕ) → paid_gates cost lines k ≤ 2 + cost
less_paid cost lines k = elim (cases_Bool (is_held lines k)) as (λ _. paid_gates cost lines k ≤ 2 + cost) [
  | inl held ↦ rw held (omega arith)
  | inr free ↦ rw free (omega arith)
]

-- what is paid for so far, and what is still to pay for a held node, is not too much
pub paid_within : (s : SettledView) (cost : ℕ → ℕ) (lines : List (Option ℕ)) (count k : ℕ) → k < count → count ≤ length s.nodes
    → is_held lines k ≡ true → all_paid cost lines count + cost k ≤ most_total s cost
paid_within s cost lines count k low inside held =
    let here : paid_gates (cost k) lines k + cost k ≤ 2 + cost k = rw held (omega arith) in
    let part = total_with (λ i. paid_gates (cost i) lines i) (λ i. 2 + cost i) count k (cost k) low (λ i lower. less_paid (cost i) lines i) here in
    omega (arith, part, total_longer (λ i. 2 + cost i) count (length s.nodes) inside)

pub paid_all : (s : SettledView) (cost : ℕ → ℕ) (lines : List (Option ℕ)) (count : ℕ) → count ≤ length s.nodes
    → all_paid cost lines count ≤ most_total s cost
paid_all s cost lines count inside = omega (
  arith,
  total_no_more (λ i. paid_gates (cost i) lines i) (λ i. 2 + cost i) count (λ i lower. less_paid (cost i) lines i),
  total_longer (λ i. 2 + cost i) count (length s.nodes) inside,
)

-- what is paid for so far, and a toggle more, is not too much
pub paid_more : (s : SettledView) (cost : ℕ → ℕ) (lines : List (Option ℕ)) (count : ℕ) → count < length s.nodes
    → all_paid cost lines count + 2 ≤ most_total s cost
paid_more s cost lines count inside =
    let next : count + 1 ≡ suc count = omega arith in
    let step = ap (total (λ i. 2 + cost i)) next in
    omega (
      arith,
      total_no_more (λ i. paid_gates (cost i) lines i) (λ i. 2 + cost i) count (λ i lower. less_paid (cost i) lines i),
      step,
      total_longer (λ i. 2 + cost i) (count + 1) (length s.nodes) (omega (arith, inside)),
    )

-- ---- lines

-- the input and output lines of a plain graph are those of the settled one
pub ports_are : (s : SettledView) (f : ForwardView) → f.graph ≡ plain_of s → first_work f.graph ≡ ports_of s
ports_are s f graph = ap first_work graph ∙ ap (λ (n : ℕ). s.inputs + n) (length-map s.outputs plain_output)

-- so many work lines are enough for these measures
pub lines_enough : (s : SettledView) (m : Measures) (work borrowed : ℕ) → IsWithin s m → work ≤ length s.nodes
    → (¬ HasLargeNode s → (width : ℕ) → BoundsCuts s width → work ≤ width + 1) → ports_of s + work + borrowed ≤ eager_lines m borrowed
lines_enough s m work borrowed within most few =
    elim (cases_Bool (list_all is_cleaned m.monomials)) as (λ _. ports_of s + work + borrowed ≤ eager_lines m borrowed) [
      | inl all ↦
          let bound = few (all_small s m within all) m.width (record { cuts = within.cuts }) in
          rw all (omega (arith, bound, most, within.inputs, within.outputs, within.steps))
      | inr large ↦ rw large (omega (arith, most, within.inputs, within.outputs, within.steps))
    ]

pub wanted_more : (s : SettledView) (b : BudgetView) → ports_of s + b.borrow ≤ b.lines → b.lines + 1 ≡ wanted_lines (ports_of s) b
wanted_more s b enough = elim (cases_Bool (ltb b.lines (ports_of s + b.borrow))) as (λ _. b.lines + 1 ≡ wanted_lines (ports_of s) b) [
  | inl e ↦ absurd (omega (arith, ltb-true b.lines (ports_of s + b.borrow) e, enough))
  | inr e ↦ rw e refl
]

pub wanted_sum : (s : SettledView) (b : BudgetView) → b.lines < ports_of s + b.borrow → ports_of s + b.borrow ≡ wanted_lines (ports_of s) b
wanted_sum s b short = elim (cases_Bool (ltb b.lines (ports_of s + b.borrow))) as (λ _. ports_of s + b.borrow ≡ wanted_lines (ports_of s) b) [
  | inl e ↦ rw e refl
  | inr e ↦ absurd (omega (arith, ltb-false b.lines (ports_of s + b.borrow) e, short))
]

-- ---- faults

-- a beginning that is refused
pub start_fault : (s : SettledView) (b : BudgetView) (fault : PlanFault) → IsStartFault (plain_of s) b fault → IsEagerFault s b fault
start_fault s b (Lines need) is = let long = length-map s.outputs plain_output in (
  record {
    few = λ m within. omega (
      arith,
      is.0,
      is.1,
      long,
      lines_enough s m 0 b.borrow within (omega arith) (λ none width bounds. omega arith),
    );
  },
  omega (arith, is.1, long) ∙ wanted_sum s b (omega (arith, is.0, is.1, long)),
)
start_fault s b Gates is = absurd is
start_fault s b (Memory _) is = omega (arith, is, length-map s.outputs plain_output)

-- what was begun has the lines of the inputs and outputs
pub has_port_lines : (s : SettledView) (b : BudgetView) (j : ℕ) (used : List Base) (f : ForwardView) → IsSwept s b j used f → HasPortLines (ports_of s) b
has_port_lines s b j used f is =
    let lines = ap (λ (x : BudgetView). x.lines) is.budget in
    let borrow = ap (λ (x : BudgetView). x.borrow) is.budget in
    let first = ports_are s f is.graph in
    omega (arith, is.forward.within, lines, borrow, first)

-- a toggle of the next node that is refused
pub next_fault : (s : SettledView) (b : BudgetView) (j : ℕ) (f : ForwardView) (fault : PlanFault)
    → IsSwept s b j [] f → j < length s.nodes → IsToggleFault f j fault → IsEagerFault s b fault
next_fault s b j f (Lines need) is inside fault =
    let budget : f.budget ≡ b = is.budget in
    let graph : f.graph ≡ plain_of s = is.graph in
    let lines = ap (λ (x : BudgetView). x.lines) budget in
    let borrow = ap (λ (x : BudgetView). x.borrow) budget in
    let first = ports_are s f graph in
    let enough : ports_of s + b.borrow ≤ b.lines = omega (arith, is.forward.within, lines, borrow, first) in
    let below = held_below f.lines j is.behind in (
      record {
        few = λ m within. omega (
          arith,
          fault.0.full,
          lines,
          borrow,
          first,
          enough,
          lines_enough s m (held_count f.lines + 1) b.borrow within (omega (arith, below, inside))
              (λ none width bounds. omega
              (arith, held_in_cut s b j f is (omega (arith, inside)) none, bounds.cuts j (omega (arith, inside)))),
        );
      },
      fault.1 ∙ omega (arith, lines, wanted_more s b enough),
    )
next_fault s b j f Gates is inside fault =
    let gates = ap (λ (x : BudgetView). x.gates) is.budget in
    few_gates s b (gates_in f + 2)
    (omega (arith, gates, fault.1.heavy, plain_weight s f.graph j fault.1.node is.graph fault.1.is, light_forward f is.forward))
    (λ cost bounds. omega (arith, is.gates cost bounds, paid_more s cost f.lines j inside))
next_fault s b j f (Memory _) is inside fault = has_port_lines s b j [] f is

heavy_fault : (s : SettledView) (b : BudgetView) (known : List (Option Polynomial)) (user : ℕ) (base : Base) (used : List Base) (f : ForwardView)
    → AreFirstValues s user known → IsSwept s b (user + 1) used f → user < length s.nodes → IsKnownBase s.inputs user base
    → HasHeavy s known user base f → HasFewGates s b
heavy_fault s b known user base used f values is inside known_base heavy =
    let gates = ap (λ (x : BudgetView). x.gates) is.budget in
    let k : ℕ = heavy.node in
    let low : k < user = subst (IsKnownBase s.inputs user) heavy.is.is known_base in
    let value = value_used s known user k values low heavy.is.last in
    let inputs : f.graph.inputs ≡ s.inputs = ap (λ (g : SumGraphView). g.inputs) is.graph in
    let cost : cleaning_gates f.graph.inputs (value_at known k) ≡ cleaning_gates s.inputs (value_at known k) =
    ap (λ (n : ℕ). cleaning_gates n (value_at known k)) inputs in
    few_gates s b (gates_in f + cleaning_gates s.inputs (value_at known k))
    (omega (arith, gates, heavy.heavy.heavy, cost))
    (λ most bounds. omega (
      arith,
      is.gates most bounds,
      bounds.each k (value_at known k) (omega (arith, low, inside)) value,
      paid_within s most f.lines (user + 1) k (omega (arith, low)) (omega (arith, inside)) heavy.heavy.held,
    ))

-- a cleaning of an operand that is refused
pub used_fault : (s : SettledView) (b : BudgetView) (known : List (Option Polynomial)) (user : ℕ) (base : Base) (used : List Base) (f : ForwardView)
    (fault : PlanFault) → AreFirstValues s user known → IsSwept s b (user + 1) used f → user < length s.nodes → IsKnownBase s.inputs user base
    → IsUseFault s known user base f fault → IsEagerFault s b fault
used_fault s b known user base used f (Lines need) values is inside low fault = absurd fault
used_fault s b known user base used f Gates values is inside low fault = heavy_fault s b known user base used f values is inside low fault
used_fault s b known user base used f (Memory _) values is inside low fault = has_port_lines s b (user + 1) used f is

-- ---- the next node

-- the operands of the next node are inputs, or held
pub next_ready : (s : SettledView) (b : BudgetView) (j : ℕ) (f : ForwardView) → IsSwept s b j [] f
    → j < length s.nodes → IsReadyNode f.graph f.lines j
next_ready s b j f is inside =
    let node = got s.nodes j inside in
    let settled = settled_of s b j [] f is in
    subst (λ (g : SumGraphView). IsReadyNode g f.lines j) (sym is.graph) (record {
      node = plain_sum node.0;
      is = sum_of_node s.nodes j node.0 node.1;
      ready = subst (AllByRecursion (IsReadyBase f.lines)) (sym (same_operands node.0)) (all_from_among (IsReadyBase f.lines) (operands node.0)
          (λ base among. ready base (all_among (IsKnownBase s.inputs j) (operands node.0)
          (operands_earlier s j node.0 settled.nodes node.1) base among)
          (λ k e. used_here s j k node.0 node.1 (subst (λ (x : Base). IsAmong x (operands node.0)) e among))));
    })
  where
    got : (nodes : List Node) (k : ℕ) → k < length nodes → (node : Node) × (slice_get nodes k ≡ Some node)
    got [] k low = absurd (omega (arith, low))
    got (x ∷ xs) zero low = (x, refl)
    got (x ∷ xs) (suc k) low = got xs k (omega (arith, low))

    ready : (base : Base) → IsKnownBase s.inputs j base → ((k : ℕ) → base ≡ bases.Node k → j ≤ last_use_of s k) → IsReadyBase f.lines base
    ready (bases.Input i) known later = tt
    ready (bases.Node k) low later = is.needed k low (later k refl)
