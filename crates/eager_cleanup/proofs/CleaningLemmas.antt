-- What cleaning one node does to a forward part.
use Rattle.std.proofs.Common.{◌≡◌, ℕ, ◌+◌, ◌*◌, ◌<◌, ◌≤◌, true, false, List, length, set, Option, Some, None, is_some, Result, Ok, Err, IfOk, refl, sym, ap}
use Rattle.std.proofs.Common.{◌∙◌, subst, inl, inr, arith}
use Rattle.std.specs.List.{AllByRecursion}
use Rattle.std.proofs.Math.Nat.{mul-le-mul_right}
use Rattle.std.proofs.lemmas.Bool.{true≢false}
use Rattle.std.proofs.lemmas.List.{get_or-set_same, get_or-set_other}
use Rattle.std.proofs.lemmas.List.Sums.{sum_by-append}
use Rattle.claim_check.specs.Settled.{IsSettled, SettledView}
use Rattle.sum_graph.specs.Graphs.{SumGraphView, node_value}
use Rattle.sum_graph.specs.Plain.{plain_of}
use Rattle.sum_graph.proofs.PlainLemmas.{plain_graphs_are_alike}
use Rattle.exclusive_sums.specs.declared.cube.Literal.{Literal}
use Rattle.exclusive_sums.specs.Cubes.{IsExclusiveSumOf}
use Rattle.exclusive_sums.specs.Inputs.{StandsIn}
use Rattle.circuit_plans.specs.declared.plan.PlanFault.{PlanFault}
use Rattle.circuit_plans.specs.declared.plan.PlanFault.TheVariants.{Lines, Gates, Memory}
use Rattle.gate_split.specs.Costs.{most_gates}
use Rattle.held_nodes.specs.Held.{ForwardView, IsForward, held_count, held_line, is_held}
use Rattle.sum_graph.specs.Graphs.{first_work}
use Rattle.held_nodes.specs.Moves.{CanClear, IsReadyNode, IsCleared, IsClearFault, IsToggled, IsToggleFault, TakesLine, cube_flips, toggle_of, with_node}
use Rattle.held_nodes.proofs.LineLemmas.{count-given, held_within}
use Rattle.held_nodes.proofs.PlaceLemmas.{held_own}
use Rattle.list_facts.specs.Bits.{bit_of}
use Rattle.list_facts.specs.Lists.{IsAmong}
use Rattle.list_facts.proofs.AllLemmas.{AllByRecursion-weaker}
use Rattle.list_facts.proofs.AmongLemmas.{all_among, some_of}
use Rattle.mct_circuit.specs.Gates.{GateView}
use Rattle.revs_tape.specs.Monomials.{AreOverInputs}
use Rattle.eager_cleanup.specs.inside.Known.{IsKnownPolynomial, Polynomial}
use Rattle.eager_cleanup.specs.inside.Sweeps.{IsCleaned, IsCleaningFault, cleaning_gates, gates_in, paid_gates}
use Rattle.eager_cleanup.proofs.CostLemmas.{light_cubes, light_forward, most-cubes, most_in, plain-toggle, plain_weight}

-- ---- what a call gives

-- an answer with both facts has the third
pub both_ok : {T E : Type 0} (r : Result T E) (P Q R : T → Type 0) → ((x : T) → P x → Q x → R x) → IfOk r P → IfOk r Q → IfOk r R
both_ok (Ok x) P Q R all p q = all x p q
both_ok (Err e) P Q R all p q = tt

-- ---- a held node that gives its line back

given : (value : Option Polynomial) (f next : ForwardView) (k line : ℕ) (more : List GateView) → IsForward f → IsForward next
    → held_line f.lines k ≡ Some line → next ≡ with_node f k None more → most_in more ≤ cleaning_gates f.graph.inputs value → IsCleaned value f k next
given value f next k line more is forward held e few =
    let after : List (Option ℕ) = set f.lines k None in
    let lines : next.lines ≡ after = ap (λ (g : ForwardView). g.lines) e in
    let gone : held_line after k ≡ None = get_or-set_same f.lines k None None (held_within f.lines k line held) in
    let free : is_held next.lines k ≡ false = ap (λ (ls : List (Option ℕ)). is_held ls k) lines ∙ ap (λ (x : Option ℕ). is_some x) gone in
    let was : is_held f.lines k ≡ true = ap (λ (x : Option ℕ). is_some x) held in
    let sum : gates_in next ≡ gates_in f + most_in more = ap gates_in e ∙ sum_by-append most_gates f.gates more in
    let count : held_count after ≤ f.most = omega (arith, count-given f.lines k line held, is.count) in
    record {
      forward = forward;
      graph = ap (λ (g : ForwardView). g.graph) e;
      budget = ap (λ (g : ForwardView). g.budget) e;
      most = ap (λ (g : ForwardView). g.most) e ∙ omega (arith, count);
      others = λ i ne. ap (λ (ls : List (Option ℕ)). held_line ls i) lines ∙ get_or-set_other f.lines k i None None ne;
      gone = λ some. free;
      gates = λ cost within.
          let before : paid_gates cost f.lines k ≡ 2 = rw was refl in
          let now : paid_gates cost next.lines k ≡ 2 + cost = rw free refl in
          omega (arith, before, now, sum, few, within);
    }

-- ---- by its operands

taken_own : (lines : List (Option ℕ)) (held : Option ℕ) (own line : ℕ) (after : Option ℕ) → held ≡ Some own → TakesLine lines held line after
    → after ≡ None
taken_own lines held own line after e takes = (subst (λ (x : Option ℕ). TakesLine lines x line after) e takes).1

pub toggled_back : (s : SettledView) (value : Option Polynomial) (f next : ForwardView) (k : ℕ) → IsSettled s → f.graph ≡ plain_of s → IsForward f
    → IsForward next → is_held f.lines k ≡ true
    → IsToggled f k next → IsCleaned value f k next
toggled_back s value f next k settled graph is forward held toggled =
    let own = held_own f.lines k held in
    let after : toggled.after ≡ None = taken_own f.lines (held_line f.lines k) own.own toggled.line toggled.after own.is toggled.takes in
    let more : List GateView = toggle_of (first_work f.graph) f.lines toggled.line toggled.node in
    let becomes : next ≡ with_node f k None more = toggled.becomes ∙ ap (λ (x : Option ℕ). with_node f k x more) after in
    given value f next k own.own more is forward own.is becomes
    (least value (plain-toggle s f.graph k toggled.node settled graph toggled.is (first_work f.graph) f.lines toggled.line))
  where
    least : (v : Option Polynomial) → most_in (toggle_of (first_work f.graph) f.lines toggled.line toggled.node) ≤ 2
        → most_in (toggle_of (first_work f.graph) f.lines toggled.line toggled.node) ≤ cleaning_gates f.graph.inputs v
    least None few = few
    least (Some p) few = omega (arith, few)

some_cost : (n : ℕ) (value : Option Polynomial) → 2 ≤ cleaning_gates n value
some_cost n None = omega arith
some_cost n (Some p) = omega arith

pub toggle_back_fault : (s : SettledView) (value : Option Polynomial) (f : ForwardView) (k : ℕ) (fault : PlanFault) → f.graph ≡ plain_of s → IsForward f
    → is_held f.lines k ≡ true → IsReadyNode f.graph f.lines k
    → IsToggleFault f k fault → IsCleaningFault value f k fault
toggle_back_fault s value f k (Lines need) graph is held ready fault = absurd (true≢false (sym held ∙ fault.0.free))
toggle_back_fault s value f k Gates graph is held ready fault = record {
  held = held;
  heavy = omega (arith, fault.1.heavy, plain_weight s f.graph k fault.1.node graph fault.1.is, some_cost f.graph.inputs value, light_forward f is);
}
toggle_back_fault s value f k (Memory _) graph is held ready fault = record { held = held; how = inl ready }

-- ---- by its value

stands_below : (n : ℕ) (p : Polynomial) (input : ℕ) → AreOverInputs n p → StandsIn p input → input < n
stands_below n p input over stands =
    let found = some_of (IsAmong input) p stands in
    all_among (λ i. i < n) found.0 (all_among (AllByRecursion (λ i. i < n)) p over found.0 found.1) input found.2

inputs_below : (n : ℕ) (p : Polynomial) (cubes : List (List Literal)) → AreOverInputs n p
    → AllByRecursion (AllByRecursion (λ (l : Literal). StandsIn p l.input)) cubes → AllByRecursion (AllByRecursion (λ (l : Literal). l.input < n)) cubes
inputs_below n p cubes over stand = AllByRecursion-weaker (AllByRecursion (λ (l : Literal). StandsIn p l.input))
    (AllByRecursion (λ (l : Literal). l.input < n))
    (λ cube all. AllByRecursion-weaker (λ (l : Literal). StandsIn p l.input) (λ (l : Literal). l.input < n)
    (λ l stands. stands_below n p l.input over stands) cube all) cubes stand

pub can_clear : (s : SettledView) (f : ForwardView) (k : ℕ) (p : Polynomial) (cubes : List (List Literal)) → f.graph ≡ plain_of s → IsKnownPolynomial s k p
    → is_held f.lines k ≡ true
    → IsExclusiveSumOf p cubes → CanClear f k cubes
can_clear s f k p cubes graph known held sum = record {
  held = held;
  inputs = subst (λ (g : SumGraphView). AllByRecursion (AllByRecursion (λ (l : Literal). l.input < g.inputs)) cubes) (sym graph)
      (inputs_below s.inputs p cubes known.are.over_inputs sum.over_inputs);
  value = λ input size.
      (let inputs = ap (λ (g : SumGraphView). g.inputs) graph in
      sum.values (bit_of input) ∙ known.are.values input (size ∙ inputs) ∙ sym ((plain_graphs_are_alike s).nodes input k)
      ∙ ap (λ (g : SumGraphView). node_value g input k) (sym graph));
}

cubes_cost : (s : SettledView) (f : ForwardView) (k first line : ℕ) (p : Polynomial) (cubes : List (List Literal)) → f.graph ≡ plain_of s
    → IsKnownPolynomial s k p
    → IsExclusiveSumOf p cubes → most_in (cube_flips first line cubes) ≤ cleaning_gates f.graph.inputs (Some p)
cubes_cost s f k first line p cubes graph known sum =
    let n : ℕ = s.inputs in
    let same : f.graph.inputs ≡ n = ap (λ (g : SumGraphView). g.inputs) graph in
    let most = most-cubes n first line cubes sum.are_cubes (inputs_below n p cubes known.are.over_inputs sum.over_inputs) in
    let all : length cubes * (10 * n + 1) ≤ length p * (10 * n + 1) = mul-le-mul_right (10 * n + 1) sum.few in
    rw same (omega (arith, most, all))

pub cleared : (s : SettledView) (f next : ForwardView) (k : ℕ) (p : Polynomial) (cubes : List (List Literal)) → f.graph ≡ plain_of s → IsForward f
    → IsForward next → IsKnownPolynomial s k p → IsExclusiveSumOf p cubes → IsCleared f k cubes next → IsCleaned (Some p) f k next
cleared s f next k p cubes graph is forward known sum clear =
    given (Some p) f next k clear.line (cube_flips (first_work f.graph) clear.line cubes) is forward clear.is clear.becomes
    (cubes_cost s f k (first_work f.graph) clear.line p cubes graph known sum)

pub clear_fault : (s : SettledView) (f : ForwardView) (k : ℕ) (p : Polynomial) (cubes : List (List Literal)) (fault : PlanFault) → f.graph ≡ plain_of s
    → IsForward f → is_held f.lines k ≡ true → IsKnownPolynomial s k p → IsExclusiveSumOf p cubes → IsClearFault f k cubes fault
    → IsCleaningFault (Some p) f k fault
clear_fault s f k p cubes (Lines need) graph is held known sum fault = fault
clear_fault s f k p cubes Gates graph is held known sum fault = record {
  held = held;
  heavy = omega (
    arith,
    fault.heavy,
    light_forward f is,
    light_cubes (first_work f.graph) fault.line cubes,
    cubes_cost s f k (first_work f.graph) fault.line p cubes graph known sum,
  );
}
clear_fault s f k p cubes (Memory _) graph is held known sum fault = record { held = held; how = inr refl }
