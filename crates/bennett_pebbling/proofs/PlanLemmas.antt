-- A plan by halves: what it costs, and why there is none.
use Rattle.std.proofs.Common.{◌≡◌, ℕ, zero, suc, ◌+◌, ◌*◌, ◌^◌, ◌<◌, ◌≤◌, min, Bool}
use Rattle.std.proofs.Common.{true, false, ◌||◌, List, length, replicate, Option, None, Result, Ok, Err, sum_by}
use Rattle.std.proofs.Common.{sym, ◌∙◌, ap, subst, refl, arith, zero-add}
use Rattle.std.specs.Result.{IfOk}
use Rattle.std.specs.Prelude.{nat_le}
use Rattle.std.specs.List.{AllByRecursion}
use Rattle.std.proofs.lemmas.Bool.{le-leb, leb-true, lt-leb}
use Rattle.std.proofs.lemmas.List.{get_or-replicate, length-replicate}
use Rattle.std.proofs.lemmas.List.Sums.{count_by-le-length, length-filter}
use Rattle.list_facts.proofs.OrderLemmas.{length-below}
use Rattle.list_facts.specs.Bits.{bit_of}
use Rattle.list_facts.specs.Lists.{below}
use Rattle.revs_tape.specs.Cuts.{is_in, is_needed}
use Rattle.sum_graph.specs.Uses.{sum_output_nodes, sum_steps}
use Rattle.sum_graph.specs.Uses.{sum_cut, sum_last_use}
use Rattle.claim_check.specs.Budgets.{Measures}
use Rattle.bit_sums.specs.Sums.{SumView}
use Rattle.sum_graph.specs.Graphs.{SumGraphView, IsSumGraph, products_in}
use Rattle.sum_toggles.specs.Toggles.{toggle_weight}
use Rattle.sum_toggles.proofs.CountLemmas.{ccx_in, ccx_of}
use Rattle.held_nodes.proofs.CountLemmas.{ccx_finished}
use Rattle.circuit_plans.specs.declared.plan.PlanFault.{PlanFault}
use Rattle.circuit_plans.specs.declared.plan.PlanFault.TheVariants.{Lines, Gates, Memory}
use Rattle.circuit_plans.specs.Plans.{BudgetView, PlannedView}
use Rattle.mct_circuit.specs.Gates.{AreNarrow}
use Rattle.mct_circuit.specs.Sizes.{weight_of}
use Rattle.mct_circuit.proofs.WeightLemmas.{length-le-weight}
use Rattle.held_nodes.specs.Held.{ForwardView, IsForward, is_held, work_lines}
use Rattle.sum_graph.specs.Graphs.{first_work}
use Rattle.held_nodes.specs.Moves.{IsFinishFault, IsReadySum, finished_gates, finished_weight, nothing_held, planned_of}
use Rattle.mct_circuit.specs.Sizes.{weight_in}
use Rattle.circuit_plans.specs.Plans.{wanted_lines}
use Rattle.held_nodes.proofs.NarrowLemmas.{narrow_toggles}
use Rattle.bennett_pebbling.specs.Blocks.{IsHalved}
use Rattle.bennett_pebbling.specs.Pebbling.{HasFewProducts, HasLineEach, HasNoLineEach, IsLight, IsPebblingFault, IsWithinBlock, extent_of, plain_weight}
use Rattle.bennett_pebbling.specs.inside.Changes.{CanWork, IsPlain, IsRisen, IsRiseFault}
use Rattle.bennett_pebbling.specs.inside.Costs.{Allows, IsCovered, IsMove, block_room, counted, reach_of, room_at, size_at, toggles_at}
use Rattle.bennett_pebbling.specs.inside.Marks.{AreNeeded}
use Rattle.bennett_pebbling.proofs.CostLemmas.{block_room-most, room_at-times, size_at-power, toggles_at-fine, toggles_at-gates}
use Rattle.bennett_pebbling.proofs.CountLemmas.{counted-in}
use Rattle.bennett_pebbling.proofs.NeedLemmas.{bit_inside}
use Rattle.bennett_pebbling.proofs.ReachLemmas.{everything}
use Rattle.bennett_pebbling.proofs.OutputLemmas.{few_outputs, ready_outputs, use_output, light_copies}
use Rattle.held_nodes.specs.Prices.{prices}
use Rattle.held_nodes.proofs.PriceLemmas.{ccx_price, prices_all, weight_price}

-- ---- the beginning

-- the forward part of no gates, and the marks of the outputs
pub record IsBegun (s : SumGraphView) (b : BudgetView) (start : ForwardView) (outputs : List Bool) : Type 0 where
  pub is : start ≡ nothing_held s b (replicate (length s.nodes) None)
  pub keeps : IsForward start
  pub count : length outputs ≡ length s.nodes
  pub marked : (k : ℕ) → k < length s.nodes → bit_of outputs k ≡ nat_le (length s.nodes) (sum_last_use s k)

pub begun : (s : SumGraphView) (b : BudgetView) (start : ForwardView) (outputs marks : List Bool)
    → start ≡ nothing_held s b (replicate (length s.nodes) None) → IsForward start → outputs ≡ marks
    → AreNeeded s 0 (replicate (length s.nodes) false) marks → IsBegun s b start outputs
begun s b start outputs marks is keeps same marked =
    let n = length s.nodes in let none = replicate n false in
    let needed : AreNeeded s 0 none outputs = subst (AreNeeded s 0 none) (sym same) marked in
    let long : length none ≡ n = length-replicate n false in
    record {
      is = is;
      keeps = keeps;
      count = needed.count ∙ long;
      marked = λ k low.
          let blank : bit_of none k ≡ false = get_or-replicate n k false false low in
          let end : 0 + length none ≡ n = omega (arith, long) in
          needed.marked k (omega (arith, low, long))
          ∙ ap (λ (x : Bool). x || nat_le (0 + length none) (sum_last_use s (0 + k))) blank
          ∙ ap (λ (m : ℕ). nat_le m (sum_last_use s (0 + k))) end
          ∙ ap (λ (m : ℕ). nat_le n (sum_last_use s m)) (zero-add k);
    }

-- nothing stands below the first node
pub begun_can : (s : SumGraphView) (b : BudgetView) (start : ForwardView) (outputs : List Bool) → IsBegun s b start outputs
    → CanWork s start 0 (length outputs)
begun_can s b start outputs begin =
    let graph : start.graph ≡ s = ap (λ (f : ForwardView). f.graph) begin.is in
    let long : length start.graph.nodes ≡ length s.nodes = ap (λ (x : SumGraphView). length x.nodes) graph in
    record {
      graph = sym graph;
      keeps = begin.keeps;
      inside = omega (arith, long, begin.count);
      ready = record { ready = λ k j above low below rests. absurd (omega (arith, below)) };
    }

none_held : (n k : ℕ) → is_held (replicate n None) k ≡ false
none_held zero k = refl
none_held (suc n) zero = refl
none_held (suc n) (suc k) = none_held n k

-- a cut has no more nodes than the graph
some_cut : (s : SumGraphView) (n j : ℕ) → j ≤ n → length (sum_cut s j) ≤ n
some_cut s n j low =
    let g = s in
    let test = is_needed (sum_steps g) (sum_output_nodes g) j in
    omega (arith, low, length-filter test (below j), count_by-le-length test (below j), length-below j)

more_level : (block level : ℕ) → 1 ≤ block → level + 1 ≤ size_at block level
more_level block zero some = omega (arith, some)
more_level block (suc level) some = omega (arith, more_level block level some)

-- there are levels for every number of nodes
some_level : (block level : ℕ) → 1 ≤ block → level ≤ size_at block level
some_level block level some = omega (arith, more_level block level some)

ap_narrow : (f : ForwardView) (s : SumGraphView) (b : BudgetView) (lines : List (Option ℕ)) → f ≡ nothing_held s b lines → AreNarrow f.gates
ap_narrow f s b lines e = subst (λ (x : ForwardView). AreNarrow x.gates) (sym e) tt

module _ (s : SumGraphView) (b : BudgetView) (block : ℕ) (start : ForwardView) (outputs : List Bool) (some : 1 ≤ block) (begin : IsBegun s b start outputs)
  where
    start_graph : start.graph ≡ s
    start_graph = ap (λ (f : ForwardView). f.graph) begin.is

    start_budget : start.budget ≡ b
    start_budget = ap (λ (f : ForwardView). f.budget) begin.is

    start_most : start.most ≡ 0
    start_most = ap (λ (f : ForwardView). f.most) begin.is

    start_weight : weight_in start.gates ≡ 0
    start_weight = ap (λ (f : ForwardView). weight_in f.gates) begin.is

    settled : IsSumGraph s
    settled = subst IsSumGraph start_graph begin.keeps.sums

    room : first_work s + b.borrow ≤ b.lines
    room =
        let within =
        subst (λ (x : BudgetView). first_work s + start.most + x.borrow ≤ x.lines) start_budget
        (subst (λ (x : SumGraphView). first_work x + start.most + start.budget.borrow ≤ start.budget.lines) start_graph begin.keeps.within) in
        omega (arith, within)

    -- ---- what is wanted

    allows_outputs : Allows start 0 outputs (is_in (sum_output_nodes s))
    allows_outputs = record {
      held = record {
        held = λ k is.
            absurd (let clash : false ≡ true =
            sym (ap (λ (f : ForwardView). is_held f.lines k) begin.is ∙ none_held (length s.nodes) k) ∙ is in cc);
      };
      marked = λ k is.
          let inside = bit_inside outputs k is in
          let low : k < length s.nodes = omega (arith, inside, begin.count) in
          ap (is_in (sum_output_nodes s)) (zero-add k)
          ∙ use_output s k low (leb-true (length s.nodes) (sum_last_use s k) (sym (begin.marked k low) ∙ is));
    }

    few_wanted : IsLight s → counted (is_in (sum_output_nodes s)) (length s.nodes) ≤ length s.outputs
    few_wanted light = omega (arith, counted-in (sum_output_nodes s) (length s.nodes), few_outputs s light)

    start_light : IsLight s → IsLight start.graph
    start_light light = subst IsLight (sym start_graph) light

    covered : (m : Measures) (levels : ℕ) → IsHalved (extent_of s) block levels m → IsCovered start.graph block (length outputs) levels m.width
    covered m levels h =
        subst (λ (x : SumGraphView). IsCovered x block (length outputs) levels m.width) (sym start_graph) (record {
          cuts = h.within.cuts;
          enough = omega (arith, h.enough, size_at-power block levels, begin.count);
        })

    -- the reach of the whole graph
    reach : Measures → ℕ → ℕ
    reach m levels = reach_of start block levels m.width (is_in (sum_output_nodes s))

    reach_fits : (m : Measures) (levels : ℕ) → IsLight s → reach m levels ≤ length s.outputs + m.width * levels + block_room block (length s.nodes)
    unfolding reach
    reach_fits m levels light =
        let all : reach_of start block levels m.width (is_in (sum_output_nodes s))
        ≡ counted (is_in (sum_output_nodes s)) (length s.nodes) + room_at block (length s.nodes) m.width levels =
        ap (λ (x : SumGraphView). counted (is_in (sum_output_nodes s)) (length x.nodes) + room_at block (length x.nodes) m.width levels) start_graph in
        omega (arith, all, few_wanted light, room_at-times block (length s.nodes) m.width levels)

    block_fits : (m : Measures) (levels : ℕ) → IsHalved (extent_of s) block levels m
        → length s.outputs + m.width * levels + block_room block (length s.nodes) ≤ m.outputs + m.width * levels + min block m.steps
    block_fits m levels h = omega (arith, h.within.outputs, h.within.steps, block_room-most block (length s.nodes))

    -- ---- refused

    work_is : work_lines start.graph start.budget ≡ work_lines s b
    work_is = ap (λ (x : SumGraphView). work_lines x start.budget) start_graph ∙ ap (work_lines s) start_budget

    wanted_is : wanted_lines (first_work s) b ≡ b.lines + 1
    wanted_is = rw (lt-leb (suc b.lines) (first_work s + b.borrow) (omega (arith, room))) refl

    fine_halved : (m : Measures) (levels : ℕ) → block ≡ 1 → IsHalved (extent_of s) 1 levels m → IsHalved (extent_of s) block levels m
    fine_halved m levels one h = subst (λ (x : ℕ). IsHalved (extent_of s) x levels m) (sym one) h

    fine_room : block ≡ 1 → block_room block (length s.nodes) ≡ 0
    fine_room one = ap (λ (x : ℕ). block_room x (length s.nodes)) one

    fine_toggles : (levels : ℕ) → block ≡ 1 → toggles_at block levels ≡ 3 ^ levels
    fine_toggles levels one = ap (λ (x : ℕ). toggles_at x levels) one ∙ toggles_at-fine levels

    gates_is : start.budget.gates ≡ b.gates
    gates_is = ap (λ (x : BudgetView). x.gates) start_budget

    whole_prices : (price : SumView → ℕ) → prices price start.graph 0 (length outputs) ≡ sum_by price s.nodes
    whole_prices price =
        ap (λ (x : SumGraphView). prices price x 0 (length outputs)) start_graph ∙ ap (prices price s 0) begin.count ∙ prices_all price s

    start_ccx : ccx_in start.gates ≡ 0
    start_ccx = ap (λ (f : ForwardView). ccx_in f.gates) begin.is

    nodes_is : length start.graph.nodes ≡ length s.nodes
    nodes_is = ap (λ (x : SumGraphView). length x.nodes) start_graph

    pub rise_refused : (e : PlanFault) → IsRiseFault start block 0 outputs e → IsPebblingFault s block b e
    unfolding reach
    rise_refused (Lines need) fault =
        let every : HasNoLineEach s b = omega (arith, fault.change.need.1, work_is, nodes_is) in (
          every,
          (
            record {
              halved = λ m levels h.
                  let short = fault.change.short levels m.width (is_in (sum_output_nodes s)) (covered m levels h) allows_outputs in
                  omega (arith, short, work_is, reach_fits m levels h.within.light, block_fits m levels h, h.within.inputs, h.within.outputs);
              fine = λ m levels one h.
                  let cover = covered m levels (fine_halved m levels one h) in
                  let short = fault.change.short levels m.width (is_in (sum_output_nodes s)) cover allows_outputs in
                  omega (arith, short, work_is, reach_fits m levels h.within.light, fine_room one, h.within.inputs, h.within.outputs);
              plain = λ low. every;
            },
            fault.change.need.0 ∙ ap (λ (x : BudgetView). x.lines + 1) start_budget ∙ sym wanted_is,
          ),
        )
    rise_refused Gates fault = record {
      halved = λ m levels h.
          let short = fault.change.short levels m.width (is_in (sum_output_nodes s)) (covered m levels h) allows_outputs (start_light h.within.light) in
          omega (arith, short, gates_is, start_weight, toggles_at-gates block levels some);
      fine = λ m levels one h.
          let cover = covered m levels (fine_halved m levels one h) in
          let short = fault.change.short levels m.width (is_in (sum_output_nodes s)) cover allows_outputs (start_light h.within.light) in
          omega (arith, short, gates_is, start_weight, fine_toggles levels one);
      plain = λ low.
          let heavy = (fault.plain (omega (arith, low, begin.count))).heavy in
          omega (arith, heavy, gates_is, start_weight, whole_prices toggle_weight);
    }
    rise_refused (Memory _) fault = room

    -- ---- planned

    module _ (f : ForwardView) (risen : IsRisen start block 0 outputs f) where
      f_graph : f.graph ≡ s
      f_graph = risen.thrifty.graph ∙ start_graph

      outputs_is : length f.graph.outputs ≡ length s.outputs
      outputs_is = ap (λ (x : SumGraphView). length x.outputs) f_graph

      first_is : first_work f.graph ≡ first_work s
      first_is = ap first_work f_graph

      f_gates : f.budget.gates ≡ b.gates
      f_gates = ap (λ (x : BudgetView). x.gates) risen.thrifty.budget ∙ gates_is

      output_held : (k : ℕ) → k < length s.nodes → sum_last_use s k ≡ length s.nodes → is_held f.lines k ≡ true
      output_held k low is =
          ap (is_held f.lines) (sym (zero-add k))
          ∙ risen.inside k (begin.marked k low ∙ le-leb (length s.nodes) (sum_last_use s k) (omega (arith, is)))

      pub plan_ready : AllByRecursion (IsReadySum f.lines) f.graph.outputs
      plan_ready = subst (λ (x : SumGraphView). AllByRecursion (IsReadySum f.lines) x.outputs) (sym f_graph) (ready_outputs s f.lines settled output_held)

      halved_move : (m : Measures) (levels : ℕ) → IsHalved (extent_of s) block levels m → IsMove start (reach m levels) (toggles_at block levels) f
      unfolding reach
      halved_move m levels h = risen.thrifty.move levels m.width (is_in (sum_output_nodes s)) (covered m levels h) allows_outputs

      plain_move : length s.nodes ≤ block → IsPlain start 0 (length outputs) f
      plain_move low = risen.plain (omega (arith, low, begin.count))

      f_light : IsLight s → IsLight f.graph
      f_light light = subst IsLight (sym f_graph) light

      finished_few : IsLight s → finished_weight f ≤ 2 * weight_in f.gates + length s.outputs
      finished_few light = omega (arith, light_copies f.graph.outputs (f_light light).outputs, outputs_is)

      finished_plain : length s.nodes ≤ block → finished_weight f ≤ plain_weight s
      finished_plain low =
          let paid = (plain_move low).paid weight_of toggle_weight weight_price in
          let outputs_weigh = ap (λ (x : SumGraphView). sum_by toggle_weight x.outputs) f_graph in
          omega (arith, paid, start_weight, whole_prices toggle_weight, outputs_weigh)

      pub plan_products : HasFewProducts s block (planned_of f)
      plan_products = record {
        plain = λ low.
            let paid = (plain_move low).paid ccx_of (λ (x : SumView). length x.products) ccx_price in
            let outputs_have = ap (λ (x : SumGraphView). products_in x.outputs) f_graph in
            let all = ccx_finished f in
            omega (arith, all, paid, start_ccx, whole_prices (λ (x : SumView). length x.products), outputs_have);
      }

      -- some width and some levels always serve
      some_move : IsMove start (reach_of start block (length outputs) (length start.graph.nodes) (λ k. true)) (toggles_at block (length outputs)) f
      some_move =
          risen.thrifty.move (length outputs) (length start.graph.nodes) (λ k. true)
          (record { cuts = λ j low. some_cut start.graph (length start.graph.nodes) j low; enough = some_level block (length outputs) some })
          (everything start 0 outputs)

      pub plan_lines : HasLineEach s (planned_of f)
      plan_lines = record { few = omega (arith, some_move.few (omega (arith, start_most)), first_is, nodes_is) }

      pub plan_narrow : AreNarrow (finished_gates f)
      plan_narrow =
          narrow_toggles.finished f (some_move.narrow (ap_narrow start s b (replicate (length s.nodes) None) begin.is))

      gates_few : weight_in (finished_gates f) ≡ finished_weight f → length (finished_gates f) ≤ finished_weight f
      gates_few weighs = omega (arith, length-le-weight (finished_gates f), weighs)

      pub plan_few : weight_in (finished_gates f) ≡ finished_weight f → IsWithinBlock s block (planned_of f)
      plan_few weighs = record {
        halved = λ m levels h.
            let move = halved_move m levels h in
            let most = move.most in
            let weight = move.weight (start_light h.within.light) in (
              omega (arith, most, start_most, first_is, reach_fits m levels h.within.light, block_fits m levels h, h.within.inputs, h.within.outputs),
              omega (arith, weight, start_weight, gates_few weighs, finished_few h.within.light, toggles_at-gates block levels some, h.within.outputs),
            );
        fine = λ m levels one h.
            let move = halved_move m levels (fine_halved m levels one h) in
            let most = move.most in
            let weight = move.weight (start_light h.within.light) in (
              omega (arith, most, start_most, first_is, reach_fits m levels h.within.light, fine_room one, h.within.inputs, h.within.outputs),
              omega (arith, weight, start_weight, gates_few weighs, finished_few h.within.light, fine_toggles levels one, h.within.outputs),
            );
        plain = λ low.
            let most = (plain_move low).move.most in (
              omega (arith, most, start_most, first_is, nodes_is),
              omega (arith, gates_few weighs, finished_plain low),
            );
      }

      pub finish_refused : (e : PlanFault) → IsFinishFault f e → IsPebblingFault s block b e
      finish_refused (Lines need) fault = absurd fault
      finish_refused Gates fault = record {
        halved = λ m levels h.
            let move = (halved_move m levels h).weight (start_light h.within.light) in
            omega (arith, fault, f_gates, finished_few h.within.light, move, start_weight, toggles_at-gates block levels some, h.within.outputs);
        fine = λ m levels one h.
            let move = (halved_move m levels (fine_halved m levels one h)).weight (start_light h.within.light) in
            omega (arith, fault, f_gates, finished_few h.within.light, move, start_weight, fine_toggles levels one, h.within.outputs);
        plain = λ low. omega (arith, fault, f_gates, finished_plain low);
      }
      finish_refused (Memory _) fault = room

-- what is said of a finished plan, where there is one
pub of_finished : (r : Result PlannedView PlanFault) (f : ForwardView) (Q : PlannedView → Type 0) → IfOk r (λ planned. planned ≡ planned_of f)
    → IfOk r (λ planned. weight_in planned.circuit.gates ≡ finished_weight f)
    → (weight_in (finished_gates f) ≡ finished_weight f → Q (planned_of f)) → IfOk r Q
of_finished (Ok x) f Q is weighs q = subst Q (sym is) (q (subst (λ (p : PlannedView). weight_in p.circuit.gates ≡ finished_weight f) is weighs))
of_finished (Err e) f Q is weighs q = tt
