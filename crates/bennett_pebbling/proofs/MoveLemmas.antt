-- Moves one after another, and within other numbers.
use Rattle.std.proofs.Common.{◌≡◌, ℕ, ◌+◌, ◌<◌, ◌≤◌, Bool, true, false, length, ◌∙◌, sym, ap, subst, refl, arith}
use Rattle.circuit_plans.specs.declared.plan.PlanFault.{PlanFault}
use Rattle.circuit_plans.specs.declared.plan.PlanFault.TheVariants.{Lines, Gates, Memory}
use Rattle.circuit_plans.specs.Plans.{BudgetView}
use Rattle.sum_graph.specs.Graphs.{SumGraphView}
use Rattle.held_nodes.specs.Held.{ForwardView, work_lines}
use Rattle.bennett_pebbling.specs.Pebbling.{IsLight}
use Rattle.mct_circuit.specs.Sizes.{weight_in}
use Rattle.bennett_pebbling.specs.inside.Costs.{HasNeed, IsHeavy, IsMove, IsMoveFault, IsShort, price_if}

-- nothing is moved
pub no_move : (f : ForwardView) (reach toggles : ℕ) → IsMove f reach toggles f
no_move f reach toggles = record {
  graph = refl;
  budget = refl;
  most = omega arith;
  few = λ low. low;
  weight = λ light. omega arith;
  narrow = λ n. n;
}

pub move-weaker : (f next : ForwardView) (reach more toggles larger : ℕ) → reach ≤ more → toggles ≤ larger
    → IsMove f reach toggles next → IsMove f more larger next
move-weaker f next reach more toggles larger low few m = record {
  graph = m.graph;
  budget = m.budget;
  most = omega (arith, m.most, low);
  few = m.few;
  weight = λ light. omega (arith, m.weight light, few);
  narrow = m.narrow;
}

-- one move after another, both within the reach
pub move-then : (f mid next : ForwardView) (reach first second : ℕ) → IsMove f reach first mid → IsMove mid reach second next
    → IsMove f reach (first + second) next
move-then f mid next reach first second m n = record {
  graph = n.graph ∙ m.graph;
  budget = n.budget ∙ m.budget;
  most = omega (arith, m.most, n.most);
  few = λ low.
      let nodes : length mid.graph.nodes ≡ length f.graph.nodes = ap (λ (s : SumGraphView). length s.nodes) m.graph in
      let there = n.few (omega (arith, m.few low, nodes)) in
      omega (arith, there, nodes);
  weight = λ light. omega (arith, m.weight light, n.weight (subst IsLight (sym m.graph) light));
  narrow = λ narrow. n.narrow (m.narrow narrow);
}

pub short-weaker : (f : ForwardView) (reach more toggles larger : ℕ) (e : PlanFault) → reach ≤ more → toggles ≤ larger
    → IsShort f reach toggles e → IsShort f more larger e
short-weaker f reach more toggles larger (Lines need) low few s = omega (arith, s, low)
short-weaker f reach more toggles larger Gates low few s = λ light. omega (arith, s light, few)
short-weaker f reach more toggles larger (Memory _) low few s = tt

same_work : (s t : SumGraphView) (b c : BudgetView) → s ≡ t → b ≡ c → work_lines s b ≡ work_lines t c
same_work s t b c e d = ap (λ (x : SumGraphView). work_lines x b) e ∙ ap (λ (x : BudgetView). work_lines t x) d

pub need-then : (f mid : ForwardView) (e : PlanFault) → mid.graph ≡ f.graph → mid.budget ≡ f.budget → HasNeed mid e → HasNeed f e
need-then f mid (Lines need) alike same h =
    let work = same_work mid.graph f.graph mid.budget f.budget alike same in
    let nodes = ap (λ (s : SumGraphView). length s.nodes) alike in (
      h.0 ∙ ap (λ (b : BudgetView). b.lines + 1) same,
      omega (arith, h.1, work, nodes),
    )
need-then f mid Gates alike same h = tt
need-then f mid (Memory _) alike same h = tt

-- a move that falls short after another
pub short-then : (f mid : ForwardView) (reach first second : ℕ) (e : PlanFault) → IsMove f reach first mid → IsShort mid reach second e
    → IsShort f reach (first + second) e
short-then f mid reach first second (Lines need) m s =
    let same : work_lines mid.graph mid.budget ≡ work_lines f.graph f.budget = same_work mid.graph f.graph mid.budget f.budget m.graph m.budget in
    subst (λ (n : ℕ). n < reach) same s
short-then f mid reach first second Gates m s =
    let same : mid.budget.gates ≡ f.budget.gates = ap (λ (b : BudgetView). b.gates) m.budget in
    λ light. omega (arith, s (subst IsLight (sym m.graph) light), m.weight light, same)
short-then f mid reach first second (Memory _) m s = tt

pub fault-weaker : (f : ForwardView) (reach more toggles larger : ℕ) (e : PlanFault) → reach ≤ more → toggles ≤ larger
    → IsMoveFault f reach toggles e → IsMoveFault f more larger e
fault-weaker f reach more toggles larger e low few s = record {
  need = s.need;
  short = short-weaker f reach more toggles larger e low few s.short;
}

pub fault-then : (f mid : ForwardView) (reach first second : ℕ) (e : PlanFault) → IsMove f reach first mid → IsMoveFault mid reach second e
    → IsMoveFault f reach (first + second) e
fault-then f mid reach first second e m s = record {
  need = need-then f mid e m.graph m.budget s.need;
  short = short-then f mid reach first second e m s.short;
}

pub heavy-weaker : (f : ForwardView) (weight more : ℕ) (e : PlanFault) → weight ≤ more → IsHeavy f weight e → IsHeavy f more e
heavy-weaker f weight more (Lines need) le h = tt
heavy-weaker f weight more Gates le h = omega (arith, h, le)
heavy-weaker f weight more (Memory _) le h = tt

pub price_if-most : (turn : Bool) (price : ℕ) → price_if turn price ≤ price
price_if-most true price = omega arith
price_if-most false price = omega arith

-- gates that are too heavy behind others
pub heavy-then : (f mid : ForwardView) (first second : ℕ) (e : PlanFault) → mid.budget ≡ f.budget → weight_in mid.gates ≤ weight_in f.gates + first
    → IsHeavy mid second e → IsHeavy f (first + second) e
heavy-then f mid first second (Lines need) same le h = tt
heavy-then f mid first second Gates same le h =
    let gates : mid.budget.gates ≡ f.budget.gates = ap (λ (b : BudgetView). b.gates) same in
    omega (arith, h, le, gates)
heavy-then f mid first second (Memory _) same le h = tt
