use Rattle.std.proofs.Common.{subst}
use Rattle.decision_diagram.specs.Diagrams.{AreOrdered}
use Rattle.decision_diagram.proofs.ValueLemmas.{function-agree}
use Rattle.decision_diagram.proofs.GrowthLemmas.{nodes_go_on}
use Rattle.decision_diagram.proofs.DistinctLemmas.{distinct_functions}
use Rattle.decision_diagram.proofs.RestrictionLemmas.{inner_varies, holds_all}
use Rattle.decision_diagram.proofs.diagram.canonical.Goals as goal

pub returns : goal.returns
returns c = record {
  nodes = λ d canonical newer older node is a. (let ordered = subst (AreOrdered d.vars) is canonical.ordered in
      rw is (nodes_go_on d.vars newer older node a ordered));
  distinct = λ d canonical m n known_m known_n same. distinct_functions d.vars d.nodes canonical.ordered m n known_m known_n same;
  inner = λ d canonical n inner known. inner_varies d.vars d.nodes canonical.ordered n inner known;
  asks = λ d canonical n known a b agree. function-agree d.vars d.nodes canonical.ordered n known a b (λ i from below. agree i below);
  held = λ d canonical n known. holds_all d.vars d.nodes canonical.ordered n known;
}
