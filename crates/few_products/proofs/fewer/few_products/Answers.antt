use Rattle.std.proofs.Common.{IfSome, Option, subst}
use Rattle.sum_graph.specs.Graphs.{SumGraphView}
use Rattle.few_products.specs.inside.Rewriting.{IsRewritten}
use Rattle.few_products.proofs.fewer.few_products.Goals as goal
use Rattle.few_products.proofs.fewer.few_products.Goals.{Then-has_fewer}

is_rewritten : (c : goal.Then-has_fewer) → IsRewritten c.args.graph.now c.in-Some.found
is_rewritten c = subst (λ (found : Option SumGraphView). IfSome found (IsRewritten c.args.graph.now)) c.in-Some.is c.in_ok-found.ensures

pub returns-then-has_fewer-clause-fewer : goal.returns-then-has_fewer-clause-fewer
returns-then-has_fewer-clause-fewer c = record {
  inputs = (is_rewritten (goal.at.returns-then-has_fewer-clause-fewer c).Then-has_fewer).inputs;
  outputs = (is_rewritten (goal.at.returns-then-has_fewer-clause-fewer c).Then-has_fewer).outputs;
  values = (is_rewritten (goal.at.returns-then-has_fewer-clause-fewer c).Then-has_fewer).values;
  products = c.has_fewer.ensures c.if-has_fewer.true;
}

pub returns-then-has_fewer-clause-keeps : goal.returns-then-has_fewer-clause-keeps
returns-then-has_fewer-clause-keeps c = (is_rewritten (goal.at.returns-then-has_fewer-clause-keeps c).Then-has_fewer).keeps
