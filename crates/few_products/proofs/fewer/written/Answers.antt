use Rattle.std.proofs.Common.{◌≡◌, IfSome, Option, ap, arith, length, subst, sym}
use Rattle.few_products.specs.declared.placing.Written.{Written}
use Rattle.few_products.specs.declared.writing.Outputs.{Outputs}
use Rattle.few_products.specs.inside.Rewriting.{IsRewritten}
use Rattle.few_products.specs.inside.Writing.{HasWritten, IsWhole}
use Rattle.few_products.proofs.RewritingLemmas.{done, graph_of}
use Rattle.few_products.proofs.fewer.written.Goals as goal
use Rattle.few_products.proofs.fewer.written.Goals.{In-Some-2}

is_done : (c : goal.In-Some-2) → IsRewritten c.args.graph.now (graph_of c.args.graph.now.inputs c.in-Some-2.outputs.nodes.items c.in-Some-2.outputs.sums.items)
is_done c =
    let g = c.args.graph.now in
    let Q = λ (w : Written). (w.inputs ≡ c.inputs-inputs.result) × HasWritten c.args.all.now w in
    let are = subst (λ (found : Option Written). IfSome found Q) c.in-Some.is c.in_ok-written.ensures in
    let P = λ (o : Outputs). IsWhole c.in-Some.written.inputs c.args.all.now c.nodes-first.result (length c.outputs.result.now) o.nodes.items o.sums.items in
    let whole = subst (λ (found : Option Outputs). IfSome found P) c.in-Some-2.is c.in_ok-outputs.ensures in
    done g _ _ _ _ _ c.nodes-first.ensures.keeps c.requires c.nodes-first.ensures.nodes (ap length c.outputs.ensures.outputs)
    (omega (arith, c.if-count-eq0.false)) (rw c.inputs-inputs.ensures.inputs at (rw are.0 at whole))

pub new-requires : goal.new-requires
new-requires c = rw c.inputs-inputs.ensures.inputs (is_done (goal.at.new-requires c).In-Some-2).keeps

pub returns : goal.returns
returns c =
    subst (IsRewritten c.args.graph.now) (sym c.in_ok-made.ensures) (rw c.inputs-inputs.ensures.inputs (is_done (goal.at.returns c).In-Some-2))
