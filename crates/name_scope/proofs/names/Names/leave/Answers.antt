use Rattle.std.proofs.Common.{◌≡◌, ◌∙◌, ap, drop, length, arith, refl}
use Rattle.name_scope.proofs.TableLemmas.{names-length, drop_one}
use Rattle.name_scope.proofs.names.Names.leave.Goals as goal

pub loop-preserved : goal.loop-preserved
loop-preserved c = c.unbind.ensures ∙ ap (drop 1) c.loop.invariant ∙ drop_one c.args.self.now c.loop.counter c.args.depth (omega arith)

pub returns : goal.returns
returns c =
    let len = names-length c.self.inside.bound.items in
    let view = ap length c.self.view_is in
    let end : c.loop.counter ≡ length c.args.self.now = omega (arith, len, view, c.len-end.ensures) in
    c.loop.invariant ∙ rw end refl
