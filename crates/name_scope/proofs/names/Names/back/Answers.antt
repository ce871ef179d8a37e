use Rattle.std.proofs.Common.{◌≡◌, ◌∙◌, sym, arith, length, reverse}
use Rattle.name_scope.proofs.TableLemmas.{nowhere, somewhere}
use Rattle.name_scope.proofs.names.Names.back.Goals as goal

pub returns-in_err-depth : goal.returns-in_err-depth
returns-in_err-depth c =
    let was = c.in_err-depth.was in
    let r = c.from_residual.ensures in
    let n = sym (c.self.invariant.1 c.args.name.now) ∙ sym c.nearest_depth.ensures in
    rw (sym c.self.view_is) (r ∙ nowhere c.args.name.now (reverse c.self.inside.bound.items) (n ∙ was))

pub overflow_sub-result-2 : goal.overflow_sub-result-2
overflow_sub-result-2 c =
    let n = sym (c.self.invariant.1 c.args.name.now) ∙ sym c.nearest_depth.ensures ∙ c.in_ok-depth.was {u = tt} in
    omega (arith, c.len.ensures, (somewhere c.args.name.now c.self.inside.bound.items c.in_ok-depth.depth n).0)

pub returns : goal.returns
returns c =
    let n = sym (c.self.invariant.1 c.args.name.now) ∙ sym c.nearest_depth.ensures ∙ c.in_ok-depth.was {u = tt} in
    let len : c.len.result ≡ length c.self.inside.bound.items = omega (arith, c.len.ensures) in
    rw (sym c.self.view_is) (rw len (somewhere c.args.name.now c.self.inside.bound.items c.in_ok-depth.depth n).1)
