use Rattle.std.proofs.Common.{◌∙◌}
use Rattle.name_scope.proofs.NearerLemmas.{none_of, second_more, params_more}
use Rattle.name_scope.proofs.terms.bind_params.Goals as goal

pub loop-param-preserved : goal.loop-param-preserved
loop-param-preserved c =
    let e = c.param-item.is in
    let f = rw e at c.in_ok-bind.ensures in
    let none = rw e at (none_of _ _ _ c.back.ensures c.is_some.ensures c.if-is_some.false) in
    rw f (
      c.loop-param.invariant.0 ∙ second_more c.loop-param.names c.args.params.now c.loop-param.param-index c.param-item.result c.loop-param-test.true
          none,
      params_more c.args.params.now c.loop-param.param-index c.param-item.result c.args.names.now c.loop-param.names c.loop-param-test.true
          c.loop-param.invariant.1,
    )
