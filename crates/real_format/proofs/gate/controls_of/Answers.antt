use Rattle.std.proofs.Common.{◌≡◌, length, sym, ◌∙◌, arith}
use Rattle.real_format.proofs.StampLemmas.{controls_end}
use Rattle.real_format.proofs.gate.controls_of.Goals as goal

pub returns-clause-ok : goal.returns-clause-ok
returns-clause-ok c =
    let few = c.controls.invariant.few in
    let all : length c.controls.controls.items ≡ c.args.wanted = omega arith in
    sym c.controls.invariant.left ∙ controls_end c.args.names.now c.args.wanted c.controls.controls.items c.controls.words all
