use Rattle.std.proofs.Common.{◌∙◌}
use Rattle.revs_tape.proofs.tape.Tape.end.Goals as goal

pub returns : goal.returns
returns c =
    let met = rw (c.claims.ensures.claims, c.requires) at c.in_default.ensures.none in
    let outputs = rw (c.outputs.ensures.outputs, c.requires) at c.in_ok-outputs.ensures in
    (met, c.new.ensures ∙ outputs)
