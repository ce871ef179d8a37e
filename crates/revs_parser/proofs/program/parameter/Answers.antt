use Rattle.revs_parser.proofs.ProgramLemmas.{one_parameter}
use Rattle.revs_parser.proofs.program.parameter.Goals as goal

pub returns : goal.returns
returns c =
    one_parameter c.in_ok-width.width c.in-Some.ensures.found c.in_ok-name.ensures.ok c.in_ok-rest.ensures.ok c.in_ok-rest-2.ensures.ok c.in_ok-width.ensures.ok
