use Rattle.std.proofs.Common.{codes, rules}
use Rattle.arith_templates.specs.Adder.{adder_opening, place}
use Rattle.arith_templates.specs.Ripples.{outputs}
use Rattle.arith_templates.proofs.adder.adder_text.Goals as goal

pub returns : goal.returns
returns c = c.ripple_text.ensures adder_opening (place (codes "a") (codes "b")) (outputs (codes "s")) (search rules) (search rules) (search rules)
