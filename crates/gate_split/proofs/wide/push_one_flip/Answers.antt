use Rattle.std.proofs.Common.{◌++◌, ◌∷◌, [], ap, ◌∙◌}
use Rattle.gate_split.proofs.wide.push_one_flip.Goals as goal

pub returns : goal.returns
returns c = c.in_ok-push.ensures.items ∙ ap (λ g. c.args.gates.now.items ++ g ∷ []) c.in_ok-flip.ensures
