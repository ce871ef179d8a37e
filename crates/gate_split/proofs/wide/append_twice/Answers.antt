use Rattle.std.proofs.Common.{◌++◌, ap, ◌∙◌}
use Rattle.gate_split.proofs.wide.append_twice.Goals as goal

pub returns : goal.returns
returns c = c.in_ok-append.ensures.items ∙ ap (λ l. l ++ c.args.once.now.items) (c.in_ok-push_copies.ensures
    ∙ ap (λ l. c.args.gates.now.items ++ l) c.deref.ensures.value)
