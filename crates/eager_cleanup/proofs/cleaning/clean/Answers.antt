use Rattle.std.proofs.Common.{sym, ◌∙◌}
use Rattle.std.proofs.lemmas.Result.{IfErr-weaker}
use Rattle.held_nodes.specs.Held.{IsForward}
use Rattle.held_nodes.specs.Moves.{IsToggled, IsToggleFault}
use Rattle.eager_cleanup.specs.inside.Sweeps.{IsCleaned, IsCleaningFault}
use Rattle.eager_cleanup.proofs.CleaningLemmas.{both_ok, toggled_back, toggle_back_fault}
use Rattle.eager_cleanup.proofs.SweepLemmas.{operands_in_plain, ready_plain}
use Rattle.eager_cleanup.proofs.cleaning.clean.Goals as goal

pub are_ready-requires : goal.are_ready-requires
are_ready-requires c =
    operands_in_plain c.args.graph.now c.args.forward.graph c.args.k c.node.result c.requires.settled c.requires.graph c.node.ensures

pub toggle-requires : goal.toggle-requires
toggle-requires c =
    ready_plain c.args.graph.now c.args.forward.graph c.args.forward.lines c.args.k c.node.result c.requires.graph c.node.ensures
    (sym c.are_ready.ensures.ready ∙ c.if-are_ready.true)

pub returns-then-are_ready-clause-ok : goal.returns-then-are_ready-clause-ok
returns-then-are_ready-clause-ok c =
    let f = c.args.forward in
    let k = c.args.k in
    both_ok c.toggle.result (IsToggled f k) IsForward (IsCleaned c.args.value.now f k)
    (λ next toggled forward. toggled_back c.args.graph.now c.args.value.now f next k c.requires.settled c.requires.graph c.requires.keeps forward
    c.requires.held toggled)
    c.toggle.ensures.ok c.toggle.ensures.keeps

pub returns-then-are_ready-clause-refused : goal.returns-then-are_ready-clause-refused
returns-then-are_ready-clause-refused c =
    let f = c.args.forward in
    let k = c.args.k in
    IfErr-weaker c.toggle.result (IsToggleFault f k) (IsCleaningFault c.args.value.now f k)
    (λ fault is. toggle_back_fault c.args.graph.now c.args.value.now f k fault c.requires.graph c.requires.keeps c.requires.held
    (ready_plain c.args.graph.now f.graph f.lines k c.node.result c.requires.graph c.node.ensures (sym c.are_ready.ensures.ready ∙ c.if-are_ready.true))
    is) c.toggle.ensures.refused
