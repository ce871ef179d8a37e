use Rattle.std.proofs.Common.{Bool, sym, subst}
use Rattle.std.proofs.lemmas.Result.{IfOk-weaker, IfErr-weaker}
use Rattle.held_nodes.specs.Moves.{IsToggled, IsToggleFault}
use Rattle.bennett_pebbling.specs.inside.Changes.{IsTurned, IsTurnFault}
use Rattle.bennett_pebbling.proofs.TurnLemmas.{turned_over, not_turned_over}
use Rattle.bennett_pebbling.proofs.block.toggle_if.Goals as goal

pub returns-then-turn-clause-turned : goal.returns-then-turn-clause-turned
returns-then-turn-clause-turned c =
    let f = c.args.forward in let k = c.args.node in
    IfOk-weaker c.toggle.result (IsToggled f k) (IsTurned f k c.args.turn)
    (λ next t. subst (λ (b : Bool). IsTurned f k b next) (sym c.if-turn.true) (turned_over f next k t c.requires.keeps c.requires.inside)) c.toggle.ensures.ok

pub returns-then-turn-clause-refused : goal.returns-then-turn-clause-refused
returns-then-turn-clause-refused c =
    let f = c.args.forward in let k = c.args.node in
    IfErr-weaker c.toggle.result (IsToggleFault f k) (IsTurnFault f k c.args.turn)
    (λ e t. subst (λ (b : Bool). IsTurnFault f k b e) (sym c.if-turn.true) (not_turned_over f k e c.requires.keeps c.requires.inside t))
    c.toggle.ensures.refused
