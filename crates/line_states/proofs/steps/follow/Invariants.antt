use Rattle.std.proofs.Common.{◌≡◌, drop}
use Rattle.line_states.specs.States.{begun}
use Rattle.line_states.specs.Steps.{took_all}
use Rattle.line_states.proofs.steps.follow.Given as goal

abbrev pub invariant-loop-step : goal.invariant-loop-step
invariant-loop-step l =
    (took_all l.states (drop l.step-index l.steps) ≡ took_all (begun l.graph l.budget l.fn.start) l.steps)
    × (l.states.graph ≡ l.graph)
    × (l.states.budget ≡ l.budget)
    × (l.states.start ≡ l.fn.start)
