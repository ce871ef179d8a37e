use Rattle.std.proofs.Common.{◌++◌, length, ap, ◌∙◌}
use Rattle.std.proofs.lemmas.Result.{on_ok_weaker}
use Rattle.gate_split.specs.Split.{in_falling_order, with_enough_idle}
use Rattle.gate_split.proofs.EffectLemmas.{serves_take}
use Rattle.gate_split.proofs.WideLemmas.{at_most, same_cut}
use Rattle.gate_split.proofs.wide.push_among.Goals as goal

pub falling_lines-requires : goal.falling_lines-requires
falling_lines-requires c = c.requires.below

pub push_enough-requires-clause-serves : goal.push_enough-requires-clause-serves
push_enough-requires-clause-serves c =
    let lines = in_falling_order c.args.marks.now (c.args.front.now ++ c.args.back.now) in (
      c.args.marks.now,
      rw (c.deref.ensures.value, c.in_ok-idle.ensures.found) (serves_take c.args.marks.now c.args.flip.controls.now c.args.flip.target
          (length c.args.flip.controls.now) lines c.requires.serves),
    )

pub push_enough-requires-clause-enough : goal.push_enough-requires-clause-enough
push_enough-requires-clause-enough c =
    rw (c.deref.ensures.value, c.in_ok-idle.ensures.found) (at_most (length c.args.flip.controls.now)
    (in_falling_order c.args.marks.now (c.args.front.now ++ c.args.back.now)) c.requires.enough)

pub returns-clause-made : goal.returns-clause-made
returns-clause-made c =
    on_ok_weaker c.push_enough.result (λ e. e ∙ ap (λ l. c.args.gates.now.items ++ l) (ap (with_enough_idle c.args.flip.controls.now c.args.flip.target)
    (c.deref.ensures.value ∙ c.in_ok-idle.ensures.found)
    ∙ same_cut c.args.flip.controls.now c.args.flip.target (in_falling_order c.args.marks.now (c.args.front.now ++ c.args.back.now)))) c.push_enough.ensures

pub returns-clause-same : goal.returns-clause-same
returns-clause-same c = c.falling_lines.ensures.same
