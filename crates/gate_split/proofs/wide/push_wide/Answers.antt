use Rattle.std.proofs.Common.{◌≡◌, ◌-◌, [], ◌∷◌, ◌++◌, length, get_or, Some, sym, ap, ◌∙◌, arith}
use Rattle.std.proofs.lemmas.Result.{on_ok_weaker}
use Rattle.gate_split.specs.inside.Idle.{Serves}
use Rattle.gate_split.specs.Split.{idle_lines, behind, first_flips, second_flips}
use Rattle.gate_split.proofs.EffectLemmas.{idle_serves, serves_take}
use Rattle.gate_split.proofs.WideLemmas.{rungs_differ, positive_over, positive_halves, first_idle_apart, put_twice}
use Rattle.gate_split.proofs.wide.push_wide.Goals as goal

pub push_over_idle-requires-clause-different : goal.push_over_idle-requires-clause-different
push_over_idle-requires-clause-different c =
    let s : Serves c.args.marks.now c.args.flip.controls.now c.args.flip.target c.args.idle.now =
    rw c.requires.found (serves_take c.args.marks.now c.args.flip.controls.now c.args.flip.target (length c.args.flip.controls.now - 2)
    (idle_lines c.args.marks.now (c.args.flip.controls.now ++ c.args.flip.target ∷ []))
    (idle_serves c.args.marks.now c.args.flip.controls.now c.args.flip.target c.requires.gate)) in
    rungs_differ c.args.marks.now c.args.flip.controls.now c.args.flip.target c.args.idle.now s (omega arith)

pub returns-then-idle-flip-clause-split : goal.returns-then-idle-flip-clause-split
returns-then-idle-flip-clause-split c =
    on_ok_weaker c.push_over_idle.result (λ e. ap (behind c.args.gates.now.items) (positive_over c.args.marks.now c.args.flip.controls.now c.args.flip.target
    c.args.idle.now c.requires.wide c.requires.found c.if-idle-flip.true) ∙ ap Some (sym e)) c.push_over_idle.ensures

pub push_halves-requires-clause-below : goal.push_halves-requires-clause-below
push_halves-requires-clause-below c = (first_idle_apart c.args.marks.now c.args.flip.controls.now c.args.flip.target c.args.idle.now c.requires.gate
    c.requires.wide c.requires.found c.requires.some).0

pub push_halves-requires-clause-apart : goal.push_halves-requires-clause-apart
push_halves-requires-clause-apart c = (first_idle_apart c.args.marks.now c.args.flip.controls.now c.args.flip.target c.args.idle.now c.requires.gate
    c.requires.wide c.requires.found c.requires.some).1

pub returns-clause-split : goal.returns-clause-split
returns-clause-split c =
    let n = c.args.marks.now in
    let first = get_or c.args.idle.now 0 0 in
    let both = second_flips n c.args.flip.controls.now c.args.flip.target first ++ first_flips n c.args.flip.controls.now c.args.flip.target first in
    let once : c.push_halves.new.gates.items ≡ both = c.in_ok-push_halves.ensures.made ∙ ap (λ l. l ++ both) c.new-once.ensures.items in
    on_ok_weaker c.append_twice.result (λ e. ap (behind c.args.gates.now.items) (positive_halves n c.args.flip.controls.now c.args.flip.target c.args.idle.now
    c.requires.wide c.requires.found c.if-idle-flip.false c.requires.some)
    ∙ ap Some (sym (put_twice c.args.gates.now.items c.push_halves.new.gates.items both c.append_twice.new.gates.items once e))) c.append_twice.ensures
