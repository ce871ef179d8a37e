use Rattle.std.proofs.Common.{take, drop, refl, ◌∙◌}
use Rattle.std.proofs.lemmas.Result.{on_ok_weaker}
use Rattle.gate_split.specs.Split.{first_half}
use Rattle.gate_split.proofs.WideLemmas.{halves_of, second_goes, first_goes, halves_put, front_below, back_below}
use Rattle.gate_split.proofs.wide.push_halves.Goals as goal

pub push_among-requires-clause-below : goal.push_among-requires-clause-below
push_among-requires-clause-below c =
    let s = halves_of c.args.marks.now c.args.flip.controls.now c.args.flip.target c.args.idle c.requires.gate c.requires.below c.requires.apart in
    let h = first_half c.args.flip.controls.now in
    front_below c.args.marks.now c.args.marks.now (take h c.args.flip.controls.now) (drop h c.args.flip.controls.now) c.split_at.result.0.now c.args.flip.target
    c.args.idle s c.split_at.ensures.front refl

pub push_among-requires-clause-serves : goal.push_among-requires-clause-serves
push_among-requires-clause-serves c =
    let s = halves_of c.args.marks.now c.args.flip.controls.now c.args.flip.target c.args.idle c.requires.gate c.requires.below c.requires.apart in
    (second_goes c.args.marks.now c.args.flip.controls.now c.split_at.result.0.now c.split_at.result.1.now c.deref.result.now c.args.flip.target c.args.idle s
    c.split_at.ensures.front c.split_at.ensures.back (c.deref.ensures.value ∙ c.in_ok-with_idle.ensures) c.requires.four).0

pub push_among-requires-clause-enough : goal.push_among-requires-clause-enough
push_among-requires-clause-enough c =
    let s = halves_of c.args.marks.now c.args.flip.controls.now c.args.flip.target c.args.idle c.requires.gate c.requires.below c.requires.apart in
    (second_goes c.args.marks.now c.args.flip.controls.now c.split_at.result.0.now c.split_at.result.1.now c.deref.result.now c.args.flip.target c.args.idle s
    c.split_at.ensures.front c.split_at.ensures.back (c.deref.ensures.value ∙ c.in_ok-with_idle.ensures) c.requires.four).1

pub push_among-requires-2-clause-below : goal.push_among-requires-2-clause-below
push_among-requires-2-clause-below c =
    let s = halves_of c.args.marks.now c.args.flip.controls.now c.args.flip.target c.args.idle c.requires.gate c.requires.below c.requires.apart in
    let h = first_half c.args.flip.controls.now in
    rw c.push_among.ensures.same (back_below c.args.marks.now (take h c.args.flip.controls.now) (drop h c.args.flip.controls.now) c.split_at.result.1.now
    c.args.flip.target c.args.idle s c.split_at.ensures.back)

pub push_among-requires-2-clause-serves : goal.push_among-requires-2-clause-serves
push_among-requires-2-clause-serves c =
    let s = halves_of c.args.marks.now c.args.flip.controls.now c.args.flip.target c.args.idle c.requires.gate c.requires.below c.requires.apart in
    (first_goes c.args.marks.now c.push_among.new.marks c.args.flip.controls.now c.split_at.result.0.now c.split_at.result.1.now c.args.flip.target c.args.idle
    s c.split_at.ensures.front c.split_at.ensures.back c.push_among.ensures.same c.requires.four).0

pub push_among-requires-2-clause-enough : goal.push_among-requires-2-clause-enough
push_among-requires-2-clause-enough c =
    let s = halves_of c.args.marks.now c.args.flip.controls.now c.args.flip.target c.args.idle c.requires.gate c.requires.below c.requires.apart in
    (first_goes c.args.marks.now c.push_among.new.marks c.args.flip.controls.now c.split_at.result.0.now c.split_at.result.1.now c.args.flip.target c.args.idle
    s c.split_at.ensures.front c.split_at.ensures.back c.push_among.ensures.same c.requires.four).1

pub returns-clause-made : goal.returns-clause-made
returns-clause-made c =
    on_ok_weaker c.push_among-2.result (λ e. halves_put c.args.marks.now c.push_among.new.marks c.args.flip.controls.now c.split_at.result.0.now
    c.split_at.result.1.now c.deref.result.now c.args.flip.target c.args.idle c.args.gates.now.items c.push_among.new.gates.items c.push_among-2.new.gates.items
    c.split_at.ensures.front c.split_at.ensures.back (c.deref.ensures.value ∙ c.in_ok-with_idle.ensures) c.push_among.ensures.same
    c.in_ok-push_among.ensures.made e) c.push_among-2.ensures.made

pub returns-clause-same : goal.returns-clause-same
returns-clause-same c = c.push_among-2.ensures.same ∙ c.push_among.ensures.same

pub returns-in_err-push_among-clause-same : goal.returns-in_err-push_among-clause-same
returns-in_err-push_among-clause-same c = c.push_among.ensures.same
