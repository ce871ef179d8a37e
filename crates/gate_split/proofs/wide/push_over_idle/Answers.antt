use Rattle.std.proofs.Common.{◌≡◌, ◌+◌, length, reverse, ap, ◌∙◌, arith}
use Rattle.std.proofs.lemmas.List.{length-reverse}
use Rattle.gate_split.proofs.BuildingLemmas.{length-ladder}
use Rattle.gate_split.proofs.wide.push_over_idle.Goals as goal

pub split_at-requires : goal.split_at-requires
split_at-requires c =
    let even : length (reverse c.args.flip.controls.now) ≡ length (reverse c.args.idle.now) + 2 =
    rw (length-reverse c.args.flip.controls.now, length-reverse c.args.idle.now) c.requires.long in
    let long = ap length (c.deref.ensures.value ∙ c.in_ok-rungs.ensures)
    ∙ length-ladder c.args.flip.target (reverse c.args.flip.controls.now) (reverse c.args.idle.now) even in
    omega arith
