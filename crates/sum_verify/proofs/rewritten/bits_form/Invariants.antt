use Rattle.std.proofs.Common.{◌≡◌, take}
use Rattle.sum_verify.specs.inside.Rewritten.{IsHeldBits}
use Rattle.sum_verify.proofs.rewritten.bits_form.Given as goal

abbrev pub invariant-loop-base : goal.invariant-loop-base
invariant-loop-base l =
    (l.products ≡ l.initial.products) × IsHeldBits l.initial.products l.lines l.nodes (take l.base-index l.bits) l.one l.form
