use Rattle.std.proofs.Common.{◌≡◌, ◌≤◌, ◌-◌, length, take, true}
use Rattle.std.specs.List.{AllByRecursion}
use Rattle.flip_lists.specs.Flips.{is_cx}
use Rattle.circuit_tidy.specs.inside.Walking.{AreTouched}
use Rattle.circuit_tidy.proofs.blocks.block_of.Given as goal

abbrev pub invariant-block : goal.invariant-block
invariant-block l =
    (l.length ≤ length l.flips) × AllByRecursion (λ flip. is_cx flip ≡ true) (take l.length l.flips) × AreTouched (take l.length l.flips) l.lines.items
    × (length l.lines.items ≤ 64)

abbrev pub decreases-block : goal.decreases-block
decreases-block l = length l.flips - l.length
