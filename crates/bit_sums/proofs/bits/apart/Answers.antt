use Rattle.std.proofs.Common.{◌⊎◌, ◌≤◌, length, inl, inr, arith}
use Rattle.std.proofs.lemmas.List.{append_assoc, take_rest}
use Rattle.list_facts.proofs.CutLemmas.{made_whole}
use Rattle.bit_sums.proofs.SetLemmas.{left_over}
use Rattle.bit_sums.proofs.bits.apart.Goals as goal
use Rattle.bit_sums.proofs.bits.apart.Goals.{then-loop-i-test+else-j-right, else-loop-i-test}

pub returns : goal.returns
returns c =
    let ended : (length c.args.left.now ≤ c.loop-i.i) ⊎ (length c.args.right.now ≤ c.loop-i.j) =
    elim c.loop-i-test.branch [ then-loop-i-test+else-j-right w ↦ inr (omega arith) | else-loop-i-test w ↦ inl (omega arith) ] in
    rw (
      c.in_ok-extend_from_slice-2.ensures.items,
      c.in_ok-extend_from_slice.ensures.items,
      take_rest c.args.left.now c.loop-i.i,
      take_rest c.args.right.now c.loop-i.j,
      append_assoc,
    ) (made_whole c.loop-i.invariant (left_over c.args.left.now c.args.right.now c.loop-i.i c.loop-i.j ended))
