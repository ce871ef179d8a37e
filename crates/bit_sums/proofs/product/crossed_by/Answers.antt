use Rattle.std.proofs.Common.{◌<◌, ◌⊎◌, length, inl, inr, arith, ◌∙◌, ap}
use Rattle.bit_sums.specs.declared.limits.TheConstants.{MOST_FACTOR_BITS}
use Rattle.bit_sums.specs.Bits.{apart}
use Rattle.bit_sums.proofs.JoinLemmas.{long_sums}
use Rattle.bit_sums.proofs.PartLemmas.{crossed_made, factor_of_sum}
use Rattle.bit_sums.proofs.product.crossed_by.Goals as goal
use Rattle.bit_sums.proofs.product.crossed_by.Goals.{then-len-gt-MOST_FACTOR_BITS-via-then-len-gt-MOST_FACTOR_BITS}
use Rattle.bit_sums.proofs.product.crossed_by.Goals.{then-len-gt-MOST_FACTOR_BITS-via-else-len-gt-MOST_FACTOR_BITS+then-len-gt-MOST_FACTOR_BITS-2}

pub multiplied-requires-clause-a : goal.multiplied-requires-clause-a
multiplied-requires-clause-a c =
    rw c.deref.ensures.value
    (factor_of_sum c.args.p.now.first c.args.c.now _ (c.in_ok-left.ensures ∙ ap (λ l. apart l c.args.c.now) c.first.ensures.first)
    c.first.ensures.product.first.rises c.requires.rises (omega arith))

pub multiplied-requires-clause-b : goal.multiplied-requires-clause-b
multiplied-requires-clause-b c =
    rw c.deref-2.ensures.value
    (factor_of_sum c.args.p.now.second c.args.c.now _ (c.in_ok-right.ensures ∙ ap (λ l. apart l c.args.c.now) c.second.ensures.second)
    c.first.ensures.product.second.rises c.requires.rises (omega arith))

pub returns-then-len-gt-MOST_FACTOR_BITS-clause-none : goal.returns-then-len-gt-MOST_FACTOR_BITS-clause-none
returns-then-len-gt-MOST_FACTOR_BITS-clause-none c =
    let long : (MOST_FACTOR_BITS < length c.in_ok-left.left.items) ⊎ (MOST_FACTOR_BITS < length c.in_ok-right.right.items) =
    elim c.then-len-gt-MOST_FACTOR_BITS.branch [
      | then-len-gt-MOST_FACTOR_BITS-via-then-len-gt-MOST_FACTOR_BITS w ↦ inl (omega arith)
      | then-len-gt-MOST_FACTOR_BITS-via-else-len-gt-MOST_FACTOR_BITS+then-len-gt-MOST_FACTOR_BITS-2 w ↦ inr (omega arith)
    ] in
    long_sums c.args.p.now.first c.args.p.now.second c.args.c.now _ _ (c.in_ok-left.ensures ∙ ap (λ l. apart l c.args.c.now) c.first.ensures.first)
    (c.in_ok-right.ensures ∙ ap (λ l. apart l c.args.c.now) c.second.ensures.second) long

pub returns-clause-some : goal.returns-clause-some
returns-clause-some c =
    crossed_made c.args.p.now.first c.args.p.now.second c.args.c.now c.deref.result.now c.deref-2.result.now c.in_ok-bits.field-0.bits.items _ _ c.requires
    (c.deref.ensures.value ∙ c.in_ok-left.ensures ∙ ap (λ l. apart l c.args.c.now) c.first.ensures.first)
    (c.deref-2.ensures.value ∙ c.in_ok-right.ensures ∙ ap (λ l. apart l c.args.c.now) c.second.ensures.second)
    (omega arith) (omega arith) c.in_ok-bits.ensures c.in_ok-extend_from_slice.ensures.items
