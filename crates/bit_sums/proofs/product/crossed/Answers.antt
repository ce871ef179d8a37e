use Rattle.std.proofs.Common.{◌≡◌, ◌≢◌, rules}
use Rattle.std.specs.Cmp.Lexicographic.{pointwise_decides}
use Rattle.std.proofs.lemmas.Option.{IfSome_then}
use Rattle.std.proofs.lemmas.Result.{IfOk-weaker}
use Rattle.bit_sums.specs.Bits.{apart}
use Rattle.bit_sums.proofs.JoinLemmas.{none_by_first, none_by_second, none_crossing, none_so}
use Rattle.bit_sums.proofs.PartLemmas.{crossing_by_first, crossing_by_second}
use Rattle.bit_sums.proofs.product.crossed.Goals as goal

pub returns-then-eq-clause-some : goal.returns-then-eq-clause-some
returns-then-eq-clause-some c =
    let same : c.args.q.now.second ≡ c.in_ok-sum.sum.items = search (rules, pointwise_decides, c.if-eq.ensures) in
    let is : c.in_ok-sum.sum.items ≡ apart c.args.p.now.first c.args.p.now.second =
    rw (c.first.ensures.first, c.second.ensures.second) at c.in_ok-sum.ensures in
    IfOk-weaker c.crossed_by.result _ _
    (λ found w. IfSome_then found w
    (λ part x. crossing_by_first c.args.p.now c.args.q.now c.in_ok-sum.sum.items part.bits.items part.product is same x))
    (rw c.first-then-eq.ensures.first at c.crossed_by.ensures.some)

pub returns-then-eq-clause-none : goal.returns-then-eq-clause-none
returns-then-eq-clause-none c =
    let same : c.args.q.now.second ≡ c.in_ok-sum.sum.items = search (rules, pointwise_decides, c.if-eq.ensures) in
    let is : c.in_ok-sum.sum.items ≡ apart c.args.p.now.first c.args.p.now.second =
    rw (c.first.ensures.first, c.second.ensures.second) at c.in_ok-sum.ensures in
    IfOk-weaker c.crossed_by.result _ _
    (λ found. none_so found (none_by_second c.args.p.now c.args.q.now c.in_ok-sum.sum.items c.first-then-eq.ensures.product is same))
    (rw c.first-then-eq.ensures.first at c.crossed_by.ensures.none)

pub returns-then-eq-2-clause-some : goal.returns-then-eq-2-clause-some
returns-then-eq-2-clause-some c =
    let same : c.args.q.now.first ≡ c.in_ok-sum.sum.items = search (rules, pointwise_decides, c.if-eq-2.ensures) in
    let is : c.in_ok-sum.sum.items ≡ apart c.args.p.now.first c.args.p.now.second =
    rw (c.first.ensures.first, c.second.ensures.second) at c.in_ok-sum.ensures in
    IfOk-weaker c.crossed_by-then-eq-2.result _ _
    (λ found w. IfSome_then found w
    (λ part x. crossing_by_second c.args.p.now c.args.q.now c.in_ok-sum.sum.items part.bits.items part.product is same x))
    (rw c.second-then-eq-2.ensures.second at c.crossed_by-then-eq-2.ensures.some)

pub returns-then-eq-2-clause-none : goal.returns-then-eq-2-clause-none
returns-then-eq-2-clause-none c =
    let same : c.args.q.now.first ≡ c.in_ok-sum.sum.items = search (rules, pointwise_decides, c.if-eq-2.ensures) in
    let is : c.in_ok-sum.sum.items ≡ apart c.args.p.now.first c.args.p.now.second =
    rw (c.first.ensures.first, c.second.ensures.second) at c.in_ok-sum.ensures in
    IfOk-weaker c.crossed_by-then-eq-2.result _ _
    (λ found. none_so found (none_by_first c.args.p.now c.args.q.now c.in_ok-sum.sum.items c.second-then-eq-2.ensures.product is same))
    (rw c.second-then-eq-2.ensures.second at c.crossed_by-then-eq-2.ensures.none)

pub returns-clause-none : goal.returns-clause-none
returns-clause-none c =
    let not_second : c.args.q.now.second ≢ c.in_ok-sum.sum.items = search (rules, pointwise_decides, c.if-eq.ensures) in
    let not_first : c.args.q.now.first ≢ c.in_ok-sum.sum.items = search (rules, pointwise_decides, c.if-eq-2.ensures) in
    none_crossing c.args.p.now c.args.q.now c.in_ok-sum.sum.items (rw (c.first.ensures.first, c.second.ensures.second) at c.in_ok-sum.ensures)
    not_second not_first
