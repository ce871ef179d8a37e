use Rattle.std.proofs.Common.{List, ◌+◌, ◌≡◌, ◌∙◌, arith, subst, length}
use Rattle.std.proofs.lemmas.Result.{IfOk-weaker}
use Rattle.dependency_graph.specs.declared.node.Base.{Base}
use Rattle.bit_sums.specs.inside.Joins.{HasFactors}
use Rattle.bit_sums.proofs.PartLemmas.{apart_first, first_within, neither_within, own_factors, product_of_turned, rest_of}
use Rattle.bit_sums.proofs.SetLemmas.{apart_swapped}
use Rattle.bit_sums.proofs.product.multiplied.Goals as goal

pub within-requires-clause-rest : goal.within-requires-clause-rest
within-requires-clause-rest c = rest_of _ _ _ c.in_ok-rest.ensures c.requires.a c.requires.b (omega (arith, c.requires.b.few))

pub within-requires-clause-apart : goal.within-requires-clause-apart
within-requires-clause-apart c = apart_first _ _ _ c.in_ok-rest.ensures c.requires.a c.requires.b (omega arith)

pub returns-then-len-a : goal.returns-then-len-a
returns-then-len-a c =
    let same : length c.in_ok-rest.rest.items + length c.args.a.now ≡ length c.args.b.now = omega arith in
    IfOk-weaker c.within.result _ _ (λ part w. first_within _ _ _ part.bits.items part.product c.in_ok-rest.ensures c.requires.a c.requires.b same w)
    c.within.ensures

pub within-requires-then-len-b-clause-rest : goal.within-requires-then-len-b-clause-rest
within-requires-then-len-b-clause-rest c = rest_of _ _ _ c.in_ok-rest.ensures c.requires.a c.requires.b (omega (arith, c.requires.a.few))

pub within-requires-then-len-b-clause-apart : goal.within-requires-then-len-b-clause-apart
within-requires-then-len-b-clause-apart c =
    apart_first _ _ _ (c.in_ok-rest.ensures ∙ apart_swapped c.args.a.now c.args.b.now) c.requires.b c.requires.a (omega arith)

pub returns-then-len-b : goal.returns-then-len-b
returns-then-len-b c =
    let same : length c.in_ok-rest.rest.items + length c.args.b.now ≡ length c.args.a.now = omega arith in
    let rest = c.in_ok-rest.ensures ∙ apart_swapped c.args.a.now c.args.b.now in
    IfOk-weaker c.within-then-len-b.result _ _ (λ part w. product_of_turned _ _ part.bits.items part.product
    (first_within _ _ _ part.bits.items part.product rest c.requires.b c.requires.a same w)) c.within-then-len-b.ensures

pub in_order-requires : goal.in_order-requires
in_order-requires c =
    rw (c.in_ok-a.ensures.items, c.in_ok-b.ensures.items)
    (own_factors _ _ _ c.in_ok-rest.ensures c.requires.a c.requires.b (λ e. omega (arith, e)) (λ e. omega (arith, e)))

pub returns : goal.returns
returns c =
    neither_within _ _ _ c.in_order.result c.new.ensures.items
    (subst (λ (l : List Base). HasFactors l c.args.b.now c.in_order.result) c.in_ok-a.ensures.items
    (subst (λ (l : List Base). HasFactors c.in_ok-a.a.items l c.in_order.result) c.in_ok-b.ensures.items c.in_order.ensures))
