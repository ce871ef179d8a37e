use Rattle.std.proofs.Common.{◌≡◌, ◌∙◌, List, sym, subst, rules}
use Rattle.std.specs.Cmp.Lexicographic.{pointwise_decides}
use Rattle.std.proofs.lemmas.Option.{IfSome_then}
use Rattle.std.proofs.lemmas.Result.{IfOk-weaker}
use Rattle.dependency_graph.specs.declared.node.Base.{Base}
use Rattle.bit_sums.specs.inside.Joins.{HasFactors}
use Rattle.bit_sums.proofs.JoinLemmas.{lacks_both, lacks_first, lacks_second, lists_differ, none_so}
use Rattle.bit_sums.proofs.PartLemmas.{factored_joins, own_factors_of, turned_factors_of}
use Rattle.bit_sums.proofs.product.by_factor.Goals as goal

pub returns-then-eq-clause-some : goal.returns-then-eq-clause-some
returns-then-eq-clause-some c =
    let q = c.args.q.now in
    let same : c.args.c.now ≡ q.second = search (rules, pointwise_decides, c.if-eq.ensures) in
    let is = subst (λ (l : List Base). HasFactors q.first l q) (sym same) (own_factors_of q) in
    IfOk-weaker c.factored.result _ _ (λ found w. IfSome_then found w (λ part. factored_joins _ _ _ q is part.bits.items part.product))
    (rw c.first-b.ensures.first at c.factored.ensures.some)

pub returns-then-eq-clause-none : goal.returns-then-eq-clause-none
returns-then-eq-clause-none c =
    let q = c.args.q.now in
    let same : c.args.c.now ≡ q.second = search (rules, pointwise_decides, c.if-eq.ensures) in
    IfOk-weaker c.factored.result _ _ (λ found. none_so found (lacks_second c.args.a.now c.args.c.now q c.first-b.ensures.product same))
    (rw c.first-b.ensures.first at c.factored.ensures.none)

pub returns-then-eq-2-clause-some : goal.returns-then-eq-2-clause-some
returns-then-eq-2-clause-some c =
    let q = c.args.q.now in
    let same : c.args.c.now ≡ q.first = search (rules, pointwise_decides, c.if-eq-2.ensures) in
    let is = subst (λ (l : List Base). HasFactors q.second l q) (sym same) (turned_factors_of q) in
    IfOk-weaker c.factored-then-eq-2.result _ _ (λ found w. IfSome_then found w (λ part. factored_joins _ _ _ q is part.bits.items part.product))
    (rw c.second-d.ensures.second at c.factored-then-eq-2.ensures.some)

pub returns-then-eq-2-clause-none : goal.returns-then-eq-2-clause-none
returns-then-eq-2-clause-none c =
    let q = c.args.q.now in
    let same : c.args.c.now ≡ q.first = search (rules, pointwise_decides, c.if-eq-2.ensures) in
    IfOk-weaker c.factored-then-eq-2.result _ _ (λ found. none_so found (lacks_first c.args.a.now c.args.c.now q c.first-b.ensures.product same))
    (rw c.second-d.ensures.second at c.factored-then-eq-2.ensures.none)

pub returns-clause-none : goal.returns-clause-none
returns-clause-none c =
    lacks_both c.args.a.now c.args.c.now c.args.q.now (λ e. lists_differ _ _ c.if-eq.ensures (e ∙ sym c.second-d.ensures.second))
    (λ e. lists_differ _ _ c.if-eq-2.ensures (e ∙ sym c.first-b.ensures.first))
