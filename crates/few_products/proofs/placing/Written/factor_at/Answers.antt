use Rattle.std.proofs.Common.{ℕ, List, IfSome, Option, arith, false, refl, subst}
use Rattle.bit_sums.specs.Sums.{SumView}
use Rattle.few_products.specs.declared.placing.Place.{Place}
use Rattle.few_products.specs.inside.Writing.{StandsFor, only_bits}
use Rattle.few_products.proofs.PlacingLemmas.{factor_node, factor_short, kept_same, placed, written_alone}
use Rattle.few_products.proofs.placing.Written.factor_at.Goals as goal

pub returns-in-Some-2 : goal.returns-in-Some-2
returns-in-Some-2 c =
    let P = StandsFor c.args.self.now.inputs c.args.self.now.places.items (only_bits c.args.bits.now false) in
    let bits = subst (λ (found : Option SumView). IfSome found P) c.in-Some.is c.in_ok-sum.ensures in
    let factor = rw c.in-Some-2.is at c.in_ok-factor.ensures in
    (kept_same _, factor_short _ _ _ _ _ _ _ c.requires bits c.in_ok-sum-2.ensures factor.1)

pub returns : goal.returns
returns c =
    let s = only_bits c.args.bits.now false in
    let P = StandsFor c.args.self.now.inputs c.args.self.now.places.items s in
    let bits = subst (λ (found : Option SumView). IfSome found P) c.in-Some.is c.in_ok-sum.ensures in
    let place : Place = record { node = c.in_ok-node.node; negated = c.one-one.result } in
    let written = written_alone c.args.self.now.inputs c.args.self.now.places.items s c.in-Some.sum c.args.self.now.nodes.keys c.requires bits in
    let at =
    placed c.args.self.now.inputs c.args.self.now.places.items s _ _ c.node_of.new.nodes.keys _ c.in_ok-sum-2.sum place written c.in_ok-sum-2.ensures
    (omega (arith, c.if-len-ge-MOST_WRITES.false, c.len.ensures.len)) (rw c.without_one.ensures at c.in_ok-node.ensures) c.one-one.ensures in
    (record { inputs = refl {A = ℕ}; places = refl {A = List (Option Place)} }, factor_node _ _ _ _ _ place _ c.requires at c.in_ok-bit.ensures)
