use Rattle.std.proofs.Common.{◌≢◌, [], ◌∷◌, inl, inr, refl, sym, arith}
use Rattle.dependency_graph.specs.declared.node.Base.{Base}
use Rattle.bit_sums.specs.Products.{IsProduct}
use Rattle.bit_sums.proofs.product.Product.of_bits.Goals as goal

two_bits : (a b : Base) → a ≢ b → IsProduct (record { first = a ∷ []; second = b ∷ [] })
two_bits a b ne = record {
  first = record { rises = (tt, tt); few = omega arith };
  second = record { rises = (tt, tt); few = omega arith };
  own = record { base = a; here = inl refl; not_there = λ there. elim there [ inl same ↦ ne same | inr none ↦ none ] };
  other = record { base = b; here = inl refl; not_there = λ there. elim there [ inl same ↦ ne (sym same) | inr none ↦ none ] };
}

pub new-requires : goal.new-requires
new-requires c = rw (c.in_ok-first.ensures.items, c.in_ok-second.ensures.items) (two_bits c.args.a c.args.b c.requires)
