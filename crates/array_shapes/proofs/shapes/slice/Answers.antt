use Rattle.array_shapes.proofs.shapes.slice.Goals as goal

pub returns-clause-ok : goal.returns-clause-ok
returns-clause-ok c = c.in_ok-to_vec.ensures.items_if_clones_equal (λ x y same. same)
