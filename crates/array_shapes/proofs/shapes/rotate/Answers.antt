use Rattle.array_shapes.proofs.shapes.rotate.Goals as goal

pub returns-clause-ok : goal.returns-clause-ok
returns-clause-ok c = rw (c.split_at.ensures.back, c.split_at.ensures.front) at c.joined.ensures.ok
