use Rattle.flip_lists.proofs.marks.Kinds.new.Goals as goal

pub returns : goal.returns
returns c = c.in_ok-counts.ensures.items_if_clones_equal (λ y same. same)
