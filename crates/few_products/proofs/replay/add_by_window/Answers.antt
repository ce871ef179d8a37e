use Rattle.few_products.proofs.DefinitionLemmas.{kept_same}
use Rattle.few_products.proofs.replay.add_by_window.Goals as goal

pub returns-then-not-branch : goal.returns-then-not-branch
returns-then-not-branch c = kept_same _

pub add-requires : goal.add-requires
add-requires c = rw c.deref.ensures.value at (c.in_ok-vanishes.ensures c.if-not-branch.false)
