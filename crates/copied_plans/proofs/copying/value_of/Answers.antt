use Rattle.copied_plans.proofs.JoinLemmas.{next_other}
use Rattle.copied_plans.proofs.copying.value_of.Goals as goal

pub of_bits-requires : goal.of_bits-requires
of_bits-requires c = next_other c.args.k
