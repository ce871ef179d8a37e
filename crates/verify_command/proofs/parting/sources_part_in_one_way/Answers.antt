use Rattle.verify_command.proofs.PartingLemmas.{one_way}
use Rattle.verify_command.proofs.parting.sources_part_in_one_way.Goals as goal

pub returns : goal.returns
returns c = one_way
