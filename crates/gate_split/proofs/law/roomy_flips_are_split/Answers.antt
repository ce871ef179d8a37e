use Rattle.gate_split.proofs.RoomyFlipLemmas.{roomy_flips}
use Rattle.gate_split.proofs.law.roomy_flips_are_split.Goals as goal

pub returns : goal.returns
returns c = roomy_flips
