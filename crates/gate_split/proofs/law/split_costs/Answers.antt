use Rattle.gate_split.proofs.CostLemmas.{costs}
use Rattle.gate_split.proofs.law.split_costs.Goals as goal

pub returns : goal.returns
returns c = costs
