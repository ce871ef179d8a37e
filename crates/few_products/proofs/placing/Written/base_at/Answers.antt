use Rattle.few_products.proofs.PlacingLemmas.{input_found, node_found}
use Rattle.few_products.proofs.placing.Written.base_at.Goals as goal

pub returns-in-Input : goal.returns-in-Input
returns-in-Input c = input_found _ _ _ _ c.input_at.result c.in-Input.is c.input_at.ensures

pub returns-in-Node : goal.returns-in-Node
returns-in-Node c = node_found _ _ _ _ c.node_at.result c.in-Node.is c.node_at.ensures
