use Rattle.decision_diagram.proofs.LookupLemmas.{found_place}
use Rattle.decision_diagram.proofs.diagram.place_of.Goals as goal

pub returns : goal.returns
returns c =
    found_place c.args.nodes.now.keys c.args.node c.get_index_of.result c.get_index_of.ensures.index c.get_index_of.ensures.found
