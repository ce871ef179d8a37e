use Rattle.built_texts.proofs.WayLemmas.{ways_turn, ends_turn}
use Rattle.built_texts.proofs.ways_turn.Goals as goal

pub returns : goal.returns
returns c = record { tokens = ways_turn; end = ends_turn }
