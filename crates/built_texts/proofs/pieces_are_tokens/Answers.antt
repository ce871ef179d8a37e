use Rattle.built_texts.proofs.PieceLemmas.{cut_of}
use Rattle.built_texts.proofs.pieces_are_tokens.Goals as goal

pub returns : goal.returns
returns c = cut_of
