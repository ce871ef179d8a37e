use Rattle.std.proofs.Common.{sym}
use Rattle.revs_lexer.proofs.LineLemmas.{place_on_line}
use Rattle.revs_lexer.proofs.lexer.place_behind.Goals as goal

pub returns-then-piece-gt1-clause-place : goal.returns-then-piece-gt1-clause-place
returns-then-piece-gt1-clause-place c = sym (place_on_line c.args.at c.args.piece.now (c.requires.one_line c.if-piece-gt1.true))
