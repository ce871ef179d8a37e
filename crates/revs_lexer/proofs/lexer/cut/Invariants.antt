use Rattle.std.proofs.Common.{◌≡◌, ◌≤◌, ◌+◌, length, drop}
use Rattle.revs_lexer.specs.inside.Packed.{tokens_of, AreWithin}
use Rattle.revs_lexer.proofs.CutLemmas.{Underway}
use Rattle.revs_lexer.proofs.lexer.cut.Given as goal

abbrev pub invariant-loop-rest : goal.invariant-loop-rest
invariant-loop-rest l =
    record {
      underway : Underway l.text (tokens_of l.text l.packed.items) l.at l.rest;
      within : AreWithin l.text l.packed.items;
      end : drop l.start l.text ≡ l.rest;
      passed : l.start + length l.rest ≡ length l.text;
      line : 1 ≤ l.at.line;
      column : 1 ≤ l.at.column;
      room : l.at.line + l.at.column + length l.rest ≤ length l.text + 2;
    }

abbrev pub decreases-loop-rest : goal.decreases-loop-rest
decreases-loop-rest l = length l.rest
