use Rattle.std.proofs.Common.{◌≡◌, ℕ, List, length, map, take, string_bytes}
use Rattle.circuit_sim.specs.Rows.{AreRows, contents}
use Rattle.command_answers.specs.BitWords.{bits_of}
use Rattle.circuit_commands.specs.Run.{started}
use Rattle.circuit_commands.proofs.run.start_all.Given as goal

abbrev pub invariant-loop-word : goal.invariant-loop-word
invariant-loop-word l = record {
  rows : contents l.rows.items ≡ map (λ (w : List ℕ). started l.marks (bits_of w)) (take l.word-index (map string_bytes l.words));
  fit : AreRows (length l.marks) l.rows.items;
}
