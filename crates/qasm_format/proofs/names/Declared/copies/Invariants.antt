use Rattle.std.proofs.Common.{◌≡◌, ◌++◌, drop}
use Rattle.qasm_format.specs.inside.Names.{registers_in}
use Rattle.qasm_format.proofs.names.Declared.copies.Given as goal

abbrev pub invariant-loop-place : goal.invariant-loop-place
invariant-loop-place l =
    registers_in l.self-inside.names l.self-inside.spans.items
    ≡ l.copies.items ++ registers_in (drop l.place l.self-inside.names) (drop l.place l.self-inside.spans.items)
