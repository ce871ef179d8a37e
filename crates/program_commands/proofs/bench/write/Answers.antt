use Rattle.std.proofs.Common.{◌≡◌, ℕ, List, [], ◌++◌, append_assoc, append-nil, codes}
use Rattle.command_answers.specs.Lines.{number_line}
use Rattle.program_commands.proofs.bench.write.Goals as goal

regrouped : (a b c d e f g : List ℕ)
    → a ++ (b ++ (c ++ (d ++ (e ++ (f ++ (g ++ [])))))) ≡ (a ++ b) ++ ((c ++ d) ++ ((e ++ f) ++ g))
regrouped a b c d e f g = simp (append_assoc, append-nil)

pub returns-clause-bytes : goal.returns-clause-bytes
returns-clause-bytes g c =
    let sizes = c.args.sizes.now in
    let same = regrouped (number_line (codes "inputs ") sizes.inputs) (number_line (codes "outputs ") sizes.outputs)
    (number_line (codes "writes ") sizes.writes) (number_line (codes "width ") sizes.width) (number_line (codes "lines ") sizes.lines)
    (number_line (codes "gates ") sizes.gates) (number_line (codes "depth ") sizes.depth) in
    rw (← same) c.write_numbers.ensures.bytes
