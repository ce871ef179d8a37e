use Rattle.std.proofs.Common.{◌≡◌, ℕ, List, [], ◌++◌, append_assoc, append-nil, codes}
use Rattle.command_answers.specs.Lines.{number_line}
use Rattle.circuit_commands.proofs.stat.write.Goals as goal

regrouped : (a b c d e f g h : List ℕ)
    → a ++ (b ++ (c ++ (d ++ (e ++ (f ++ (g ++ (h ++ []))))))) ≡ (a ++ b) ++ (((c ++ d) ++ (e ++ f)) ++ (g ++ h))
regrouped a b c d e f g h = simp (append_assoc, append-nil)

pub returns-clause-bytes : goal.returns-clause-bytes
returns-clause-bytes g c =
    let sizes = c.args.sizes.now in
    let same = regrouped (number_line (codes "lines ") sizes.lines) (number_line (codes "gates ") sizes.gates)
    (number_line (codes "x ") sizes.counts.x) (number_line (codes "cx ") sizes.counts.cx) (number_line (codes "ccx ") sizes.counts.ccx)
    (number_line (codes "wide ") sizes.counts.wide) (number_line (codes "swap ") sizes.counts.swap) (number_line (codes "depth ") sizes.depth) in
    rw (← same) c.write_numbers.ensures.bytes
