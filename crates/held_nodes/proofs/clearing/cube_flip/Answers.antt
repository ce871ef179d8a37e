use Rattle.std.proofs.Common.{refl}
use Rattle.held_nodes.proofs.CubeLemmas.{different_lines}
use Rattle.held_nodes.proofs.clearing.cube_flip.Goals as goal

pub new-requires : goal.new-requires
new-requires c =
    let first = c.args.first in
    let line = c.args.line in
    rw (c.in_ok-controls.ensures, c.literals.ensures.literals) (different_lines first line c.args.cube.now c.literals.ensures.cube c.requires.apart)

pub returns-clause-gate : goal.returns-clause-gate
returns-clause-gate c = rw (c.new.ensures, c.in_ok-controls.ensures, c.literals.ensures.literals) refl
