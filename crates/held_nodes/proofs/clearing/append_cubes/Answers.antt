use Rattle.held_nodes.proofs.CubeLemmas.{all_heavy, all_light}
use Rattle.held_nodes.proofs.clearing.append_cubes.Goals as goal
use Rattle.revc_base.proofs.ResultLemmas.{passes_on}

pub returns-then-are_heavier-clause-refused : goal.returns-then-are_heavier-clause-refused
returns-then-are_heavier-clause-refused c =
    all_heavy c.args.gates.now.most c.args.gates.now.gates c.args.first c.args.line c.args.cubes.now c.room.result c.room.ensures.room
    (c.are_heavier.ensures.heavy c.if-are_heavier.true)

pub put_cubes-requires-clause-light : goal.put_cubes-requires-clause-light
put_cubes-requires-clause-light c =
    all_light c.args.gates.now.most c.args.gates.now.gates c.args.first c.args.line c.args.cubes.now c.room.result c.room.ensures.room
    c.room.ensures.within (c.are_heavier.ensures.light c.if-are_heavier.false)

pub returns-in_err-put_cubes-clause-refused : goal.returns-in_err-put_cubes-clause-refused
returns-in_err-put_cubes-clause-refused c =
    passes_on _ c.from_residual.result c.from_residual.ensures.1
    (all_light c.args.gates.now.most c.args.gates.now.gates c.args.first c.args.line c.args.cubes.now c.room.result c.room.ensures.room
    c.room.ensures.within (c.are_heavier.ensures.light c.if-are_heavier.false))

pub returns-clause-light : goal.returns-clause-light
returns-clause-light c =
    rw c.in_ok-put_cubes.ensures.ok
    (all_light c.args.gates.now.most c.args.gates.now.gates c.args.first c.args.line c.args.cubes.now c.room.result c.room.ensures.room
    c.room.ensures.within (c.are_heavier.ensures.light c.if-are_heavier.false))
