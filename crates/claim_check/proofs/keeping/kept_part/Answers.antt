use Rattle.std.proofs.Common.{rules, arith, ◌≡◌, length, map, replicate, false, refl, sym, subst, ap}
use Rattle.std.specs.List.{flat_map}
use Rattle.list_facts.specs.Bits.{bit_of}
use Rattle.list_facts.specs.Lists.{below}
use Rattle.revs_tape.specs.Measures.{inputs_of}
use Rattle.dependency_graph.specs.Graphs.{GraphView, IsGraph, base_of}
use Rattle.dependency_graph.proofs.FoldLemmas.{graph_is}
use Rattle.claim_check.specs.Settled.{SettledView}
use Rattle.claim_check.specs.Kept.{kept_nodes, rank, renumbered_sig}
use Rattle.claim_check.specs.inside.Marks.{number_in, with_marks, with_nodes}
use Rattle.claim_check.proofs.PartLemmas.{IsMade, made_part}
use Rattle.claim_check.proofs.keeping.kept_part.Goals as goal

pub ranks-requires : goal.ranks-requires
ranks-requires c =
    let is : IsGraph c.args.graph.now = subst IsGraph (sym c.requires.of_tape) (graph_is c.args.tape.now c.requires.tape) in
    let one_each : length c.in_ok-marks.marks.items ≡ length c.args.graph.now.nodes = search rules in
    omega (arith, is.few, is.few_writes, one_each, ap length c.deref.ensures.value)

pub returns : goal.returns
returns c =
    let g : GraphView = c.args.graph.now in
    let t = c.args.tape.now in
    let marks = c.in_ok-marks.marks.items in
    let table = c.in_ok-table.table.items in
    let s : SettledView = record { inputs = inputs_of t; nodes = c.in_ok-nodes.nodes.items; outputs = c.in_ok-outputs.outputs.items } in
    let marked : marks ≡ with_nodes (with_marks (replicate (length g.nodes) false) (flat_map base_of g.outputs)) 0 g.nodes = search rules in
    let one_each : length marks ≡ length g.nodes = search rules in
    let ranked : table ≡ map (rank (bit_of marks)) (below (length marks)) = search rules in
    let nodes : s.nodes ≡ kept_nodes (bit_of marks) (number_in table) 0 g.nodes = search rules in
    let outputs : s.outputs ≡ map (renumbered_sig (number_in table)) g.outputs = search rules in
    let made : IsMade t g marks table s = record {
      tape = c.requires.tape;
      graph = c.requires.of_tape;
      marked = marked;
      one_each = one_each;
      ranked = ranked;
      inputs = refl;
      nodes = nodes;
      outputs = outputs;
    } in
    made_part t g marks table s made
