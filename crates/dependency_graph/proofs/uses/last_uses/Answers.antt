use Rattle.std.proofs.Common.{ℕ, List, length, ap, ◌∙◌}
use Rattle.std.specs.List.{flat_map}
use Rattle.dependency_graph.specs.Uses.{with_uses}
use Rattle.dependency_graph.specs.inside.Tables.{with_steps}
use Rattle.dependency_graph.proofs.TableLemmas.{table_is}
use Rattle.dependency_graph.proofs.uses.last_uses.Goals as goal

pub returns : goal.returns
returns g c =
    let parts = g.N.MadeOfBases.bases in
    let ends = g.O.MadeOfBases.bases in
    c.filled.ensures
    ∙ ap (λ (table : List ℕ). with_uses (with_steps parts table 0 c.args.nodes.now) (flat_map ends c.args.outputs.now) (length c.args.nodes.now))
    c.in_ok-unused.ensures
    ∙ table_is parts ends c.args.nodes.now c.args.outputs.now
