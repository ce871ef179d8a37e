use Rattle.std.proofs.Common.{[], ◌∷◌, ◌+◌}
use Rattle.std.proofs.lemmas.Option.{slice_get_within}
use Rattle.std.proofs.lemmas.Result.{IfErr-weaker, IfOk-weaker}
use Rattle.dependency_graph.specs.declared.node.Node.TheVariants.{Not, Xor, And}
use Rattle.eager_cleanup.specs.Eager.{IsEagerFault}
use Rattle.eager_cleanup.specs.inside.Sweeps.{IsSwept, IsUsed, IsUseFault}
use Rattle.eager_cleanup.proofs.BoundLemmas.{used_fault}
use Rattle.eager_cleanup.proofs.SweepLemmas.{can_clean, swept_used}
use Rattle.eager_cleanup.proofs.cleaning.clean_operands.Goals as goal

pub clean_used-requires-clause-base : goal.clean_used-requires-clause-base
clean_used-requires-clause-base c =
    let can = can_clean c.args.by.graph.now c.args.forward.budget c.args.by.user (Not c.in-Not.a) c.args.forward c.requires.made
    c.in-Not.ensures in
    can.bases.0

pub returns-in-Not : goal.returns-in-Not
returns-in-Not c =
    let s = c.args.by.graph.now in
    let b = c.args.forward.budget in
    let known = c.args.by.known.now in
    let a = c.in-Not.a in
    let can = can_clean s b c.args.by.user (Not a) c.args.forward c.requires.made c.in-Not.ensures in
    record {
      swept = IfOk-weaker c.clean_used.result (IsUsed s known c.args.by.user a c.args.forward) (IsSwept s b (c.args.by.user + 1) [])
          (λ next used. swept_used s b known c.args.by.user a [] c.args.forward next c.requires.values can.swept can.inside can.bases.0 used)
          c.clean_used.ensures.ok;
      refused = IfErr-weaker c.clean_used.result (IsUseFault s known c.args.by.user a c.args.forward) (IsEagerFault s b)
          (λ fault is. used_fault s b known c.args.by.user a (a ∷ []) c.args.forward fault c.requires.values can.swept can.inside can.bases.0 is)
          c.clean_used.ensures.refused;
    }

pub clean_both-requires-clause-can : goal.clean_both-requires-clause-can
clean_both-requires-clause-can c =
    can_clean c.args.by.graph.now c.args.forward.budget c.args.by.user (Xor c.in-Xor.a c.in-Xor.b) c.args.forward c.requires.made
    c.in-Xor.ensures

pub clean_both-requires-in-And-clause-can : goal.clean_both-requires-in-And-clause-can
clean_both-requires-in-And-clause-can c =
    can_clean c.args.by.graph.now c.args.forward.budget c.args.by.user (And c.in-And.a c.in-And.b) c.args.forward c.requires.made
    c.in-And.ensures

pub node-requires : goal.node-requires
node-requires c = slice_get_within c.args.by.graph.now.nodes c.args.by.user _ c.requires.made.is

pub clean_used-requires-clause-values : goal.clean_used-requires-clause-values
clean_used-requires-clause-values c = c.requires.values

pub clean_used-requires-clause-graph : goal.clean_used-requires-clause-graph
clean_used-requires-clause-graph c = c.requires.made.swept.graph

pub clean_used-requires-clause-inside : goal.clean_used-requires-clause-inside
clean_used-requires-clause-inside c = slice_get_within c.args.by.graph.now.nodes c.args.by.user _ c.requires.made.is

pub clean_both-requires-clause-values : goal.clean_both-requires-clause-values
clean_both-requires-clause-values c = c.requires.values

pub clean_both-requires-in-And-clause-values : goal.clean_both-requires-in-And-clause-values
clean_both-requires-in-And-clause-values c = c.requires.values

pub returns-in-Xor-clause-swept : goal.returns-in-Xor-clause-swept
returns-in-Xor-clause-swept c = c.clean_both.ensures.swept

pub returns-in-Xor-clause-refused : goal.returns-in-Xor-clause-refused
returns-in-Xor-clause-refused c = c.clean_both.ensures.refused

pub returns-in-And-clause-swept : goal.returns-in-And-clause-swept
returns-in-And-clause-swept c = c.clean_both-in-And.ensures.swept

pub returns-in-And-clause-refused : goal.returns-in-And-clause-refused
returns-in-And-clause-refused c = c.clean_both-in-And.ensures.refused
