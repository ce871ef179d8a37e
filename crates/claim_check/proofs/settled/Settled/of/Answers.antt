use Rattle.std.proofs.Common.{sym, subst}
use Rattle.claim_check.specs.Measures.{IsSettledPart}
use Rattle.claim_check.proofs.settled.Settled.of.Goals as goal

pub kept_part-requires-clause-of_tape : goal.kept_part-requires-clause-of_tape
kept_part-requires-clause-of_tape c = c.requires

pub kept_part-requires-clause-tape : goal.kept_part-requires-clause-tape
kept_part-requires-clause-tape c = c.inputs-inputs.ensures.tape

pub returns : goal.returns
returns c =
    subst (λ n. IsSettledPart c.args.tape.now c.args.graph.now (record {
      inputs = n;
      nodes = c.in_ok-nodes.nodes.items;
      outputs = c.in_ok-nodes.outputs.items;
    })) (sym c.inputs-inputs.ensures.inputs) c.in_ok-nodes.ensures

pub invariant_of-result : goal.invariant_of-result
invariant_of-result c = ((returns c).settled, rw (c.deref.ensures.value, c.deref-2.ensures.value) at c.in_ok-last_uses.ensures)
