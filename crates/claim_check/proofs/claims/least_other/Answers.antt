use Rattle.std.proofs.Common.{◌≡◌, Bool, List, map, ap, ◌∙◌, arith}
use Rattle.list_facts.specs.Bits.{bit_of}
use Rattle.decision_diagram.specs.Diagrams.{function_of}
use Rattle.claim_check.proofs.OutcomeLemmas.{least_found, whole_list}
use Rattle.claim_check.proofs.claims.least_other.Goals as goal

pub returns : goal.returns
returns c =
    let whole : c.deref.result.now ≡ c.least.new.into =
    whole_list c.in_ok-assignment.assignment.len c.deref.result.now c.least.new.into _ c.deref.ensures.value (omega arith) in
    record {
      assignment = bit_of c.least.new.into;
      least = least_found (function_of c.args.diagram.now.nodes c.args.function) c.args.bit c.least.result (bit_of c.least.new.into)
          c.least.ensures.found c.least.ensures.none c.requires.other;
      bits = c.new.ensures ∙ c.in_ok-input.ensures ∙ ap (λ (z : List Bool). map (bit_of z) c.args.variables.now) whole;
    }
