use Rattle.std.proofs.Common.{◌≡◌, Bool, List, map, ap, ◌∙◌, arith}
use Rattle.list_facts.specs.Bits.{bit_of}
use Rattle.claim_check.proofs.OutcomeLemmas.{whole_list}
use Rattle.circuit_verify.proofs.VerdictLemmas.{found_apart}
use Rattle.circuit_verify.proofs.judging.least_difference.Goals as goal

pub returns : goal.returns
returns c =
    let d = c.args.diagram.now in
    let whole : c.deref.result.now ≡ c.differ.new.into =
    whole_list c.in_ok-assignment.assignment.len c.deref.result.now c.differ.new.into _ c.deref.ensures.value (omega arith) in
    record {
      assignment = bit_of c.differ.new.into;
      least = found_apart d c.args.f c.args.g c.differ.result (bit_of c.differ.new.into) c.differ.ensures.canonical c.requires.left c.requires.right
          c.requires.apart c.differ.ensures.found c.differ.ensures.none;
      are = c.new.ensures ∙ c.in_ok-bits.ensures ∙ ap (λ (z : List Bool). map (bit_of z) c.args.variables.now) whole;
    }
