-- A circuit that is verified against the tape of a program is a clean circuit for it.
use Rattle.std.proofs.Common.{◌≡◌, ℕ, Bool, true, List, [], ◌∷◌, length, sum, refl, sym, ap, ◌∙◌, subst, arith}
use Rattle.std.proofs.lemmas.List.{length-map}
use Rattle.list_facts.specs.Bits.{bit_of}
use Rattle.revs_tape.specs.Tapes.{TapeView, IsTape, bit_on, outputs_on}
use Rattle.revs_terms.specs.Runs.{IsInput, IsTapeOf}
use Rattle.revs_terms.specs.Views.{ProgramView}
use Rattle.revs_terms.proofs.TapeLemmas.{tape_gives_output}
use Rattle.claim_assumptions.specs.Assumptions.{AreMetOn, premise}
use Rattle.claim_assumptions.proofs.MetLemmas.{assumptions_are_met}
use Rattle.mct_circuit.specs.Gates.{AreGatesOn, CircuitView}
use Rattle.circuit_plans.specs.Plans.{lines_in}
use Rattle.circuit_plans.specs.declared.roles.Placing.{Placing}
use Rattle.circuit_plans.specs.declared.roles.Placing.TheVariants.{Added, InPlace}
use Rattle.circuit_verify.specs.Comparisons.{Agrees, Comparison, beside, looked_by, of_tape, roles_in}
use Rattle.circuit_verify.specs.Verdicts.{IsVerified}
use Rattle.program_texts.specs.Clean.{ComputesOn, IsCleanCircuit, MeetsFirst}

-- a circuit beside the tape of a program, on the inputs on which its first so many claims hold
abbrev pub beside_tape : ℕ → TapeView → CircuitView → Placing → ℕ → Comparison
beside_tape assumed tape circuit placing borrow = beside (of_tape tape) (of_tape (premise assumed tape)) circuit placing borrow

-- where these hold the input is looked at
pub met_looked : (tape : TapeView) (assumed : ℕ) (input : List Bool) → IsTape tape → AreMetOn tape assumed input
    → looked_by (of_tape (premise assumed tape)) input ≡ true
met_looked tape assumed input is met =
    let tells = assumptions_are_met tape is assumed input in
    ap (λ (bits : List Bool). bit_of bits 0) tells.is ∙ tells.met.1 met

computes_on : (placing : Placing) (borrow : ℕ) (p : ProgramView) (assumed : ℕ) (tape : TapeView) (circuit : CircuitView) → IsTape tape
    → IsTapeOf p.params p.body tape → Agrees (beside_tape assumed tape circuit placing borrow) → (input bits : List Bool) → IsInput p.params input
    → MeetsFirst p assumed input → length bits ≡ borrow
    → ComputesOn p placing (roles_in (beside_tape assumed tape circuit placing borrow)) circuit.gates input bits
computes_on (Added start) borrow p assumed tape circuit is of agrees input bits size meets many = record {
  output = outputs_on tape input;
  is = tape_gives_output p.params p.body tape of input size;
  size = length-map tape.outputs (bit_on tape input);
  adds = λ held wide may.
      agrees.adds input held bits (size ∙ ap sum (sym of.widths)) (met_looked tape assumed input is (meets tape of)) wide may many;
}
computes_on InPlace borrow p assumed tape circuit is of agrees input bits size meets many = record {
  output = outputs_on tape input;
  is = tape_gives_output p.params p.body tape of input size;
  size = agrees.size input (size ∙ ap sum (sym of.widths));
  replaces = agrees.replaces input bits (size ∙ ap sum (sym of.widths)) (met_looked tape assumed input is (meets tape of)) many;
}

pub clean_circuit : (p : ProgramView) (assumed : ℕ) (tape : TapeView) (circuit : CircuitView) (placing : Placing) (borrow : ℕ) → IsTape tape
    → IsTapeOf p.params p.body tape → AreGatesOn circuit.lines circuit.gates → IsVerified (beside_tape assumed tape circuit placing borrow)
    → IsCleanCircuit p assumed placing borrow (roles_in (beside_tape assumed tape circuit placing borrow)) circuit.gates
clean_circuit p assumed tape circuit placing borrow is of on verified =
    let enough = verified.comparable.lines in
    let same : circuit.lines ≡ lines_in (roles_in (beside_tape assumed tape circuit placing borrow)) = omega (arith, enough) in
    record {
      inputs = ap sum of.widths;
      borrows = refl;
      placed = subst (λ n. AreGatesOn n circuit.gates) same on;
      narrow = verified.comparable.narrow;
      computes = computes_on placing borrow p assumed tape circuit is of verified.agrees;
    }
