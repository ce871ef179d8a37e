-- The counts of a program's ANDs: a graph with fewer products computes the tape too, and there is one exact cause why nothing is counted.
use Rattle.std.proofs.Common.{◌≡◌, ℕ, ◌+◌, ◌≤◌, List, length, take, slice_get, Some, refl, ◌∙◌, arith}
use Rattle.std.proofs.lemmas.List.Sums.{sum_by-take-le}
use Rattle.bit_sums.specs.Sums.{SumView}
use Rattle.claim_check.specs.Measures.{IsNoLarger}
use Rattle.claim_check.specs.Settled.{SettledView, IsSettledOf}
use Rattle.command_answers.specs.Outcomes.{HasOneOutcome}
use Rattle.few_products.proofs.CountLemmas.{one_counted}
use Rattle.few_products.specs.Fewer.{IsFewerOf}
use Rattle.program_commands.specs.Ands.{HasOutputsOf, products_of, promise}
use Rattle.program_texts.proofs.CheckLemmas as check
use Rattle.program_texts.proofs.SettlingLemmas.{settled_or_stopped}
use Rattle.revs_tape.specs.Measures.{ands_of}
use Rattle.revs_tape.specs.Tapes.{TapeView}
use Rattle.sum_graph.specs.Graphs.{IsLeanOf, SumGraphView, products_in}

pub one_outcome : HasOneOutcome promise
one_outcome = record {
  never_both = λ order text written fault given cause exact. settled_or_stopped text order.assume order.nodes given.tape fault given.settled cause;
  one_cause = check.one_outcome.one_cause;
  free = check.one_outcome.free;
  long = check.one_outcome.long;
  among = check.one_outcome.among;
}

-- ---- products, sum by sum

-- those of the sums before one and of this one are among all
pub counted_within : (sums : List SumView) (k : ℕ) (s : SumView) (count more : ℕ) → slice_get sums k ≡ Some s → count ≡ products_in (take k sums)
    → more ≡ length s.products → count + more ≤ products_in sums
counted_within sums k s count more at before is =
    let size = λ (t : SumView). length t.products in
    let next : count + more ≡ products_in (take (k + 1) sums) = one_counted sums k s count (count + more) more at before is refl in
    let few : products_in (take (k + 1) sums) ≤ products_in sums = sum_by-take-le size sums (k + 1) in
    omega (arith, next, few)

-- ---- graphs of a tape

pub lean_outputs : (t : TapeView) (s : SettledView) (l : SumGraphView) → IsSettledOf t s → IsLeanOf s l → HasOutputsOf t l
lean_outputs t s l of_tape lean = record {
  inputs = lean.inputs ∙ of_tape.inputs;
  values = λ input. lean.values input ∙ of_tape.values input;
}

pub lean_few : (t : TapeView) (s : SettledView) (l : SumGraphView) → IsNoLarger t s → IsLeanOf s l → products_of l ≤ ands_of t
lean_few t s l larger lean = omega (arith, larger.ands, lean.products)

pub fewer_outputs : (t : TapeView) (l f : SumGraphView) → HasOutputsOf t l → IsFewerOf l f → HasOutputsOf t f
fewer_outputs t l f outputs fewer = record {
  inputs = fewer.inputs ∙ outputs.inputs;
  values = λ input. fewer.values input ∙ outputs.values input;
}

pub fewer_few : (t : TapeView) (l f : SumGraphView) → products_of l ≤ ands_of t → IsFewerOf l f → products_of f ≤ ands_of t
fewer_few t l f few fewer = omega (arith, few, fewer.products)
