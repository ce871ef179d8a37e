-- Gates that add their outputs do so beside borrowed lines, and put them on lines that hold zeros.
use Rattle.std.proofs.Common.{◌≡◌, ℕ, ◌+◌, Bool, false, List, [], ◌∷◌, ◌++◌, length, map, refl, sym, ap, ap₂, subst, ◌∙◌, arith, append-nil}
use Rattle.std.specs.Bool.{xor}
use Rattle.std.proofs.lemmas.List.{append_assoc, length-append, length-replicate}
use Rattle.std.proofs.lemmas.Simd.{zip2_splat_left}
use Rattle.list_facts.specs.Bits.{zeros}
use Rattle.list_facts.proofs.BitLemmas.{xor_none}
use Rattle.mct_circuit.specs.Gates.{GateView, AreGatesOn, line_map}
use Rattle.mct_circuit.proofs.MoreLinesLemmas.{more_lines}
use Rattle.circuit_plans.specs.declared.roles.Start.{Start}
use Rattle.circuit_plans.specs.declared.roles.Start.TheVariants.{Any, Zero}
use Rattle.circuit_plans.specs.Plans.{AddedOutputsArePut, CleanCircuitsBorrow, MayHold, added}

-- gates that take one list of bits to another do so in front of more bits
in_front : (gates : List GateView) (input these those work more : List Bool) → AreGatesOn (length (input ++ (these ++ work))) gates
    → line_map gates (input ++ (these ++ (work ++ []))) ≡ input ++ (those ++ (work ++ []))
    → line_map gates (input ++ (these ++ (work ++ more))) ≡ input ++ (those ++ (work ++ more))
in_front gates input these those work more on maps =
    let parted : (some : List Bool) → input ++ (some ++ (work ++ more)) ≡ (input ++ (some ++ work)) ++ more =
    λ some. sym (append_assoc input (some ++ work) more ∙ ap (λ (bits : List Bool). input ++ bits) (append_assoc some work more)) in
    let bare : line_map gates (input ++ (these ++ work)) ≡ input ++ (those ++ work) =
    sym (ap (λ (w : List Bool). line_map gates (input ++ (these ++ w))) (append-nil work)) ∙ maps
    ∙ ap (λ (w : List Bool). input ++ (those ++ w)) (append-nil work) in
    ap (line_map gates) (parted these) ∙ more_lines gates (input ++ (these ++ work)) more on
    ∙ ap (λ (bits : List Bool). bits ++ more) bare ∙ sym (parted those)

pub clean_circuits_borrow : CleanCircuitsBorrow
clean_circuits_borrow start roles gates value count on clean = record {
  size = clean.size;
  adds = λ input held borrowed size wide may long. (let was = clean.adds input held [] size wide may refl in
      let work = zeros roles.work in
      let all : roles.inputs + roles.outputs + roles.work + 0 ≡ length (input ++ (held ++ work)) =
      (let one = length-append input (held ++ work) in let two = length-append held work in
      let three = length-replicate roles.work false in omega (arith, one, two, three, size, wide)) in
      record { mapped = in_front gates input held (added held (value input)) work borrowed (subst (λ n. AreGatesOn n gates) all on) was.mapped });
}

-- bits that are added to zeros
pub added_to_zeros : (count : ℕ) (bits : List Bool) → length bits ≡ count → added (zeros count) bits ≡ bits
added_to_zeros count bits size = zip2_splat_left xor false count bits size ∙ same bits where
  same : (bits : List Bool) → map (λ b. xor false b) bits ≡ bits
  same [] = refl
  same (b ∷ bits) = ap₂ ◌∷◌ (xor_none b) (same bits)

zeros_may : (start : Start) (count : ℕ) → MayHold start (zeros count)
zeros_may Any count = tt
zeros_may Zero count = ap zeros (sym (length-replicate count false))

pub added_outputs_are_put : AddedOutputsArePut
added_outputs_are_put start roles gates value clean = record {
  puts = λ input borrowed size long. record {
    mapped =
        (clean.adds input (zeros roles.outputs) borrowed size (length-replicate roles.outputs false) (zeros_may start roles.outputs) long).mapped
        ∙ ap (λ (bits : List Bool). input ++ (bits ++ (zeros roles.work ++ borrowed))) (added_to_zeros roles.outputs (value input) (clean.size input size));
  };
}
