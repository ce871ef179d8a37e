-- A held node is cleaned by cubes over the inputs.
use Rattle.std.proofs.Common.{true, ◌≡◌, ℕ, ◌+◌, ◌*◌, ◌<◌, ◌≤◌, Bool, List, [], ◌∷◌, ◌++◌, length, map, set, Option, refl, sym}
use Rattle.std.proofs.Common.{ap, ◌∙◌, subst, inr}
use Rattle.std.proofs.Common.{arith}
use Rattle.std.specs.Bool.{xor}
use Rattle.std.specs.List.{AllByRecursion}
use Rattle.std.proofs.lemmas.List.Sums.{sum_by-append}
use Rattle.list_facts.specs.Bits.{bit_of}
use Rattle.list_facts.proofs.AllLemmas.{AllByRecursion-weaker}
use Rattle.held_nodes.specs.inside.Lines.{HeapView}
use Rattle.sum_graph.specs.Graphs.{SumGraphView, node_value}
use Rattle.exclusive_sums.specs.declared.cube.Literal.{Literal}
use Rattle.exclusive_sums.specs.Cubes.{IsCube, input_of, value_of_cubes}
use Rattle.gate_split.specs.Costs.{IsRoomyFlip}
use Rattle.gate_split.specs.Split.{Avoids}
use Rattle.circuit_plans.specs.declared.plan.PlanFault.{PlanFault}
use Rattle.circuit_plans.specs.declared.plan.PlanFault.TheVariants.{Lines, Gates, Memory}
use Rattle.mct_circuit.specs.Gates.{GateView, lines_of}
use Rattle.mct_circuit.specs.Sizes.{weight_of}
use Rattle.held_nodes.specs.Held.{ForwardView, is_held}
use Rattle.sum_graph.specs.Graphs.{first_work}
use Rattle.held_nodes.proofs.LineLemmas.{held_within}
use Rattle.held_nodes.proofs.PlaceLemmas.{held_own}
use Rattle.held_nodes.specs.Moves.{CanClear, IsClearFault, cube_flip, cube_flips}
use Rattle.mct_circuit.specs.Sizes.{weight_in}
use Rattle.held_nodes.specs.inside.Kept.{IsWeightFault}
use Rattle.held_nodes.proofs.ContentLemmas.{all_lines, length-all_lines, input_bit, work_bit, set_work}
use Rattle.held_nodes.proofs.CubeLemmas.{control_lines, different_lines, weight_flips}
use Rattle.held_nodes.proofs.ForwardLemmas.{AddNode}
use Rattle.held_nodes.proofs.SetLemmas.{cubes_set}
use Rattle.held_nodes.proofs.StepLemmas.{Gives, over_half, given_inside, given_place}

-- ---- flips by cubes have room

low_inputs : (n first work line : ℕ) (cube : List Literal) → n ≤ first → line < work → AllByRecursion (λ (l : Literal). l.input < n) cube
    → AllByRecursion (λ x. x < first + work) (map input_of cube ++ (first + line) ∷ [])
low_inputs n first work line [] le inside low = (omega (arith, inside), tt)
low_inputs n first work line (l ∷ ls) le inside low = (omega (arith, low.0, le), low_inputs n first work line ls le inside low.1)

avoids_inputs : (n target : ℕ) (cube : List Literal) → n < target → AllByRecursion (λ (l : Literal). l.input < n) cube
    → Avoids n (map input_of cube ++ target ∷ [])
avoids_inputs n target [] lt low = ((λ same. absurd (omega (arith, same, lt))), tt)
avoids_inputs n target (l ∷ ls) lt low = ((λ same. absurd (omega (arith, same, low.0))), avoids_inputs n target ls lt low.1)

-- the first output line is idle
cube_roomy : (n first work line : ℕ) (cube : List Literal) → n < first → line < work → IsCube cube → AllByRecursion (λ (l : Literal). l.input < n) cube
    → IsRoomyFlip (first + work) (cube_flip first line cube)
cube_roomy n first work line cube lt inside rising low =
    let lines : lines_of (cube_flip first line cube) ≡ map input_of cube ++ (first + line) ∷ [] =
    ap (λ (ls : List ℕ). ls ++ (first + line) ∷ []) (control_lines cube) in
    let lower : AllByRecursion (λ (l : Literal). l.input < first) cube =
    AllByRecursion-weaker (λ (l : Literal). l.input < n) (λ (l : Literal). l.input < first) (λ l less. omega (arith, less, lt)) cube low in
    record {
      on = record {
        different = different_lines first line cube rising lower;
        in_range = subst (AllByRecursion (λ x. x < first + work)) (sym lines) (low_inputs n first work line cube (omega (arith, lt)) inside low);
      };
      target = first + line;
      is_flip = refl;
      room = inr (record {
        line = n;
        below = omega (arith, lt);
        idle = subst (Avoids n) (sym lines) (avoids_inputs n (first + line) cube (omega (arith, lt)) low);
      });
    }

cubes_roomy : (n first work line : ℕ) (cubes : List (List Literal)) → n < first → line < work → AllByRecursion IsCube cubes
    → AllByRecursion (AllByRecursion (λ (l : Literal). l.input < n)) cubes → AllByRecursion (IsRoomyFlip (first + work)) (cube_flips first line cubes)
cubes_roomy n first work line [] lt inside are low = tt
cubes_roomy n first work line (c ∷ cs) lt inside are low =
    (cube_roomy n first work line c lt inside are.0 low.0, cubes_roomy n first work line cs lt inside are.1 low.1)

-- ---- the clearing

cubes_add : (s : SumGraphView) (lines : List (Option ℕ)) (work k line : ℕ) (gates : List GateView) (cubes : List (List Literal))
    → line < work → AllByRecursion (AllByRecursion (λ (l : Literal). l.input < s.inputs)) cubes
    → ((input : List Bool) → length input ≡ s.inputs → value_of_cubes (bit_of input) cubes ≡ node_value s input k)
    → AddNode s lines work gates (cube_flips (first_work s) line cubes) k line
cubes_add s lines work k line gates cubes inside low value = record {
  on = λ input content size is. record {
    adds = λ outputs many.
        (let first = first_work s in
        let bits = all_lines input outputs content in
        let long : first + line < length bits = omega (arith, length-all_lines input outputs content, size, many, is.long, inside) in
        let here = work_bit input outputs content first line (omega (arith, size, many)) in
        cubes_set s.inputs first line cubes (bit_of input) bits (omega arith) long
        (λ i less. input_bit input outputs content i (omega (arith, less, size))) low
        ∙ ap (λ v. set bits (first + line) (xor v (bit_of bits (first + line)))) (value input size)
        ∙ ap (λ bit. set bits (first + line) (xor (node_value s input k) bit)) here
        ∙ set_work input outputs content first line (xor (node_value s input k) (bit_of content line)) (omega (arith, size, many)));
  };
}

-- there is an output line
has_node : (f : ForwardView) (w : ℕ) (old : HeapView) (k line : ℕ) → Gives f w old k line → f.graph.inputs < first_work f.graph
has_node f w old k line g =
    let place = given_place f w old k line g in
    let outputs = g.kept.forward.sums.some (omega (arith, place, g.kept.forward.nodes)) in
    omega (arith, outputs)

pub clear_roomy : (f : ForwardView) (w : ℕ) (old : HeapView) (k line : ℕ) (cubes : List (List Literal)) → Gives f w old k line → CanClear f k cubes
    → AllByRecursion IsCube cubes → AllByRecursion (IsRoomyFlip (first_work f.graph + f.most)) (cube_flips (first_work f.graph) line cubes)
clear_roomy f w old k line cubes g can are =
    cubes_roomy f.graph.inputs (first_work f.graph) f.most line cubes (has_node f w old k line g) (given_inside f w old k line g) are can.inputs

pub clear_adds : (f : ForwardView) (w : ℕ) (old : HeapView) (k line : ℕ) (cubes : List (List Literal)) → Gives f w old k line → CanClear f k cubes
    → AddNode f.graph f.lines f.most f.gates (cube_flips (first_work f.graph) line cubes) k line
clear_adds f w old k line cubes g can =
    cubes_add f.graph f.lines f.most k line f.gates cubes (given_inside f w old k line g) can.inputs can.value

pub clear_low : (f : ForwardView) (k : ℕ) (cubes : List (List Literal)) → CanClear f k cubes
    → AllByRecursion (AllByRecursion (λ (l : Literal). l.input < first_work f.graph)) cubes
clear_low f k cubes can =
    AllByRecursion-weaker (AllByRecursion (λ (l : Literal). l.input < f.graph.inputs)) (AllByRecursion (λ (l : Literal). l.input < first_work f.graph))
    (λ cube low. AllByRecursion-weaker (λ (l : Literal). l.input < f.graph.inputs) (λ (l : Literal). l.input < first_work f.graph)
    (λ l less. omega (arith, less)) cube low) cubes can.inputs

pub clear_fault : (f : ForwardView) (w : ℕ) (old : HeapView) (k line : ℕ) (cubes : List (List Literal)) (fault : PlanFault) → Gives f w old k line
    → IsWeightFault w (weight_in (f.gates ++ cube_flips (first_work f.graph) line cubes)) fault → IsClearFault f k cubes fault
clear_fault f w old k line cubes (Lines need) g is = absurd is
clear_fault f w old k line cubes Gates g is = record {
  line = line;
  is = g.own;
  heavy =
      (let flips = cube_flips (first_work f.graph) line cubes in
      subst (λ (n : ℕ). f.budget.gates < 2 * n) (sum_by-append weight_of f.gates flips)
      (over_half f.budget.gates w (weight_in (f.gates ++ flips)) g.kept.weights is));
}
clear_fault f w old k line cubes (Memory _) g is = λ heavy.
    let first = first_work f.graph in
    omega (
      arith,
      heavy.heavy,
      is,
      g.kept.weights,
      sum_by-append weight_of f.gates (cube_flips first line cubes),
      weight_flips first line cubes,
      weight_flips first heavy.line cubes,
    )

pub clear_held : (f entry : ForwardView) (k : ℕ) (cubes : List (List Literal)) → f ≡ entry → CanClear entry k cubes → is_held f.lines k ≡ true
clear_held f entry k cubes e can = ap (λ (g : ForwardView). is_held g.lines k) e ∙ can.held

pub clear_place : (f entry : ForwardView) (k : ℕ) (cubes : List (List Literal)) → f ≡ entry → CanClear entry k cubes → k < length f.lines
clear_place f entry k cubes e can =
    let own = held_own f.lines k (clear_held f entry k cubes e can) in held_within f.lines k own.own own.is
