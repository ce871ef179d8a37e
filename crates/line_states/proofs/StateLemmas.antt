-- What is kept, as gates are appended.
use Rattle.std.proofs.Common.{◌≡◌, ℕ, false, [], ◌∷◌, append_assoc, ◌+◌, ◌-◌, ◌<◌, ◌≤◌, Bool, List, ◌++◌, length, set, sym, ap, ◌∙◌, subst, arith}
use Rattle.std.proofs.lemmas.List.{length-append, length-replicate, length-set, length_push, map_push, replicate_more}
use Rattle.list_facts.specs.Bits.{zeros}
use Rattle.list_facts.proofs.AllLemmas.{AllByRecursion-append, AllByRecursion-weaker}
use Rattle.dependency_graph.specs.declared.node.Base.{Base}
use Rattle.mct_circuit.specs.Gates.{AreGatesOn, GateView, IsGateOn, IsNarrow, line_map, lines_of}
use Rattle.mct_circuit.proofs.MoreLinesLemmas.{more_lines}
use Rattle.mct_circuit.proofs.ReversalLemmas.{line_map-append}
use Rattle.circuit_plans.specs.declared.roles.Start.{Start}
use Rattle.circuit_plans.specs.declared.roles.Start.TheVariants.{Any, Zero}
use Rattle.sum_graph.specs.Graphs.{SumGraphView, first_work}
use Rattle.line_states.specs.States.{AreStates, StatesView, given_lines, set_value, with_line, with_set}
use Rattle.line_states.specs.inside.Places.{MovesSets}

pub changed : (s : StatesView) (line : ℕ) (new : List Base) (more : List GateView) → AreStates s → MovesSets s line new more
    → length s.gates + length more ≤ s.budget.gates → AreStates (with_set s line new more)
changed s line new more are moves room =
    let same : length (set s.sets line new) ≡ length s.sets = length-set s.sets line new in
    record {
      graph = are.graph;
      wide = omega (arith, same, are.wide);
      most = are.most;
      few = omega (arith, same, are.few);
      limited = let all = length-append s.gates more in omega (arith, all, room);
      gates_on = subst (λ (n : ℕ). AreGatesOn n (s.gates ++ more)) (sym same)
          (AllByRecursion-append (IsGateOn (length s.sets)) s.gates more are.gates_on moves.on);
      narrow = AllByRecursion-append IsNarrow s.gates more are.narrow moves.narrow;
      holds = record {
        on = λ input size.
            (ap (λ (n : ℕ). line_map (s.gates ++ more) (input ++ zeros (n - given_lines s.start s.graph))) same
            ∙ line_map-append s.gates more (input ++ zeros (length s.sets - given_lines s.start s.graph))
            ∙ ap (line_map more) (are.holds.on input size)
            ∙ moves.moves input);
      };
    }

-- ---- one line more

-- lines of the inputs and outputs alone are given bits
pub given_few : (start : Start) (g : SumGraphView) → given_lines start g ≤ first_work g
given_few Any g = omega arith
given_few Zero g = omega arith

more_on : (n m : ℕ) → n ≤ m → (gates : List GateView) → AreGatesOn n gates → AreGatesOn m gates
more_on n m le gates on =
    AllByRecursion-weaker (IsGateOn n) (IsGateOn m) (λ gate is. record {
      different = is.different;
      in_range = AllByRecursion-weaker (λ (l : ℕ). l < n) (λ (l : ℕ). l < m) (λ l low. omega (arith, low, le)) (lines_of gate) is.in_range;
    }) gates on

pub widened : (s : StatesView) → AreStates s → length s.sets + s.budget.borrow < s.budget.lines → AreStates (with_line s)
widened s are room =
    let none : List Base = [] in
    let long : length (s.sets ++ none ∷ []) ≡ length s.sets + 1 = length_push s.sets none in
    record {
      graph = are.graph;
      wide = omega (arith, long, are.wide);
      most = are.most;
      few = omega (arith, long, room);
      limited = are.limited;
      gates_on = more_on (length s.sets) (length (s.sets ++ none ∷ [])) (omega (arith, long)) s.gates are.gates_on;
      narrow = are.narrow;
      holds = record {
        on = λ input size.
            (let given = given_lines s.start s.graph in
            let ports = given_few s.start s.graph in
            let k = length s.sets - given in
            let left : length (s.sets ++ none ∷ []) - given ≡ k + 1 = omega (arith, long, ports, are.wide) in
            let bits = input ++ zeros k in
            let wide : length s.sets ≡ length bits =
            (let a = length-append input (zeros k) in let z = length-replicate k false in omega (arith, a, z, size, ports, are.wide)) in
            ap (λ (n : ℕ). line_map s.gates (input ++ zeros n)) left
            ∙ ap (λ (more : List Bool). line_map s.gates (input ++ more)) (sym (replicate_more k false))
            ∙ ap (line_map s.gates) (sym (append_assoc input (zeros k) (false ∷ [])))
            ∙ more_lines s.gates bits (false ∷ []) (subst (λ (n : ℕ). AreGatesOn n s.gates) wide are.gates_on)
            ∙ ap (λ (front : List Bool). front ++ false ∷ []) (are.holds.on input size)
            ∙ sym (map_push (set_value s.graph input) s.sets none));
      };
    }
