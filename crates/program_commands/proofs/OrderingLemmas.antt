-- A plan whose gates stand in another order is a circuit for the same texts.
use Rattle.std.proofs.Common.{ℕ, ◌*◌, ◌≤◌, Bool, List, sym, ap, ◌∙◌, subst, arith}
use Rattle.circuit_plans.specs.declared.choice.Plan.{Plan}
use Rattle.circuit_plans.specs.declared.choice.Plan.TheVariants.{Auto, Compact, Eager, Lean, Pebble, Shallow}
use Rattle.circuit_plans.specs.declared.plan.TheConstants.{MOST_GATES, MOST_LINES}
use Rattle.circuit_plans.specs.declared.roles.Roles.{Roles}
use Rattle.circuit_plans.specs.declared.roles.Placing.TheVariants.{Added}
use Rattle.circuit_plans.specs.declared.roles.Start.{Start}
use Rattle.circuit_plans.specs.Plans.{LaidView, lines_in, roles_of}
use Rattle.mct_circuit.specs.Gates.{AreGatesOn, GateView}
use Rattle.mct_circuit.specs.Sizes.{is_flip_under}
use Rattle.flip_orders.specs.Orders.{AreReordered}
use Rattle.flip_orders.proofs.ReorderingLemmas.{AreReordered-refl, AreReordered-trans, length-reordered, count_by-reordered, gates_on-reordered, narrow-reordered}
use Rattle.revs_tape.specs.Measures.{ands_of}
use Rattle.revs_tape.specs.Tapes.{TapeView}
use Rattle.revs_terms.specs.Views.{ProgramView}
use Rattle.revc_words.specs.Words.{OrderView}
use Rattle.program_texts.specs.Clean.{AddsOn, IsCleanCircuit}
use Rattle.program_commands.specs.Compile.{AreWrittenFor, HasCircuit, HasLeanSize, IsPlannedAs}
use Rattle.program_commands.specs.inside.Plans.{IsOrderedPlan, IsPlannedFor}

-- ---- orders under each plan

reordered : (plan : Plan) (old new : List GateView) → AreWrittenFor plan old new → AreReordered old new
reordered Auto old new is = subst (AreReordered old) (sym is) (AreReordered-refl old)
reordered Compact old new is = is
reordered Eager old new is = subst (AreReordered old) (sym is) (AreReordered-refl old)
reordered Lean old new is = is
reordered Pebble old new is = subst (AreReordered old) (sym is) (AreReordered-refl old)
reordered Shallow old new is = subst (AreReordered old) (sym is) (AreReordered-refl old)

further : (plan : Plan) (old mid new : List GateView) → AreWrittenFor plan old mid → AreWrittenFor plan mid new → AreWrittenFor plan old new
further Auto old mid new one other = other ∙ one
further Compact old mid new one other = AreReordered-trans old mid new one other
further Eager old mid new one other = other ∙ one
further Lean old mid new one other = AreReordered-trans old mid new one other
further Pebble old mid new one other = other ∙ one
further Shallow old mid new one other = other ∙ one

-- ---- the circuit

computes_still : (p : ProgramView) (start : Start) (roles : Roles) (old new : List GateView) (input bits : List Bool) → AreReordered old new
    → AddsOn p start roles old input bits → AddsOn p start roles new input bits
computes_still p start roles old new input bits is c = record {
  output = c.output;
  is = c.is;
  size = c.size;
  adds = λ held wide may. record { mapped = is.same _ ∙ (c.adds held wide may).mapped };
}

clean_still : (p : ProgramView) (start : Start) (borrowed : ℕ) (roles : Roles) (old new : List GateView) → AreReordered old new
    → IsCleanCircuit p 0 (Added start) borrowed roles old → IsCleanCircuit p 0 (Added start) borrowed roles new
clean_still p start borrowed roles old new is c = record {
  inputs = c.inputs;
  borrows = c.borrows;
  placed = gates_on-reordered (lines_in roles) old new is c.placed;
  narrow = narrow-reordered old new is c.narrow;
  computes = λ input bits fits met long. computes_still p start roles old new input bits is (c.computes input bits fits met long);
}

planned_still : (order : OrderView) (tape : TapeView) (roles : Roles) (old new : List GateView) → AreWrittenFor order.plan old new
    → IsPlannedAs order tape roles old → IsPlannedAs order tape roles new
planned_still order tape roles old new written p =
    let is = reordered order.plan old new written in
    record {
      graph = p.graph;
      graph_of = p.graph_of;
      no_larger = p.no_larger;
      laid = p.laid;
      roles_are = p.roles_are;
      lines_are = p.lines_are;
      gates_are = further order.plan p.laid.circuit.gates old new p.gates_are written;
      chosen = p.chosen;
      few_toffoli_gates = record {
        few = λ which fits. subst (λ (n : ℕ). n ≤ 2 * ands_of tape) (sym (count_by-reordered (is_flip_under 2) old new is))
            (p.few_toffoli_gates.few which fits);
      };
      lean_size = subst (λ (n : ℕ). HasLeanSize order tape (lines_in roles) n) (sym (length-reordered old new is)) p.lean_size;
      small_depth = record {
        small = λ shallow fits. (let small = p.small_depth.small shallow fits in omega (arith, is.toffoli_depth, small));
      };
    }

circuit_still : (order : OrderView) (text : List ℕ) (tape : TapeView) (roles : Roles) (old new : List GateView) → AreWrittenFor order.plan old new
    → HasCircuit order text tape roles old → HasCircuit order text tape roles new
circuit_still order text tape roles old new written c =
    let is = reordered order.plan old new written in
    record {
      settled = c.settled;
      only = c.only;
      clean = clean_still c.settled.left.program _ order.borrow roles old new is c.clean;
      few_lines = c.few_lines;
      few_gates = subst (λ (n : ℕ). n ≤ order.gates) (sym (length-reordered old new is)) c.few_gates;
      planned = planned_still order tape roles old new written c.planned;
    }

-- ---- the plan

pub ordered_plan : (order : OrderView) (text : List ℕ) (tape : TapeView) (old new : LaidView) → IsPlannedFor order text tape old
    → IsOrderedPlan order.plan old new → IsPlannedFor order text tape new
ordered_plan order text tape old new p o =
    let is = reordered order.plan old.circuit.gates new.circuit.gates o.gates in
    record {
      circuit = subst (λ (roles : Roles). HasCircuit order text tape roles new.circuit.gates) (sym o.roles)
          (circuit_still order text tape (roles_of old) old.circuit.gates new.circuit.gates o.gates p.circuit);
      can = record {
        some = subst (λ (n : ℕ). 1 ≤ n) (sym o.lines) p.can.some;
        few = subst (λ (n : ℕ). n ≤ MOST_LINES) (sym o.lines) p.can.few;
        few_gates = subst (λ (n : ℕ). n ≤ MOST_GATES) (sym (length-reordered old.circuit.gates new.circuit.gates is)) p.can.few_gates;
      };
      sum_of = ap lines_in o.roles ∙ p.sum_of ∙ sym o.lines;
      on = subst (λ (n : ℕ). AreGatesOn n new.circuit.gates) (sym o.lines)
          (gates_on-reordered old.circuit.lines old.circuit.gates new.circuit.gates is p.on);
    }
