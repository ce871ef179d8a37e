-- The forward part of no gates.
use Rattle.std.proofs.Common.{◌≡◌, ℕ, zero, suc, ◌+◌, ◌-◌, ◌/◌, ◌≤◌, false, List, [], length, replicate, Option, None, refl, sym, ◌∙◌, arith}
use Rattle.std.proofs.lemmas.List.{length-replicate}
use Rattle.std.proofs.lemmas.Option.{none-some}
use Rattle.sum_graph.specs.Graphs.{SumGraphView, IsSumGraph}
use Rattle.circuit_plans.specs.Plans.{BudgetView}
use Rattle.circuit_plans.specs.declared.plan.TheConstants.{MOST_LINES}
use Rattle.held_nodes.specs.Held.{HoldsNodes, held_line, held_count, is_taken}
use Rattle.sum_graph.specs.Graphs.{first_work}
use Rattle.held_nodes.specs.inside.Kept.{IsKept}

-- no line is held
abbrev nobody : ℕ → List (Option ℕ)
nobody n = replicate n None

no_line : (n k : ℕ) → held_line (nobody n) k ≡ None
no_line zero k = refl
no_line (suc n) zero = refl
no_line (suc n) (suc k) = no_line n k

none_taken : (n line : ℕ) → is_taken (nobody n) line ≡ false
none_taken zero line = refl
none_taken (suc n) line = none_taken n line

none_held : (n : ℕ) → held_count (nobody n) ≡ 0
none_held zero = refl
none_held (suc n) = none_held n

nothing_holds : (s : SumGraphView) → HoldsNodes s (nobody (length s.nodes)) 0 []
nothing_holds s = record {
  on = λ input size. record {
    content = [];
    is = record {
      long = refl;
      held = λ node line is. absurd (none-some line (sym (no_line (length s.nodes) node) ∙ is));
      free = λ line free. refl;
      mapped = λ outputs many. refl;
    };
  };
}

pub empty_kept : (s : SumGraphView) (b : BudgetView) → IsSumGraph s → b.lines ≤ MOST_LINES → first_work s + b.borrow ≤ b.lines
    → IsKept (record { graph = s; budget = b; gates = []; lines = nobody (length s.nodes); most = 0 }) (b.gates / 2)
    (record { limit = b.lines - (first_work s + b.borrow); out = []; peak = 0 })
empty_kept s b sums few room = record {
  forward = record {
    sums = sums;
    nodes = length-replicate (length s.nodes) None;
    different = λ j k line one two. absurd (none-some line (sym (no_line (length s.nodes) j) ∙ one));
    below = λ node line is. absurd (none-some line (sym (no_line (length s.nodes) node) ∙ is));
    count = omega (arith, none_held (length s.nodes));
    within = omega (arith, room);
    weight = omega arith;
    roomy = tt;
    holds = nothing_holds s;
  };
  out = record {
    is_heap = record { rising = tt; below_peak = tt; in_limit = omega arith };
    out = λ line. sym (none_taken (length s.nodes) line);
    count = sym (none_held (length s.nodes));
  };
  peak = refl;
  limit = refl;
  weights = refl;
  few = few;
}
