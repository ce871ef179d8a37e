-- What a forward part keeps as nodes are put on lines and taken off them.
use Rattle.std.proofs.Common.{◌≡◌, ◌≢◌, ℕ, ◌+◌, ◌-◌, ◌*◌, ◌<◌, ◌≤◌, max, Bool, false, eqb, List, ◌++◌, length, set, Option, Some, None, sym, ap, ◌∙◌, subst}
use Rattle.std.proofs.Common.{inl, inr, arith}
use Rattle.std.specs.List.{AllByRecursion}
use Rattle.std.proofs.lemmas.Bool.{cases_Bool, eqb-true, eqb-false}
use Rattle.std.proofs.lemmas.List.{get_or-set_same, get_or-set_other, length-set}
use Rattle.std.proofs.lemmas.Option.{same_Some}
use Rattle.list_facts.specs.Bits.{zeros}
use Rattle.list_facts.proofs.AllLemmas.{AllByRecursion-append, AllByRecursion-weaker}
use Rattle.sum_graph.specs.Graphs.{SumGraphView, node_value}
use Rattle.gate_split.specs.Costs.{IsRoomyFlip}
use Rattle.gate_split.proofs.RoomyFlipLemmas.{more_room}
use Rattle.mct_circuit.specs.Gates.{GateView, IsGateOn, AreGatesOn}
use Rattle.held_nodes.specs.Held.{ForwardView, IsForward, HoldsNodes, IsContent, held_line, held_count, is_taken}
use Rattle.sum_graph.specs.Graphs.{first_work}
use Rattle.mct_circuit.specs.Sizes.{weight_in}
use Rattle.held_nodes.proofs.ContentLemmas.{AddsValue, content_padded, content_put, content_given}
use Rattle.held_nodes.proofs.LineLemmas.{AreOnDifferent, none_set, not_free, count-given}

-- ---- gates with room

pub roomy_gates : (n m : ℕ) (gates : List GateView) → n ≤ m → AllByRecursion (IsRoomyFlip n) gates → AllByRecursion (IsRoomyFlip m) gates
roomy_gates n m gates le all = AllByRecursion-weaker (IsRoomyFlip n) (IsRoomyFlip m) (λ gate is. more_room n m gate le is) gates all

pub roomy_on : (n : ℕ) (gates : List GateView) → AllByRecursion (IsRoomyFlip n) gates → AreGatesOn n gates
roomy_on n gates all = AllByRecursion-weaker (IsRoomyFlip n) (IsGateOn n) (λ gate is. is.on) gates all

-- ---- more work lines

pub holds_padded : (s : SumGraphView) (lines : List (Option ℕ)) (work more : ℕ) (gates : List GateView) → AreGatesOn (first_work s + work) gates
    → HoldsNodes s lines work gates → HoldsNodes s lines (work + more) gates
holds_padded s lines work more gates on all = record {
  on = λ input size. (let was = all.on input size in record {
    content = was.content ++ zeros more;
    is = content_padded s lines work more gates input was.content size on was.is;
  });
}

pub holds_wider : (s : SumGraphView) (lines : List (Option ℕ)) (work wider : ℕ) (gates : List GateView) → work ≤ wider → AreGatesOn (first_work s + work) gates
    → HoldsNodes s lines work gates → HoldsNodes s lines wider gates
holds_wider s lines work wider gates le on all =
    let sum : work + (wider - work) ≡ wider = omega (arith, le) in
    subst (λ (w : ℕ). HoldsNodes s lines w gates) sum (holds_padded s lines work (wider - work) gates on all)

-- ---- one node more, one less

-- on every input the gates add the node's value to its line
pub record AddNode (s : SumGraphView) (lines : List (Option ℕ)) (work : ℕ) (gates more : List GateView) (k line : ℕ) : Type 0 where
  pub on : (input content : List Bool) → length input ≡ s.inputs → IsContent s lines work gates input content
      → AddsValue s more line input content (node_value s input k)

holds_put : (s : SumGraphView) (lines : List (Option ℕ)) (work : ℕ) (gates more : List GateView) (k line : ℕ)
    → k < length lines → held_line lines k ≡ None → is_taken lines line ≡ false → line < work
    → HoldsNodes s lines work gates → AddNode s lines work gates more k line → HoldsNodes s (set lines k (Some line)) work (gates ++ more)
holds_put s lines work gates more k line low none free inside all adds = record {
  on = λ input size. (let was = all.on input size in record {
    content = set was.content line (node_value s input k);
    is = content_put s lines work gates more k line input was.content low none free inside was.is (adds.on input was.content size was.is);
  });
}

holds_given : (s : SumGraphView) (lines : List (Option ℕ)) (work : ℕ) (gates more : List GateView) (k line : ℕ)
    → AreOnDifferent lines → held_line lines k ≡ Some line → line < work
    → HoldsNodes s lines work gates → AddNode s lines work gates more k line → HoldsNodes s (set lines k None) work (gates ++ more)
holds_given s lines work gates more k line different own inside all adds = record {
  on = λ input size. (let was = all.on input size in record {
    content = set was.content line false;
    is = content_given s lines work gates more k line input was.content different own inside was.is (adds.on input was.content size was.is);
  });
}

different_put : (lines : List (Option ℕ)) (k line : ℕ) → k < length lines → AreOnDifferent lines → is_taken lines line ≡ false
    → AreOnDifferent (set lines k (Some line))
different_put lines k line low different free i j own one two =
    elim (cases_Bool (eqb i k)) [
      | inl first ↦ (let at = eqb-true i k first in elim (cases_Bool (eqb j k)) [
        | inl second ↦ at ∙ sym (eqb-true j k second)
        | inr other ↦ absurd (not_free lines j own line (before j (eqb-false j k other) two) free (sym (put i at one)))
      ])
      | inr apart ↦ elim (cases_Bool (eqb j k)) [
        | inl second ↦ absurd (not_free lines i own line (before i (eqb-false i k apart) one) free (sym (put j (eqb-true j k second) two)))
        | inr other ↦ different i j own (before i (eqb-false i k apart) one) (before j (eqb-false j k other) two)
      ]
    ]
  where
    before : (m : ℕ) → m ≢ k → held_line (set lines k (Some line)) m ≡ Some own → held_line lines m ≡ Some own
    before m apart is = sym (get_or-set_other lines k m (Some line) None apart) ∙ is

    put : (m : ℕ) → m ≡ k → held_line (set lines k (Some line)) m ≡ Some own → line ≡ own
    put m at is = same_Some line own (sym (ap (held_line (set lines k (Some line))) at ∙ get_or-set_same lines k (Some line) None low) ∙ is)

before_given : (lines : List (Option ℕ)) (k m own : ℕ) → held_line (set lines k None) m ≡ Some own → held_line lines m ≡ Some own
before_given lines k m own is =
    let apart : m ≢ k = λ same. none_set lines k own (subst (λ (n : ℕ). held_line (set lines k None) n ≡ Some own) same is) in
    sym (get_or-set_other lines k m None None apart) ∙ is

below_put : (lines : List (Option ℕ)) (k line work : ℕ) → k < length lines → line < work → ((j own : ℕ) → held_line lines j ≡ Some own → own < work)
    → (j own : ℕ) → held_line (set lines k (Some line)) j ≡ Some own → own < work
below_put lines k line work low inside below j own is = elim (cases_Bool (eqb j k)) [
  | inl same ↦
      (let at : j ≡ k = eqb-true j k same in
      let here : line ≡ own = same_Some line own (sym (ap (held_line (set lines k (Some line))) at ∙ get_or-set_same lines k (Some line) None low) ∙ is) in
      omega (arith, here, inside))
  | inr other ↦ below j own (sym (get_or-set_other lines k j (Some line) None (eqb-false j k other)) ∙ is)
]

-- ---- the forward part

-- what is known of gates that are appended, with so many work lines
pub record AreMore (f : ForwardView) (work : ℕ) (more : List GateView) (k line : ℕ) : Type 0 where
  pub within : first_work f.graph + work + f.budget.borrow ≤ f.budget.lines
  pub weight : 2 * weight_in (f.gates ++ more) ≤ f.budget.gates
  pub roomy : AllByRecursion (IsRoomyFlip (first_work f.graph + work)) more
  pub adds : AddNode f.graph f.lines work f.gates more k line

pub forward_put : (f : ForwardView) (k line work : ℕ) (more : List GateView) → IsForward f → k < length f.lines → held_line f.lines k ≡ None
    → is_taken f.lines line ≡ false → line < work → work ≡ max f.most (held_count (set f.lines k (Some line))) → AreMore f work more k line
    → IsForward (record f { gates = f.gates ++ more; lines = set f.lines k (Some line); most = work })
forward_put f k line work more is low none free inside e more_is =
    let le : f.most ≤ work = omega (arith, e) in
    let count : held_count (set f.lines k (Some line)) ≤ work = omega (arith, e) in
    let below : (j own : ℕ) → held_line f.lines j ≡ Some own → own < work = λ j own at. omega (arith, is.below j own at, le) in
    record {
      sums = is.sums;
      nodes = length-set f.lines k (Some line) ∙ is.nodes;
      different = different_put f.lines k line low is.different free;
      below = below_put f.lines k line work low inside below;
      count = count;
      within = more_is.within;
      weight = more_is.weight;
      roomy = AllByRecursion-append (IsRoomyFlip (first_work f.graph + work)) f.gates more
          (roomy_gates (first_work f.graph + f.most) (first_work f.graph + work) f.gates (omega (arith, le)) is.roomy) more_is.roomy;
      holds = holds_put f.graph f.lines work f.gates more k line low none free inside
          (holds_wider f.graph f.lines f.most work f.gates le (roomy_on (first_work f.graph + f.most) f.gates is.roomy) is.holds) more_is.adds;
    }

pub forward_given : (f : ForwardView) (k line : ℕ) (more : List GateView) → IsForward f → held_line f.lines k ≡ Some line → AreMore f f.most more k line
    → IsForward (record f { gates = f.gates ++ more; lines = set f.lines k None })
forward_given f k line more is own more_is = record {
  sums = is.sums;
  nodes = length-set f.lines k None ∙ is.nodes;
  different = λ i j held one two. is.different i j held (before_given f.lines k i held one) (before_given f.lines k j held two);
  below = λ j held at. is.below j held (before_given f.lines k j held at);
  count = (let less = count-given f.lines k line own in omega (arith, less, is.count));
  within = more_is.within;
  weight = more_is.weight;
  roomy = AllByRecursion-append (IsRoomyFlip (first_work f.graph + f.most)) f.gates more is.roomy more_is.roomy;
  holds = holds_given f.graph f.lines f.most f.gates more k line is.different own (is.below k line own) is.holds more_is.adds;
}
