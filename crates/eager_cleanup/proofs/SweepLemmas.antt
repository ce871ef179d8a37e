-- What a node more, and the cleaning of an operand, do to what is held and paid for.
use Rattle.std.proofs.Common.{◌≡◌, ◌≢◌, ℕ, suc, ◌+◌, ◌<◌, ◌≤◌, Bool, true, false, cond, max, inl, inr, List, [], ◌∷◌, length, set, slice_get, Option, Some}
use Rattle.std.proofs.Common.{None, is_some, refl, sym, ap, ◌∙◌, subst, arith}
use Rattle.std.proofs.lemmas.Bool.{cases_eq, cases_lt, true≢false}
use Rattle.std.proofs.lemmas.List.{get_or-set_same, get_or-set_other}
use Rattle.std.proofs.lemmas.List.Sums.{sum_by-append}
use Rattle.std.proofs.lemmas.Option.{same_Some, slice_get_within}
use Rattle.claim_check.specs.Settled.{SettledView, IsSettled, as_graph}
use Rattle.dependency_graph.specs.declared.node.Base.{Base}
use Rattle.dependency_graph.specs.declared.node.Base.TheVariants as bases
use Rattle.dependency_graph.specs.declared.node.Node.{Node}
use Rattle.dependency_graph.specs.Graphs.{IsKnownBase, operands, output_nodes, steps_of}
use Rattle.dependency_graph.specs.Uses.{cut_in}
use Rattle.dependency_graph.proofs.TableLemmas.{length-steps_of}
use Rattle.dependency_graph.proofs.UseLemmas.{last_uses_tell_cuts}
use Rattle.gate_split.specs.Costs.{most_gates}
use Rattle.circuit_plans.specs.Plans.{BudgetView}
use Rattle.held_nodes.specs.Held.{ForwardView, IsForward, held_count, held_line, is_held}
use Rattle.sum_graph.specs.Graphs.{first_work}
use Rattle.held_nodes.specs.Moves.{IsToggled, TakesLine, toggle_of, with_node}
use Rattle.held_nodes.proofs.LineLemmas.{count-put}
use Rattle.held_nodes.proofs.PlaceLemmas.{ready_bases, unheld_none}
use Rattle.list_facts.specs.Lists.{IsAmong}
use Rattle.mct_circuit.specs.Gates.{GateView}
use Rattle.eager_cleanup.specs.inside.Known.{AreFirstValues, HasLargeNode, IsKnownValue, Polynomial, last_use_of, value_at}
use Rattle.eager_cleanup.specs.inside.Sweeps.{CanClean, IsCleaned, IsLastUse, IsMade, IsSwept, IsUsed, IsWaiting, cleaning_gates, gates_in, paid_gates, total}
use Rattle.eager_cleanup.proofs.CostLemmas.{plain-toggle, most_in}
use Rattle.eager_cleanup.proofs.HolderLemmas.{held_among, held_below}
use Rattle.eager_cleanup.proofs.KnownLemmas.{operands_earlier, operands_inside}
use Rattle.eager_cleanup.proofs.TotalLemmas.{total_changed, total_same}
use Rattle.std.proofs.lemmas.List.{length-map}
use Rattle.sum_graph.specs.Graphs.{SumGraphView}
use Rattle.sum_graph.specs.Plain.{plain_of, plain_sum}
use Rattle.held_nodes.proofs.PlainLemmas.{IsPlainNode, plain_node, sum_of_node}
use Rattle.sum_graph.proofs.PlainLemmas.{same_operands}
use Rattle.std.specs.List.{AllByRecursion}
use Rattle.eager_cleanup.specs.inside.Sweeps.{are_ready}
use Rattle.held_nodes.specs.Moves.{IsReadyBase, IsReadyNode}
use Rattle.eager_cleanup.proofs.UserLemmas.{no_node, same_node, user_of}

-- ---- known values

known_some : (s : SettledView) (k : ℕ) (value : Option Polynomial) → IsKnownValue s k value → ¬ HasLargeNode s → is_some value ≡ true
known_some s k None large none = absurd (none large)
known_some s k (Some p) is none = refl

-- the value of a node that this one uses for the last time
pub value_used : (s : SettledView) (known : List (Option Polynomial)) (user k : ℕ) → AreFirstValues s user known → k < user → last_use_of s k ≡ user
    → IsKnownValue s k (value_at known k)
value_used s known user k values low last = values.each k low (omega (arith, last))

pub settled_of : (s : SettledView) (b : BudgetView) (count : ℕ) (used : List Base) (f : ForwardView)
    → IsSwept s b count used f → IsSettled s
settled_of s b count used f is = is.settled

-- ---- the cleaning of an operand

-- the same nodes are held, where all that wait are among these too
swept_for : (s : SettledView) (b : BudgetView) (count : ℕ) (used other : List Base) (f : ForwardView) → IsSwept s b count used f
    → ((k : ℕ) → IsWaiting s count used k → IsAmong (bases.Node k) other) → IsSwept s b count other f
swept_for s b count used other f is waits = record {
  settled = is.settled;
  forward = is.forward;
  graph = is.graph;
  budget = is.budget;
  behind = is.behind;
  needed = is.needed;
  cleaned = λ none k held early. let waiting = is.cleaned none k held early in record { last = waiting.last; among = waits k waiting };
  most = is.most;
  few = is.few;
  gates = is.gates;
}

-- where an operand is not used for the last time, nothing is waiting for it
not_last : (s : SettledView) (b : BudgetView) (user : ℕ) (base : Base) (rest : List Base) (f : ForwardView)
    → IsSwept s b (user + 1) (base ∷ rest) f → ((k : ℕ) → ¬ IsLastUse s user base k) → IsSwept s b (user + 1) rest f
not_last s b user base rest f is unused =
    swept_for s b (user + 1) (base ∷ rest) rest f is
    (λ k waits. elim waits.among as (λ _. IsAmong (bases.Node k) rest) [
      | inl e ↦ absurd (unused k (record { is = sym e; last = omega (arith, waits.last) }))
      | inr later ↦ later
    ])

last_cleaned : (s : SettledView) (b : BudgetView) (known : List (Option Polynomial)) (user k : ℕ) (base : Base) (rest : List Base) (f next : ForwardView)
    → AreFirstValues s user known → IsSwept s b (user + 1) (base ∷ rest) f → user < length s.nodes → k < user → IsLastUse s user base k
    → IsCleaned (value_at known k) f k next → IsSwept s b (user + 1) rest next
last_cleaned s b known user k base rest f next values is inside low last clean = record {
  settled = is.settled;
  forward = clean.forward;
  graph = clean.graph ∙ is.graph;
  budget = clean.budget ∙ is.budget;
  behind = λ i late. held_same i (λ e. absurd (omega (arith, late, e, low))) ∙ is.behind i late;
  needed = λ i lower later. held_same i (λ e. absurd (omega (arith, later, ap (last_use_of s) e, last.last))) ∙ is.needed i lower later;
  cleaned = λ none i held early. elim (cases_eq i k) as (λ _. IsWaiting s (user + 1) rest i) [
    | inl e ↦ absurd (true≢false (sym held ∙ ap (is_held next.lines) e ∙ clean.gone (known_some s k (value_at known k) value none)))
    | inr ne ↦ other none i ne (is.cleaned none i (sym (held_same i ne) ∙ held) early)
  ];
  most = omega (arith, clean.most, is.most);
  few = λ none width bounds. omega (arith, clean.most, is.few none width bounds);
  gates = λ cost bounds.
      let inputs : f.graph.inputs ≡ s.inputs = ap (λ (g : SumGraphView). g.inputs) is.graph in
      let within : cleaning_gates f.graph.inputs (value_at known k) ≤ cost k =
      rw inputs (bounds.each k (value_at known k) (omega (arith, low, inside)) value) in
      let changed = total_changed (λ i. paid_gates (cost i) f.lines i) (λ i. paid_gates (cost i) next.lines i) (user + 1) k (omega (arith, low))
      (λ i lower ne. ap (λ (bit : Bool). cond bit 2 (2 + cost i)) (sym (held_same i ne))) in
      omega (arith, is.gates cost bounds, clean.gates (cost k) within, changed);
}
  where
    value : IsKnownValue s k (value_at known k)
    value = value_used s known user k values low last.last

    held_same : (i : ℕ) → i ≢ k → is_held next.lines i ≡ is_held f.lines i
    held_same i ne = ap (λ (x : Option ℕ). is_some x) (clean.others i ne)

    other : ¬ HasLargeNode s → (i : ℕ) → i ≢ k → IsWaiting s (user + 1) (base ∷ rest) i → IsWaiting s (user + 1) rest i
    other none i ne waits = record {
      last = waits.last;
      among = elim waits.among as (λ _. IsAmong (bases.Node i) rest) [
        | inl e ↦ absurd (ne (same_node i k (e ∙ last.is)))
        | inr later ↦ later
      ];
    }

pub swept_used : (s : SettledView) (b : BudgetView) (known : List (Option Polynomial)) (user : ℕ) (base : Base) (rest : List Base) (f next : ForwardView)
    → AreFirstValues s user known → IsSwept s b (user + 1) (base ∷ rest) f → user < length s.nodes → IsKnownBase s.inputs user base
    → IsUsed s known user base f next → IsSwept s b (user + 1) rest next
swept_used s b known user (bases.Input i) rest f next values is inside low used =
    let unused : (k : ℕ) → ¬ IsLastUse s user (bases.Input i) k = λ k last. no_node k i (sym last.is) in
    subst (IsSwept s b (user + 1) rest) (sym (used.stays unused)) (not_last s b user (bases.Input i) rest f is unused)
swept_used s b known user (bases.Node k) rest f next values is inside low used =
    elim (cases_eq (last_use_of s k) user) as (λ _. IsSwept s b (user + 1) rest next) [
      | inl e ↦
          let last : IsLastUse s user (bases.Node k) k = record { is = refl; last = e } in
          last_cleaned s b known user k (bases.Node k) rest f next values is inside low last (used.cleaned k last)
      | inr ne ↦
          let unused : (j : ℕ) → ¬ IsLastUse s user (bases.Node k) j = λ j last. ne (ap (last_use_of s) (same_node k j last.is) ∙ last.last) in
          subst (IsSwept s b (user + 1) rest) (sym (used.stays unused)) (not_last s b user (bases.Node k) rest f is unused)
    ]

-- ---- what is held

-- where no node is large, no more nodes are held than are in the cut
pub held_in_cut : (s : SettledView) (b : BudgetView) (count : ℕ) (f : ForwardView)
    → IsSwept s b count [] f → count ≤ length s.nodes → ¬ HasLargeNode s → held_count f.lines ≤ length (cut_in (as_graph s) count)
held_in_cut s b count f is inside none =
    held_among f.lines (cut_in (as_graph s) count) (λ k held. in_cut k held (early k held))
  where
    early : (k : ℕ) → is_held f.lines k ≡ true → k < count
    early k held = elim (cases_lt k count) as (λ _. k < count) [
      | inl low ↦ low
      | inr late ↦ absurd (true≢false (sym held ∙ is.behind k late))
    ]

    in_cut : (k : ℕ) → is_held f.lines k ≡ true → k < count → IsAmong k (cut_in (as_graph s) count)
    in_cut k held low = elim (cases_lt (last_use_of s k) count) as (λ _. IsAmong k (cut_in (as_graph s) count)) [
      | inl before ↦ absurd (is.cleaned none k held before).among
      | inr later ↦ (last_uses_tell_cuts (steps_of (as_graph s)) (output_nodes (as_graph s)) k count low
          (omega (arith, inside, length-steps_of (as_graph s)))).1 later
    ]

-- ---- one node more

taken_new : (lines : List (Option ℕ)) (held : Option ℕ) (line : ℕ) (after : Option ℕ) → held ≡ None → TakesLine lines held line after → after ≡ Some line
taken_new lines held line after e takes = (subst (λ (x : Option ℕ). TakesLine lines x line after) e takes).1

pub swept_toggled : (s : SettledView) (b : BudgetView) (j : ℕ) (f next : ForwardView)
    → IsSwept s b j [] f → j < length s.nodes → IsForward next → IsToggled f j next → IsMade s b j next
swept_toggled s b j f next is inside forward toggled = record {
  node = plain.node;
  is = plain.is;
  swept = record {
    settled = is.settled;
    forward = forward;
    graph = ap (λ (g : ForwardView). g.graph) becomes ∙ is.graph;
    budget = ap (λ (g : ForwardView). g.budget) becomes ∙ is.budget;
    behind = λ k late. held_same k (λ e. absurd (omega (arith, late, e))) ∙ is.behind k (omega (arith, late));
    needed = λ k low later. elim (cases_eq k j) as (λ _. is_held next.lines k ≡ true) [
      | inl e ↦ ap (is_held next.lines) e ∙ held_now
      | inr ne ↦ (let other : k ≢ j = ne in held_same k ne ∙ is.needed k (omega (arith, low, other)) (omega (arith, later)))
    ];
    cleaned = λ none k held early. elim (cases_eq k j) as (λ _. IsWaiting s (j + 1) (operands plain.node) k) [
      | inl e ↦ absurd (omega (arith, early, ap (last_use_of s) e, (settled_of s b j [] f is).used j inside))
      | inr ne ↦ waits none k ne (sym (held_same k ne) ∙ held) early
    ];
    most = omega (arith, most_is, is.most, count, held_below f.lines j is.behind);
    few = λ none width bounds. omega (
      arith,
      most_is,
      is.few none width bounds,
      count,
      held_in_cut s b j f is (omega (arith, inside)) none,
      bounds.cuts j (omega (arith, inside)),
    );
    gates = λ cost bounds.
        let before : total (λ k. paid_gates (cost k) f.lines k) j ≡ total (λ k. paid_gates (cost k) next.lines k) j =
        total_same (λ k. paid_gates (cost k) f.lines k) (λ k. paid_gates (cost k) next.lines k) j
        (λ k low. ap (λ (bit : Bool). cond bit 2 (2 + cost k)) (sym (held_same k (λ e. absurd (omega (arith, low, e)))))) in
        let now : paid_gates (cost j) next.lines j ≡ 2 = rw held_now refl in
        let next_count : j + 1 ≡ suc j = omega arith in
        let all = ap (total (λ k. paid_gates (cost k) next.lines k)) next_count in
        omega (arith, is.gates cost bounds, before, now, all, gates_are, few_gates);
  };
}
  where
    none_held : held_line f.lines j ≡ None
    none_held = unheld_none f.lines j (is.behind j (omega arith))

    more : List GateView
    more = toggle_of (first_work f.graph) f.lines toggled.line toggled.node

    becomes : next ≡ with_node f j (Some toggled.line) (toggle_of (first_work f.graph) f.lines toggled.line toggled.node)
    becomes = toggled.becomes ∙ ap (λ (x : Option ℕ). with_node f j x (toggle_of (first_work f.graph) f.lines toggled.line toggled.node))
        (taken_new f.lines (held_line f.lines j) toggled.line toggled.after none_held toggled.takes)

    lines_are : next.lines ≡ set f.lines j (Some toggled.line)
    lines_are = ap (λ (g : ForwardView). g.lines) becomes

    low : j < length f.lines
    low = omega (arith, is.forward.nodes, ap (λ (g : SumGraphView). length g.nodes) is.graph, length-map s.nodes plain_sum, inside)

    plain : IsPlainNode s.nodes j toggled.node
    plain = plain_node s.nodes j toggled.node (subst (λ (g : SumGraphView). slice_get g.nodes j ≡ Some toggled.node) is.graph toggled.is)

    few_gates : most_in (toggle_of (first_work f.graph) f.lines toggled.line toggled.node) ≤ 2
    few_gates = plain-toggle s f.graph j toggled.node is.settled is.graph toggled.is (first_work f.graph) f.lines toggled.line

    held_same : (k : ℕ) → k ≢ j → is_held next.lines k ≡ is_held f.lines k
    held_same k ne = ap (λ (ls : List (Option ℕ)). is_held ls k) lines_are
        ∙ ap (λ (x : Option ℕ). is_some x) (get_or-set_other f.lines j k (Some toggled.line) None ne)

    held_now : is_held next.lines j ≡ true
    held_now = ap (λ (ls : List (Option ℕ)). is_held ls j) lines_are
        ∙ ap (λ (x : Option ℕ). is_some x) (get_or-set_same f.lines j (Some toggled.line) None low)

    count : held_count (set f.lines j (Some toggled.line)) ≡ held_count f.lines + 1
    count = count-put f.lines j toggled.line low none_held

    most_is : next.most ≡ max f.most (held_count (set f.lines j (Some toggled.line)))
    most_is = ap (λ (g : ForwardView). g.most) becomes

    gates_are : gates_in next ≡ gates_in f + most_in (toggle_of (first_work f.graph) f.lines toggled.line toggled.node)
    gates_are = ap gates_in becomes ∙ sum_by-append most_gates f.gates (toggle_of (first_work f.graph) f.lines toggled.line toggled.node)

    waits : ¬ HasLargeNode s → (k : ℕ) → k ≢ j → is_held f.lines k ≡ true → last_use_of s k < j + 1 → IsWaiting s (j + 1) (operands plain.node) k
    waits none k ne held early = elim (cases_lt k j) as (λ _. IsWaiting s (j + 1) (operands plain.node) k) [
      | inr late ↦ absurd (true≢false (sym held ∙ is.behind k late))
      | inl before ↦ elim (cases_lt (last_use_of s k) j) as (λ _. IsWaiting s (j + 1) (operands plain.node) k) [
        | inl past ↦ absurd (is.cleaned none k held past).among
        | inr here ↦
            let last : last_use_of s k ≡ j = omega (arith, here, early) in
            record { last = omega (arith, last); among = user_of s j k plain.node plain.is before last }
      ]
    ]

-- ---- the operands of the node that was made last

pub can_clean : (s : SettledView) (b : BudgetView) (user : ℕ) (node : Node) (f : ForwardView)
    → IsMade s b user f → slice_get s.nodes user ≡ Some node → CanClean s b user (operands node) f
can_clean s b user node f made is =
    let same : made.node ≡ node = same_Some made.node node (sym made.is ∙ is) in
    let settled = settled_of s b (user + 1) (operands made.node) f made.swept in
    record {
      inside = slice_get_within s.nodes user node is;
      bases = operands_earlier s user node settled.nodes is;
      swept = subst (λ (x : Node). IsSwept s b (user + 1) (operands x) f) same made.swept;
    }

-- two operands in another order
swept_turned : (s : SettledView) (b : BudgetView) (count : ℕ) (x y : Base) (f : ForwardView) → IsSwept s b count (x ∷ y ∷ []) f
    → IsSwept s b count (y ∷ x ∷ []) f
swept_turned s b count x y f is =
    swept_for s b count (x ∷ y ∷ []) (y ∷ x ∷ []) f is
    (λ k waits. elim waits.among as (λ _. IsAmong (bases.Node k) (y ∷ x ∷ [])) [
      | inl e ↦ inr (inl e)
      | inr later ↦ elim later as (λ _. IsAmong (bases.Node k) (y ∷ x ∷ [])) [ inl e ↦ inl e | inr none ↦ absurd none ]
    ])

in_turn : (s : SettledView) (b : BudgetView) (user : ℕ) (turned : Bool) (x y : Base) (f : ForwardView) → CanClean s b user (x ∷ y ∷ []) f
    → CanClean s b user (cond turned y x ∷ cond turned x y ∷ []) f
in_turn s b user true x y f can =
    record { inside = can.inside; bases = (can.bases.1.0, (can.bases.0, tt)); swept = swept_turned s b (user + 1) x y f can.swept }
in_turn s b user false x y f can = can

pub can_turned : (s : SettledView) (b : BudgetView) (user : ℕ) (turned : Bool) (x y first second : Base) (f : ForwardView)
    → first ≡ cond turned y x → second ≡ cond turned x y → CanClean s b user (x ∷ y ∷ []) f → CanClean s b user (first ∷ second ∷ []) f
can_turned s b user turned x y first second f is also can = rw (is, also) (in_turn s b user turned x y f can)

-- ---- the operands of a node of the plain graph

pub operands_in_plain : (s : SettledView) (g : SumGraphView) (k : ℕ) (node : Node) → IsSettled s → g ≡ plain_of s → slice_get s.nodes k ≡ Some node
    → AllByRecursion (IsKnownBase g.inputs (length g.nodes)) (operands node)
operands_in_plain s g k node settled e is =
    subst (λ (h : SumGraphView). AllByRecursion (IsKnownBase h.inputs (length h.nodes)) (operands node)) (sym e)
    (subst (λ (n : ℕ). AllByRecursion (IsKnownBase s.inputs n) (operands node)) (sym (length-map s.nodes plain_sum))
    (operands_inside s k node settled.nodes is))

pub ready_plain : (s : SettledView) (g : SumGraphView) (lines : List (Option ℕ)) (k : ℕ) (node : Node) → g ≡ plain_of s → slice_get s.nodes k ≡ Some node
    → are_ready lines node ≡ true → IsReadyNode g lines k
ready_plain s g lines k node e is all =
    subst (λ (h : SumGraphView). IsReadyNode h lines k) (sym e) (record {
      node = plain_sum node;
      is = sum_of_node s.nodes k node is;
      ready = subst (AllByRecursion (IsReadyBase lines)) (sym (same_operands node)) (ready_bases lines (operands node) all);
    })
