-- A step of the walk, and of going through the outputs.
use Rattle.std.proofs.Common.{◌≡◌, ◌⊎◌, ℕ, zero, suc, ◌+◌, ◌≤◌, Bool, true, false, List, [], ◌∷◌, ◌++◌, length, map, take, drop, slice_get, Some}
use Rattle.std.proofs.Common.{refl, sym, ap, ap₂, ◌∙◌, subst, inl, inr, arith, append_assoc, append-nil, get_or}
use Rattle.std.specs.Bool.{xor}
use Rattle.std.specs.List.{AllByRecursion, flat_map, sum_by}
use Rattle.std.proofs.lemmas.Bool.{true≢false}
use Rattle.std.proofs.lemmas.List.{length-append, length-set, length-take-le, map-append, take_all, take_more, drop_all}
use Rattle.std.proofs.lemmas.List.Concat.{flat_map-append}
use Rattle.std.proofs.lemmas.List.Sums.{sum_by-append, sum_by-cons}
use Rattle.std.proofs.lemmas.Option.{get_or_from_slice_get, none-some, same_Some, slice_get-get_or, slice_get_within}
use Rattle.std.proofs.Math.Seq.{drop-cons}
use Rattle.list_facts.specs.Bits.{bit_of}
use Rattle.list_facts.proofs.AllLemmas.{AllByRecursion-append, AllByRecursion-left, AllByRecursion-right}
use Rattle.list_facts.proofs.BitLemmas.{xor_nothing}
use Rattle.dependency_graph.specs.declared.node.Base.{Base}
use Rattle.dependency_graph.specs.declared.node.Base.TheVariants as bases
use Rattle.dependency_graph.specs.declared.node.Node.{Node}
use Rattle.dependency_graph.specs.declared.node.Node.TheVariants.{Not, Xor, And}
use Rattle.dependency_graph.specs.declared.node.Sig.{Sig}
use Rattle.dependency_graph.specs.declared.node.Sig.TheVariants.{Const, Is}
use Rattle.dependency_graph.specs.Graphs.{and_count, IsKnownBase, IsKnownNode, IsKnownSig, base_bit, base_of, node_of, nodes_among, operands}
use Rattle.claim_check.specs.Settled.{IsSettled, SettledView, settled_value}
use Rattle.claim_check.proofs.NodeLemmas.{known_at, value_of_node}
use Rattle.bit_sums.specs.Sums.{SumView, weight_of}
use Rattle.sum_graph.specs.Graphs.{HasFewBits, IsKnownSum, is_known, sum_on, sums_made}
use Rattle.sum_graph.specs.declared.slot.Slot.{Slot}
use Rattle.sum_graph.specs.declared.slot.Slot.TheVariants as slots
use Rattle.sum_graph.specs.inside.Placing.{IsPlaced}
use Rattle.sum_graph.specs.inside.Walks.{AreShared, AreSlots, CanOutput, CanSum, HasFactor, IsEnded, IsNodeSum, IsOutputSum, IsSlot, IsStanding, IsTaken}
use Rattle.sum_graph.specs.inside.Walks.{IsWalked}
use Rattle.sum_graph.specs.Lone.{ands_beside, beside, uses_in}
use Rattle.sum_graph.specs.inside.Walks.{factors_of, is_shared, products_beside, slot_products, slot_weight}
use Rattle.sum_graph.proofs.LoneLemmas.{lone_alone, placed_beside, sum_from-append, summed_beside}
use Rattle.sum_graph.proofs.NodeSumLemmas.{IsStep, node_step}
use Rattle.sum_graph.proofs.PlaceLemmas.{IsAtHome, at_home, slots_still, still_known, same_value}
use Rattle.sum_graph.proofs.TakeLemmas.{slots_less, taken_keeps, taken_products, taken_stands, taken_weight}
use Rattle.sum_graph.proofs.UseLemmas.{times_first}

-- ---- elements at a place

all_at : {A : Type 0} (P : A → Type 0) (xs : List A) (k : ℕ) (x : A) → AllByRecursion P xs → slice_get xs k ≡ Some x → P x
all_at P [] k x all e = absurd (none-some x e)
all_at P (y ∷ ys) zero x all e = subst P (same_Some y x e) all.0
all_at P (y ∷ ys) (suc k) x all e = all_at P ys k x all.1 e

drop_at : {A : Type 0} (xs : List A) (k : ℕ) (x : A) → slice_get xs k ≡ Some x → drop k xs ≡ x ∷ drop (k + 1) xs
drop_at xs k x e =
    let more : k + 1 ≡ suc k = omega arith in
    drop-cons xs k x (slice_get_within xs k x e) ∙ ap₂ (λ y ys. y ∷ ys) (get_or_from_slice_get xs k x x e) (sym (ap (λ n. drop n xs) more))

pub take_next : {A : Type 0} (xs : List A) (k : ℕ) (x : A) → slice_get xs k ≡ Some x → take (k + 1) xs ≡ take k xs ++ x ∷ []
take_next xs k x e = take_more xs k x (slice_get_within xs k x e) ∙ ap (λ y. take k xs ++ y ∷ []) (get_or_from_slice_get xs k x x e)

last_or_before : {A : Type 0} (xs : List A) (x : A) (j : ℕ) (y : A) → slice_get (xs ++ x ∷ []) j ≡ Some y
    → (slice_get xs j ≡ Some y) ⊎ ((j ≡ length xs) × (x ≡ y))
last_or_before [] x zero y e = inr (refl, same_Some x y e)
last_or_before [] x (suc j) y e = absurd (none-some y e)
last_or_before (z ∷ zs) x zero y e = inl e
last_or_before (z ∷ zs) x (suc j) y e =
    elim (last_or_before zs x j y e) as (λ _. (slice_get (z ∷ zs) (suc j) ≡ Some y) ⊎ ((suc j ≡ length (z ∷ zs)) × (x ≡ y))) [
      | inl before ↦ inl before
      | inr last ↦ inr (ap suc last.0, last.1)
    ]

-- ---- the operands of a node can be taken

standing : (s : SettledView) (nodes : List SumView) (shared : List Bool) (left : List ℕ) (k : ℕ) (base : Base) (some : List Slot)
    → IsKnownBase s.inputs k base → length some ≡ k → AreSlots s nodes shared (node_of base ++ left) some → IsStanding some base
standing s nodes shared left k (bases.Input i) some known long are = tt
standing s nodes shared left k (bases.Node j) some known long are = record {
  within = omega (arith, known, long);
  stands = λ e. absurd (omega (arith, times_first j left, are.each j slots.Moved e));
}

has_factor : (s : SettledView) (nodes : List SumView) (shared : List Bool) (left : List ℕ) (k : ℕ) (base : Base) (some : List Slot)
    → IsKnownBase s.inputs k base → length some ≡ k → AllByRecursion (λ j. is_shared shared j ≡ true) (node_of base)
    → AreSlots s nodes shared (node_of base ++ left) some → HasFactor some base
has_factor s nodes shared left k (bases.Input i) some known long all are = tt
has_factor s nodes shared left k (bases.Node j) some known long all are =
    by (get_or some j slots.Moved) (slice_get-get_or some j slots.Moved (omega (arith, known, long)))
  where
    by : (slot : Slot) → slice_get some j ≡ Some slot → HasFactor some (bases.Node j)
    by slots.Moved e = absurd (omega (arith, times_first j left, are.each j slots.Moved e))
    by (slots.Sum sum) e = absurd (true≢false (sym all.0 ∙ (are.each j (slots.Sum sum) e).1))
    by (slots.Factor factor) e = (factor, e)

two_uses : (a b : Base) (left : List ℕ) → nodes_among (a ∷ b ∷ []) ++ left ≡ node_of a ++ (node_of b ++ left)
two_uses a b left = append_assoc (node_of a) (node_of b ++ []) left ∙ ap (λ l. node_of a ++ (l ++ left)) (append-nil (node_of b))

can_sum : (s : SettledView) (nodes : List SumView) (shared : List Bool) (left : List ℕ) (k : ℕ) (node : Node) (some : List Slot) → IsKnownNode s.inputs k node
    → length some ≡ k → AllByRecursion (λ j. is_shared shared j ≡ true) (factors_of node) → AreSlots s nodes shared (nodes_among (operands node) ++ left) some
    → CanSum some node
can_sum s nodes shared left k (Not a) some known long all are =
    standing s nodes shared left k a some known long (subst (λ l. AreSlots s nodes shared l some) (ap (λ l. l ++ left) (append-nil (node_of a))) are)
can_sum s nodes shared left k (Xor a b) some known long all are =
    let from = subst (λ l. AreSlots s nodes shared l some) (two_uses a b left) are in (
      standing s nodes shared (node_of b ++ left) k a some known.0 long from,
      standing s nodes shared left k b some known.1 long (slots_less s nodes shared (node_of a) (node_of b ++ left) some from),
      known.2,
    )
can_sum s nodes shared left k (And a b) some known long all are =
    let from = subst (λ l. AreSlots s nodes shared l some) (two_uses a b left) are in
    let P = λ (j : ℕ). is_shared shared j ≡ true in
    let rest = AllByRecursion-right P (node_of a) (node_of b ++ []) all in (
      has_factor s nodes shared (node_of b ++ left) k a some known.0 long (AllByRecursion-left P (node_of a) (node_of b ++ []) all) from,
      has_factor s nodes shared left k b some known.1 long (AllByRecursion-left P (node_of b) [] rest)
          (slots_less s nodes shared (node_of a) (node_of b ++ left) some from),
    )

-- the uses from a node on
uses_from : (nodes : List Node) (outputs : List Sig) (k : ℕ) (node : Node) → slice_get nodes k ≡ Some node
    → uses_in (drop k nodes) outputs ≡ nodes_among (operands node) ++ uses_in (drop (k + 1) nodes) outputs
uses_from nodes outputs k node e =
    let rest = flat_map (λ (n : Node). nodes_among (operands n)) (drop (k + 1) nodes) in
    ap (λ l. uses_in l outputs) (drop_at nodes k node e) ∙ append_assoc (nodes_among (operands node)) rest (nodes_among (flat_map base_of outputs))

pub can_step : (s : SettledView) (shared : List Bool) (some : List Slot) (nodes : List SumView) (k : ℕ) (node : Node) → AreShared s.nodes s.outputs shared
    → IsWalked s shared some nodes k → slice_get s.nodes k ≡ Some node → CanSum some node
can_step s shared some nodes k node are w e =
    can_sum s nodes shared (uses_in (drop (k + 1) s.nodes) s.outputs) k node some (known_at s.inputs k s.nodes node w.settled.nodes e) w.long
    (all_at (λ n. AllByRecursion (λ j. is_shared shared j ≡ true) (factors_of n)) s.nodes k node are.factors e)
    (subst (λ l. AreSlots s nodes shared l some) (uses_from s.nodes s.outputs k node e) w.slots)

-- ---- a step

taken_length : (base : Base) (old new : List Slot) (sum : SumView) → IsTaken base old new sum → length new ≡ length old
taken_length (bases.Input i) old new sum taken = ap length taken.0
taken_length (bases.Node k) old new sum taken = elim taken as (λ _. length new ≡ length old) [
  | inl copied ↦ ap length copied.same
  | inr moved ↦ ap length moved.gone ∙ length-set old k slots.Moved
]

sum_length : (node : Node) (old new : List Slot) (sum : SumView) → IsNodeSum node old new sum → length new ≡ length old
sum_length (Not a) old new sum is = taken_length a old new is.operand is.taken
sum_length (Xor a b) old new sum is = taken_length b is.between new is.right is.second ∙ taken_length a old is.between is.left is.first
sum_length (And a b) old new sum is = ap length is.same

-- the slot of the node that was walked over
new_slot : (s : SettledView) (shared : List Bool) (left : List ℕ) (k : ℕ) (node : Node) (nodes new : List SumView) (old between : List Slot) (sum : SumView)
    (slot : Slot) → IsSettled s → slice_get s.nodes k ≡ Some node → IsStep s nodes shared left node old between sum
    → IsAtHome s (is_shared shared k) sum nodes new slot → IsSlot s new shared left k slot
new_slot s shared left k node nodes new old between sum slot settled e step home = by (is_shared shared k) refl
  where
    by : (b : Bool) → is_shared shared k ≡ b → IsSlot s new shared left k slot
    by false alone =
        subst (IsSlot s new shared left k) (sym (home.stays alone)) (
          record {
            known = still_known s.inputs nodes new sum home.grown step.known;
            values = λ input.
                same_value s.inputs nodes new input sum home.grown step.known ∙ step.values input ∙ sym (value_of_node s input k node settled.nodes e);
          },
          alone,
        )
    by true often =
        let f = home.factor often in
        subst (IsSlot s new shared left k) (sym f.1)
        (record { known = f.2; values = λ input. f.3 input ∙ step.values input ∙ sym (value_of_node s input k node settled.nodes e) }, often)

pushed : (s : SettledView) (new : List SumView) (shared : List Bool) (left : List ℕ) (between : List Slot) (slot : Slot)
    → AreSlots s new shared left between → IsSlot s new shared left (length between) slot → AreSlots s new shared left (between ++ slot ∷ [])
pushed s new shared left between slot are is = record {
  once = are.once;
  each = λ j x e. elim (last_or_before between slot j x e) as (λ _. IsSlot s new shared left j x) [
    | inl before ↦ are.each j x before
    | inr last ↦
        subst (λ i. IsSlot s new shared left i x) (sym last.0) (subst (IsSlot s new shared left (length between)) last.1 is)
  ];
}

-- what counts beside a set, of one slot more, and of one node more
more_products : (lone : ℕ → Bool) (between : List Slot) (slot : Slot) (k : ℕ) → length between ≡ k
    → products_beside lone (between ++ slot ∷ []) ≡ products_beside lone between + beside (lone k) (slot_products slot)
more_products lone between slot k long =
    let place : 0 + length between ≡ k = omega (arith, long) in
    let at = ap (λ i. beside (lone i) (slot_products slot)) place in
    omega (arith, at, sum_from-append (λ (i : ℕ) (x : Slot). beside (lone i) (slot_products x)) 0 between slot)

more_ands : (lone : ℕ → Bool) (nodes : List Node) (k : ℕ) (node : Node) → slice_get nodes k ≡ Some node
    → ands_beside lone (take (k + 1) nodes) ≡ ands_beside lone (take k nodes) + beside (lone k) (and_count node)
more_ands lone nodes k node e =
    let low = slice_get_within nodes k node e in
    let place : 0 + length (take k nodes) ≡ k = omega (arith, length-take-le k nodes (omega (arith, low))) in
    let at = ap (λ i. beside (lone i) (and_count node)) place in
    let all = ap (ands_beside lone) (take_next nodes k node e) in
    omega (arith, all, at, sum_from-append (λ (i : ℕ) (x : Node). beside (lone i) (and_count x)) 0 (take k nodes) node)

pub walked_on : (s : SettledView) (shared : List Bool) (old between : List Slot) (nodes new : List SumView) (k : ℕ) (node : Node) (sum : SumView) (slot : Slot)
    → AreShared s.nodes s.outputs shared → IsWalked s shared old nodes k → slice_get s.nodes k ≡ Some node → IsNodeSum node old between sum
    → IsPlaced (is_shared shared k) sum nodes new slot → IsWalked s shared (between ++ slot ∷ []) new (k + 1)
walked_on s shared old between nodes new k node sum slot are w e is placed =
    let left = uses_in (drop (k + 1) s.nodes) s.outputs in
    let step : IsStep s nodes shared left node old between sum =
    node_step s nodes shared left node k old between sum (known_at s.inputs k s.nodes node w.settled.nodes e)
    (subst (λ l. AreSlots s nodes shared l old) (uses_from s.nodes s.outputs k node e) w.slots) is in
    let home : IsAtHome s (is_shared shared k) sum nodes new slot = at_home s (is_shared shared k) sum nodes new slot w.known step.known placed in
    let long : length between ≡ k = sum_length node old between sum is ∙ w.long in
    let one : IsSlot s new shared left k slot = new_slot s shared left k node nodes new old between sum slot w.settled e step home in
    let ands : sum_by and_count (take (k + 1) s.nodes) ≡ sum_by and_count (take k s.nodes) + and_count node =
    ap (sum_by and_count) (take_next s.nodes k node e) ∙ sum_by-append and_count (take k s.nodes) (node ∷ []) ∙ omega (arith, sum_by-cons and_count node []) in
    record {
      settled = w.settled;
      long = omega (arith, length-append between (slot ∷ []), long);
      known = home.known;
      slots = pushed s new shared left between slot (slots_still s nodes new shared left between home.grown step.slots)
          (subst (λ i. IsSlot s new shared left i slot) (sym long) one);
      few = omega (arith, home.few, w.few);
      products = omega (
        arith,
        ands,
        home.products,
        step.products,
        w.products,
        sum_by-append slot_products between (slot ∷ []),
        sum_by-cons slot_products slot [],
      );
      nodes_beside = λ lone go.
          let low = slice_get_within s.nodes k node e in
          let alone = lone_alone s shared lone k are go low in
          let made = summed_beside lone k node old between sum (go.summed k node e) is in
          let put = placed_beside s (is_shared shared k) (lone k) sum nodes new slot alone placed home in
          omega (arith, w.nodes_beside lone go, made, put, more_products lone between slot k long, more_ands lone s.nodes k node e);
      light = omega (arith, home.light, step.light, w.light, sum_by-append slot_weight between (slot ∷ []), sum_by-cons slot_weight slot []);
      no_constants = home.no_constants w.no_constants;
      few_bits = home.few_bits w.few_bits;
    }

-- ---- outputs

-- the uses of the outputs from one on
output_uses : (outputs : List Sig) (j : ℕ) (sig : Sig) → slice_get outputs j ≡ Some sig
    → nodes_among (flat_map base_of (drop j outputs)) ≡ nodes_among (base_of sig) ++ nodes_among (flat_map base_of (drop (j + 1) outputs))
output_uses outputs j sig e =
    ap (λ l. nodes_among (flat_map base_of l)) (drop_at outputs j sig e) ∙ flat_map-append node_of (base_of sig) (flat_map base_of (drop (j + 1) outputs))

pub can_output : (s : SettledView) (shared : List Bool) (some : List Slot) (nodes sums : List SumView) (j : ℕ) (sig : Sig)
    → IsSettled s → IsEnded s shared some nodes sums j → slice_get s.outputs j ≡ Some sig → CanOutput some sig
can_output s shared some nodes sums j (Const bit) settled w e = tt
can_output s shared some nodes sums j (Is base) settled w e =
    let left = nodes_among (flat_map base_of (drop (j + 1) s.outputs)) in
    let uses = output_uses s.outputs j (Is base) e ∙ ap (λ l. l ++ left) (append-nil (node_of base)) in
    standing s nodes shared left (length s.nodes) base some (all_at (IsKnownSig s.inputs (length s.nodes)) s.outputs j (Is base) settled.outputs e) w.long
    (subst (λ l. AreSlots s nodes shared l some) uses w.slots)

-- what the sum of an output keeps
record IsOutput (s : SettledView) (nodes : List SumView) (shared : List Bool) (left : List ℕ) (sig : Sig) (old new : List Slot) (sum : SumView) : Type 0 where
  slots : AreSlots s nodes shared left new
  long : length new ≡ length old
  known : IsKnownSum s.inputs (length nodes) sum
  values : (input : List Bool) → sum_on nodes input sum ≡ settled_value s input sig
  products : sum_by slot_products new + length sum.products ≤ sum_by slot_products old
  light : sum_by slot_weight new + weight_of sum ≤ sum_by slot_weight old + 4
  few_bits : HasFewBits sum

constant_value : (bit : Bool) → xor bit (xor false false) ≡ bit
constant_value bit = ap (xor bit) (xor_nothing false) ∙ xor_nothing bit

an_output : (s : SettledView) (nodes : List SumView) (shared : List Bool) (left : List ℕ) (sig : Sig) (k : ℕ) (old new : List Slot) (sum : SumView)
    → IsKnownSig s.inputs k sig → AreSlots s nodes shared (nodes_among (base_of sig) ++ left) old → IsOutputSum sig old new sum
    → IsOutput s nodes shared left sig old new sum
an_output s nodes shared left (Const bit) k old new sum known are is =
    let same : new ≡ old = is.0 in
    let done = is.1 in
    record {
      slots = subst (AreSlots s nodes shared left) (sym same) are;
      long = ap length same;
      known = done.over (is_known s.inputs (length nodes)) (record { bits = tt; products = tt });
      values = λ input. done.values (base_bit (bit_of input) (sums_made (bit_of input) [] nodes)) ∙ constant_value bit;
      products = rw same (omega (arith, done.few));
      light = rw same (omega (arith, done.light));
      few_bits = done.few_bits;
    }
an_output s nodes shared left (Is base) k old new sum known are is =
    let from = subst (λ l. AreSlots s nodes shared l old) (ap (λ l. l ++ left) (append-nil (node_of base))) are in
    let stands = taken_stands s nodes shared (node_of base ++ left) base k old new is.grown known from is.taken in
    record {
      slots = taken_keeps s nodes shared left base old new is.grown from is.taken;
      long = taken_length base old new is.grown is.taken;
      known = is.finished.over (is_known s.inputs (length nodes)) stands.known;
      values = λ input. is.finished.values (base_bit (bit_of input) (sums_made (bit_of input) [] nodes)) ∙ stands.values input;
      products = omega (arith, is.finished.few, taken_products base old new is.grown is.taken);
      light = omega (arith, is.finished.light, taken_weight base old new is.grown is.taken);
      few_bits = is.finished.few_bits;
    }

pub one_more_output : (s : SettledView) (shared : List Bool) (old new : List Slot) (nodes sums : List SumView) (j : ℕ) (sig : Sig) (sum : SumView)
    → IsSettled s → IsEnded s shared old nodes sums j → slice_get s.outputs j ≡ Some sig → IsOutputSum sig old new sum
    → IsEnded s shared new nodes (sums ++ sum ∷ []) (j + 1)
one_more_output s shared old new nodes sums j sig sum settled w e is =
    let left = nodes_among (flat_map base_of (drop (j + 1) s.outputs)) in
    let out : IsOutput s nodes shared left sig old new sum =
    an_output s nodes shared left sig (length s.nodes) old new sum
    (all_at (IsKnownSig s.inputs (length s.nodes)) s.outputs j sig settled.outputs e)
    (subst (λ l. AreSlots s nodes shared l old) (output_uses s.outputs j sig e) w.slots) is in
    record {
      slots = out.slots;
      long = out.long ∙ w.long;
      known = AllByRecursion-append (IsKnownSum s.inputs (length nodes)) sums (sum ∷ []) w.known (out.known, tt);
      values = λ input.
          map-append (sum_on nodes input) sums (sum ∷ [])
          ∙ ap₂ ◌++◌ (w.values input) (ap (λ b. b ∷ []) (out.values input))
          ∙ sym (map-append (settled_value s input) (take j s.outputs) (sig ∷ []))
          ∙ sym (ap (map (settled_value s input)) (take_next s.outputs j sig e));
      products = omega (
        arith,
        out.products,
        w.products,
        sum_by-append (λ (x : SumView). length x.products) sums (sum ∷ []),
        sum_by-cons (λ (x : SumView). length x.products) sum [],
      );
      light = omega (arith, out.light, w.light, sum_by-append weight_of sums (sum ∷ []), sum_by-cons weight_of sum []);
      few_bits = AllByRecursion-append HasFewBits sums (sum ∷ []) w.few_bits (out.few_bits, tt);
    }

-- all nodes were walked over
pub outputs_begun : (s : SettledView) (shared : List Bool) (some : List Slot) (nodes : List SumView) → IsWalked s shared some nodes (length s.nodes)
    → IsEnded s shared some nodes [] 0
outputs_begun s shared some nodes w =
    let all : take (length s.nodes) s.nodes ≡ s.nodes = take_all (length s.nodes) s.nodes (omega arith) in
    record {
      slots = subst (λ l. AreSlots s nodes shared (uses_in l s.outputs) some) (drop_all (length s.nodes) s.nodes (omega arith)) w.slots;
      long = w.long;
      known = tt;
      values = λ input. refl;
      products = omega (arith, w.products, ap (sum_by and_count) all);
      light = omega (arith, w.light);
      few_bits = tt;
    }
