-- The sum of a node has the node's value, and what the slots keep when it is made.
use Rattle.std.proofs.Common.{◌≡◌, ℕ, ◌+◌, ◌≤◌, Bool, true, false, not, ◌&&◌, List, [], ◌∷◌, ◌++◌, length}
use Rattle.std.proofs.Common.{refl, sym, ap, ap₂, ◌∙◌, subst, arith, append_assoc, append-nil}
use Rattle.std.specs.Bool.{xor}
use Rattle.std.specs.List.{sum_by}
use Rattle.list_facts.specs.Bits.{bit_of}
use Rattle.list_facts.proofs.BitLemmas.{xor_nothing}
use Rattle.dependency_graph.specs.declared.node.Base.{Base}
use Rattle.dependency_graph.specs.declared.node.Base.TheVariants as bases
use Rattle.dependency_graph.specs.declared.node.Node.{Node}
use Rattle.dependency_graph.specs.declared.node.Node.TheVariants.{Not, Xor, And}
use Rattle.dependency_graph.specs.declared.node.Sig.TheVariants.{Is}
use Rattle.dependency_graph.specs.Graphs.{and_count, IsKnownBase, IsKnownNode, base_bit, node_bit, node_of, nodes_among, operands}
use Rattle.claim_check.specs.Settled.{SettledView, settled_value}
use Rattle.claim_check.proofs.NodeLemmas.{values_on}
use Rattle.bit_sums.specs.Growing.{FactorView, factor_value, sum_of_factor}
use Rattle.bit_sums.specs.Sums.{SumView, sum_value, weight_of}
use Rattle.sum_graph.specs.Graphs.{IsKnownSum, is_known, sum_on, sums_made}
use Rattle.sum_graph.specs.declared.slot.Slot.{Slot}
use Rattle.sum_graph.specs.declared.slot.Slot.TheVariants as slots
use Rattle.sum_graph.specs.inside.Walks.{AreSlots, IsAnd, IsFactorOf, IsNodeSum, IsNot, IsXor, StandsFor, slot_products, slot_weight}
use Rattle.sum_graph.proofs.TakeLemmas.{slots_less, taken_keeps, taken_products, taken_stands, taken_weight}

-- What making the sum of a node keeps.
pub record IsStep (s : SettledView) (nodes : List SumView) (shared : List Bool) (left : List ℕ) (node : Node) (old new : List Slot) (sum : SumView)
    : Type 0 where
  pub slots : AreSlots s nodes shared left new
  pub known : IsKnownSum s.inputs (length nodes) sum
  pub values : (input : List Bool) → sum_on nodes input sum ≡ node_bit (bit_of input) (values_on s input) node
  pub products : sum_by slot_products new + length sum.products ≤ sum_by slot_products old + and_count node
  pub light : sum_by slot_weight new + weight_of sum ≤ sum_by slot_weight old + 29

-- the value of a base of a settled graph
base_value : (s : SettledView) (input : List Bool) (base : Base) → settled_value s input (Is base) ≡ base_bit (bit_of input) (values_on s input) base
base_value s input base = refl

xor_not : (a b : Bool) → xor (not a) b ≡ not (xor a b)
unfolding mathlib.Core.Bool.xor
xor_not true true = refl
xor_not true false = refl
xor_not false true = refl
xor_not false false = refl

not_step : (s : SettledView) (nodes : List SumView) (shared : List Bool) (left : List ℕ) (a : Base) (k : ℕ) (old new : List Slot) (sum : SumView)
    → IsKnownBase s.inputs k a → AreSlots s nodes shared (nodes_among (a ∷ []) ++ left) old → IsNot a old new sum
    → IsStep s nodes shared left (Not a) old new sum
not_step s nodes shared left a k old new sum known are is =
    let uses : nodes_among (a ∷ []) ++ left ≡ node_of a ++ left = ap (λ l. l ++ left) (append-nil (node_of a)) in
    let from = subst (λ l. AreSlots s nodes shared l old) uses are in
    let stands = taken_stands s nodes shared (node_of a ++ left) a k old new is.operand known from is.taken in
    subst (IsStep s nodes shared left (Not a) old new) (sym is.is) (record {
      slots = taken_keeps s nodes shared left a old new is.operand from is.taken;
      known = record { bits = stands.known.bits; products = stands.known.products };
      values = λ input. xor_not is.operand.one _ ∙ ap not (stands.values input);
      products = omega (arith, taken_products a old new is.operand is.taken);
      light = omega (arith, taken_weight a old new is.operand is.taken);
    })

xor_step : (s : SettledView) (nodes : List SumView) (shared : List Bool) (left : List ℕ) (a b : Base) (k : ℕ) (old new : List Slot) (sum : SumView)
    → IsKnownBase s.inputs k a → IsKnownBase s.inputs k b → AreSlots s nodes shared (nodes_among (a ∷ b ∷ []) ++ left) old → IsXor a b old new sum
    → IsStep s nodes shared left (Xor a b) old new sum
xor_step s nodes shared left a b k old new sum known_a known_b are is =
    let uses : nodes_among (a ∷ b ∷ []) ++ left ≡ node_of a ++ (node_of b ++ left) =
    append_assoc (node_of a) (node_of b ++ []) left ∙ ap (λ l. node_of a ++ (l ++ left)) (append-nil (node_of b)) in
    let from = subst (λ l. AreSlots s nodes shared l old) uses are in
    let mid = taken_keeps s nodes shared (node_of b ++ left) a old is.between is.left from is.first in
    let one = taken_stands s nodes shared (node_of a ++ (node_of b ++ left)) a k old is.between is.left known_a from is.first in
    let two = taken_stands s nodes shared (node_of b ++ left) b k is.between new is.right known_b mid is.second in
    record {
      slots = taken_keeps s nodes shared left b is.between new is.right mid is.second;
      known = is.is.over (is_known s.inputs (length nodes)) one.known two.known;
      values = λ input. is.is.values (base_bit (bit_of input) (sums_made (bit_of input) [] nodes)) ∙ ap₂ xor (one.values input) (two.values input);
      products = omega (arith, is.is.few, taken_products a old is.between is.left is.first, taken_products b is.between new is.right is.second);
      light = omega (arith, is.is.light, taken_weight a old is.between is.left is.first, taken_weight b is.between new is.right is.second);
    }

-- the factor that stands for a base has the base's value
factor_stands : (s : SettledView) (nodes : List SumView) (shared : List Bool) (left : List ℕ) (base : Base) (k : ℕ) (some : List Slot) (factor : FactorView)
    → IsKnownBase s.inputs k base → AreSlots s nodes shared left some → IsFactorOf some base factor → StandsFor s nodes base (sum_of_factor factor)
factor_stands s nodes shared left (bases.Input i) k some factor known are is =
    subst (λ (f : FactorView). StandsFor s nodes (bases.Input i) (sum_of_factor f)) (sym is)
    (taken_stands s nodes shared left (bases.Input i) k some some (record { bits = bases.Input i ∷ []; products = []; one = false }) known are (refl, refl))
factor_stands s nodes shared left (bases.Node j) k some factor known are is = (are.each j (slots.Factor factor) is).0

factor_sum : (bit : Base → Bool) (f : FactorView) → sum_value bit (sum_of_factor f) ≡ factor_value bit f
factor_sum bit f = ap (xor f.one) (xor_nothing _)

and_step : (s : SettledView) (nodes : List SumView) (shared : List Bool) (left : List ℕ) (a b : Base) (k : ℕ) (old new : List Slot) (sum : SumView)
    → IsKnownBase s.inputs k a → IsKnownBase s.inputs k b → AreSlots s nodes shared (nodes_among (a ∷ b ∷ []) ++ left) old → IsAnd a b old new sum
    → IsStep s nodes shared left (And a b) old new sum
and_step s nodes shared left a b k old new sum known_a known_b are is =
    let uses = nodes_among (a ∷ b ∷ []) in
    let one = factor_stands s nodes shared (uses ++ left) a k old is.left known_a are is.first in
    let two = factor_stands s nodes shared (uses ++ left) b k old is.right known_b are is.second in
    record {
      slots = subst (AreSlots s nodes shared left) (sym is.same) (slots_less s nodes shared uses left old are);
      known = is.is.over (is_known s.inputs (length nodes)) one.known.bits two.known.bits;
      values = λ input.
          let bit = base_bit (bit_of input) (sums_made (bit_of input) [] nodes) in
          is.is.values bit ∙ ap₂ ◌&&◌ (sym (factor_sum bit is.left) ∙ one.values input) (sym (factor_sum bit is.right) ∙ two.values input);
      products = rw is.same (omega (arith, is.is.few));
      light = rw is.same (omega (arith, is.is.light));
    }

pub node_step : (s : SettledView) (nodes : List SumView) (shared : List Bool) (left : List ℕ) (node : Node) (k : ℕ) (old new : List Slot) (sum : SumView)
    → IsKnownNode s.inputs k node → AreSlots s nodes shared (nodes_among (operands node) ++ left) old → IsNodeSum node old new sum
    → IsStep s nodes shared left node old new sum
node_step s nodes shared left (Not a) k old new sum known are is = not_step s nodes shared left a k old new sum known are is
node_step s nodes shared left (Xor a b) k old new sum known are is = xor_step s nodes shared left a b k old new sum known.0 known.1 are is
node_step s nodes shared left (And a b) k old new sum known are is = and_step s nodes shared left a b k old new sum known.0 known.1 are is
