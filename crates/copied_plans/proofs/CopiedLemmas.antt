-- Copied graphs have the values of the settled graphs that they are made of.
use Rattle.std.proofs.Common.{◌≡◌, ℕ, ◌+◌, ◌*◌, ◌<◌, ◌≤◌, Bool, false, ◌&&◌, not, List, [], ◌∷◌, ◌++◌, length, map, get_or}
use Rattle.std.proofs.Common.{refl, sym, ap, ap₂, subst, ◌∙◌, inl, inr, arith}
use Rattle.std.specs.Bool.{xor}
use Rattle.std.specs.List.{AllByRecursion}
use Rattle.std.proofs.Math.Seq.{get_or-append_seam}
use Rattle.std.proofs.lemmas.Bool.{cases_lt, lt-ltb}
use Rattle.std.proofs.lemmas.List.{append-nil, append_assoc, get_or_append_left, length-append, length-map}
use Rattle.list_facts.specs.Bits.{bit_of}
use Rattle.list_facts.specs.Lists.{AllFrom}
use Rattle.list_facts.proofs.BitLemmas.{xor_none, xor_nothing}
use Rattle.revs_tape.specs.declared.limits.TheConstants.{MOST_WRITES}
use Rattle.dependency_graph.specs.declared.node.Base.{Base}
use Rattle.dependency_graph.specs.declared.node.Base.TheVariants as bases
use Rattle.dependency_graph.specs.declared.node.Node.{Node}
use Rattle.dependency_graph.specs.declared.node.Node.TheVariants.{Not, Xor, And}
use Rattle.dependency_graph.specs.declared.node.Sig.{Sig}
use Rattle.dependency_graph.specs.declared.node.Sig.TheVariants.{Const, Is}
use Rattle.dependency_graph.specs.Graphs.{AreKnownNodes, IsKnownBase, IsKnownSig, base_bit, made_by, node_bit}
use Rattle.claim_check.specs.Settled.{IsSettled, SettledView, settled_outputs, settled_value}
use Rattle.bit_sums.specs.Sums.{SumView}
use Rattle.sum_graph.specs.Graphs.{IsKnownSum, IsSumGraph, sum_bit, sum_on, sum_outputs, sums_made}
use Rattle.sum_graph.specs.Plain.{plain_output, plain_sum}
use Rattle.sum_graph.proofs.OutputLemmas.{some_output}
use Rattle.sum_graph.proofs.PlainLemmas.{plain_value}
use Rattle.copied_plans.specs.inside.Copied.{copied_base, copied_nodes, copied_of, copied_output, copied_sums, copy_of, no_copy, on_copies}

-- ---- values

-- the third bit of each three is that of the node
record AreCopied (made bits : List Bool) : Type 0 where
  long : length made ≡ 3 * length bits
  same : (j : ℕ) → j < length bits → bit_of made (3 * j + 2) ≡ bit_of bits j

base_value : (assignment : ℕ → Bool) (made : List Bool) (base : Base) → sum_bit assignment made (plain_output (Is base)) ≡ base_bit assignment made base
base_value assignment made base =
    let v = base_bit assignment made base in
    xor_none (xor (xor v false) false) ∙ xor_nothing (xor v false) ∙ xor_nothing v

base_alike : (assignment : ℕ → Bool) (made bits : List Bool) (n : ℕ) (base : Base) → AreCopied made bits → IsKnownBase n (length bits) base
    → base_bit assignment made (copied_base base) ≡ base_bit assignment bits base
base_alike assignment made bits n (bases.Input i) are known = refl
base_alike assignment made bits n (bases.Node j) are known = are.same j known

-- the bits behind three more
module _ (made bits : List Bool) (are : AreCopied made bits) (one other value : Bool) where
  abbrev m1 : List Bool
  m1 = made ++ one ∷ []

  abbrev m2 : List Bool
  m2 = m1 ++ other ∷ []

  abbrev m3 : List Bool
  m3 = m2 ++ value ∷ []

  long1 : length m1 ≡ 3 * length bits + 1
  long1 = omega (arith, length-append made (one ∷ []), are.long)

  long2 : length m2 ≡ 3 * length bits + 2
  long2 = omega (arith, length-append m1 (other ∷ []), long1)

  first_bit : bit_of m2 (3 * length bits) ≡ one
  first_bit =
      get_or_append_left m1 (other ∷ []) false (3 * length bits) (omega (arith, long1))
      ∙ ap (λ (at : ℕ). get_or m1 at false) (sym are.long) ∙ get_or-append_seam made one [] false

  second_bit : bit_of m2 (3 * length bits + 1) ≡ other
  second_bit = ap (λ (at : ℕ). get_or m2 at false) (sym long1) ∙ get_or-append_seam m1 other [] false

  earlier_bit : (at : ℕ) → at < length made → bit_of m3 at ≡ bit_of made at
  earlier_bit at low =
      get_or_append_left m2 (value ∷ []) false at (omega (arith, low, long2, are.long))
      ∙ get_or_append_left m1 (other ∷ []) false at (omega (arith, low, long1, are.long))
      ∙ get_or_append_left made (one ∷ []) false at low

  third_bit : bit_of m3 (3 * length bits + 2) ≡ value
  third_bit = ap (λ (at : ℕ). get_or m3 at false) (sym long2) ∙ get_or-append_seam m2 value [] false

  same_bit : (j : ℕ) → j < length (bits ++ value ∷ []) → bit_of m3 (3 * j + 2) ≡ bit_of (bits ++ value ∷ []) j
  same_bit j below =
      let longer = length-append bits (value ∷ []) in
      elim (cases_lt j (length bits)) as (λ _. bit_of m3 (3 * j + 2) ≡ bit_of (bits ++ value ∷ []) j) [
        | inl less ↦ earlier_bit (3 * j + 2) (omega (arith, less, are.long)) ∙ are.same j less
            ∙ sym (get_or_append_left bits (value ∷ []) false j less)
        | inr last ↦
            (let here : j ≡ length bits = omega (arith, last, below, longer) in
            subst (λ (at : ℕ). bit_of m3 (3 * at + 2) ≡ bit_of (bits ++ value ∷ []) at) (sym here)
            (third_bit ∙ sym (get_or-append_seam bits value [] false)))
      ]

  three_more : AreCopied m3 (bits ++ value ∷ [])
  three_more = record {
    long = omega (arith, length-append m2 (value ∷ []), long2, length-append bits (value ∷ []));
    same = same_bit;
  }

-- a base behind one copy
later_base : (assignment : ℕ → Bool) (made bits : List Bool) (n : ℕ) (one : Bool) (base : Base) → AreCopied made bits → IsKnownBase n (length bits) base
    → base_bit assignment (made ++ one ∷ []) (copied_base base) ≡ base_bit assignment bits base
later_base assignment made bits n one (bases.Input i) are known = refl
later_base assignment made bits n one (bases.Node j) are known =
    get_or_append_left made (one ∷ []) false (3 * j + 2) (omega (arith, known, are.long)) ∙ are.same j known

-- the bits of a node's three sums, and of the settled node
next_copied : (assignment : ℕ → Bool) (made bits : List Bool) (one other value bit : Bool) (rest : List Node) → AreCopied made bits → value ≡ bit
    → (AreCopied (((made ++ one ∷ []) ++ other ∷ []) ++ value ∷ []) (bits ++ value ∷ [])
    → AreCopied (sums_made assignment (((made ++ one ∷ []) ++ other ∷ []) ++ value ∷ []) (copied_nodes (length (bits ++ value ∷ [])) rest))
    (made_by assignment (bits ++ value ∷ []) rest))
    → AreCopied (sums_made assignment (((made ++ one ∷ []) ++ other ∷ []) ++ value ∷ []) (copied_nodes (length bits + 1) rest))
    (made_by assignment (bits ++ bit ∷ []) rest)
next_copied assignment made bits one other value bit rest are same next =
    subst (λ (b : Bool). AreCopied (sums_made assignment (((made ++ one ∷ []) ++ other ∷ []) ++ value ∷ []) (copied_nodes (length bits + 1) rest))
    (made_by assignment (bits ++ b ∷ []) rest)) same
    (subst (λ (k : ℕ). AreCopied (sums_made assignment (((made ++ one ∷ []) ++ other ∷ []) ++ value ∷ []) (copied_nodes k rest))
    (made_by assignment (bits ++ value ∷ []) rest)) (length-append bits (value ∷ [])) (next (three_more made bits are one other value)))

-- a node of two operands, and those behind it
two_alike : (assignment : ℕ → Bool) (n : ℕ) (made bits : List Bool) (op : Bool → Bool → Bool) (node : Node) (a b : Base) (rest : List Node)
    → AreCopied made bits → IsKnownBase n (length bits) a → IsKnownBase n (length bits) b → AreKnownNodes n (length bits + 1) rest
    → ((both : List Bool)
    → node_bit assignment both (on_copies (3 * length bits) node) ≡ op (bit_of both (3 * length bits)) (bit_of both (3 * length bits + 1)))
    → ((m bs : List Bool) → AreCopied m bs → AreKnownNodes n (length bs) rest
    → AreCopied (sums_made assignment m (copied_nodes (length bs) rest)) (made_by assignment bs rest))
    → AreCopied (sums_made assignment made (copy_of a ∷ copy_of b ∷ plain_sum (on_copies (3 * length bits) node) ∷ copied_nodes (length bits + 1) rest))
    (made_by assignment (bits ++ op (base_bit assignment bits a) (base_bit assignment bits b) ∷ []) rest)
two_alike assignment n made bits op node a b rest are known_a known_b known computes next =
    let one = sum_bit assignment made (copy_of a) in
    let other = sum_bit assignment (made ++ one ∷ []) (copy_of b) in
    let both = (made ++ one ∷ []) ++ other ∷ [] in
    let value = sum_bit assignment both (plain_sum (on_copies (3 * length bits) node)) in
    let first = first_bit made bits are one other value ∙ base_value assignment made (copied_base a) ∙ base_alike assignment made bits n a are known_a in
    let second = second_bit made bits are one other value ∙ base_value assignment (made ++ one ∷ []) (copied_base b)
    ∙ later_base assignment made bits n one b are known_b in
    next_copied assignment made bits one other value (op (base_bit assignment bits a) (base_bit assignment bits b)) rest are
    (plain_value assignment both (on_copies (3 * length bits) node) ∙ computes both ∙ ap₂ op first second)
    (λ now. next (both ++ value ∷ []) (bits ++ value ∷ []) now
    (subst (λ (k : ℕ). AreKnownNodes n k rest) (sym (length-append bits (value ∷ []))) known))

nodes_alike : (assignment : ℕ → Bool) (n : ℕ) (made bits : List Bool) (nodes : List Node) → AreCopied made bits → AreKnownNodes n (length bits) nodes
    → AreCopied (sums_made assignment made (copied_nodes (length bits) nodes)) (made_by assignment bits nodes)
nodes_alike assignment n made bits [] are known = are
nodes_alike assignment n made bits (Not a ∷ rest) are known =
    let one = sum_bit assignment made (copy_of a) in
    let other = sum_bit assignment (made ++ one ∷ []) no_copy in
    let both = (made ++ one ∷ []) ++ other ∷ [] in
    let value = sum_bit assignment both (plain_sum (on_copies (3 * length bits) (Not a))) in
    let same : value ≡ not (base_bit assignment bits a) =
    plain_value assignment both (on_copies (3 * length bits) (Not a))
    ∙ ap not (first_bit made bits are one other value ∙ base_value assignment made (copied_base a)
    ∙ base_alike assignment made bits n a are known.0) in
    next_copied assignment made bits one other value (not (base_bit assignment bits a)) rest are same
    (λ now. nodes_alike assignment n (both ++ value ∷ []) (bits ++ value ∷ []) rest now
    (subst (λ (k : ℕ). AreKnownNodes n k rest) (sym (length-append bits (value ∷ []))) known.1))
nodes_alike assignment n made bits (Xor a b ∷ rest) are known =
    two_alike assignment n made bits xor (Xor a b) a b rest are known.0.0 known.0.1 known.1 (λ both. refl) (λ m bs. nodes_alike assignment n m bs rest)
nodes_alike assignment n made bits (And a b ∷ rest) are known =
    two_alike assignment n made bits ◌&&◌ (And a b) a b rest are known.0.0 known.0.1 known.1 (λ both. refl) (λ m bs. nodes_alike assignment n m bs rest)

made_length : (assignment : ℕ → Bool) (bits : List Bool) (nodes : List Node) → length (made_by assignment bits nodes) ≡ length bits + length nodes
made_length assignment bits [] = omega arith
made_length assignment bits (node ∷ rest) =
    let longer = length-append bits (node_bit assignment bits node ∷ []) in
    let rest_is = made_length assignment (bits ++ node_bit assignment bits node ∷ []) rest in
    omega (arith, longer, rest_is)

outputs_alike : (s : SettledView) (input : List Bool) (sigs : List Sig) → AreKnownNodes s.inputs 0 s.nodes
    → AllByRecursion (IsKnownSig s.inputs (length s.nodes)) sigs
    → map (sum_on (copied_nodes 0 s.nodes) input) (map copied_output sigs) ≡ map (settled_value s input) sigs
outputs_alike s input [] nodes known = refl
outputs_alike s input (Const bit ∷ rest) nodes known =
    ap₂ ◌∷◌ (ap (xor bit) (xor_none false) ∙ xor_nothing bit) (outputs_alike s input rest nodes known.1)
outputs_alike s input (Is base ∷ rest) nodes known =
    let made = sums_made (bit_of input) [] (copied_nodes 0 s.nodes) in
    let bits = made_by (bit_of input) [] s.nodes in
    let are : AreCopied made bits = nodes_alike (bit_of input) s.inputs [] [] s.nodes (record {
      long = omega arith;
      same = λ j low. absurd (omega (arith, low));
    }) nodes in
    let many = made_length (bit_of input) [] s.nodes in
    ap₂ ◌∷◌ (base_value (bit_of input) made (copied_base base)
    ∙ base_alike (bit_of input) made bits s.inputs base are (subst (λ (k : ℕ). IsKnownBase s.inputs k base) (omega (arith, many)) known.0))
    (outputs_alike s input rest nodes known.1)

-- the copied graph has on every input the values of the settled graph's outputs
pub copied_alike : (s : SettledView) (input : List Bool) → IsSettled s → sum_outputs (copied_of s) input ≡ settled_outputs s input
copied_alike s input is = outputs_alike s input s.outputs is.nodes is.outputs

-- ---- what a copied graph keeps

pub nodes_many : (k : ℕ) (nodes : List Node) → length (copied_nodes k nodes) ≡ 3 * length nodes
nodes_many k [] = omega arith
nodes_many k (Not a ∷ rest) = let more = nodes_many (k + 1) rest in omega (arith, more)
nodes_many k (Xor a b ∷ rest) = let more = nodes_many (k + 1) rest in omega (arith, more)
nodes_many k (And a b ∷ rest) = let more = nodes_many (k + 1) rest in omega (arith, more)

known_copy : (n k at : ℕ) (base : Base) → 3 * k ≤ at → IsKnownBase n k base → IsKnownSum n at (copy_of base)
known_copy n k at (bases.Input i) few known = record { bits = (lt-ltb i n known, tt); products = tt }
known_copy n k at (bases.Node j) few known = record { bits = (lt-ltb (3 * j + 2) at (omega (arith, few, known)), tt); products = tt }

known_none : (n at : ℕ) → IsKnownSum n at no_copy
known_none n at = record { bits = tt; products = tt }

known_nodes : (n k at : ℕ) (nodes : List Node) → at ≡ 3 * k → AreKnownNodes n k nodes → AllFrom (IsKnownSum n) at (copied_nodes k nodes)
known_nodes n k at [] same known = tt
known_nodes n k at (Not a ∷ rest) same known = (
  known_copy n k at a (omega (arith, same)) known.0,
  (
    known_none n (at + 1),
    (
      record { bits = (lt-ltb (3 * k) (at + 1 + 1) (omega (arith, same)), tt); products = tt },
      known_nodes n (k + 1) (at + 1 + 1 + 1) rest (omega (arith, same)) known.1,
    ),
  ),
)
known_nodes n k at (Xor a b ∷ rest) same known = (
  known_copy n k at a (omega (arith, same)) known.0.0,
  (
    known_copy n k (at + 1) b (omega (arith, same)) known.0.1,
    (
      record {
        bits = (lt-ltb (3 * k) (at + 1 + 1) (omega (arith, same)), (lt-ltb (3 * k + 1) (at + 1 + 1) (omega (arith, same)), tt));
        products = tt;
      },
      known_nodes n (k + 1) (at + 1 + 1 + 1) rest (omega (arith, same)) known.1,
    ),
  ),
)
known_nodes n k at (And a b ∷ rest) same known = (
  known_copy n k at a (omega (arith, same)) known.0.0,
  (
    known_copy n k (at + 1) b (omega (arith, same)) known.0.1,
    (
      record {
        bits = tt;
        products = (
          record {
            first = (lt-ltb (3 * k) (at + 1 + 1) (omega (arith, same)), tt);
            second = (lt-ltb (3 * k + 1) (at + 1 + 1) (omega (arith, same)), tt);
          },
          tt,
        );
      },
      known_nodes n (k + 1) (at + 1 + 1 + 1) rest (omega (arith, same)) known.1,
    ),
  ),
)

known_outputs : (n k at : ℕ) (sigs : List Sig) → 3 * k ≤ at → AllByRecursion (IsKnownSig n k) sigs
    → AllByRecursion (IsKnownSum n at) (map copied_output sigs)
known_outputs n k at [] few known = tt
known_outputs n k at (Const bit ∷ rest) few known = (record { bits = tt; products = tt }, known_outputs n k at rest few known.1)
known_outputs n k at (Is base ∷ rest) few known = (known_copy n k at base few known.0, known_outputs n k at rest few known.1)

pub copied_keeps : (s : SettledView) → IsSettled s → 3 * length s.nodes ≤ MOST_WRITES → IsSumGraph (copied_of s)
copied_keeps s is few =
    let many = nodes_many 0 s.nodes in
    record {
      nodes = known_nodes s.inputs 0 0 s.nodes (omega arith) is.nodes;
      outputs = known_outputs s.inputs (length s.nodes) (length (copied_nodes 0 s.nodes)) s.outputs (omega (arith, many)) is.outputs;
      some = λ some.
          (let more = some_output s is (omega (arith, some, many)) in omega (arith, more, length-map s.outputs copied_output));
      few_inputs = is.few_inputs;
      few_outputs = omega (arith, length-map s.outputs copied_output, is.few_outputs);
      few_nodes = omega (arith, many, few);
    }

-- ---- one node more

pub copied_push : (k : ℕ) (nodes : List Node) (node : Node)
    → copied_nodes k (nodes ++ node ∷ []) ≡ copied_nodes k nodes ++ copied_sums (3 * (k + length nodes)) node
copied_push k [] node = ap (λ (at : ℕ). copied_sums (3 * at) node ++ []) (omega arith) ∙ append-nil (copied_sums (3 * (k + 0)) node)
copied_push k (x ∷ xs) node =
    ap (λ (rest : List SumView). copied_sums (3 * k) x ++ rest) (copied_push (k + 1) xs node)
    ∙ sym (append_assoc (copied_sums (3 * k) x) (copied_nodes (k + 1) xs) (copied_sums (3 * (k + 1 + length xs)) node))
    ∙ ap (λ (at : ℕ). (copied_sums (3 * k) x ++ copied_nodes (k + 1) xs) ++ copied_sums (3 * at) node) (omega arith)
