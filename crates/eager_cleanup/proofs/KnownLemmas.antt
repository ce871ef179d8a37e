-- The values of nodes are their polynomials, or some node has too many monomials.
use Rattle.std.proofs.Common.{◌≡◌, ℕ, ◌+◌, ◌<◌, ◌≤◌, Bool, not, ◌&&◌, inl, inr, List, [], ◌∷◌, ◌++◌, length, set, slice_get, Option, Some, None, refl, sym, ap}
use Rattle.std.proofs.Common.{◌∙◌, subst, arith, length-append}
use Rattle.std.specs.Bool.{xor}
use Rattle.std.specs.List.{AllByRecursion}
use Rattle.std.proofs.lemmas.Bool.{cases_lt}
use Rattle.std.proofs.lemmas.Bool.Decides.{leb_tells}
use Rattle.std.proofs.lemmas.List.{get_or_append_left, get_or_push, get_or-set_other, length-set}
use Rattle.list_facts.specs.Lists.{IsAmong}
use Rattle.list_facts.proofs.AllLemmas.{AllByRecursion-weaker}
use Rattle.list_facts.proofs.AmongLemmas.{all_among}
use Rattle.std.proofs.lemmas.Option.{slice_get_within}
use Rattle.claim_check.specs.Budgets.{most_cleaned}
use Rattle.claim_check.specs.Measures.{node_function}
use Rattle.claim_check.specs.Settled.{SettledView, settled_value}
use Rattle.dependency_graph.specs.declared.node.Base.{Base}
use Rattle.dependency_graph.specs.declared.node.Base.TheVariants as bases
use Rattle.dependency_graph.specs.declared.node.Node.{Node}
use Rattle.dependency_graph.specs.declared.node.Node.TheVariants.{Not, Xor, And}
use Rattle.dependency_graph.specs.declared.node.Sig.TheVariants.{Is}
use Rattle.dependency_graph.specs.Graphs.{AreKnownNodes, IsKnownBase, IsKnownNode, operands}
use Rattle.exclusive_sums.specs.Limits.{IsPolynomialUpTo}
use Rattle.claim_check.proofs.NodeLemmas.{known_at, value_of_node}
use Rattle.list_facts.specs.Bits.{bit_of}
use Rattle.revs_tape.specs.Monomials.{AreMonomialsOf}
use Rattle.revs_tape.specs.Polynomials.{IsPolynomial, IsPolynomialOf, value_of_polynomial}
use Rattle.revs_tape.proofs.MonomialLemmas.{firsts, monomials_are_determined, value-monomials}
use Rattle.revs_tape.proofs.PolynomialLemmas.{polynomials_are_unique}
use Rattle.revs_tape.proofs.SumLemmas.{IsPolynomial-input, value-input}
use Rattle.eager_cleanup.specs.inside.Known.{Polynomial, AreFirstValues, AreInputValues, HasLargeNode, IsJoin, IsKnownValue, IsNegation, IsValueOf, base_value}
use Rattle.eager_cleanup.specs.inside.Known.{last_use_of, value_at}
use Rattle.eager_cleanup.proofs.UserLemmas.{used_here}

-- ---- polynomials of functions of the inputs

-- a polynomial whose values are told by the first inputs is that of this function
over_from_values : (n : ℕ) (f : List Bool → Bool) (r : Polynomial) → IsPolynomial r → ((x : ℕ → Bool) → value_of_polynomial x r ≡ f (firsts n x))
    → AreMonomialsOf n f r
over_from_values n f r is values =
    let own = monomials_are_determined n f in
    let same : own.monomials ≡ r = polynomials_are_unique own.monomials r own.are.is_polynomial is
    (λ x. value-monomials n f own.monomials own.are x ∙ sym (values x)) in
    subst (AreMonomialsOf n f) same own.are

negated : (n : ℕ) (f g : List Bool → Bool) (p r : Polynomial) → AreMonomialsOf n f p → ((v : List Bool) → g v ≡ not (f v))
    → IsPolynomialOf (λ x. not (value_of_polynomial x p)) r → AreMonomialsOf n g r
negated n f g p r are e is =
    over_from_values n g r is.is_polynomial (λ x. is.values x ∙ ap not (value-monomials n f p are x) ∙ sym (e (firsts n x)))

joined : (join : Bool → Bool → Bool) (n : ℕ) (f g h : List Bool → Bool) (p q r : Polynomial) → AreMonomialsOf n f p → AreMonomialsOf n g q
    → ((v : List Bool) → h v ≡ join (f v) (g v))
    → IsPolynomialOf (λ x. join (value_of_polynomial x p) (value_of_polynomial x q)) r → AreMonomialsOf n h r
joined join n f g h p q r first second e is = over_from_values n h r is.is_polynomial (λ x.
    is.values x
    ∙ ap (λ (bit : Bool). join bit (value_of_polynomial x q)) (value-monomials n f p first x)
    ∙ ap (join (f (firsts n x))) (value-monomials n g q second x)
    ∙ sym (e (firsts n x)))

-- ---- operands

-- a base as a function of the inputs
abbrev base_function : SettledView → Base → List Bool → Bool
base_function s base input = settled_value s input (Is base)

abbrev IsBaseValue : SettledView → Base → Option Polynomial → Type 0
IsBaseValue s base None = HasLargeNode s
IsBaseValue s base (Some p) = AreMonomialsOf s.inputs (base_function s base) p

of_node : (s : SettledView) (k : ℕ) (value : Option Polynomial) → IsKnownValue s k value → IsBaseValue s (bases.Node k) value
of_node s k None large = large
of_node s k (Some p) is = is.are

-- ---- one node

limited : (s : SettledView) (k : ℕ) (function : (ℕ → Bool) → Bool) (answer : Option Polynomial) → k < length s.nodes
    → IsPolynomialUpTo most_cleaned function answer
    → ((r : Polynomial) → IsPolynomialOf function r → AreMonomialsOf s.inputs (node_function s k) r) → IsKnownValue s k answer
limited s k function answer inside up are =
    elim (leb_tells (length up.monomials) most_cleaned) as (λ _. IsKnownValue s k answer) [
      | inl t ↦ let is : answer ≡ Some up.monomials = up.answers ∙ rw t.0 refl in
          subst (λ (v : Option Polynomial). IsKnownValue s k v) (sym is) (record { are = are up.monomials up.is_of; few = t.1 })
      | inr t ↦ let is : answer ≡ None = up.answers ∙ rw t.0 refl in
          subst (λ (v : Option Polynomial). IsKnownValue s k v) (sym is)
          (record { node = k; inside = inside; monomials = up.monomials; are = are up.monomials up.is_of; large = t.1 })
    ]

negation_known : (s : SettledView) (k : ℕ) (a : Base) (value answer : Option Polynomial) → k < length s.nodes → IsBaseValue s a value
    → ((v : List Bool) → node_function s k v ≡ not (base_function s a v)) → IsNegation value answer → IsKnownValue s k answer
negation_known s k a None answer inside large e is = subst (λ (v : Option Polynomial). IsKnownValue s k v) (sym is) large
negation_known s k a (Some p) answer inside are e is =
    limited s k (λ x. not (value_of_polynomial x p)) answer inside is (λ r of. negated s.inputs (base_function s a) (node_function s k) p r are e of)

join_known : (join : Bool → Bool → Bool) (s : SettledView) (k : ℕ) (a b : Base) (value second answer : Option Polynomial) → k < length s.nodes
    → IsBaseValue s a value → IsBaseValue s b second
    → ((v : List Bool) → node_function s k v ≡ join (base_function s a v) (base_function s b v)) → IsJoin join value second answer
    → IsKnownValue s k answer
join_known join s k a b None second answer inside large other e is = subst (λ (v : Option Polynomial). IsKnownValue s k v) (sym is) large
join_known join s k a b (Some p) None answer inside are large e is = subst (λ (v : Option Polynomial). IsKnownValue s k v) (sym is) large
join_known join s k a b (Some p) (Some q) answer inside are other e is =
    limited s k (λ x. join (value_of_polynomial x p) (value_of_polynomial x q)) answer inside is
    (λ r of. joined join s.inputs (base_function s a) (base_function s b) (node_function s k) p q r are other e of)

-- What is known before a node: the values of the inputs and of the earlier nodes.
pub record IsBefore (s : SettledView) (inputs : List Polynomial) (known : List (Option Polynomial)) (k : ℕ) (node : Node) : Type 0 where
  pub inside : k < length s.nodes
  pub nodes : AreKnownNodes s.inputs 0 s.nodes
  pub is : slice_get s.nodes k ≡ Some node
  pub inputs_are : AreInputValues inputs
  pub input_count : length inputs ≡ s.inputs
  pub known_are : AreFirstValues s k known

-- the operands of a node are known there
known_operands : (n k : ℕ) (node : Node) → IsKnownNode n k node → AllByRecursion (IsKnownBase n k) (operands node)
known_operands n k (Not a) known = (known, tt)
known_operands n k (Xor a b) known = (known.0, (known.1, tt))
known_operands n k (And a b) known = (known.0, (known.1, tt))

-- the operands of a node are inputs and earlier nodes
pub operands_earlier : (s : SettledView) (k : ℕ) (node : Node) → AreKnownNodes s.inputs 0 s.nodes → slice_get s.nodes k ≡ Some node
    → AllByRecursion (IsKnownBase s.inputs k) (operands node)
operands_earlier s k node nodes is = known_operands s.inputs k node (known_at s.inputs k s.nodes node nodes is)

base_known : (s : SettledView) (inputs : List Polynomial) (known : List (Option Polynomial)) (k : ℕ) (node : Node) (base : Base)
    → IsBefore s inputs known k node → IsAmong base (operands node) → IsBaseValue s base (base_value inputs known base)
base_known s inputs known k node (bases.Input i) before among =
    let low : i < s.inputs =
    all_among (IsKnownBase s.inputs k) (operands node) (operands_earlier s k node before.nodes before.is) (bases.Input i) among in
    subst (λ (p : Polynomial). AreMonomialsOf s.inputs (base_function s (bases.Input i)) p)
    (sym (before.inputs_are.each i (omega (arith, low, before.input_count))))
    (record { is_polynomial = IsPolynomial-input i; over_inputs = ((low, tt), tt); values = λ input size. value-input (bit_of input) i })
base_known s inputs known k node (bases.Node j) before among =
    let low : j < k =
    all_among (IsKnownBase s.inputs k) (operands node) (operands_earlier s k node before.nodes before.is) (bases.Node j) among in
    of_node s j (value_at known j) (before.known_are.each j low (used_here s k j node before.is among))

node_known : (s : SettledView) (inputs : List Polynomial) (known : List (Option Polynomial)) (k : ℕ) (node : Node) (answer : Option Polynomial)
    → IsBefore s inputs known k node → IsValueOf inputs known node answer → IsKnownValue s k answer
node_known s inputs known k (Not a) answer before is =
    negation_known s k a (base_value inputs known a) answer before.inside (base_known s inputs known k (Not a) a before (inl refl))
    (λ v. value_of_node s v k (Not a) before.nodes before.is) is
node_known s inputs known k (Xor a b) answer before is =
    join_known xor s k a b (base_value inputs known a) (base_value inputs known b) answer before.inside
    (base_known s inputs known k (Xor a b) a before (inl refl)) (base_known s inputs known k (Xor a b) b before (inr (inl refl)))
    (λ v. value_of_node s v k (Xor a b) before.nodes before.is) is
node_known s inputs known k (And a b) answer before is =
    join_known (λ p q. p && q) s k a b (base_value inputs known a) (base_value inputs known b) answer before.inside
    (base_known s inputs known k (And a b) a before (inl refl)) (base_known s inputs known k (And a b) b before (inr (inl refl)))
    (λ v. value_of_node s v k (And a b) before.nodes before.is) is

-- the values with that of this node
pub values_more : (s : SettledView) (inputs : List Polynomial) (known : List (Option Polynomial)) (k : ℕ) (node : Node) (answer : Option Polynomial)
    → IsBefore s inputs known k node → IsValueOf inputs known node answer → AreFirstValues s (k + 1) (known ++ answer ∷ [])
values_more s inputs known k node answer before is =
    let here : IsKnownValue s k answer = node_known s inputs known k node answer before is in
    let count : length known ≡ k = before.known_are.one_each in
    record {
      one_each = omega (arith, length-append known (answer ∷ []), count);
      each = λ j low later. elim (cases_lt j k) as (λ _. IsKnownValue s j (value_at (known ++ answer ∷ []) j)) [
        | inl early ↦
            subst (λ (v : Option Polynomial). IsKnownValue s j v) (sym (get_or_append_left known (answer ∷ []) None j (omega (arith, early, count))))
            (before.known_are.each j early (omega (arith, later)))
        | inr late ↦
            let at : k ≡ j = omega (arith, late, low) in
            subst (λ (i : ℕ). IsKnownValue s i (value_at (known ++ answer ∷ []) i)) at
            (subst (λ (v : Option Polynomial). IsKnownValue s k v) (sym (get_or_push known answer None k count)) here)
      ];
    }

-- the values without that of a node that is not needed later
pub value_dropped : (s : SettledView) (user k : ℕ) (known : List (Option Polynomial)) → last_use_of s k ≡ user → AreFirstValues s (user + 1) known
    → AreFirstValues s (user + 1) (set known k None)
value_dropped s user k known last are = record {
  one_each = length-set known k None ∙ are.one_each;
  each = λ j low later. subst (λ (v : Option Polynomial). IsKnownValue s j v)
      (sym (get_or-set_other known k j None None (λ e. absurd (omega (arith, later, ap (last_use_of s) e, last))))) (are.each j low later);
}

known_later : (n k m : ℕ) (base : Base) → k ≤ m → IsKnownBase n k base → IsKnownBase n m base
known_later n k m (bases.Input i) le known = known
known_later n k m (bases.Node j) le known = omega (arith, le, known)

-- the operands of a node are in the graph
pub operands_inside : (s : SettledView) (k : ℕ) (node : Node) → AreKnownNodes s.inputs 0 s.nodes → slice_get s.nodes k ≡ Some node
    → AllByRecursion (IsKnownBase s.inputs (length s.nodes)) (operands node)
operands_inside s k node nodes is =
    let low : k < length s.nodes = slice_get_within s.nodes k node is in
    AllByRecursion-weaker (IsKnownBase s.inputs k) (IsKnownBase s.inputs (length s.nodes))
    (λ base here. known_later s.inputs k (length s.nodes) base (omega (arith, low)) here) (operands node) (operands_earlier s k node nodes is)
