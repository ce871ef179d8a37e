-- At the end the circuit is clean.
use Rattle.std.proofs.Common.{◌≡◌, ℕ, zero, suc, replicate, ◌+◌, ◌-◌, ◌<◌, ◌≤◌, Bool, true, false, List, [], ◌∷◌, ◌++◌, length, get_or, map, take, drop, slice_get, Some, refl, sym, ap, ap₂, ◌∙◌, subst, arith}
use Rattle.std.proofs.Common.{append_assoc, append-nil, length-append}
use Rattle.std.specs.Bool.{xor}
use Rattle.std.specs.List.{AllByRecursion}
use Rattle.std.proofs.lemmas.List.{drop_all, drop_more, get_or-append_right, get_or_append_left, length-drop, length-map, length-replicate, length-take-le, map-append, nil_from_length, replicate-append-replicate, take-append-drop, take_all, take_more}
use Rattle.std.proofs.lemmas.Bool.{ltb-true}
use Rattle.std.proofs.Math.Seq.{take-append_seam}
use Rattle.list_facts.specs.Bits.{bit_of, zeros}
use Rattle.list_facts.specs.Lists.{AllFrom, below}
use Rattle.list_facts.proofs.AllLemmas.{AllFrom-push}
use Rattle.list_facts.proofs.BitLemmas.{xor_none, xor_nothing}
use Rattle.list_facts.proofs.OrderLemmas.{length-below}
use Rattle.dependency_graph.specs.declared.node.Base.{Base}
use Rattle.dependency_graph.specs.declared.node.Base.TheVariants as bases
use Rattle.dependency_graph.specs.Graphs.{base_bit}
use Rattle.bit_sums.specs.Sums.{SumView, xor_by}
use Rattle.circuit_plans.specs.declared.plan.TheConstants.{MOST_LINES}
use Rattle.circuit_plans.specs.declared.roles.Start.{Start}
use Rattle.circuit_plans.specs.declared.roles.Start.TheVariants.{Any, Zero}
use Rattle.circuit_plans.specs.Plans.{AddsOutput, BudgetView, MayHold, added}
use Rattle.sum_graph.specs.Graphs.{first_work}
use Rattle.circuit_plans.specs.Plans.{roles_of_plan}
use Rattle.circuit_plans.specs.Plans.{HasPortLines, IsNarrowPlan}
use Rattle.mct_circuit.specs.Gates.{line_map}
use Rattle.sum_graph.specs.Graphs.{AreKnownSums, IsKnownSum, IsSumGraph, SumGraphView, is_known, sum_bit, sum_on, sum_outputs, sums_made}
use Rattle.sum_graph.proofs.SumNodeLemmas.{sum_on-more, sum_same}
use Rattle.line_states.specs.States.{AreEnded, AreStates, StatesView, all_sums, begun, bit_value, ended_set, given_lines, output_set, planned_of, start_sets}
use Rattle.line_states.proofs.GateLemmas.{narrow_weight}
use Rattle.line_states.proofs.StateLemmas.{given_few}
use Rattle.line_states.proofs.ToggleLemmas.{node_is}
use Rattle.line_states.proofs.ValueLemmas.{bits_of}

-- ---- sets of one bit, and of none

-- the set of an output line at the start
abbrev held_set : Start → Base → List Base
held_set Any held = held ∷ []
held_set Zero held = []

alone_value : (f : Base → Bool) (base : Base) (set : List Base) → set ≡ base ∷ [] → xor_by f set ≡ f base
alone_value f base set is = ap (xor_by f) is ∙ xor_nothing (f base)

-- lines that hold the bits that they are given, from the k-th on
given_hold : (g : SumGraphView) (given : List Bool) (k : ℕ) (sets : List (List Base)) → AllFrom (λ i (set : List Base). set ≡ bases.Input i ∷ []) k sets
    → k + length sets ≤ length given → bits_of (bit_value g given) sets ≡ take (length sets) (drop k given)
given_hold g given k [] are few = refl
given_hold g given k (set ∷ sets) are few =
    ap₂ (λ (b : Bool) (bs : List Bool). b ∷ bs) (alone_value (bit_value g given) (bases.Input k) set are.0)
    (given_hold g given (k + 1) sets are.1 (omega (arith, few)))
    ∙ sym (ap (take (length (set ∷ sets))) (drop_more given k false (omega (arith, few))))

found_at : {A : Type 0} (front : List A) (x : A) (back : List A) → slice_get (front ++ x ∷ back) (length front) ≡ Some x
found_at [] x back = refl
found_at (y ∷ ys) x back = found_at ys x back

-- the value of an output line's set, where the line was given this bit
ended_value : (start : Start) (f : Base → Bool) (held output : Base) (set : List Base) (bit : Bool) → set ≡ output_set start held output
    → xor_by f (held_set start held) ≡ bit → xor_by f set ≡ xor bit (f output)
ended_value Any f held output set bit is was =
    ap (xor_by f) is ∙ ap₂ xor (sym (xor_nothing (f held)) ∙ was) (xor_nothing (f output))
ended_value Zero f held output set bit is was =
    ap (xor_by f) is ∙ xor_nothing (f output) ∙ sym (xor_none (f output)) ∙ ap (λ (b : Bool). xor b (f output)) was

-- the output lines from the k-th on add their outputs to the bits that they were given
module _ (start : Start) (g : SumGraphView) (given held : List Bool) (is : IsSumGraph g)
    (told : (k : ℕ) → k < length held → xor_by (bit_value g given) (held_set start (bases.Input (g.inputs + k))) ≡ bit_of held k)
  where
    outputs_hold : (front sums : List SumView) (k : ℕ) (sets : List (List Base))
        → AllFrom (λ j (set : List Base). set ≡ ended_set start g.inputs (length g.nodes) j) k sets → length sets ≡ length sums
        → k + length sums ≡ length held → length front ≡ length g.nodes + k → all_sums g ≡ front ++ sums
        → bits_of (bit_value g given) sets ≡ added (drop k held) (map (sum_on (all_sums g) given) sums)
    outputs_hold front [] k [] are size many here cut = sym (ap (λ (bits : List Bool). added bits []) (drop_all k held (omega (arith, many))))
    outputs_hold front [] k (set ∷ sets) are size many here cut = absurd (omega (arith, size))
    outputs_hold front (s ∷ ss) k [] are size many here cut = absurd (omega (arith, size))
    outputs_hold front (s ∷ ss) k (set ∷ sets) are size many here cut =
        let low : k < length held = omega (arith, many) in
        let there : slice_get (all_sums g) (length g.nodes + k) ≡ Some s =
        ap (slice_get (all_sums g)) (sym here) ∙ ap (λ (sums : List SumView). slice_get sums (length front)) cut ∙ found_at front s ss in
        let longer : length (front ++ s ∷ []) ≡ length g.nodes + (k + 1) = let l = length-append front (s ∷ []) in omega (arith, l, here) in
        ap₂ (λ (b : Bool) (bs : List Bool). b ∷ bs)
        (ended_value start (bit_value g given) (bases.Input (g.inputs + k)) (bases.Node (length g.nodes + k)) set (bit_of held k) are.0 (told k low)
        ∙ ap (xor (bit_of held k)) (node_is g given (length g.nodes + k) s is there))
        (outputs_hold (front ++ s ∷ []) ss (k + 1) sets are.1 (omega (arith, size)) (omega (arith, many)) longer
        (cut ∙ sym (append_assoc front (s ∷ []) ss)))
        ∙ sym (ap (λ (bits : List Bool). added bits (map (sum_on (all_sums g) given) (s ∷ ss))) (drop_more held k false low))

work_hold : (f : Base → Bool) (sets : List (List Base)) → AllByRecursion (λ (set : List Base). set ≡ []) sets → bits_of f sets ≡ zeros (length sets)
work_hold f [] are = refl
work_hold f (set ∷ sets) are = ap₂ (λ (b : Bool) (bs : List Bool). b ∷ bs) (ap (xor_by f) are.0) (work_hold f sets are.1)

pub start_hold : (g : SumGraphView) (given : List Bool) (count others : ℕ) → length given ≡ count
    → given ++ zeros others ≡ bits_of (bit_value g given) (start_sets count others)
start_hold g given count others size =
    let f = bit_value g given in
    let front = map (λ (i : ℕ). bases.Input i ∷ []) (below count) in
    let long : length front ≡ count = length-map (below count) (λ (i : ℕ). bases.Input i ∷ []) ∙ length-below count in
    let first : bits_of f front ≡ given =
    given_hold g given 0 front (alone_inputs count) (omega (arith, long, size)) ∙ take_all (length front) given (omega (arith, long, size)) in
    let second : bits_of f (replicate others []) ≡ zeros others =
    work_hold f (replicate others []) (none_each others) ∙ ap zeros (length-replicate others []) in
    sym (map-append (xor_by f) front (replicate others []) ∙ ap₂ (λ (a b : List Bool). a ++ b) first second)
  where
    alone_inputs : (n : ℕ) → AllFrom (λ i (set : List Base). set ≡ bases.Input i ∷ []) 0 (map (λ (i : ℕ). bases.Input i ∷ []) (below n))
    alone_inputs zero = tt
    alone_inputs (suc n) =
        let alone = λ (i : ℕ). bases.Input i ∷ [] in
        let long : 0 + length (map (λ (i : ℕ). bases.Input i ∷ []) (below n)) ≡ n =
        (let a = length-map (below n) (λ (i : ℕ). bases.Input i ∷ []) in omega (arith, a, length-below n)) in
        subst (λ (sets : List (List Base)). AllFrom (λ i (set : List Base). set ≡ bases.Input i ∷ []) 0 sets)
        (sym (map-append (λ (i : ℕ). bases.Input i ∷ []) (below n) (n ∷ [])))
        (AllFrom-push (λ i (set : List Base). set ≡ bases.Input i ∷ []) 0 (map (λ (i : ℕ). bases.Input i ∷ []) (below n)) (bases.Input n ∷ [])
        (alone_inputs n) (ap (λ (i : ℕ). bases.Input i ∷ []) (sym long)))

    none_each : (n : ℕ) → AllByRecursion (λ (set : List Base). set ≡ []) (replicate n [])
    none_each zero = tt
    none_each (suc n) = (refl, none_each n)

start_long : (given others : ℕ) → length (start_sets given others) ≡ given + others
start_long given others =
    let all = length-append (map (λ (i : ℕ). bases.Input i ∷ []) (below given)) (replicate others []) in
    let front = length-map (below given) (λ (i : ℕ). bases.Input i ∷ []) in
    let none : List Base = [] in
    let back = length-replicate others none in
    omega (arith, all, front, back, length-below given)

pub begun_kept : (g : SumGraphView) (b : BudgetView) (start : Start) → IsSumGraph g → b.lines ≤ MOST_LINES → HasPortLines (first_work g) b
    → AreStates (begun g b start)
begun_kept g b start is most few =
    let given = given_lines start g in
    let others = first_work g - given in
    let ports : given ≤ first_work g = given_few start g in
    let long : length (start_sets given others) ≡ first_work g = let l = start_long given others in omega (arith, l, ports) in
    record {
      graph = is;
      wide = omega (arith, long);
      most = most;
      few = omega (arith, long, few);
      limited = omega arith;
      gates_on = tt;
      narrow = tt;
      holds = record {
        on = λ bits size.
            (let left : length (start_sets given others) - given ≡ others = omega (arith, long) in
            ap (λ (n : ℕ). bits ++ zeros n) left ∙ start_hold g bits given others size);
      };
    }

-- one set more
pub from_more : {X : Type 0} (P : ℕ → X → Type 0) (k j i : ℕ) (xs : List X) (x : X) → j ≡ k + i → i < length xs → AllFrom P k (take i xs)
    → P j (get_or xs i x) → AllFrom P k (take (i + 1) xs)
from_more P k j i xs x e low known is =
    let long : j ≡ k + length (take i xs) = (let l = length-take-le i xs (omega (arith, low)) in omega (arith, l, e)) in
    subst (AllFrom P k) (sym (take_more xs i x low)) (AllFrom-push P k (take i xs) (get_or xs i x) known
    (subst (λ (n : ℕ). P n (get_or xs i x)) long is))

-- what holds of all holds at a place
pub from_at : {X : Type 0} (P : ℕ → X → Type 0) (k j i : ℕ) (xs : List X) (x : X) → j ≡ k + i → i < length xs → AllFrom P k xs → P j (get_or xs i x)
from_at P k j i [] x e low all = absurd (omega (arith, low))
from_at P k j zero (y ∷ ys) x e low all = let same : k ≡ j = omega (arith, e) in subst (λ (n : ℕ). P n y) same all.0
from_at P k j (suc i) (y ∷ ys) x e low all = from_at P (k + 1) j i ys x (omega (arith, e)) (omega (arith, low)) all.1

-- outputs have the values that they have over the nodes alone
outputs_same : (n : ℕ) (nodes more sums : List SumView) (input : List Bool) → AllByRecursion (IsKnownSum n (length nodes)) sums
    → map (sum_on (nodes ++ more) input) sums ≡ map (sum_on nodes input) sums
outputs_same n nodes more [] input known = refl
outputs_same n nodes more (s ∷ ss) input known =
    ap₂ (λ (b : Bool) (bs : List Bool). b ∷ bs) (sum_on-more n nodes more input s known.0) (outputs_same n nodes more ss input known.1)

-- ---- bits that no sum asks

-- a known base has the same bit wherever the inputs have theirs
base_same : (n k : ℕ) (a b : ℕ → Bool) → ((i : ℕ) → i < n → a i ≡ b i) → (made : List Bool) (base : Base) → is_known n k base ≡ true
    → base_bit a made base ≡ base_bit b made base
base_same n k a b same made (bases.Input i) known = same i (ltb-true i n known)
base_same n k a b same made (bases.Node j) known = refl

made_same : (n : ℕ) (a b : ℕ → Bool) → ((i : ℕ) → i < n → a i ≡ b i) → (made : List Bool) (k : ℕ) (nodes : List SumView) → AreKnownSums n k nodes
    → sums_made a made nodes ≡ sums_made b made nodes
made_same n a b same made k [] known = refl
made_same n a b same made k (s ∷ ss) known =
    made_same n a b same (made ++ sum_bit a made s ∷ []) (k + 1) ss known.1
    ∙ ap (λ (bit : Bool). sums_made b (made ++ bit ∷ []) ss)
    (sum_same (base_bit a made) (base_bit b made) (is_known n k) (base_same n k a b same made) s known.0)

values_same : (n : ℕ) (nodes sums : List SumView) (a b : List Bool) → ((i : ℕ) → i < n → bit_of a i ≡ bit_of b i) → AreKnownSums n 0 nodes
    → AllByRecursion (IsKnownSum n (length nodes)) sums → map (sum_on nodes a) sums ≡ map (sum_on nodes b) sums
values_same n nodes [] a b same known are = refl
values_same n nodes (s ∷ ss) a b same known are =
    let made = made_same n (bit_of a) (bit_of b) same [] 0 nodes known in
    ap₂ (λ (x : Bool) (xs : List Bool). x ∷ xs)
    (ap (λ (bits : List Bool). sum_bit (bit_of a) bits s) made
    ∙ sum_same (base_bit (bit_of a) (sums_made (bit_of b) [] nodes)) (base_bit (bit_of b) (sums_made (bit_of b) [] nodes)) (is_known n (length nodes))
    (base_same n (length nodes) (bit_of a) (bit_of b) same (sums_made (bit_of b) [] nodes)) s are.0)
    (values_same n nodes ss a b same known are.1)

-- ---- the end

module _ (s : StatesView) (are : AreStates s) (ended : AreEnded s) where
  abbrev g : SumGraphView
  g = s.graph

  abbrev n : ℕ
  n = s.graph.inputs

  abbrev m : ℕ
  m = length s.graph.outputs

  abbrev rest : List (List Base)
  rest = drop n s.sets

  abbrev work : ℕ
  work = length s.sets - first_work s.graph

  rest_long : length rest ≡ length s.sets - n
  rest_long = length-drop n s.sets

  -- where these bits follow the input's among those that are given
  module _ (input more held : List Bool) (size : length input ≡ n) (wide : length held ≡ m)
      (told : (k : ℕ) → k < length held
      → xor_by (bit_value s.graph (input ++ more)) (held_set s.start (bases.Input (s.graph.inputs + k))) ≡ bit_of held k)
    where
      abbrev given : List Bool
      given = input ++ more

      ended_bits : map (xor_by (bit_value g given)) s.sets ≡ input ++ (added held (sum_outputs g input) ++ zeros work)
      ended_bits =
          let f = bit_value g given in
          let long : length (take n s.sets) ≡ n = length-take-le n s.sets (omega (arith, are.wide)) in
          let many : length (take m rest) ≡ m = length-take-le m rest (omega (arith, are.wide, rest_long)) in
          let left : length (drop m rest) ≡ work = let l = length-drop m rest in omega (arith, l, rest_long, are.wide) in
          let split : take n s.sets ++ (take m rest ++ drop m rest) ≡ s.sets =
          ap (λ (sets : List (List Base)). take n s.sets ++ sets) (take-append-drop m rest) ∙ take-append-drop n s.sets in
          let all : length given ≡ length input + length more = length-append input more in
          let first : bits_of f (take n s.sets) ≡ input =
          given_hold g given 0 (take n s.sets) ended.own (omega (arith, long, size, all))
          ∙ ap (λ (k : ℕ). take k given) (long ∙ sym size) ∙ take-append_seam input more in
          let second : bits_of f (take m rest) ≡ added held (sum_outputs g input) =
          outputs_hold s.start g given held are.graph told g.nodes g.outputs 0 (take m rest) ended.added many
          (omega (arith, wide)) (omega arith) refl
          ∙ ap (added held) (outputs_same n g.nodes g.outputs g.outputs given are.graph.outputs
          ∙ values_same n g.nodes g.outputs given input
          (λ i low. get_or_append_left input more false i (omega (arith, low, size))) are.graph.nodes are.graph.outputs) in
          let third : bits_of f (drop m rest) ≡ zeros work = work_hold f (drop m rest) ended.empty ∙ ap zeros left in
          sym (ap (map (xor_by f)) split)
          ∙ map-append (xor_by f) (take n s.sets) (take m rest ++ drop m rest)
          ∙ ap₂ (λ (a b : List Bool). a ++ b) first (map-append (xor_by f) (take m rest) (drop m rest)
          ∙ ap₂ (λ (a b : List Bool). a ++ b) second third)

      -- the work lines hold zeros, and no line is borrowed
      ended_adds : (borrowed : List Bool) → length borrowed ≡ 0 → length given ≡ given_lines s.start g
          → input ++ (held ++ zeros work) ≡ given ++ zeros (length s.sets - given_lines s.start g)
          → AddsOutput (roles_of_plan (planned_of s)) s.gates input held (sum_outputs g input) borrowed
      ended_adds borrowed none known start =
          let nothing : borrowed ≡ [] = nil_from_length borrowed none in
          let same : zeros work ++ borrowed ≡ zeros work = ap (λ (bits : List Bool). zeros work ++ bits) nothing ∙ append-nil (zeros work) in
          record {
            mapped =
                ap (λ (bits : List Bool). line_map s.gates (input ++ (held ++ bits))) same
                ∙ ap (line_map s.gates) start
                ∙ are.holds.on given known
                ∙ ended_bits
                ∙ ap (λ (bits : List Bool). input ++ (added held (sum_outputs g input) ++ bits)) (sym same);
          }

behind : (xs ys : List Bool) (m k : ℕ) → length xs ≡ m → bit_of (xs ++ ys) (m + k) ≡ bit_of ys k
behind xs ys m k size =
    let same : m + k - m ≡ k = omega arith in
    get_or-append_right xs ys m (m + k) false size (omega arith) ∙ ap (bit_of ys) same

zero_at : (count k : ℕ) → bit_of (zeros count) k ≡ false
zero_at zero k = refl
zero_at (suc count) zero = refl
zero_at (suc count) (suc k) = zero_at count k

-- what is held is given, or zeros
adds_held : (s : StatesView) (are : AreStates s) (ended : AreEnded s) (start : Start) → s.start ≡ start → (input held borrowed : List Bool)
    → length input ≡ s.graph.inputs → length held ≡ length s.graph.outputs → MayHold start held → length borrowed ≡ 0
    → AddsOutput (roles_of_plan (planned_of s)) s.gates input held (sum_outputs s.graph input) borrowed
adds_held s are ended Any is input held borrowed size wide may none =
    let given : given_lines s.start s.graph ≡ first_work s.graph = ap (λ (t : Start). given_lines t s.graph) is in
    let long : length (input ++ held) ≡ length input + length held = length-append input held in
    ended_adds s are ended input held held size wide
    (λ k low. ap (λ (t : Start). xor_by (bit_value s.graph (input ++ held)) (held_set t (bases.Input (s.graph.inputs + k)))) is
    ∙ xor_nothing (bit_of (input ++ held) (s.graph.inputs + k))
    ∙ behind input held s.graph.inputs k size)
    borrowed none (omega (arith, long, size, wide, given))
    (sym (append_assoc input held (zeros (length s.sets - first_work s.graph)))
    ∙ ap (λ (k : ℕ). (input ++ held) ++ zeros (length s.sets - k)) (sym given))
adds_held s are ended Zero is input held borrowed size wide may none =
    let given : given_lines s.start s.graph ≡ s.graph.inputs = ap (λ (t : Start). given_lines t s.graph) is in
    let m = length s.graph.outputs in
    let work = length s.sets - first_work s.graph in
    let long : length (input ++ []) ≡ s.graph.inputs = ap (λ (bits : List Bool). length bits) (append-nil input) ∙ size in
    let all : m + work ≡ length s.sets - given_lines s.start s.graph = omega (arith, are.wide, given) in
    let zero : held ≡ zeros m = may ∙ ap zeros wide in
    ended_adds s are ended input [] held size wide
    (λ k low. ap (λ (t : Start). xor_by (bit_value s.graph (input ++ [])) (held_set t (bases.Input (s.graph.inputs + k)))) is
    ∙ sym (ap (λ (bits : List Bool). bit_of bits k) zero ∙ zero_at m k))
    borrowed none (long ∙ sym given)
    (ap (λ (bits : List Bool). input ++ (bits ++ zeros work)) zero
    ∙ ap (λ (bits : List Bool). input ++ bits) (replicate-append-replicate m work false ∙ ap zeros all)
    ∙ ap (λ (bits : List Bool). bits ++ zeros (length s.sets - given_lines s.start s.graph)) (sym (append-nil input)))

pub ended_plan : (s : StatesView) → AreStates s → AreEnded s
    → IsNarrowPlan s.start s.graph.inputs (length s.graph.outputs) (sum_outputs s.graph) s.budget (planned_of s)
ended_plan s are ended = record {
  ports = record { inputs = refl; outputs = refl; lines = omega (arith, are.wide) };
  clean = record {
    size = λ input size. length-map s.graph.outputs (sum_on s.graph.nodes input);
    adds = adds_held s are ended s.start refl;
  };
  within = record { lines = are.few; gates = omega (arith, narrow_weight s.gates are.narrow, are.limited) };
  narrow = are.narrow;
}
