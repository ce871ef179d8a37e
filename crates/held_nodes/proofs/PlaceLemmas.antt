-- A toggle acts on a work line that none of its operands has.
use Rattle.std.proofs.Common.{◌≡◌, ◌≢◌, ℕ, zero, suc, ◌+◌, ◌<◌, ◌≤◌, Bool, true, false, List, [], ◌∷◌, length, Option, Some, None, is_some, unwrap_or}
use Rattle.std.proofs.Common.{slice_get, set, refl, sym, ap, ◌∙◌, subst, inl, arith}
use Rattle.std.specs.Bool.{xor}
use Rattle.std.specs.List.{AllByRecursion, flat_map, list_all}
use Rattle.std.proofs.lemmas.Bool.{and_parts, both_ways, false≢true, ltb-true}
use Rattle.std.proofs.lemmas.List.{length-map}
use Rattle.std.proofs.lemmas.Option.{none-some, same_Some}
use Rattle.list_facts.specs.Bits.{bit_of}
use Rattle.list_facts.proofs.AllLemmas.{AllByRecursion-append, AllByRecursion-weaker}
use Rattle.list_facts.proofs.AmongLemmas.{all_among, all_from_among}
use Rattle.dependency_graph.specs.declared.node.Base.{Base}
use Rattle.dependency_graph.specs.declared.node.Base.TheVariants as bases
use Rattle.dependency_graph.specs.Graphs.{IsKnownBase, base_bit}
use Rattle.bit_sums.specs.Sums.{AreAll, IsProductOver, ProductView, SumView, bases_of, product_bases}
use Rattle.gate_split.specs.Costs.{IsRoomyFlip}
use Rattle.circuit_plans.specs.declared.plan.TheConstants.{MOST_LINES}
use Rattle.mct_circuit.specs.Gates.{AreGatesOn, AreNarrow, GateView, line_map, positive}
use Rattle.sum_graph.specs.Graphs.{AreKnownSums, IsKnownSum, SumGraphView, is_known, node_value, sum_on, sums_made}
use Rattle.sum_graph.proofs.SumNodeLemmas.{value_of_sum}
use Rattle.sum_toggles.specs.Toggles.{AreApart, HaveLines, IsPlacedBase, base_line, sum_gates}
use Rattle.sum_toggles.proofs.AddingLemmas.{on_lines}
use Rattle.sum_toggles.proofs.SumLemmas.{narrow_sum, sum_adds, sums_on}
use Rattle.held_nodes.specs.Held.{IsContent, held_line, is_held, is_ready}
use Rattle.sum_graph.specs.Graphs.{first_work}
use Rattle.held_nodes.specs.Moves.{IsReadyBase, toggle_of}
use Rattle.held_nodes.specs.inside.Kept.{HasProducts}
use Rattle.held_nodes.proofs.ContentLemmas.{AddsValue, all_lines, length-all_lines, input_bit, work_bit, set_work}
use Rattle.held_nodes.proofs.LineLemmas.{AreOnDifferent, held_within}

-- ---- flips of few controls

-- narrow gates on the lines have room
pub narrow_roomy : (n : ℕ) (gates : List GateView) → AreNarrow gates → AreGatesOn n gates → AllByRecursion (IsRoomyFlip n) gates
narrow_roomy n [] narrow on = tt
narrow_roomy n (g ∷ gates) narrow on =
    let is = narrow.0 in (
      record {
        on = on.0;
        target = is.target;
        is_flip = ap (λ (gate : GateView). gate.op) is.is_flip;
        room = inl (let size : length g.controls ≡ length is.controls =
            ap (λ (gate : GateView). length gate.controls) is.is_flip ∙ length-map is.controls positive in omega (arith, is.few, size));
      },
      narrow_roomy n gates narrow.1 on.1,
    )

-- ---- known bases

known_base : (n k : ℕ) (b : Base) → is_known n k b ≡ true → IsKnownBase n k b
known_base n k (bases.Input i) known = ltb-true i n known
known_base n k (bases.Node j) known = ltb-true j k known

known_bits : (n k : ℕ) (bits : List Base) → AreAll (is_known n k) bits → AllByRecursion (IsKnownBase n k) bits
known_bits n k bits known = AllByRecursion-weaker (λ b. is_known n k b ≡ true) (IsKnownBase n k) (known_base n k) bits known

known_products : (n k : ℕ) (ps : List ProductView) → AllByRecursion (IsProductOver (is_known n k)) ps
    → AllByRecursion (IsKnownBase n k) (flat_map product_bases ps)
known_products n k [] known = tt
known_products n k (p ∷ ps) known =
    AllByRecursion-append (IsKnownBase n k) (product_bases p) (flat_map product_bases ps)
    (AllByRecursion-append (IsKnownBase n k) p.first p.second (known_bits n k p.first known.0.first) (known_bits n k p.second known.0.second))
    (known_products n k ps known.1)

-- the operands of a known sum are known
pub known_bases : (n k : ℕ) (s : SumView) → IsKnownSum n k s → AllByRecursion (IsKnownBase n k) (bases_of s)
known_bases n k s known =
    AllByRecursion-append (IsKnownBase n k) s.bits (flat_map product_bases s.products) (known_bits n k s.bits known.bits)
    (known_products n k s.products known.products)

known_at_from : (n k i : ℕ) (nodes : List SumView) (s : SumView) → AreKnownSums n k nodes → slice_get nodes i ≡ Some s → IsKnownSum n (k + i) s
known_at_from n k i [] s known is = absurd (none-some s is)
known_at_from n k zero (x ∷ xs) s known is =
    let same : k + 0 ≡ k = omega arith in
    rw same (subst (λ (y : SumView). IsKnownSum n k y) (same_Some x s is) known.0)
known_at_from n k (suc i) (x ∷ xs) s known is =
    let same : k + suc i ≡ k + 1 + i = omega arith in
    rw same (known_at_from n (k + 1) i xs s known.1 is)

-- the node at a place is known there
pub known_at : (n k : ℕ) (nodes : List SumView) (s : SumView) → AreKnownSums n 0 nodes → slice_get nodes k ≡ Some s → IsKnownSum n k s
known_at n k nodes s known is = let same : 0 + k ≡ k = omega arith in rw same at (known_at_from n 0 k nodes s known is)

-- ---- bases that can be used

pub ready_bases : (lines : List (Option ℕ)) (bs : List Base) → list_all (is_ready lines) bs ≡ true → AllByRecursion (IsReadyBase lines) bs
ready_bases lines [] all = tt
ready_bases lines (bases.Input i ∷ bs) all = (tt, ready_bases lines bs all)
ready_bases lines (bases.Node k ∷ bs) all =
    let parts = and_parts (is_held lines k) (list_all (is_ready lines) bs) all in (parts.0, ready_bases lines bs parts.1)

-- ---- one base

pub record HasOwn (lines : List (Option ℕ)) (k : ℕ) : Type 0 where
  pub own : ℕ
  pub is : held_line lines k ≡ Some own

own_of : (x : Option ℕ) → is_some x ≡ true → (own : ℕ) × (x ≡ Some own)
own_of None e = absurd (false≢true e)
own_of (Some own) e = (own, refl)

-- a held node has a line
pub held_own : (lines : List (Option ℕ)) (k : ℕ) → is_held lines k ≡ true → HasOwn lines k
held_own lines k e = let found = own_of (held_line lines k) e in record { own = found.0; is = found.1 }

none_of : (x : Option ℕ) → is_some x ≡ false → x ≡ None
none_of None e = refl
none_of (Some own) e = absurd (both_ways true e refl)

pub unheld_none : (lines : List (Option ℕ)) (k : ℕ) → is_held lines k ≡ false → held_line lines k ≡ None
unheld_none lines k e = none_of (held_line lines k) e

-- The k-th node can be toggled on this work line: its operands are inputs or held on other lines.
pub record CanToggleOn (s : SumGraphView) (lines : List (Option ℕ)) (work k line : ℕ) (node : SumView) : Type 0 where
  pub known : IsKnownSum s.inputs k node
  pub ready : AllByRecursion (IsReadyBase lines) (bases_of node)
  pub different : AreOnDifferent lines
  pub below : (j own : ℕ) → held_line lines j ≡ Some own → own < work
  pub inside : line < work
  pub apart : (j own : ℕ) → j < k → held_line lines j ≡ Some own → own ≢ line

pub work_line_is : (first : ℕ) (lines : List (Option ℕ)) (j own : ℕ) → held_line lines j ≡ Some own → base_line first lines (bases.Node j) ≡ first + own
work_line_is first lines j own is = ap (λ (x : Option ℕ). first + unwrap_or x 0) is

pub placed : (first most : ℕ) (lines : List (Option ℕ)) (base : Base) → ((j own : ℕ) → held_line lines j ≡ Some own → own < most) → first + most ≤ MOST_LINES
    → IsReadyBase lines base → IsPlacedBase first lines base
placed first most lines (bases.Input i) below few ready = tt
placed first most lines (bases.Node j) below few ready =
    let held = held_own lines j ready in
    let line : unwrap_or (held_line lines j) 0 ≡ held.own = ap (λ (x : Option ℕ). unwrap_or x 0) held.is in
    (held_within lines j held.own held.is, omega (arith, line, below j held.own held.is, few))

pub low_base : (n first work k : ℕ) (lines : List (Option ℕ)) (base : Base) → n ≤ first → ((j own : ℕ) → held_line lines j ≡ Some own → own < work)
    → IsKnownBase n k base → IsReadyBase lines base → base_line first lines base < first + work
low_base n first work k lines (bases.Input i) le below known ready = omega (arith, le, known)
low_base n first work k lines (bases.Node j) le below known ready =
    let held = held_own lines j ready in
    omega (arith, work_line_is first lines j held.own held.is, below j held.own held.is)

apart_base : (n first k line : ℕ) (lines : List (Option ℕ)) (base : Base) → n ≤ first → ((j own : ℕ) → j < k → held_line lines j ≡ Some own → own ≢ line)
    → IsKnownBase n k base → IsReadyBase lines base → base_line first lines base ≢ first + line
apart_base n first k line lines (bases.Input i) le apart known ready same = absurd (omega (arith, same, le, known))
apart_base n first k line lines (bases.Node j) le apart known ready same =
    let held = held_own lines j ready in
    apart j held.own known held.is (omega (arith, work_line_is first lines j held.own held.is, same))

own_bases : (n first k : ℕ) (lines : List (Option ℕ)) (a b : Base) → n ≤ first → AreOnDifferent lines → IsKnownBase n k a → IsKnownBase n k b
    → IsReadyBase lines a → IsReadyBase lines b → base_line first lines a ≡ base_line first lines b → a ≡ b
own_bases n first k lines (bases.Input i) (bases.Input j) le different known also ready too same = ap (λ (m : ℕ). bases.Input m) same
own_bases n first k lines (bases.Input i) (bases.Node j) le different known also ready too same = absurd (omega (arith, same, le, known))
own_bases n first k lines (bases.Node i) (bases.Input j) le different known also ready too same = absurd (omega (arith, same, le, also))
own_bases n first k lines (bases.Node i) (bases.Node j) le different known also ready too same =
    let one = held_own lines i ready in
    let two = held_own lines j too in
    let own : one.own ≡ two.own = omega (arith, work_line_is first lines i one.own one.is, work_line_is first lines j two.own two.is, same) in
    ap (λ (m : ℕ). bases.Node m) (different i j one.own one.is (two.is ∙ ap (λ (m : ℕ). Some m) (sym own)))

-- the values of all nodes on an input
abbrev pub values_on : SumGraphView → List Bool → List Bool
values_on s input = sums_made (bit_of input) [] s.nodes

pub shown_base : (s : SumGraphView) (lines : List (Option ℕ)) (work k : ℕ) (gates : List GateView) (input outputs content : List Bool) (base : Base)
    → length input ≡ s.inputs → length outputs ≡ length s.outputs → IsContent s lines work gates input content
    → IsKnownBase s.inputs k base → IsReadyBase lines base
    → bit_of (all_lines input outputs content) (base_line (first_work s) lines base) ≡ base_bit (bit_of input) (values_on s input) base
shown_base s lines work k gates input outputs content (bases.Input i) size many is known ready =
    input_bit input outputs content i (omega (arith, known, size))
shown_base s lines work k gates input outputs content (bases.Node j) size many is known ready =
    let held = held_own lines j ready in
    ap (bit_of (all_lines input outputs content)) (work_line_is (first_work s) lines j held.own held.is)
    ∙ work_bit input outputs content (first_work s) held.own (omega (arith, size, many))
    ∙ is.held j held.own held.is

-- ---- good bases

-- known among the first k nodes, and ready
pub record IsGoodBase (n k : ℕ) (lines : List (Option ℕ)) (b : Base) : Type 0 where
  pub known : IsKnownBase n k b
  pub ready : IsReadyBase lines b

pub good_bases : (n k : ℕ) (lines : List (Option ℕ)) (s : SumView) → IsKnownSum n k s → AllByRecursion (IsReadyBase lines) (bases_of s)
    → AllByRecursion (IsGoodBase n k lines) (bases_of s)
good_bases n k lines s known ready =
    all_from_among (IsGoodBase n k lines) (bases_of s) (λ b among. record {
      known = all_among (IsKnownBase n k) (bases_of s) (known_bases n k s known) b among;
      ready = all_among (IsReadyBase lines) (bases_of s) ready b among;
    })

pub all_placed : (first most : ℕ) (lines : List (Option ℕ)) (some : List Base) → ((j own : ℕ) → held_line lines j ≡ Some own → own < most)
    → first + most ≤ MOST_LINES → AllByRecursion (IsReadyBase lines) some → AllByRecursion (IsPlacedBase first lines) some
all_placed first most lines some below few ready =
    AllByRecursion-weaker (IsReadyBase lines) (IsPlacedBase first lines) (λ b is. placed first most lines b below few is) some ready

-- lines that are apart for good bases are so for these
pub apart_of : (n k size target : ℕ) (lines : List (Option ℕ)) (line : Base → ℕ) (some : List Base) → HaveLines (IsGoodBase n k lines) line size target
    → AllByRecursion (IsGoodBase n k lines) some → AreApart line target some
apart_of n k size target lines line some have good = record {
  apart = λ b among. have.apart b (all_among (IsGoodBase n k lines) some good b among);
  own = λ a b among also same. have.own a b (all_among (IsGoodBase n k lines) some good a among) (all_among (IsGoodBase n k lines) some good b also) same;
}

-- the gates of a sum of good bases set the target to the exclusive or of its bit and the value of the sum
pub good_adds : (s : SumGraphView) (lines : List (Option ℕ)) (work k target : ℕ) (gates : List GateView) (input outputs content : List Bool) (node : SumView)
    → HaveLines (IsGoodBase s.inputs k lines) (base_line (first_work s) lines) (first_work s + work) target
    → AllByRecursion (IsGoodBase s.inputs k lines) (bases_of node) → HasProducts node
    → length input ≡ s.inputs → length outputs ≡ length s.outputs → IsContent s lines work gates input content
    → line_map (sum_gates (base_line (first_work s) lines) target node) (all_lines input outputs content)
    ≡ set (all_lines input outputs content) target (xor (sum_on s.nodes input node) (bit_of (all_lines input outputs content) target))
good_adds s lines work k target gates input outputs content node have good are size many is =
    let bits = all_lines input outputs content in
    let line = base_line (first_work s) lines in
    let long : length bits ≡ first_work s + work = (let all = length-all_lines input outputs content in omega (arith, all, size, many, is.long)) in
    let adding = sum_adds (IsGoodBase s.inputs k lines) line (first_work s + work) target have node are good in
    adding.adds bits long
    ∙ ap (λ v. set bits target (xor v (bit_of bits target)))
    (adding.rests (on_lines line bits) (base_bit (bit_of input) (values_on s input))
    (λ b fine. shown_base s lines work k gates input outputs content b size many is fine.known fine.ready))

pub good_roomy : (n k size target : ℕ) (lines : List (Option ℕ)) (line : Base → ℕ) (node : SumView) → HaveLines (IsGoodBase n k lines) line size target
    → AllByRecursion (IsGoodBase n k lines) (bases_of node) → HasProducts node → AllByRecursion (IsRoomyFlip size) (sum_gates line target node)
good_roomy n k size target lines line node have good are =
    narrow_roomy size (sum_gates line target node) (narrow_sum line target node) (sums_on (IsGoodBase n k lines) line size target have node are good)

-- ---- a toggle

le_first : (s : SumGraphView) → s.inputs ≤ first_work s
le_first s = omega arith

module _ (s : SumGraphView) (lines : List (Option ℕ)) (work k line : ℕ) (node : SumView) (can : CanToggleOn s lines work k line node) where
  toggle_lines : HaveLines (IsGoodBase s.inputs k lines) (base_line (first_work s) lines) (first_work s + work) (first_work s + line)
  toggle_lines = record {
    target_low = omega (arith, can.inside);
    low = λ b good. low_base s.inputs (first_work s) work k lines b (le_first s) can.below good.known good.ready;
    apart = λ b good. apart_base s.inputs (first_work s) k line lines b (le_first s) can.apart good.known good.ready;
    own = λ a b good also same. own_bases s.inputs (first_work s) k lines a b (le_first s) can.different good.known also.known good.ready also.ready same;
  }

  toggle_good : AllByRecursion (IsGoodBase s.inputs k lines) (bases_of node)
  toggle_good = good_bases s.inputs k lines node can.known can.ready

  pub toggle_placed : first_work s + work ≤ MOST_LINES → AllByRecursion (IsPlacedBase (first_work s) lines) (bases_of node)
  toggle_placed few = all_placed (first_work s) work lines (bases_of node) can.below few can.ready

  pub toggle_apart : AreApart (base_line (first_work s) lines) (first_work s + line) (bases_of node)
  toggle_apart =
      apart_of s.inputs k (first_work s + work) (first_work s + line) lines (base_line (first_work s) lines) (bases_of node) toggle_lines toggle_good

  pub toggle_roomy : HasProducts node → AllByRecursion (IsRoomyFlip (first_work s + work)) (toggle_of (first_work s) lines line node)
  toggle_roomy are =
      good_roomy s.inputs k (first_work s + work) (first_work s + line) lines (base_line (first_work s) lines) node toggle_lines toggle_good are

  -- the gates of a toggle add the node's value to its line
  pub toggle_adds : (gates : List GateView) (input content : List Bool) → HasProducts node → AreKnownSums s.inputs 0 s.nodes → slice_get s.nodes k ≡ Some node
      → length input ≡ s.inputs → IsContent s lines work gates input content
      → AddsValue s (toggle_of (first_work s) lines line node) line input content (node_value s input k)
  toggle_adds gates input content are known at size is = record {
    adds = λ outputs many.
        (let first = first_work s in
        let bits = all_lines input outputs content in
        let here = work_bit input outputs content first line (omega (arith, size, many)) in
        good_adds s lines work k (first + line) gates input outputs content node toggle_lines toggle_good are size many is
        ∙ ap (λ value. set bits (first + line) (xor value (bit_of bits (first + line)))) (sym (value_of_sum s.inputs s.nodes input k node known at))
        ∙ ap (λ bit. set bits (first + line) (xor (node_value s input k) bit)) here
        ∙ set_work input outputs content first line (xor (node_value s input k) (bit_of content line)) (omega (arith, size, many)));
  }

-- ---- an output

-- good bases have other lines than an output
pub output_lines : (n first work k target : ℕ) (lines : List (Option ℕ)) → n ≤ target → target < first → AreOnDifferent lines
    → ((j own : ℕ) → held_line lines j ≡ Some own → own < work)
    → HaveLines (IsGoodBase n k lines) (base_line first lines) (first + work) target
output_lines n first work k target lines le fits different below = record {
  target_low = omega (arith, fits);
  low = λ b good. low_base n first work k lines b (omega (arith, le, fits)) below good.known good.ready;
  apart = λ b good. other b good.known good.ready;
  own = λ a b good also same. own_bases n first k lines a b (omega (arith, le, fits)) different good.known also.known good.ready also.ready same;
}
  where
    other : (base : Base) → IsKnownBase n k base → IsReadyBase lines base → base_line first lines base ≢ target
    other (bases.Input i) known ready same = absurd (omega (arith, same, known, le))
    other (bases.Node j) known ready same =
        let held = held_own lines j ready in
        absurd (omega (arith, same, work_line_is first lines j held.own held.is, fits))
