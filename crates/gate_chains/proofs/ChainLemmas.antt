-- Chains of gates, forward and backward.
use Rattle.std.proofs.Common.{◌≡◌, ℕ, ◌+◌, ◌≤◌, max, Bool, true, false, cond, ◌||◌, eqb, List, [], ◌∷◌, ◌++◌, reverse}
use Rattle.std.proofs.Common.{refl, sym, subst, ◌∙◌, inl, inr, arith}
use Rattle.std.specs.Prelude.{sum_by}
use Rattle.std.proofs.lemmas.Bool.{cases_lt, or_from, or_parts, true_from_ne_false, false≢true}
use Rattle.std.proofs.lemmas.Bool.Decides.{eqb_tells}
use Rattle.std.proofs.lemmas.List.{reverse-append}
use Rattle.std.proofs.lemmas.List.Sorted.{IsPermutation-reverse, sum_by-IsPermutation}
use Rattle.std.proofs.lemmas.List.Sums.{sum_by-cons}
use Rattle.mct_circuit.specs.Gates.{GateView, lines_of}
use Rattle.mct_circuit.specs.Sizes.{gate_depth, greatest_depth, has_line, share_a_line}
use Rattle.gate_chains.specs.inside.Chains.{AreLinked, AreSomeOf, HasChain, ShareALine, left_out, no_gates, taken}

-- ---- lines are shared both ways

no_line : (x y : ℕ) → eqb x y ≡ false → x ≡ y → ⊥
no_line x y other same = elim (eqb_tells x y) as (λ _. ⊥) [ inl e ↦ false≢true (sym other ∙ e.0) | inr e ↦ e.1 same ]

other_line : (x y : ℕ) → eqb x y ≡ false → eqb y x ≡ false
other_line x y other = elim (eqb_tells y x) as (λ _. eqb y x ≡ false) [ inl e ↦ absurd (no_line x y other (sym e.1)) | inr e ↦ e.0 ]

share_no_more : (x : ℕ) (xs ys : List ℕ) → has_line x ys ≡ false → share_a_line ys xs ≡ false → share_a_line ys (x ∷ xs) ≡ false
share_no_more x xs [] lacks none = refl
share_no_more x xs (y ∷ ys) lacks none =
    let here = or_parts (eqb x y) (has_line x ys) lacks in
    let there = or_parts (has_line y xs) (share_a_line ys xs) none in
    or_from (eqb y x || has_line y xs) (share_a_line ys (x ∷ xs)) (or_from (eqb y x) (has_line y xs) (other_line x y here.0) there.0)
    (share_no_more x xs ys here.1 there.1)

share_nothing : (ys : List ℕ) → share_a_line ys [] ≡ false
share_nothing [] = refl
share_nothing (y ∷ ys) = share_nothing ys

not_shared : (xs ys : List ℕ) → share_a_line xs ys ≡ false → share_a_line ys xs ≡ false
not_shared [] ys none = share_nothing ys
not_shared (x ∷ xs) ys none =
    let parts = or_parts (has_line x ys) (share_a_line xs ys) none in share_no_more x xs ys parts.0 (not_shared xs ys parts.1)

other_way : (one other : GateView) → ShareALine one other → ShareALine other one
other_way one other shared =
    true_from_ne_false (share_a_line (lines_of other) (lines_of one))
    (λ none. false≢true (sym (not_shared (lines_of other) (lines_of one) none) ∙ shared))

-- ---- a chain weighs no more than the depth

own_weight : (weigh : GateView → ℕ) (gate : GateView) (gates : List GateView) → weigh gate ≤ gate_depth weigh gate gates
own_weight weigh gate [] = omega arith
own_weight weigh gate (other ∷ earlier) = let rest = own_weight weigh gate earlier in omega (arith, rest)

shared_at_least : (shared : Bool) (w deep rest : ℕ) → shared ≡ true → w + deep ≤ max (cond shared (w + deep) 0) rest
shared_at_least true w deep rest is = omega arith
shared_at_least false w deep rest is = absurd (false≢true is)

behind_gate : (weigh : GateView → ℕ) (gate : GateView) (chain gates : List GateView) → AreSomeOf chain gates → AreLinked (gate ∷ chain)
    → weigh gate + sum_by weigh chain ≤ gate_depth weigh gate gates
behind_gate weigh gate chain gates no_gates linked = omega arith
behind_gate weigh gate chain gates (taken next some all is) linked =
    let rest = behind_gate weigh next some all is linked.1 in
    let here = shared_at_least (share_a_line (lines_of gate) (lines_of next)) (weigh gate) (gate_depth weigh next all) (gate_depth weigh gate all) linked.0 in
    omega (arith, rest, here, sum_by-cons weigh next some)
behind_gate weigh gate chain gates (left_out other some all is) linked =
    let rest = behind_gate weigh gate chain all is linked in omega (arith, rest)

pub chain_bound : (weigh : GateView → ℕ) (chain gates : List GateView) → AreSomeOf chain gates → AreLinked chain
    → sum_by weigh chain ≤ greatest_depth weigh gates
chain_bound weigh chain gates no_gates linked = omega arith
chain_bound weigh chain gates (taken gate some all is) linked =
    let here = behind_gate weigh gate some all is linked in omega (arith, here, sum_by-cons weigh gate some)
chain_bound weigh chain gates (left_out gate some all is) linked = let rest = chain_bound weigh chain all is linked in omega (arith, rest)

-- ---- some chain weighs as much

-- a chain behind a gate, of this weight with it
record HasChainBehind (weigh : GateView → ℕ) (gate : GateView) (gates : List GateView) (weight : ℕ) : Type 0 where
  chain : List GateView
  among : AreSomeOf chain gates
  linked : AreLinked (gate ∷ chain)
  weighs : weigh gate + sum_by weigh chain ≡ weight

chain_behind : (weigh : GateView → ℕ) (gate : GateView) (gates : List GateView) → HasChainBehind weigh gate gates (gate_depth weigh gate gates)
chain_behind weigh gate [] = record { chain = []; among = no_gates; linked = tt; weighs = omega arith }
chain_behind weigh gate (other ∷ earlier) =
    of_either (share_a_line (lines_of gate) (lines_of other)) refl (chain_behind weigh gate earlier) (chain_behind weigh other earlier)
  where
    passed_over : (weight : ℕ) → HasChainBehind weigh gate earlier weight → HasChainBehind weigh gate (other ∷ earlier) weight
    passed_over weight h = record { chain = h.chain; among = left_out other h.chain earlier h.among; linked = h.linked; weighs = h.weighs }

    put_first : (weight : ℕ) → ShareALine gate other → HasChainBehind weigh other earlier weight
        → HasChainBehind weigh gate (other ∷ earlier) (weigh gate + weight)
    put_first weight shared h = record {
      chain = other ∷ h.chain;
      among = taken other h.chain earlier h.among;
      linked = (shared, h.linked);
      weighs = omega (arith, sum_by-cons weigh other h.chain, h.weighs);
    }

    of_either : (shared : Bool) → share_a_line (lines_of gate) (lines_of other) ≡ shared
        → HasChainBehind weigh gate earlier (gate_depth weigh gate earlier) → HasChainBehind weigh other earlier (gate_depth weigh other earlier)
        → HasChainBehind weigh gate (other ∷ earlier)
        (max (cond shared (weigh gate + gate_depth weigh other earlier) 0) (gate_depth weigh gate earlier))
    of_either false is past here = passed_over (max 0 (gate_depth weigh gate earlier))
        (subst (HasChainBehind weigh gate earlier) (omega arith) past)
    of_either true is past here = elim (cases_lt (weigh gate + gate_depth weigh other earlier) (gate_depth weigh gate earlier)) [
      | inl less ↦ passed_over (max (weigh gate + gate_depth weigh other earlier) (gate_depth weigh gate earlier))
          (subst (HasChainBehind weigh gate earlier) (omega (arith, less)) past)
      | inr more ↦ subst (HasChainBehind weigh gate (other ∷ earlier)) (omega (arith, more))
          (put_first (gate_depth weigh other earlier) is here)
    ]

pub greatest_chain : (weigh : GateView → ℕ) (gates : List GateView) → HasChain weigh gates (greatest_depth weigh gates)
greatest_chain weigh [] = record { chain = []; among = no_gates; linked = tt; weighs = refl }
greatest_chain weigh (gate ∷ earlier) =
    of_either (chain_behind weigh gate earlier) (greatest_chain weigh earlier)
  where
    of_either : HasChainBehind weigh gate earlier (gate_depth weigh gate earlier) → HasChain weigh earlier (greatest_depth weigh earlier)
        → HasChain weigh (gate ∷ earlier) (max (gate_depth weigh gate earlier) (greatest_depth weigh earlier))
    of_either here past = elim (cases_lt (gate_depth weigh gate earlier) (greatest_depth weigh earlier)) [
      | inl less ↦ record {
        chain = past.chain;
        among = left_out gate past.chain earlier past.among;
        linked = past.linked;
        weighs = omega (arith, less, past.weighs);
      }
      | inr more ↦ record {
        chain = gate ∷ here.chain;
        among = taken gate here.chain earlier here.among;
        linked = here.linked;
        weighs = omega (arith, more, sum_by-cons weigh gate here.chain, here.weighs);
      }
    ]

-- ---- reversed chains

some_more : (some all : List GateView) (gate : GateView) → AreSomeOf some all → AreSomeOf (some ++ gate ∷ []) (all ++ gate ∷ [])
some_more some all gate no_gates = taken gate [] [] no_gates
some_more some all gate (taken first others rest is) = taken first (others ++ gate ∷ []) (rest ++ gate ∷ []) (some_more others rest gate is)
some_more some all gate (left_out first others rest is) = left_out first (others ++ gate ∷ []) (rest ++ gate ∷ []) (some_more others rest gate is)

none_more : (some all : List GateView) (gate : GateView) → AreSomeOf some all → AreSomeOf some (all ++ gate ∷ [])
none_more some all gate no_gates = left_out gate [] [] no_gates
none_more some all gate (taken first others rest is) = taken first others (rest ++ gate ∷ []) (none_more others rest gate is)
none_more some all gate (left_out first others rest is) = left_out first others (rest ++ gate ∷ []) (none_more others rest gate is)

reversed_cons : (gate : GateView) (gates : List GateView) → reverse (gate ∷ gates) ≡ reverse gates ++ gate ∷ []
reversed_cons gate gates = reverse-append (gate ∷ []) gates

some_reversed : (some all : List GateView) → AreSomeOf some all → AreSomeOf (reverse some) (reverse all)
some_reversed some all no_gates = no_gates
some_reversed some all (taken gate others rest is) =
    subst (λ (gates : List GateView). AreSomeOf gates (reverse (gate ∷ rest))) (sym (reversed_cons gate others))
    (subst (AreSomeOf (reverse others ++ gate ∷ [])) (sym (reversed_cons gate rest))
    (some_more (reverse others) (reverse rest) gate (some_reversed others rest is)))
some_reversed some all (left_out gate others rest is) =
    subst (AreSomeOf (reverse others)) (sym (reversed_cons gate rest)) (none_more (reverse others) (reverse rest) gate (some_reversed others rest is))

linked_more : (gates : List GateView) (last more : GateView) → AreLinked (gates ++ last ∷ []) → ShareALine last more
    → AreLinked (gates ++ (last ∷ (more ∷ [])))
linked_more [] last more linked shared = (shared, tt)
linked_more (gate ∷ []) last more linked shared = (linked.0, (shared, tt))
linked_more (gate ∷ (next ∷ rest)) last more linked shared = (linked.0, linked_more (next ∷ rest) last more linked.1 shared)

-- the gates reversed, with more of them
turned : (gate next : GateView) (rest : List GateView) → reverse (gate ∷ (next ∷ rest)) ≡ reverse rest ++ (next ∷ (gate ∷ []))
turned gate next rest = reverse-append (gate ∷ (next ∷ [])) rest

linked_reversed : (gates : List GateView) → AreLinked gates → AreLinked (reverse gates)
linked_reversed [] linked = tt
linked_reversed (gate ∷ []) linked = tt
linked_reversed (gate ∷ (next ∷ rest)) linked =
    subst AreLinked (sym (turned gate next rest))
    (linked_more (reverse rest) next gate (subst AreLinked (reversed_cons next rest) (linked_reversed (next ∷ rest) linked.1))
    (other_way gate next linked.0))

pub chain_reversed : (weigh : GateView → ℕ) (gates : List GateView) (weight : ℕ) → HasChain weigh gates weight → HasChain weigh (reverse gates) weight
chain_reversed weigh gates weight h = record {
  chain = reverse h.chain;
  among = some_reversed h.chain gates h.among;
  linked = linked_reversed h.chain h.linked;
  weighs = sum_by-IsPermutation weigh h.chain (reverse h.chain) (IsPermutation-reverse h.chain) ∙ h.weighs;
}
