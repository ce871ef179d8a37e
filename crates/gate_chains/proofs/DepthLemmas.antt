-- The depths of gates that are joined, reversed and undone.
use Rattle.std.proofs.Common.{◌≡◌, ℕ, ◌+◌, ◌*◌, ◌≤◌, max, Bool, true, false, cond, List, [], ◌∷◌, ◌++◌, reverse}
use Rattle.std.proofs.Common.{sym, ap, subst, arith}
use Rattle.std.proofs.lemmas.List.{reverse-append, reverse-reverse}
use Rattle.mct_circuit.specs.Gates.{GateView, lines_of}
use Rattle.mct_circuit.specs.Sizes.{depth_by, gate_depth, greatest_depth, share_a_line}
use Rattle.gate_chains.specs.Depths.{AreWeightless, DepthsAreBounded}
use Rattle.gate_chains.specs.inside.Chains.{HasChain}
use Rattle.gate_chains.proofs.ChainLemmas.{chain_bound, chain_reversed, greatest_chain}

-- ---- lists joined, of which the latest gate comes first

shared_bound : (shared : Bool) (w deep rest most : ℕ) → deep ≤ most → rest ≤ w + most → max (cond shared (w + deep) 0) rest ≤ w + most
shared_bound true w deep rest most less more = omega (arith, less, more)
shared_bound false w deep rest most less more = omega (arith, less, more)

-- a gate is at most as much deeper than all earlier ones as it weighs
gate_bound : (weigh : GateView → ℕ) (gate : GateView) (gates : List GateView) → gate_depth weigh gate gates ≤ weigh gate + greatest_depth weigh gates
gate_bound weigh gate [] = omega arith
gate_bound weigh gate (other ∷ earlier) =
    let rest = gate_bound weigh gate earlier in
    shared_bound (share_a_line (lines_of gate) (lines_of other)) (weigh gate) (gate_depth weigh other earlier) (gate_depth weigh gate earlier)
    (max (gate_depth weigh other earlier) (greatest_depth weigh earlier)) (omega arith) (omega (arith, rest))

shared_sum : (shared : Bool) (w deep less rest lower more : ℕ) → deep ≤ less + more → rest ≤ lower + more
    → max (cond shared (w + deep) 0) rest ≤ max (cond shared (w + less) 0) lower + more
shared_sum true w deep less rest lower more one other = omega (arith, one, other)
shared_sum false w deep less rest lower more one other = omega (arith, one, other)

gate_append : (weigh : GateView → ℕ) (gate : GateView) (late early : List GateView)
    → gate_depth weigh gate (late ++ early) ≤ gate_depth weigh gate late + greatest_depth weigh early
gate_append weigh gate [] early = gate_bound weigh gate early
gate_append weigh gate (other ∷ late) early =
    shared_sum (share_a_line (lines_of gate) (lines_of other)) (weigh gate) (gate_depth weigh other (late ++ early)) (gate_depth weigh other late)
    (gate_depth weigh gate (late ++ early)) (gate_depth weigh gate late) (greatest_depth weigh early) (gate_append weigh other late early)
    (gate_append weigh gate late early)

greatest_append : (weigh : GateView → ℕ) (late early : List GateView)
    → greatest_depth weigh (late ++ early) ≤ greatest_depth weigh late + greatest_depth weigh early
greatest_append weigh [] early = omega arith
greatest_append weigh (gate ∷ late) early =
    let one = gate_append weigh gate late early in let other = greatest_append weigh late early in omega (arith, one, other)

pub depth_joined : (weigh : GateView → ℕ) (xs ys : List GateView) → depth_by weigh (xs ++ ys) ≤ depth_by weigh xs + depth_by weigh ys
depth_joined weigh xs ys =
    subst (λ (all : List GateView). greatest_depth weigh all ≤ depth_by weigh xs + depth_by weigh ys) (sym (reverse-append xs ys))
    (let sum = greatest_append weigh (reverse ys) (reverse xs) in omega (arith, sum))

-- ---- reversed lists

no_deeper : (weigh : GateView → ℕ) (gates : List GateView) → greatest_depth weigh gates ≤ greatest_depth weigh (reverse gates)
no_deeper weigh gates =
    let h : HasChain weigh (reverse gates) (greatest_depth weigh gates) =
    chain_reversed weigh gates (greatest_depth weigh gates) (greatest_chain weigh gates) in
    let bound = chain_bound weigh h.chain (reverse gates) h.among h.linked in omega (arith, bound, h.weighs)

pub depth_reversed : (weigh : GateView → ℕ) (gates : List GateView) → depth_by weigh (reverse gates) ≡ depth_by weigh gates
depth_reversed weigh gates =
    let one = no_deeper weigh gates in
    let other = no_deeper weigh (reverse gates) in
    let back : greatest_depth weigh (reverse (reverse gates)) ≡ greatest_depth weigh gates =
    ap (λ (all : List GateView). greatest_depth weigh all) (reverse-reverse gates) in
    omega (arith, one, other, back)

-- ---- gates that weigh nothing, and gates that are undone

greatest_weightless : (weigh : GateView → ℕ) (gates : List GateView) → AreWeightless weigh gates → greatest_depth weigh gates ≤ 0
greatest_weightless weigh [] none = omega arith
greatest_weightless weigh (gate ∷ gates) none =
    let rest = greatest_weightless weigh gates none.1 in let one = gate_bound weigh gate gates in omega (arith, rest, one, none.0)

pub depth_weightless : (weigh : GateView → ℕ) (gates : List GateView) → AreWeightless weigh gates → depth_by weigh gates ≡ 0
depth_weightless weigh gates none =
    let same = depth_reversed weigh gates in
    let back : depth_by weigh (reverse gates) ≡ greatest_depth weigh gates =
    ap (λ (all : List GateView). greatest_depth weigh all) (reverse-reverse gates) in
    let few = greatest_weightless weigh gates none in
    omega (arith, same, back, few)

pub depth_undone : (weigh : GateView → ℕ) (gates between : List GateView) → AreWeightless weigh between
    → depth_by weigh (gates ++ (between ++ reverse gates)) ≤ 2 * depth_by weigh gates
depth_undone weigh gates between none =
    let whole = depth_joined weigh gates (between ++ reverse gates) in
    let half = depth_joined weigh between (reverse gates) in
    omega (arith, whole, half, depth_weightless weigh between none, depth_reversed weigh gates)

pub depths_are_bounded : DepthsAreBounded
depths_are_bounded weigh = record {
  joined = depth_joined weigh;
  reversed = depth_reversed weigh;
  weightless = depth_weightless weigh;
  undone = depth_undone weigh;
}
