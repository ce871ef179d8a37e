-- Gates on the first lines leave appended lines alone.
use Rattle.std.proofs.Common.{◌≡◌, ℕ, ◌<◌, Bool, true, false, not, cond, List, [], ◌∷◌, ◌++◌, length, map, set, refl, sym, ap, subst, ◌∙◌, arith}
use Rattle.std.specs.List.{AllByRecursion, list_all}
use Rattle.std.proofs.lemmas.List.{get_or_append_left, length-append, length-set, set-append_left}
use Rattle.list_facts.specs.Bits.{bit_of}
use Rattle.list_facts.proofs.AllLemmas.{AllByRecursion-right}
use Rattle.mct_circuit.specs.declared.gate.Control.{Control}
use Rattle.mct_circuit.specs.declared.gate.Op.{Op}
use Rattle.mct_circuit.specs.declared.gate.Op.TheVariants.{Flip, Swap}
use Rattle.mct_circuit.specs.Gates.{GateView, is_met, after_op, after_gate, line_map, targets_of, AreGatesOn, IsGateOn}
use Rattle.mct_circuit.proofs.GateListLemmas.{controls_below}
use Rattle.mct_circuit.proofs.ReversalLemmas.{swap_is, length-after_gate}

bit_of-append : (bits more : List Bool) (line : ℕ) → line < length bits → bit_of (bits ++ more) line ≡ bit_of bits line
bit_of-append bits more line low = get_or_append_left bits more false line low

are_met-append : (bits more : List Bool) (controls : List Control) → AllByRecursion (λ (control : Control). control.line < length bits) controls
    → list_all (is_met (bits ++ more)) controls ≡ list_all (is_met bits) controls
are_met-append bits more [] low = refl
are_met-append bits more (c ∷ cs) low = rw (bit_of-append bits more c.line low.0, are_met-append bits more cs low.1) refl

after_op-append : (op : Op) (bits more : List Bool) → AllByRecursion (λ line. line < length bits) (targets_of op)
    → after_op op (bits ++ more) ≡ after_op op bits ++ more
after_op-append (Flip target) bits more low =
    ap (λ b. set (bits ++ more) target (not b)) (bit_of-append bits more target low.0)
    ∙ set-append_left bits more target (not (bit_of bits target)) low.0
after_op-append (Swap a b) bits more low =
    let long = length-append bits more in
    let once = set bits a (bit_of bits b) in
    let same : length once ≡ length bits = length-set bits a (bit_of bits b) in
    swap_is (bits ++ more) a b (omega (arith, low.0)) (omega (arith, low.1.0))
    ∙ rw (bit_of-append bits more a low.0, bit_of-append bits more b low.1.0, set-append_left bits more a (bit_of bits b) low.0)
    (set-append_left once more b (bit_of bits a) (omega (arith, low.1.0)))
    ∙ ap (λ (all : List Bool). all ++ more) (sym (swap_is bits a b low.0 low.1.0))

cond-append : (met : Bool) (bits changed more : List Bool) → cond met (changed ++ more) (bits ++ more) ≡ cond met changed bits ++ more
cond-append true bits changed more = refl
cond-append false bits changed more = refl

after_gate-append : (gate : GateView) (bits more : List Bool) → IsGateOn (length bits) gate → after_gate gate (bits ++ more) ≡ after_gate gate bits ++ more
after_gate-append gate bits more on =
    let lines = map (λ (control : Control). control.line) gate.controls in
    let met = list_all (is_met bits) gate.controls in
    let targets = AllByRecursion-right (λ line. line < length bits) lines (targets_of gate.op) on.in_range in
    ap (λ b. cond b (after_op gate.op (bits ++ more)) (bits ++ more)) (are_met-append bits more gate.controls
    (controls_below (length bits) gate.controls (targets_of gate.op) on.in_range))
    ∙ ap (λ (changed : List Bool). cond met changed (bits ++ more)) (after_op-append gate.op bits more targets)
    ∙ cond-append met bits (after_op gate.op bits) more

-- gates on the lines of some bits map them, and leave more bits behind them as they are
pub more_lines : (gates : List GateView) (bits more : List Bool) → AreGatesOn (length bits) gates → line_map gates (bits ++ more) ≡ line_map gates bits ++ more
more_lines [] bits more on = refl
more_lines (gate ∷ gates) bits more on =
    let same = length-after_gate gate bits on.0 in
    ap (line_map gates) (after_gate-append gate bits more on.0)
    ∙ more_lines gates (after_gate gate bits) more (subst (λ n. AreGatesOn n gates) (sym same) on.1)
