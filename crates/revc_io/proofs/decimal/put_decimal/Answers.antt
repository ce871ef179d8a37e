use Rattle.std.proofs.Common.{◌≡◌, ℕ, zero, suc, ◌+◌, ◌-◌, ◌/◌, ◌%◌, ◌^◌, ◌<◌, ◌≤◌, List, ◌++◌, length, take, drop, set, sym, ap, subst, ◌∙◌, append_assoc}
use Rattle.std.proofs.Common.{arith, length-set}
use Rattle.std.proofs.lemmas.List.{drop-set, take_rest}
use Rattle.std.proofs.lemmas.Nat.{div_below}
use Rattle.std.proofs.lemmas.Grind.{pow_more}
use Rattle.std.proofs.lemmas.Fmt.{decimal_digit, decimal_step}
use Rattle.std.specs.Fmt.{decimal}
use Rattle.revc_io.specs.Passing.{Gathers}
use Rattle.revc_io.proofs.decimal.put_decimal.Goals as goal

-- one digit more stands in the array
digit_more : (n left at : ℕ) (digits : List ℕ) → 10 ≤ left → left < 2 ^ 64 → at < length digits → decimal n ≡ decimal left ++ drop (at + 1) digits
    → decimal n ≡ decimal (left / 10) ++ drop at (set digits at (48 + left % 10))
digit_more n left at digits big fits room e =
    rw drop-set (e ∙ ap (λ (l : List ℕ). l ++ drop (at + 1) digits) (decimal_step left big fits) ∙ append_assoc (decimal (left / 10)) _ (drop (at + 1) digits))

-- the first digit stands in the array
digit_first : (n left at : ℕ) (digits : List ℕ) → left < 10 → at < length digits → decimal n ≡ decimal left ++ drop (at + 1) digits
    → drop at (set digits at (48 + left)) ≡ decimal n
digit_first n left at digits small room e = rw drop-set (ap (λ (l : List ℕ). l ++ drop (at + 1) digits) (sym (decimal_digit left small)) ∙ sym e)

-- a number of one digit less
fewer : (left at : ℕ) → 10 ≤ left → left < 10 ^ (at + 1) → (0 < at) × (left / 10 < 10 ^ at)
fewer left zero big few = absurd (omega arith)
fewer left (suc at) big few = (omega arith, div_below left 10 (10 ^ suc at) (omega arith) (rw (← pow_more) few))

pub loop-left-preserved : goal.loop-left-preserved
loop-left-preserved g c =
    let at = c.loop-left.at in
    let less = fewer c.loop-left.left at c.loop-left-test.true c.loop-left.invariant.few in
    let same : at - 1 + 1 ≡ at = omega (arith, less.0) in
    record {
      size = length-set _ _ _ ∙ c.loop-left.invariant.size;
      at_in = omega arith;
      few = rw same less.1;
      parts = rw same (digit_more c.args.n c.loop-left.left at c.loop-left.digits c.loop-left-test.true (omega arith)
          (omega arith) c.loop-left.invariant.parts);
    }

pub returns-clause-bytes : goal.returns-clause-bytes
returns-clause-bytes g c =
    let at = c.loop-left.at in
    let all = set c.loop-left.digits at (48 + c.loop-left.left) in
    let size : 20 ≡ length all = omega (arith, length-set {A = ℕ}) in
    let e : take (20 - at) (drop at all) ≡ decimal c.args.n =
    ap (λ (k : ℕ). take (k - at) (drop at all)) size ∙ take_rest all at ∙ digit_first c.args.n c.loop-left.left at c.loop-left.digits (omega arith)
    (omega arith) c.loop-left.invariant.parts in
    subst (λ (piece : List ℕ). Gathers c.put.result (g.K.Sink.held c.args.out.now) (g.K.Sink.held c.put.new.out) c.args.buffer.now c.put.new.self piece) e
    c.put.ensures.bytes
