use Rattle.std.proofs.Common.{◌+◌, ◌/◌, ◌%◌, ◌≤◌, ◌++◌, nat_eq, length, ap, sym, ◌∙◌, arith, append_assoc, string_bytes}
use Rattle.arith_templates.specs.Numbers.{digits_of}
use Rattle.arith_templates.specs.Texts.{digit_line, digit_lines}
use Rattle.arith_templates.proofs.NumberLemmas.{digits_halved, half_is_less}
use Rattle.arith_templates.proofs.product.put_digits.Goals as goal

pub digits-smaller : goal.digits-smaller
digits-smaller c = let some : 1 ≤ c.digits.rest = omega arith in omega (arith, half_is_less c.digits.rest some)

pub digits-preserved : goal.digits-preserved
digits-preserved c =
    let rest = c.digits.rest in
    let count = c.digits.count in
    let digit = nat_eq (rest % 2) 1 in
    let some : 1 ≤ rest = omega arith in
    let cut = digits_halved rest some in
    let behind = digit_lines c.args.n (count + 1) (digits_of (rest / 2)) in
    record {
      few = omega (arith, half_is_less rest some, c.digits.invariant.few);
      left = omega (arith, ap length cut, c.digits.invariant.left);
      written = ap (λ text. text ++ behind) c.in_ok-put_digit.ensures
          ∙ append_assoc (string_bytes c.digits.text) (digit_line c.args.n count digit) behind
          ∙ ap (λ digits. string_bytes c.digits.text ++ digit_lines c.args.n count digits) (sym cut)
          ∙ c.digits.invariant.written;
    }
