use Rattle.std.proofs.Common.{◌≡◌, ◌+◌, ◌≤◌, ◌++◌, length, string_bytes}
use Rattle.arith_templates.specs.Numbers.{digits_of}
use Rattle.arith_templates.specs.Texts.{digit_lines}
use Rattle.arith_templates.proofs.product.put_digits.Given as goal

abbrev pub invariant-digits : goal.invariant-digits
invariant-digits l = record {
  few : l.count + l.rest ≤ l.fn.by;
  left : l.count + length (digits_of l.rest) ≡ length (digits_of l.fn.by);
  written : string_bytes l.text ++ digit_lines l.n l.count (digits_of l.rest)
      ≡ string_bytes l.initial.text ++ digit_lines l.n 0 (digits_of l.fn.by);
}

abbrev pub decreases-digits : goal.decreases-digits
decreases-digits l = l.rest
