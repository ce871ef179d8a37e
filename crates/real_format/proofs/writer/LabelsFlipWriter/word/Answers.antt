use Rattle.std.proofs.Common.{◌≡◌, ◌∙◌, ℕ, ◌+◌, ◌≤◌, List, [], ◌∷◌, ap, sym, arith}
use Rattle.std.specs.Fmt.{decimal}
use Rattle.std.proofs.lemmas.Fmt.{decimal_digit}
use Rattle.real_format.proofs.writer.LabelsFlipWriter.word.Goals as goal

word_is : (controls digit : ℕ) → digit ≡ 49 + controls → controls ≤ 2 → 116 ∷ digit ∷ [] ≡ 116 ∷ decimal (controls + 1)
word_is controls digit is few =
    let one : 48 + (controls + 1) ≡ digit = omega (arith, is) in
    ap (λ (digits : List ℕ). 116 ∷ digits) (sym (decimal_digit (controls + 1) (omega (arith, few)) ∙ ap (λ (n : ℕ). n ∷ []) one))

pub returns-clause-bytes : goal.returns-clause-bytes
returns-clause-bytes c = word_is c.args.controls _ (omega arith) c.requires
