use Rattle.std.proofs.Common.{◌≡◌, [], ◌∷◌, rules}
use Rattle.exclusive_sums.proofs.PolyLemmas.{input_polynomial}
use Rattle.exclusive_sums.proofs.poly.Poly.input.Goals as goal

pub returns-clause-function : goal.returns-clause-function
returns-clause-function c =
    let monomials : c.in_ok-from_array.field-0.items ≡ (c.args.input ∷ []) ∷ [] = search rules in
    input_polynomial c.args.input c.in_ok-from_array.field-0.items monomials
