use Rattle.std.proofs.Common.{◌≡◌, ℕ, ◌+◌, List, [], ◌∷◌, ◌++◌, codes, decimal, ap, refl, ◌∙◌, append_assoc, string_bytes}
use Rattle.std.proofs.lemmas.Result.{on_ok_weaker}
use Rattle.arith_templates.specs.Ripples.{line}
use Rattle.arith_templates.specs.Texts.{add_line}
use Rattle.arith_templates.proofs.product.put_later_one.Goals as goal

abbrev joined : List (List ℕ) → List ℕ
joined [] = []
joined (piece ∷ pieces) = piece ++ joined pieces

-- a line in two parts
line_joined : (xs ys : List (List ℕ)) → joined xs ++ line ys ≡ line (xs ++ ys)
line_joined [] ys = refl
line_joined (x ∷ xs) ys = append_assoc x (joined xs) (line ys) ∙ ap (λ rest. x ++ rest) (line_joined xs ys)

abbrev kept : ℕ → List (List ℕ)
kept k = codes "let r" ∷ decimal (k + 2) ∷ codes " = append r" ∷ decimal (k + 1) ∷ codes ".[0.." ∷ decimal k ∷ codes "] " ∷ []

abbrev added : ℕ → ℕ → List (List ℕ)
added n k = codes "(plus r" ∷ decimal (k + 1) ∷ codes ".[" ∷ decimal (k + 1) ∷ codes ".." ∷ decimal (n + k) ∷ codes "] a);" ∷ []

in_two : (n k : ℕ) → joined (kept k) ++ line (added n k) ≡ add_line n k
unfolding add_line
in_two n k = line_joined (kept k) (added n k)

pub returns : goal.returns
returns c =
    let old = string_bytes c.args.text.now in
    let n = c.args.n in
    let k = c.args.below in
    on_ok_weaker c.writeln.result
    (λ e. e ∙ ap (λ text. text ++ line (added n k)) c.in_ok-write.ensures.bytes
    ∙ append_assoc old (joined (kept k)) (line (added n k)) ∙ ap (λ text. old ++ text) (in_two n k))
    c.writeln.ensures.bytes
