use Rattle.std.proofs.Common.{arith, ◌≡◌, ◌-◌, ◌+◌, ap, sym, ◌∙◌, List, ◌++◌, ◌∷◌, [], ℕ, refl}
use Rattle.std.specs.List.{range_with_len}
use Rattle.revs_run.proofs.StartLemmas.{range_more}
use Rattle.revs_run.proofs.ProgressLemmas.{stops}
use Rattle.revs_run.proofs.start.numbers.Goals as goal

pub loop-number-init : goal.loop-number-init
loop-number-init c = let n : c.args.from - c.args.from ≡ 0 = omega arith in c.new-numbers.ensures.items ∙ sym (ap (range_with_len c.args.from) n)

pub loop-number-preserved : goal.loop-number-preserved
loop-number-preserved c =
    let n : c.loop-number.number + 1 - c.args.from ≡ c.loop-number.number - c.args.from + 1 = omega arith in
    c.in_ok-push.ensures.items ∙ ap (λ (x : List ℕ). x ++ c.loop-number.number ∷ []) c.loop-number.invariant
    ∙ sym (ap (range_with_len c.args.from) n ∙ range_more c.args.from (c.loop-number.number - c.args.from) c.loop-number.number (omega arith))

pub returns : goal.returns
returns c = c.loop-number.invariant ∙ ap (range_with_len c.args.from) (omega arith)

pub returns-in_err-push : goal.returns-in_err-push
returns-in_err-push c = stops _ _ c.from_residual.result c.from_residual.ensures.1 refl
