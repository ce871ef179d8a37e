use Rattle.std.proofs.Common.{ap, ◌∙◌, ℕ, Vec, Global, refl}
use Rattle.revs_run.proofs.StartLemmas.{param_places}
use Rattle.revs_run.proofs.ProgressLemmas.{stops}
use Rattle.revs_run.proofs.start.param_value.Goals as goal

pub returns-in_ok-new-in-Some : goal.returns-in_ok-new-in-Some
returns-in_ok-new-in-Some c =
    param_places c.args.first c.args.width c.in-Some.width c.in_ok-new-in-Some.field-0.value.items c.in-Some.is
    (ap (λ (x : Vec ℕ Global). x.items) c.in_ok-new-in-Some.ensures.ok ∙ c.in_ok-places-in-Some.ensures)

pub returns-in_err-places-in-Some : goal.returns-in_err-places-in-Some
returns-in_err-places-in-Some c = stops _ _ c.from_residual.result c.from_residual.ensures.1 c.in_err-places-in-Some.ensures

pub returns-in_err-new-in-Some : goal.returns-in_err-new-in-Some
returns-in_err-new-in-Some c = stops _ _ c.from_residual-in_err-new-in-Some.result c.from_residual-in_err-new-in-Some.ensures.1 refl
