use Rattle.std.proofs.Common.{refl, ap, ◌∙◌, subst, ℕ, List, [], sum, ◌≡◌}
use Rattle.revs_tape.specs.Tapes.{TapeView}
use Rattle.revs_terms.specs.Programs.{widths_of}
use Rattle.revs_run.specs.inside.Starts.{AreInputs}
use Rattle.revs_run.proofs.StartLemmas.{started, are_inputs, are_widths}
use Rattle.revs_run.proofs.ProgressLemmas.{stops}
use Rattle.revs_run.proofs.start.start.Goals as goal

pub new-tape-requires : goal.new-tape-requires
new-tape-requires c = are_widths c.args.params.now c.in_ok-widths.field-0.items c.requires c.in_ok-widths.ensures

pub returns : goal.returns
returns c =
    let t : c.new-tape.result ≡ record { params = widths_of c.args.params.now; entries = []; claims = []; outputs = [] } =
    c.new-tape.ensures ∙ ap (λ (ws : List ℕ). record { params = ws; entries = []; claims = []; outputs = [] }) c.in_ok-widths.ensures in
    let n : c.inputs.result ≡ sum (widths_of c.args.params.now) = c.inputs.ensures.inputs ∙ ap (λ (x : TapeView). sum x.params) t in
    started c.args.params.now _ refl t (subst (λ (k : ℕ). AreInputs k c.in_ok-store.store.items) n
    (are_inputs c.inputs.result c.in_ok-store.store.items c.in_ok-store.ensures))
    c.in_ok-bindings.ensures c.requires

pub returns-in_err-widths : goal.returns-in_err-widths
returns-in_err-widths c = stops _ _ c.from_residual.result c.from_residual.ensures.1 c.in_err-widths.ensures

pub returns-in_err-store : goal.returns-in_err-store
returns-in_err-store c = stops _ _ c.from_residual-in_err-store.result c.from_residual-in_err-store.ensures.1 c.in_err-store.ensures

pub returns-in_err-bindings : goal.returns-in_err-bindings
returns-in_err-bindings c =
    stops _ _ c.from_residual-in_err-bindings.result c.from_residual-in_err-bindings.ensures.1 c.in_err-bindings.ensures
