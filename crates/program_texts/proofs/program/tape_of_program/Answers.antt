use Rattle.revs_terms.specs.Views.{view_of}
use Rattle.program_texts.specs.inside.Stages.{ForTextsOf, LeavesNoTape, OfRun, OfScope}
use Rattle.program_texts.proofs.TextLemmas.{leaves_tape, so_fails}
use Rattle.program_texts.proofs.program.tape_of_program.Goals as goal

pub returns-in_err-scoped-clause-err : goal.returns-in_err-scoped-clause-err
returns-in_err-scoped-clause-err c =
    so_fails (OfScope c.in_err-scoped.field-0.0) (λ fault. ForTextsOf (view_of c.args.program) (λ text. LeavesNoTape text fault)) c.from_residual.result
    c.from_residual.ensures.1 (λ fault of. of (view_of c.args.program) c.in_err-scoped.ensures)

pub returns-in_err-run-clause-err : goal.returns-in_err-run-clause-err
returns-in_err-run-clause-err c =
    so_fails (OfRun c.in_err-run.field-0.0) (λ fault. ForTextsOf (view_of c.args.program) (λ text. LeavesNoTape text fault))
    c.from_residual-in_err-run.result c.from_residual-in_err-run.ensures.1
    (λ fault of. of (view_of c.args.program) (view_of c.in_ok-scoped.scoped.program)
    (record { params = c.in_ok-scoped.ensures.0; body = c.in_ok-scoped.ensures.1 }) c.in_err-run.ensures.err)

pub returns-clause-left : goal.returns-clause-left
returns-clause-left c =
    leaves_tape (view_of c.args.program) (view_of c.in_ok-scoped.scoped.program) c.in_ok-run.field-0
    (record { params = c.in_ok-scoped.ensures.0; body = c.in_ok-scoped.ensures.1 }) c.in_ok-run.ensures.ok
