use Rattle.program_texts.specs.Outcomes.{IsTextFault}
use Rattle.program_texts.specs.inside.Stages.{OfText}
use Rattle.program_texts.proofs.TextLemmas.{so_fails}
use Rattle.program_texts.proofs.program.tape_of_text.Goals as goal

pub returns-in_err-program-clause-err : goal.returns-in_err-program-clause-err
returns-in_err-program-clause-err c =
    so_fails (OfText c.in_err-program.field-0.0) (IsTextFault c.args.text.now) c.from_residual.result c.from_residual.ensures.1
    (λ fault of. of c.args.text.now c.in_err-program.ensures.err)

pub returns-in_err-tape_of_program-clause-err : goal.returns-in_err-tape_of_program-clause-err
returns-in_err-tape_of_program-clause-err c =
    so_fails (OfText c.in_err-tape_of_program.field-0.0) (IsTextFault c.args.text.now) c.from_residual-in_err-tape_of_program.result
    c.from_residual-in_err-tape_of_program.ensures.1
    (λ fault of. of c.args.text.now (c.in_err-tape_of_program.ensures.err.of_text c.args.text.now c.in_ok-program.ensures.ok))

pub returns-clause-left : goal.returns-clause-left
returns-clause-left c = c.in_ok-tape_of_program.ensures.left.of_text c.args.text.now c.in_ok-program.ensures.ok
