use Rattle.std.proofs.Common.{Err, List, ap, subst}
use Rattle.revs_lexer.specs.declared.token.Token.{Token}
use Rattle.program_texts.specs.inside.Stages.{IsRefusedList, LeavesNoTape, OfLexer, OfParser}
use Rattle.program_texts.proofs.TextLemmas.{refused_list, so_fails}
use Rattle.program_texts.proofs.program.program_of_text.Goals as goal

pub returns-in_err-tokens-clause-err : goal.returns-in_err-tokens-clause-err
returns-in_err-tokens-clause-err c =
    so_fails (OfLexer c.in_err-tokens.field-0.0) (LeavesNoTape c.args.text.now) c.from_residual.result c.from_residual.ensures.1
    (λ fault of. of c.args.text.now c.requires c.in_err-tokens.ensures.refused)

pub returns-in_err-parse-clause-err : goal.returns-in_err-parse-clause-err
returns-in_err-parse-clause-err c =
    let why = c.in_err-parse.field-0.0 in
    let given = c.in_ok-tokens.ensures.tokens in
    let refused = c.in_err-parse.ensures in
    let list = refused_list c.in_ok-tokens.tokens why (λ number at is. refused.syntax number at (ap Err is)) (λ at is. refused.nesting at (ap Err is))
    (λ at is. refused.inputs at (ap Err is)) in
    so_fails (OfParser why) (LeavesNoTape c.args.text.now) c.from_residual-in_err-parse.result c.from_residual-in_err-parse.ensures.1
    (λ fault of. of c.args.text.now given.0 c.requires given.1 (subst (λ (ts : List Token). IsRefusedList ts why) given.2 list))
