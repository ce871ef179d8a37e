use Rattle.std.proofs.Common.{sym, ap, ◌∙◌, length}
use Rattle.std.specs.Prelude.{◌==◌}
use Rattle.qasm_lexer.proofs.RunTestLemmas.{number_by_run}
use Rattle.qasm_lexer.proofs.words.is_number.Goals as goal

pub returns : goal.returns
returns c =
    ap (λ n. n == length c.args.word.now) c.digits_len.ensures
    ∙ number_by_run c.args.word.now (sym c.is_empty.ensures ∙ c.if-is_empty.false)
