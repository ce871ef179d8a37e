use Rattle.std.proofs.Common.{sym, ap, ◌∙◌, length}
use Rattle.std.specs.Prelude.{◌==◌}
use Rattle.qasm_lexer.proofs.RunTestLemmas.{identifier_by_run}
use Rattle.qasm_lexer.proofs.words.is_identifier.Goals as goal

pub returns : goal.returns
returns c =
    ap (λ n. n == length c.args.word.now) c.name_len.ensures
    ∙ identifier_by_run c.args.word.now (sym c.is_ascii_alphabetic.ensures.value ∙ c.if-not-is_ascii_alphabetic.false)
