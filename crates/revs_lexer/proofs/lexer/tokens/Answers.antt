use Rattle.revs_lexer.proofs.OutcomeLemmas.{only_tokens, only_refusal, ended, few}
use Rattle.revs_lexer.proofs.lexer.tokens.Goals as goal

pub returns-clause-only_tokens : goal.returns-clause-only_tokens
returns-clause-only_tokens c = only_tokens (λ list. list) c.args.text.now c.cut.result c.cut.ensures.tokens c.cut.ensures.refused

pub returns-clause-only_refusal : goal.returns-clause-only_refusal
returns-clause-only_refusal c = only_refusal (λ list. list) c.args.text.now c.cut.result c.cut.ensures.tokens c.cut.ensures.refused

pub returns-clause-ended : goal.returns-clause-ended
returns-clause-ended c = ended (λ list. list) c.args.text.now c.cut.result c.cut.ensures.tokens

pub returns-clause-few : goal.returns-clause-few
returns-clause-few c = few (λ list. list) c.args.text.now c.cut.result c.cut.ensures.tokens
