use Rattle.std.proofs.Common.{rules, Some, None, ◌∙◌}
use Rattle.revc_words.proofs.ValueLemmas.{is_number}
use Rattle.revc_words.proofs.values.number.Goals as goal

pub returns-in_err-n : goal.returns-in_err-n
returns-in_err-n c = c.from_residual.ensures ∙ is_number c.args.least c.args.most c.args.text.now None (search rules)

pub returns : goal.returns
returns c = is_number c.args.least c.args.most c.args.text.now (Some c.in_ok-n.n) (search rules)
