use Rattle.revs_parser.proofs.OneTextLemmas.{one_program_of_text}
use Rattle.revs_parser.proofs.law.one_program_of_text.Goals as goal

pub returns : goal.returns
returns c = one_program_of_text
