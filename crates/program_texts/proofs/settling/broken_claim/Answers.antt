use Rattle.program_texts.proofs.SettlingLemmas.{claim_named}
use Rattle.program_texts.proofs.settling.broken_claim.Goals as goal

pub returns : goal.returns
returns c = claim_named c.args.tape.now.claims c.args.claim _ _ c.args.bits c.counted-number.ensures.number c.counted-number.ensures.place
