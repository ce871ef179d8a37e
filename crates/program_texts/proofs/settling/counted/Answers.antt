use Rattle.std.proofs.Common.{arith}
use Rattle.program_texts.proofs.SettlingLemmas.{place_of}
use Rattle.program_texts.proofs.settling.counted.Goals as goal

pub overflow_add-result : goal.overflow_add-result
overflow_add-result c =
    let few = c.claims.ensures.tape.few_claims in
    let low = c.requires in
    omega arith

pub returns-clause-place : goal.returns-clause-place
returns-clause-place c = place_of c.args.tape.now.claims c.claims.result.now c.args.claim _ c.claims.ensures.claims
