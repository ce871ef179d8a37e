use Rattle.claim_assumptions.proofs.PlaceLemmas.{breaks_inside, passes_inside}
use Rattle.program_texts.proofs.SettlingLemmas.{broken_stops, memory_stops, passing_stops, vacuous_stops}
use Rattle.program_texts.proofs.settling.settling_fault.Goals as goal

pub broken_claim-requires : goal.broken_claim-requires
broken_claim-requires c = breaks_inside c.args.tape.now c.args.assumed c.args.nodes c.in-Broken.claim c.in-Broken.input (rw c.in-Broken.is at c.requires)

pub counted-number-requires : goal.counted-number-requires
counted-number-requires c = passes_inside c.args.tape.now c.args.assumed c.args.nodes c.in-Diagram.claim ((rw c.in-Diagram.is at c.requires).0)

pub returns-in-NoInput : goal.returns-in-NoInput
returns-in-NoInput c = vacuous_stops c.args.tape.now c.args.assumed c.args.nodes (rw c.in-NoInput.is at c.requires)

pub returns-in-Broken : goal.returns-in-Broken
returns-in-Broken c =
    broken_stops c.args.tape.now c.args.assumed c.args.nodes c.in-Broken.claim c.in-Broken.input c.broken_claim.result
    (rw c.in-Broken.is at c.requires) c.broken_claim.ensures

pub returns-in-Diagram : goal.returns-in-Diagram
returns-in-Diagram c =
    passing_stops c.args.tape.now c.args.assumed c.args.nodes c.in-Diagram.claim _ _ ((rw c.in-Diagram.is at c.requires).0)
    c.counted-number.ensures.number c.counted-number.ensures.place

pub returns-in-Memory : goal.returns-in-Memory
returns-in-Memory c = memory_stops c.args.tape.now c.args.assumed c.args.nodes
