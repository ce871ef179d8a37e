use Rattle.std.proofs.Common.{◌≡◌, ◌+◌, ◌∙◌, Option, Some, None, List, Bool, MatchOption, inl, inr, subst, sym}
use Rattle.revs_tape.specs.Claims.{HoldsEverywhere, IsLeastBreaking}
use Rattle.claim_check.proofs.MemberLemmas.{more_claims}
use Rattle.claim_check.specs.Claims.{IsClaimFault}
use Rattle.claim_check.specs.declared.fault.ClaimFault.TheVariants as faults
use Rattle.claim_check.proofs.OutcomeLemmas.{broken, claim_numbered, passed, settled_more, wanted_room}
use Rattle.claim_check.proofs.claims.settle_claim.Goals as goal
use Rattle.claim_check.proofs.claims.settle_claim.Goals.{In_ok-least_breaking}

outcome : (c : goal.In_ok-least_breaking) (o : Option (List Bool)) → c.in_ok-least_breaking.field-0 ≡ o
    → MatchOption o (HoldsEverywhere c.args.tape.now c.claim_at-claim.result) (IsLeastBreaking c.args.tape.now c.claim_at-claim.result)
outcome c o is =
    subst (λ (o : Option (List Bool)). MatchOption o (HoldsEverywhere c.args.tape.now c.claim_at-claim.result)
    (IsLeastBreaking c.args.tape.now c.claim_at-claim.result)) is c.in_ok-least_breaking.ensures

pub number_claim-requires-clause-members : goal.number_claim-requires-clause-members
number_claim-requires-clause-members c = more_claims c.args.tape.now c.args.number c.args.diagram.now c.requires.settled.members

pub least_breaking-requires-clause-number : goal.least_breaking-requires-clause-number
least_breaking-requires-clause-number c =
    claim_numbered c.args.tape.now c.claim_at-claim.ensures.tape c.args.schedule.now.labels.items c.requires.schedule.labels c.args.number
    c.claim_at-claim.result c.claim_at-claim.ensures.claim c.requires.claim c.number_claim.new.diagram.nodes c.number_claim.new.numbers
    c.in_default.ensures.made

pub returns-in-None-clause-settled : goal.returns-in-None-clause-settled
returns-in-None-clause-settled c =
    settled_more c.args.tape.now c.claim_at-claim.ensures.tape c.args.schedule.now.labels.items c.requires.schedule.labels c.args.diagram.now.limit
    c.args.number c.claim_at-claim.result c.claim_at-claim.ensures.claim c.requires.claim c.requires.settled.hold
    (outcome (goal.at.returns-in-None-clause-settled c).In_ok-least_breaking None c.in-None.is)
    c.number_claim.new.diagram c.number_claim.new.numbers c.number_claim.ensures.members c.number_claim.ensures.limit c.in_default.ensures.made

pub returns-in-Some-clause-refused : goal.returns-in-Some-clause-refused
returns-in-Some-clause-refused c =
    broken c.args.tape.now c.claim_at-claim.ensures.tape c.args.schedule.now.labels.items c.requires.schedule.labels c.args.diagram.now.limit
    c.args.number c.claim_at-claim.result c.claim_at-claim.ensures.claim c.requires.claim c.requires.settled.hold c.in-Some.input
    (outcome (goal.at.returns-in-Some-clause-refused c).In_ok-least_breaking (Some c.in-Some.input) c.in-Some.is)
    c.number_claim.new.diagram c.number_claim.new.numbers c.number_claim.ensures.members c.number_claim.ensures.limit c.in_default.ensures.made

pub returns-in-Err-clause-refused : goal.returns-in-Err-clause-refused
returns-in-Err-clause-refused c =
    let t = c.args.tape.now in
    let limit = c.args.diagram.now.limit in
    subst (IsClaimFault t limit) (sym c.claim_fault.ensures)
    (passed t limit c.args.number c.claim_at-claim.result c.number_claim.new.diagram c.claim_at-claim.ensures.claim c.requires.settled.hold
    c.requires.settled.few c.number_claim.ensures.limit c.in-Err.fault c.in-Err.ensures.refused)

pub returns-in-Err-clause-memory : goal.returns-in-Err-clause-memory
returns-in-Err-clause-memory c =
    λ is. let same : c.claim_fault.result ≡ faults.Memory _ = cc in
    inl (wanted_room c.args.tape.now c.args.number (c.args.number + 1) c.number_claim.new.diagram c.in-Err.fault (sym c.claim_fault.ensures ∙ same)
    c.in-Err.ensures.refused)

pub returns-in_err-least_breaking-clause-memory : goal.returns-in_err-least_breaking-clause-memory
returns-in_err-least_breaking-clause-memory c = λ is. inr c.in_default.ensures.made
