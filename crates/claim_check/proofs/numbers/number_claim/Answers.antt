use Rattle.std.proofs.Common.{◌≡◌, ℕ, ◌+◌, ◌<◌, length, get_or, set, refl, sym, ◌∙◌, subst, arith}
use Rattle.std.proofs.lemmas.List.{get_or_read}
use Rattle.revs_tape.specs.ClaimFunctions.{IsBase}
use Rattle.claim_check.specs.inside.Chains.{IsNext}
use Rattle.claim_check.specs.inside.Numbers.{AreMade, PassLimit}
use Rattle.claim_check.specs.inside.Slots.{slots_of}
use Rattle.claim_check.specs.inside.Tables.{HoldsOnlyMembers, function_at}
use Rattle.claim_check.proofs.MemberLemmas.{added}
use Rattle.claim_check.proofs.NumberLemmas.{base_here, made_kept, made_next, made_one, next_label, operands_made, pass_limit, refused_at}
use Rattle.claim_check.proofs.numbers.number_claim.Goals as goal
use Rattle.claim_check.proofs.numbers.number_claim.Goals.{After-number_of, After-ref_at-made}

-- ---- at a slot of the claim's chain

inside : (c : goal.After-ref_at-made) → c.chain.slot < length c.args.schedule.now.labels.items
inside c = omega (arith, c.chain-test.true, c.inputs.ensures.inputs, c.len.ensures.len, c.requires.schedule.labels.sound.size)

is_base : (c : goal.After-ref_at-made) → IsBase c.args.tape.now (c.args.claim + 1) c.ref_at-made.result
is_base c =
    base_here c.args.tape.now c.args.schedule.now.labels.items c.requires.schedule.labels c.args.claim c.chain.slot c.requires.claim c.ref_at-made.result
    c.ref_at-made.ensures.known c.ref_at-made.ensures.slot ((c.chain.invariant.2).here (inside c))

only_members : (c : goal.After-number_of) → HoldsOnlyMembers c.args.tape.now (c.args.claim + 1) c.number_of.new.diagram
only_members c =
    let t = c.args.tape.now in
    let ref = c.ref_at-made.result in
    added t (c.args.claim + 1) ref (function_at t ref) c.chain.diagram c.number_of.new.diagram c.chain.invariant.0
    (is_base (goal.at.After-number_of c).After-ref_at-made) (λ a. refl) c.number_of.ensures.canonical c.number_of.ensures.kept c.number_of.ensures.added

pub number_of-requires-clause-operands : goal.number_of-requires-clause-operands
number_of-requires-clause-operands c =
    operands_made c.args.tape.now c.inputs.ensures.tape c.args.schedule.now.labels.items c.requires.schedule.labels c.args.claim c.chain.slot
    c.chain.diagram.nodes c.chain.numbers c.chain.invariant.1 c.ref_at-made.result c.ref_at-made.ensures.known c.ref_at-made.ensures.slot
    ((c.chain.invariant.2).here (inside (goal.at.number_of-requires-clause-operands c).After-ref_at-made))

pub returns-in_err-numbers-clause-members : goal.returns-in_err-numbers-clause-members
returns-in_err-numbers-clause-members c = only_members (goal.at.returns-in_err-numbers-clause-members c).After-number_of

pub returns-in_err-numbers-clause-refused : goal.returns-in_err-numbers-clause-refused
returns-in_err-numbers-clause-refused c =
    let t = c.args.tape.now in
    let new = c.number_of.new.diagram in
    refused_at (PassLimit t (c.args.claim + 1) new) c.from_residual.result c.in_err-numbers.field-0.0 c.from_residual.ensures.1
    (pass_limit t (c.args.claim + 1) c.ref_at-made.result new (only_members (goal.at.returns-in_err-numbers-clause-refused c).After-number_of)
    (is_base (goal.at.returns-in_err-numbers-clause-refused c).After-ref_at-made) c.in_err-numbers.field-0.0 c.in_err-numbers.ensures.refused)

pub chain-preserved : goal.chain-preserved
chain-preserved c =
    let t = c.args.tape.now in
    let labels = c.args.schedule.now.labels.items in
    let size : length labels ≡ slots_of t = c.requires.schedule.labels.sound.size in
    let within : c.chain.slot < length labels = inside (goal.at.chain-preserved c).After-ref_at-made in
    let label : get_or labels c.chain.slot 0 ≡ c.args.claim = (c.chain.invariant.2).here within in
    let ref = c.ref_at-made.result in
    let old = c.chain.diagram in
    let new = c.number_of.new.diagram in
    let h : ℕ = c.in_ok-numbers.field-0 in
    let at : c.index-slot-in-chain.result.now ≡ get_or c.args.schedule.now.chains.next.items c.chain.slot 0 =
    get_or_read c.args.schedule.now.chains.next.items c.chain.slot c.index-slot-in-chain.result.now
    (omega (arith, within, c.requires.schedule.chains.next_size)) c.index-slot-in-chain.ensures 0 in
    let next : IsNext labels c.args.claim (c.chain.slot + 1) c.index-slot-in-chain.result.now =
    subst (λ (s : ℕ). IsNext labels c.args.claim (c.chain.slot + 1) s) (sym at)
    (subst (λ (l : ℕ). IsNext labels l (c.chain.slot + 1) (get_or c.args.schedule.now.chains.next.items c.chain.slot 0)) label
    (c.requires.schedule.chains.nexts c.chain.slot (omega arith) within)) in
    let one : AreMade t labels c.args.claim (c.chain.slot + 1) new.nodes (set c.chain.numbers c.chain.slot h) =
    made_one t labels c.args.claim c.chain.slot new.nodes c.chain.numbers h ref c.ref_at-made.ensures.known c.ref_at-made.ensures.slot
    (omega (arith, within, size)) c.in_ok-numbers.ensures.answer
    (made_kept t labels c.args.claim c.chain.slot old new c.chain.numbers c.number_of.ensures.kept c.chain.invariant.1) in (
      only_members (goal.at.chain-preserved c).After-number_of,
      made_next t labels c.args.claim (c.chain.slot + 1) c.index-slot-in-chain.result.now new.nodes (set c.chain.numbers c.chain.slot h) next one,
      next_label labels c.args.claim (c.chain.slot + 1) c.index-slot-in-chain.result.now next,
      c.number_of.ensures.kept.limit ∙ c.chain.invariant.3,
    )

pub number_of-requires-clause-tape : goal.number_of-requires-clause-tape
number_of-requires-clause-tape c = c.inputs.ensures.tape

pub number_of-requires-clause-known : goal.number_of-requires-clause-known
number_of-requires-clause-known c = c.ref_at-made.ensures.known

pub returns-in_err-numbers-clause-limit : goal.returns-in_err-numbers-clause-limit
returns-in_err-numbers-clause-limit c = c.number_of.ensures.kept.limit ∙ c.chain.invariant.3

pub ref_at-made-requires : goal.ref_at-made-requires
ref_at-made-requires c = omega (arith, c.chain-test.true, c.inputs.ensures.inputs, c.len.ensures.len)

pub returns-clause-limit : goal.returns-clause-limit
returns-clause-limit c = c.chain.invariant.3

pub returns-clause-members : goal.returns-clause-members
returns-clause-members c = c.chain.invariant.0
