use Rattle.std.proofs.Common.{ℕ, List, sym, subst}
use Rattle.decision_diagram.proofs.GrowthLemmas.{KeepsNodes-trans, stands-kept}
use Rattle.circuit_verify.specs.Compared.{comparison}
use Rattle.circuit_verify.specs.inside.Numbers.{AreLineEnds, AreNumbersOf, AreRestricted, GrowsBy, looked_function}
use Rattle.circuit_verify.proofs.AskLemmas.{grows-further}
use Rattle.circuit_verify.proofs.LookedLemmas.{ends_grown, looked_ends, now_ends, want_ends}
use Rattle.circuit_verify.proofs.NumberLemmas.{numbers-grown}
use Rattle.circuit_verify.proofs.looking.looked_ends.Goals as goal
use Rattle.circuit_verify.proofs.looking.looked_ends.Goals.{After-ends_of, After-number_looked, After-restricted, After-restricted-2, In_ok-ends}

-- how the diagram has grown
to_ends : (c : After-ends_of) → GrowsBy (comparison c.args.compared.now) c.args.diagram.now c.ends_of.new.diagram
to_ends c =
    grows-further (comparison c.args.compared.now) c.args.diagram.now c.number_bits.new.diagram c.ends_of.new.diagram c.number_bits.ensures.grows
    c.ends_of.ensures.grows

to_looked : (c : After-number_looked) → GrowsBy (comparison c.args.compared.now) c.args.diagram.now c.ends_of.new.diagram
    → GrowsBy (comparison c.args.compared.now) c.args.diagram.now c.number_looked.new.diagram
to_looked c before =
    grows-further (comparison c.args.compared.now) c.args.diagram.now c.ends_of.new.diagram c.number_looked.new.diagram before
    c.number_looked.ensures.grows

to_now : (c : After-restricted) → GrowsBy (comparison c.args.compared.now) c.args.diagram.now c.number_looked.new.diagram
    → GrowsBy (comparison c.args.compared.now) c.args.diagram.now c.restricted.new.diagram
to_now c before =
    grows-further (comparison c.args.compared.now) c.args.diagram.now c.number_looked.new.diagram c.restricted.new.diagram before
    c.restricted.ensures.grows

to_want : (c : After-restricted-2) → GrowsBy (comparison c.args.compared.now) c.args.diagram.now c.restricted.new.diagram
    → GrowsBy (comparison c.args.compared.now) c.args.diagram.now c.restricted-2.new.diagram
to_want c before =
    grows-further (comparison c.args.compared.now) c.args.diagram.now c.restricted.new.diagram c.restricted-2.new.diagram before
    c.restricted-2.ensures.grows

-- the ends, as numbers of what is held
now_held : (c : In_ok-ends) → AreLineEnds (comparison c.args.compared.now) c.ends_of.new.diagram.nodes c.in_ok-ends.ends.now.items
now_held c =
    now_ends c.args.compared.now c.variables.ensures.ready c.ends_of.new.diagram.nodes c.in_ok-ends.ends.now.items c.in_ok-ends.ends.want.items
    c.in_ok-ends.ensures.ends

want_held : (c : In_ok-ends) → AreLineEnds (comparison c.args.compared.now) c.ends_of.new.diagram.nodes c.in_ok-ends.ends.want.items
want_held c =
    want_ends c.args.compared.now c.variables.ensures.ready c.ends_of.new.diagram.nodes c.in_ok-ends.ends.now.items c.in_ok-ends.ends.want.items
    c.in_ok-ends.ensures.ends

pub returns-in_err-ends-clause-grows : goal.returns-in_err-ends-clause-grows
returns-in_err-ends-clause-grows c = to_ends (goal.at.returns-in_err-ends-clause-grows c).After-ends_of

pub number_looked-requires-clause-bits : goal.number_looked-requires-clause-bits
number_looked-requires-clause-bits c =
    let q = comparison c.args.compared.now in
    subst (λ (ns : List ℕ). AreNumbersOf q c.ends_of.new.diagram.nodes ns (λ b. b)) (sym c.deref-2.ensures.value)
    (numbers-grown q c.number_bits.new.diagram c.ends_of.new.diagram c.ends_of.ensures.grows.kept c.in_ok-bits.bits.items (λ b. b)
    c.in_ok-bits.ensures.numbers)

pub returns-in_err-looked-clause-grows : goal.returns-in_err-looked-clause-grows
returns-in_err-looked-clause-grows c =
    let at = goal.at.returns-in_err-looked-clause-grows c in to_looked at.After-number_looked (to_ends at.After-ends_of)

pub restricted-requires-clause-ends : goal.restricted-requires-clause-ends
restricted-requires-clause-ends c =
    let q = comparison c.args.compared.now in
    subst (λ (ns : List ℕ). AreLineEnds q c.number_looked.new.diagram.nodes ns) (sym c.deref-3.ensures.value)
    (ends_grown q c.ends_of.new.diagram c.number_looked.new.diagram c.in_ok-ends.ends.now.items c.number_looked.ensures.grows.kept
    (now_held (goal.at.restricted-requires-clause-ends c).In_ok-ends))

pub returns-in_err-now-clause-grows : goal.returns-in_err-now-clause-grows
returns-in_err-now-clause-grows c =
    let at = goal.at.returns-in_err-now-clause-grows c in to_now at.After-restricted (to_looked at.After-number_looked (to_ends at.After-ends_of))

pub restricted-requires-2-clause-looked : goal.restricted-requires-2-clause-looked
restricted-requires-2-clause-looked c =
    stands-kept c.number_looked.new.diagram c.restricted.new.diagram c.restricted.ensures.grows.kept c.in_ok-looked.looked
    (looked_function (comparison c.args.compared.now)) c.in_ok-looked.ensures.number

pub restricted-requires-2-clause-ends : goal.restricted-requires-2-clause-ends
restricted-requires-2-clause-ends c =
    let q = comparison c.args.compared.now in
    let kept = KeepsNodes-trans c.ends_of.new.diagram c.number_looked.new.diagram c.restricted.new.diagram c.number_looked.ensures.grows.kept
    c.restricted.ensures.grows.kept in
    subst (λ (ns : List ℕ). AreLineEnds q c.restricted.new.diagram.nodes ns) (sym c.deref-4.ensures.value)
    (ends_grown q c.ends_of.new.diagram c.restricted.new.diagram c.in_ok-ends.ends.want.items kept
    (want_held (goal.at.restricted-requires-2-clause-ends c).In_ok-ends))

pub returns-in_err-want-clause-grows : goal.returns-in_err-want-clause-grows
returns-in_err-want-clause-grows c =
    let at = goal.at.returns-in_err-want-clause-grows c in
    to_want at.After-restricted-2 (to_now at.After-restricted (to_looked at.After-number_looked (to_ends at.After-ends_of)))

pub returns-clause-grows : goal.returns-clause-grows
returns-clause-grows c =
    let at = goal.at.returns-clause-grows c in
    to_want at.After-restricted-2 (to_now at.After-restricted (to_looked at.After-number_looked (to_ends at.After-ends_of)))

pub returns-clause-ends : goal.returns-clause-ends
returns-clause-ends c =
    let q = comparison c.args.compared.now in
    let ends = c.in_ok-ends.ends in
    let begun = c.ends_of.new.diagram in
    let first = c.number_looked.new.diagram in
    let middle = c.restricted.new.diagram in
    let last = c.restricted-2.new.diagram in
    looked_ends q begun first middle last ends.now.items ends.want.items c.in_ok-now.now.items c.in_ok-want.want.items
    c.number_looked.ensures.grows.kept c.restricted.ensures.grows.kept c.restricted-2.ensures.grows.kept c.in_ok-ends.ensures.ends
    (subst (λ (ns : List ℕ). AreRestricted q first.nodes middle.nodes ns c.in_ok-now.now.items) c.deref-3.ensures.value c.in_ok-now.ensures.numbers)
    (subst (λ (ns : List ℕ). AreRestricted q middle.nodes last.nodes ns c.in_ok-want.want.items) c.deref-4.ensures.value c.in_ok-want.ensures.numbers)
