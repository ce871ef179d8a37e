use Rattle.std.proofs.Common.{sym, ◌∙◌, arith}
use Rattle.decision_diagram.specs.Functions.{AreSame}
use Rattle.decision_diagram.specs.Growth.{MayRefuse, StandsFor}
use Rattle.decision_diagram.specs.inside.Flipping.{Grows, flipped_at, node_function}
use Rattle.decision_diagram.proofs.GrowthLemmas.{StandsFor-same, behind-kept, Grows-from, Grows-same, Grows-trans}
use Rattle.decision_diagram.proofs.GrowthLemmas.{Grows-refl, MayRefuse-from, MayRefuse-same}
use Rattle.decision_diagram.proofs.FlipLemmas.{are_numbers, one_asks, settled_behind, high_comes, low_comes, node_is_flip, refused_at}
use Rattle.decision_diagram.proofs.MemoLemmas.{made_flip, holds-kept, holds-noted, numbers-kept, recalled_behind}
use Rattle.decision_diagram.proofs.diagram.Diagram.+flip_by.Goals as goal
use Rattle.decision_diagram.proofs.diagram.Diagram.+flip_by.Goals.{After-flip_by, After-flip_by-2, After-node, In_ok-flipped, In_ok-high}

-- ---- what the diagram has come to

after_low : (t : _) (c : goal.After-flip_by t) → Grows (flipped_at c.args.self.now.nodes c.args.operands.now) c.args.self.now c.flip_by.new.self
after_low t c =
    let d = c.args.self.now in
    let at_low = c.split-at_low.result.0 in
    Grows-from (flipped_at d.nodes c.args.operands.now) (flipped_at d.nodes at_low) d c.flip_by.new.self
    (low_comes d c.settled.ensures.canonical c.first_of-variable.result c.args.operands.now at_low c.split-at_low.result.1 c.split-at_low.ensures)
    c.flip_by.ensures.grows

after_high : (t : _) (c : goal.After-flip_by-2 t) → Grows (flipped_at c.args.self.now.nodes c.args.operands.now) c.args.self.now c.flip_by-2.new.self
after_high t c =
    let d = c.args.self.now in
    let f = flipped_at d.nodes c.args.operands.now in
    let e = c.flip_by.new.self in
    let at_high = c.split-at_low.result.1 in
    Grows-trans f d e c.flip_by-2.new.self (after_low t (goal.at.After-flip_by-2 t c).After-flip_by)
    (Grows-from f (flipped_at e.nodes at_high) e c.flip_by-2.new.self
    (high_comes d c.settled.ensures.canonical c.first_of-variable.result c.args.operands.now c.split-at_low.result.0 at_high c.split-at_low.ensures
    e c.flip_by.ensures.grows.kept) c.flip_by-2.ensures.grows)

is_flip : (t : _) (c : goal.In_ok-high t)
    → AreSame (node_function c.flip_by-2.new.self.nodes (record { variable = c.first_of-variable.result; low = c.in_ok-low.low; high = c.in_ok-high.high }))
    (flipped_at c.args.self.now.nodes c.args.operands.now)
is_flip t c =
    node_is_flip c.args.self.now c.settled.ensures.canonical c.first_of-variable.result c.args.operands.now c.split-at_low.result.0 c.split-at_low.result.1
    c.split-at_low.ensures c.flip_by.new.self c.flip_by-2.new.self c.flip_by.ensures.grows.kept c.flip_by-2.ensures.grows.kept
    c.in_ok-low.low c.in_ok-high.high c.in_ok-low.ensures.answer c.in_ok-high.ensures.answer

in_the_end : (t : _) (c : goal.After-node t) → Grows (flipped_at c.args.self.now.nodes c.args.operands.now) c.args.self.now c.node.new.self
in_the_end t c =
    let f = flipped_at c.args.self.now.nodes c.args.operands.now in
    Grows-trans f c.args.self.now c.flip_by-2.new.self c.node.new.self (after_high t (goal.at.After-node t c).After-flip_by-2)
    (Grows-same f _ c.flip_by-2.new.self c.node.new.self (is_flip t (goal.at.After-node t c).In_ok-high) c.node.ensures.grows)

stands : (t : _) (c : goal.In_ok-flipped t)
    → StandsFor c.node.new.self.nodes c.in_ok-flipped.flipped (flipped_at c.args.self.now.nodes c.args.operands.now)
stands t c =
    StandsFor-same c.node.new.self.nodes c.in_ok-flipped.flipped _ (flipped_at c.args.self.now.nodes c.args.operands.now)
    (is_flip t (goal.at.In_ok-flipped t c).In_ok-high) c.in_ok-flipped.ensures.answer

pub returns-in-Some-clause-grows : goal.returns-in-Some-clause-grows
returns-in-Some-clause-grows t c =
    Grows-refl (flipped_at c.args.self.now.nodes c.args.operands.now) c.args.self.now c.settled.ensures.canonical

pub returns-in-Some-clause-behind : goal.returns-in-Some-clause-behind
returns-in-Some-clause-behind t c =
    let d = c.args.self.now in
    settled_behind d.vars d.nodes c.settled.ensures.canonical.ordered c.args.operands.now c.in-Some.settled c.in-Some.ensures.one_of

pub returns-in-Some-recalled-clause-grows : goal.returns-in-Some-recalled-clause-grows
returns-in-Some-recalled-clause-grows t c =
    Grows-refl (flipped_at c.args.self.now.nodes c.args.operands.now) c.args.self.now c.settled.ensures.canonical

pub returns-in-Some-recalled-clause-answer : goal.returns-in-Some-recalled-clause-answer
returns-in-Some-recalled-clause-answer t c =
    (c.requires.memo.each c.args.operands.now c.in-Some-recalled.known (sym c.recalled.ensures ∙ c.in-Some-recalled.is)).stands

pub returns-in-Some-recalled-clause-behind : goal.returns-in-Some-recalled-clause-behind
returns-in-Some-recalled-clause-behind t c =
    recalled_behind c.args.self.now c.args.operands.now c.in-Some-recalled.known
    (c.requires.memo.each c.args.operands.now c.in-Some-recalled.known (sym c.recalled.ensures ∙ c.in-Some-recalled.is))

pub split-at_low-requires-clause-variable : goal.split-at_low-requires-clause-variable
split-at_low-requires-clause-variable t c =
    let d = c.args.self.now in
    one_asks d.vars d.nodes c.settled.ensures.canonical.ordered c.args.operands.now c.requires.numbers c.in_default.ensures.none
    c.first_of-variable.result c.first_of-variable.ensures

pub flip_by-requires : goal.flip_by-requires
flip_by-requires t c =
    let d = c.args.self.now in (
      omega (arith, c.decreases, c.split-at_low.ensures.low_less),
      (c.requires.memo, are_numbers d.vars d.nodes c.first_of-variable.result c.split-at_low.result.0 c.split-at_low.ensures.low_behind),
    )

pub flip_by-requires-2 : goal.flip_by-requires-2
flip_by-requires-2 t c =
    let d = c.args.self.now in (
      omega (arith, c.decreases, c.split-at_low.ensures.high_less),
      (
        c.in_ok-low.ensures.memo,
        numbers-kept d c.flip_by.new.self c.flip_by.ensures.grows.kept c.split-at_low.result.1
            (are_numbers d.vars d.nodes c.first_of-variable.result c.split-at_low.result.1 c.split-at_low.ensures.high_behind),
      ),
    )

pub returns-in_err-low-clause-grows : goal.returns-in_err-low-clause-grows
returns-in_err-low-clause-grows t c = after_low t (goal.at.returns-in_err-low-clause-grows t c).After-flip_by

pub returns-in_err-low-clause-refused : goal.returns-in_err-low-clause-refused
returns-in_err-low-clause-refused t c =
    let d = c.args.self.now in
    let at_low = c.split-at_low.result.0 in
    let comes = low_comes d c.settled.ensures.canonical c.first_of-variable.result c.args.operands.now at_low c.split-at_low.result.1 c.split-at_low.ensures in
    refused_at (MayRefuse (flipped_at d.nodes c.args.operands.now) c.flip_by.new.self) c.from_residual.result c.in_err-low.field-0.0 c.from_residual.ensures.1
    (MayRefuse-from _ (flipped_at d.nodes at_low) c.flip_by.new.self comes c.in_err-low.field-0.0 c.in_err-low.ensures.refused)

pub returns-in_err-high-clause-grows : goal.returns-in_err-high-clause-grows
returns-in_err-high-clause-grows t c = after_high t (goal.at.returns-in_err-high-clause-grows t c).After-flip_by-2

pub returns-in_err-high-clause-refused : goal.returns-in_err-high-clause-refused
returns-in_err-high-clause-refused t c =
    let d = c.args.self.now in
    let e = c.flip_by.new.self in
    let comes = high_comes d c.settled.ensures.canonical c.first_of-variable.result c.args.operands.now c.split-at_low.result.0 c.split-at_low.result.1
    c.split-at_low.ensures e c.flip_by.ensures.grows.kept in
    refused_at (MayRefuse (flipped_at d.nodes c.args.operands.now) c.flip_by-2.new.self) c.from_residual-in_err-high.result c.in_err-high.field-0.0
    c.from_residual-in_err-high.ensures.1
    (MayRefuse-from _ (flipped_at e.nodes c.split-at_low.result.1) c.flip_by-2.new.self comes c.in_err-high.field-0.0 c.in_err-high.ensures.refused)

pub node-requires-clause-low : goal.node-requires-clause-low
node-requires-clause-low t c =
    behind-kept c.flip_by.new.self c.flip_by-2.new.self c.flip_by-2.ensures.grows.kept c.first_of-variable.result c.in_ok-low.low
    (c.in_ok-low.ensures.behind c.first_of-variable.result c.split-at_low.ensures.low_behind)

pub node-requires-clause-high : goal.node-requires-clause-high
node-requires-clause-high t c =
    let d = c.args.self.now in
    let e = c.flip_by.new.self in
    let kept = behind-kept d e c.flip_by.ensures.grows.kept c.first_of-variable.result in
    let behind = c.split-at_low.ensures.high_behind in
    let at_high = c.split-at_low.result.1 in
    c.in_ok-high.ensures.behind c.first_of-variable.result (record {
      target = kept at_high.target behind.target;
      left = kept at_high.left behind.left;
      right = kept at_high.right behind.right;
    })

pub returns-clause-grows : goal.returns-clause-grows
returns-clause-grows t c = in_the_end t (goal.at.returns-clause-grows t c).After-node

pub returns-in_err-flipped-clause-grows : goal.returns-in_err-flipped-clause-grows
returns-in_err-flipped-clause-grows t c = in_the_end t (goal.at.returns-in_err-flipped-clause-grows t c).After-node

pub returns-clause-answer : goal.returns-clause-answer
returns-clause-answer t c = stands t (goal.at.returns-clause-answer t c).In_ok-flipped

pub returns-in_err-flipped-clause-refused : goal.returns-in_err-flipped-clause-refused
returns-in_err-flipped-clause-refused t c =
    let f = flipped_at c.args.self.now.nodes c.args.operands.now in
    refused_at (MayRefuse f c.node.new.self) c.from_residual-in_err-flipped.result c.in_err-flipped.field-0.0 c.from_residual-in_err-flipped.ensures.1
    (MayRefuse-same f _ c.node.new.self (is_flip t (goal.at.returns-in_err-flipped-clause-refused t c).In_ok-high) c.in_err-flipped.field-0.0
    c.in_err-flipped.ensures.refused)

pub returns-clause-memo : goal.returns-clause-memo
returns-clause-memo t c =
    let o = c.args.operands.now in
    let now = c.node.new.self in
    let grown = in_the_end t (goal.at.returns-clause-memo t c).After-node in
    let flip = made_flip c.args.self.now now grown.kept o c.in_ok-flipped.flipped c.requires.numbers
    (stands t (goal.at.returns-clause-memo t c).In_ok-flipped) (omega (arith, c.in_ok-flipped.ensures.first, c.first_of-variable.ensures)) in
    holds-noted now o c.in_ok-flipped.flipped c.flip_by-2.new.memo.entries c.note.new.memo.entries
    (holds-kept c.flip_by-2.new.self now c.node.ensures.grows.kept c.flip_by-2.new.memo.entries c.in_ok-high.ensures.memo)
    flip c.note.ensures.noted c.note.ensures.most
