use Rattle.std.proofs.Common.{length}
use Rattle.std.proofs.lemmas.Result.{IfOk-weaker, IfErr-weaker}
use Rattle.bennett_pebbling.specs.inside.Changes.{IsChanged, IsChangeFault, IsLowered, IsLowerFault}
use Rattle.bennett_pebbling.specs.inside.Marks.{AreNeeds}
use Rattle.bennett_pebbling.proofs.BlockLemmas.{block_can, block_changed, block_graph, lower_short, raise_short}
use Rattle.bennett_pebbling.proofs.changing.change_block.Goals as goal
use Rattle.revc_base.proofs.ResultLemmas.{passes_on}
use Rattle.bennett_pebbling.proofs.changing.change_block.Goals.{After-deref}

needs_are : (c : After-deref) → AreNeeds c.args.forward.graph c.args.lo c.in_ok-marks.marks.items c.deref.result.now
needs_are c = rw (← c.requires.can.graph, c.deref.ensures.value) c.with_needs-marks.ensures

pub returns : goal.returns
returns c =
    let f = c.args.forward in let lo = c.args.lo in let wanted = c.args.wanted.now in let start = c.in_ok-marks.marks.items in let marks = c.deref.result.now in
    let needs = needs_are (goal.at.returns c).After-deref in
    let next = c.in_ok-forward.forward in
    record {
      changed = IfOk-weaker c.lower.result (IsLowered next lo wanted) (IsChanged f (length wanted) lo wanted)
          (λ last l. block_changed f lo wanted start marks c.in_ok-marks.ensures needs next c.in_ok-forward.ensures.raised c.requires.can.ready
          c.in_ok-forward.ensures.keeps last l) c.lower.ensures.lowered;
      keeps = c.lower.ensures.keeps;
      refused = IfErr-weaker c.lower.result (IsLowerFault next lo wanted) (IsChangeFault f (length wanted) lo wanted)
          (λ e l. lower_short f lo wanted start marks c.in_ok-marks.ensures needs next c.in_ok-forward.ensures.raised c.requires.can.ready
          c.in_ok-forward.ensures.keeps e l) c.lower.ensures.refused;
    }

pub returns-in_err-forward-clause-refused : goal.returns-in_err-forward-clause-refused
returns-in_err-forward-clause-refused c =
    let f = c.args.forward in let lo = c.args.lo in let wanted = c.args.wanted.now in let start = c.in_ok-marks.marks.items in let marks = c.deref.result.now in
    let needs = needs_are (goal.at.returns-in_err-forward-clause-refused c).After-deref in
    passes_on _ c.from_residual-in_err-forward.result c.from_residual-in_err-forward.ensures.1
    (raise_short f lo wanted start marks c.in_ok-marks.ensures needs c.in_err-forward.field-0.0 c.in_err-forward.ensures.refused)

pub lower-requires-clause-inside : goal.lower-requires-clause-inside
lower-requires-clause-inside c =
    let f = c.args.forward in let lo = c.args.lo in let wanted = c.args.wanted.now in let start = c.in_ok-marks.marks.items in let marks = c.deref.result.now in
    let needs = needs_are (goal.at.lower-requires-clause-inside c).After-deref in
    rw (block_graph f lo wanted start marks c.in_ok-marks.ensures needs c.in_ok-forward.forward c.in_ok-forward.ensures.raised
    c.requires.can.ready c.in_ok-forward.ensures.keeps) c.requires.can.inside

pub lower-requires-clause-can : goal.lower-requires-clause-can
lower-requires-clause-can c =
    let f = c.args.forward in let lo = c.args.lo in let wanted = c.args.wanted.now in let start = c.in_ok-marks.marks.items in let marks = c.deref.result.now in
    let needs = needs_are (goal.at.lower-requires-clause-can c).After-deref in
    block_can f lo wanted start marks c.in_ok-marks.ensures needs c.in_ok-forward.forward c.in_ok-forward.ensures.raised
    c.requires.can.ready c.in_ok-forward.ensures.keeps
