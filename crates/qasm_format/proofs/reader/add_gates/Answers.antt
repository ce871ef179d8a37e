use Rattle.std.proofs.Common.{refl, arith}
use Rattle.revc_base.proofs.ResultLemmas.{passes_on}
use Rattle.qasm_format.proofs.SpreadLemmas.{none_stand, meeting_stand, count_below, added, passed, wanted}
use Rattle.qasm_format.proofs.reader.add_gates.Goals as goal

pub returns-in_default-clause-err : goal.returns-in_default-clause-err
returns-in_default-clause-err c = (refl, none_stand c.args.spots.now (c.count_of.ensures.none c.in_default.is))

pub all_different-requires-clause-few : goal.all_different-requires-clause-few
all_different-requires-clause-few c =
    count_below c.args.spots.now c.in-Some.count 16384 c.in-Some.ensures.some c.requires.below (omega arith)

pub returns-then-not-all_different-clause-err : goal.returns-then-not-all_different-clause-err
returns-then-not-all_different-clause-err c =
    (refl, meeting_stand c.args.spots.now c.in-Some.count c.in-Some.ensures.some (c.all_different.ensures.meet c.if-not-all_different.true))

pub returns-then-len-from-gt-MOST_GATES-clause-err : goal.returns-then-len-from-gt-MOST_GATES-clause-err
returns-then-len-from-gt-MOST_GATES-clause-err c = (
  refl,
  passed c.args.spots.now c.in-Some.count c.args.gates.now.items c.requires.some c.in-Some.ensures.some
      (c.all_different.ensures.all c.if-not-all_different.false) (omega arith),
)

pub push_gates-requires-clause-few : goal.push_gates-requires-clause-few
push_gates-requires-clause-few c =
    count_below c.args.spots.now c.in-Some.count 16384 c.in-Some.ensures.some c.requires.below (omega arith)

pub returns-clause-ok : goal.returns-clause-ok
returns-clause-ok c =
    added c.args.spots.now c.in-Some.count _ c.requires.some c.in-Some.ensures.some (c.all_different.ensures.all c.if-not-all_different.false) _
    (omega arith) c.in_ok-push_gates.ensures

pub returns-in_err-push_gates-clause-err : goal.returns-in_err-push_gates-clause-err
returns-in_err-push_gates-clause-err c =
    passes_on _ c.from_residual.result c.from_residual.ensures.1
    (wanted c.args.spots.now c.in-Some.count c.args.gates.now.items c.requires.some c.in-Some.ensures.some
    (c.all_different.ensures.all c.if-not-all_different.false) (omega arith))
