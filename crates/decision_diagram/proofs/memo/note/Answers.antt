use Rattle.std.proofs.Common.{arith}
use Rattle.decision_diagram.proofs.MemoLemmas.{noted_or_same, recalled_where_ok}
use Rattle.decision_diagram.proofs.memo.note.Goals as goal

pub returns-clause-noted : goal.returns-clause-noted
returns-clause-noted c = record {
  kept = c.make_room.new.memo.entries;
  before = c.make_room.ensures.kept;
  noted = noted_or_same c.insert.result c.args.operands.now c.args.flipped c.make_room.new.memo c.insert.new.self c.insert.ensures.updates
      c.insert.ensures.err;
}

pub returns-clause-room : goal.returns-clause-room
returns-clause-room c = λ room.
    recalled_where_ok c.insert.result c.args.operands.now c.args.flipped c.make_room.new.memo c.insert.new.self
    (c.insert.ensures.succeeds (omega (arith, room, c.make_room.ensures.room))) c.insert.ensures.updates
