use Rattle.std.proofs.Common.{◌≡◌, ◌-◌, drop}
use Rattle.name_scope.proofs.names.Names.leave.Given as goal

abbrev pub invariant-loop : goal.invariant-loop
invariant-loop l = l.self ≡ drop (l.counter - l.fn.depth) l.initial.self
