use Rattle.std.proofs.Common.{sym}
use Rattle.std.proofs.lemmas.Bool.{ltb-true, ltb-false}
use Rattle.circuit_commands.proofs.RunLemmas.{first_here, first_none}
use Rattle.circuit_commands.proofs.run.first_bit.Goals as goal

pub returns-in-Some : goal.returns-in-Some
returns-in-Some c =
    let found = c.in-Some.ensures.lookup in
    rw c.in-Free.is (sym (first_here c.args.digits.now c.args.place c.in-Some.digit.now (ltb-true _ _ (sym found.0)) found.1))

pub returns-in-None : goal.returns-in-None
returns-in-None c = rw c.in-Free.is (sym (first_none c.args.digits.now c.args.place (ltb-false _ _ (sym c.in-None.ensures.lookup.0))))

pub returns-in-One : goal.returns-in-One
returns-in-One c = rw c.in-One.is
