use Rattle.std.proofs.Common.{rules, ◌≡◌, refl}
use Rattle.std.specs.List.{AllByRecursion}
use Rattle.revc_base.specs.Bits.{IsDigit}
use Rattle.list_facts.proofs.FirstLemmas.{none_without, one_without}
use Rattle.revc_base.proofs.bits.Bits.from_word.Goals as goal

pub returns-in-Some-clause-named : goal.returns-in-Some-clause-named
returns-in-Some-clause-named c at first =
    let same : c.in-Some.at ≡ at = one_without IsDigit c.args.word.now c.in-Some.at at (search rules) first in
    rw same refl

pub returns-in_err-bits-clause-named : goal.returns-in_err-bits-clause-named
returns-in_err-bits-clause-named c at first =
    let digits : AllByRecursion IsDigit c.args.word.now = search rules in
    absurd (none_without IsDigit c.args.word.now at digits first)

pub returns-clause-named : goal.returns-clause-named
returns-clause-named c at first =
    let digits : AllByRecursion IsDigit c.args.word.now = search rules in
    absurd (none_without IsDigit c.args.word.now at digits first)
