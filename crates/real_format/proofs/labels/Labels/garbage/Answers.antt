use Rattle.std.proofs.Common.{◌<◌, sym, subst, false}
use Rattle.std.proofs.lemmas.Option.{slice_get-get_or}
use Rattle.circuit_plans.specs.Plans.{lines_in}
use Rattle.real_format.proofs.MarkLemmas.{slice_get-replicate}
use Rattle.real_format.proofs.labels.Labels.garbage.Goals as goal

pub returns-in-ByRole : goal.returns-in-ByRole
returns-in-ByRole c =
    let low = rw c.in-ByRole.is at c.requires.in_range in
    rw c.in-ByRole.is (slice_get-replicate (lines_in c.in-ByRole.field-0) c.args.line false low)

pub returns-in-ByNumber : goal.returns-in-ByNumber
returns-in-ByNumber c =
    let low = rw c.in-ByNumber.is at c.requires.in_range in
    let fit = rw c.in-ByNumber.is at c.requires.fit in
    rw c.in-ByNumber.is (slice_get-get_or c.in-ByNumber.garbage.now c.args.line false (subst (λ n. c.args.line < n) (sym fit) low))
