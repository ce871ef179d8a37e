use Rattle.std.proofs.lemmas.Option.{slice_get-get_or}
use Rattle.real_format.specs.declared.file.Mark.TheVariants.{Free}
use Rattle.real_format.proofs.MarkLemmas.{start_at}
use Rattle.real_format.proofs.labels.Labels.constant.Goals as goal

pub returns-in-ByRole : goal.returns-in-ByRole
returns-in-ByRole c =
    let low = rw c.in-ByRole.is at c.requires.in_range in
    rw (c.in-ByRole.is, c.start_of.ensures, c.role_and_number.ensures.role) (start_at c.in-ByRole.roles c.args.line low)

pub returns-in-ByNumber : goal.returns-in-ByNumber
returns-in-ByNumber c =
    let low = rw c.in-ByNumber.is at c.requires.in_range in
    rw c.in-ByNumber.is (slice_get-get_or c.in-ByNumber.constants.now c.args.line Free low)
