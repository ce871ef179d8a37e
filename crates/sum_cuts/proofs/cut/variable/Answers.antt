use Rattle.std.proofs.Common.{◌∙◌}
use Rattle.std.proofs.lemmas.List.{get_or_read}
use Rattle.linear_forms.specs.Bases.{no_form}
use Rattle.sum_cuts.proofs.CutLemmas.{variable_function}
use Rattle.sum_cuts.proofs.cut.variable.Goals as goal

pub returns : goal.returns
returns c =
    variable_function c.args.sums.now c.args.place (record { form = c.in_ok-copy.field-0; table = c.variable.result }) c.requires.few c.requires.low
    c.variable.ensures
    (c.in_ok-copy.ensures ∙ get_or_read c.args.sums.now c.args.place c.index-sums-place.result c.requires.low c.index-sums-place.is no_form)
