use Rattle.std.proofs.Common.{refl, ◌/◌, ◌%◌}
use Rattle.linear_forms.proofs.FormLemmas.{atom_is, shifted}
use Rattle.linear_forms.proofs.form.Form.atom.Goals as goal

pub returns : goal.returns
returns c atom =
    atom_is atom c.args.number (record { place = c.args.number / 64; word = _ }) _ refl (shifted c.args.number) refl c.in_ok-from_slice.ensures.items
