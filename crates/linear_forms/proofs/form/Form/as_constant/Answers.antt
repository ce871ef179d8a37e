use Rattle.std.proofs.Common.{◌≡◌, sym, ◌∙◌, length}
use Rattle.std.proofs.lemmas.Bool.{eqb-true}
use Rattle.std.proofs.lemmas.List.{nil_from_length}
use Rattle.linear_forms.proofs.FormLemmas.{no_atoms}
use Rattle.linear_forms.proofs.form.Form.as_constant.Goals as goal

pub returns-then-is_empty : goal.returns-then-is_empty
returns-then-is_empty c atom =
    let none : length c.as_slice.result.now ≡ 0 = eqb-true (length c.as_slice.result.now) 0 (sym c.is_empty.ensures ∙ c.if-is_empty.true) in
    rw (← c.self.view_is) (no_atoms atom _ (sym c.as_slice.ensures.value ∙ nil_from_length c.as_slice.result.now none))
