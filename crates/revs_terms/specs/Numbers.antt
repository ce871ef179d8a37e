-- Numbers as contracts see them: the list of their steps.
use Rattle.std.specs.Prelude.{true, false, List, [], ◌∷◌}
use Rattle.revs_terms.specs.declared.term.Unit as u
use Rattle.revs_terms.specs.declared.term.Unit.TheVariants as units
use Rattle.revs_terms.specs.declared.term.Step.{Step}
use Rattle.revs_terms.specs.declared.term.Steps.{Steps}
use Rattle.revs_terms.specs.declared.term.Steps.TheVariants as steps

-- the step that adds a unit, and the one that takes it away
abbrev pub plus : u.Unit → Step
plus this = record { minus = false; unit = this }

abbrev pub minus : u.Unit → Step
minus this = record { minus = true; unit = this }

abbrev pub steps_of : Steps → List Step
steps_of (steps.Digits value at) = plus (units.Digits value at) ∷ []
steps_of (steps.Sum sum) = plus sum.value.first ∷ sum.value.more.items
