use Rattle.std.proofs.Common.{◌≡◌, ℕ, List, ◌++◌, codes, refl, rules}
use Rattle.arith_templates.specs.Ripples.{outputs}
use Rattle.arith_templates.specs.Adder.{parameters}
use Rattle.arith_templates.specs.Texts.{borrow_function, first_difference, first_borrow, difference_place, comparator_opening, borrow_line, last_borrow_line}
use Rattle.arith_templates.specs.Texts.{incrementer_opening, increment_place}
use Rattle.arith_templates.proofs.template.text.Goals as goal

-- the difference of place 0 as the code has it
first_is : codes "let d0 = a.[0] <> b.[0];\n" ≡ first_difference
unfolding first_difference
first_is = refl

abbrev opening : ℕ → List ℕ
opening n = parameters n ++ (borrow_function ++ (codes "let d0 = a.[0] <> b.[0];\n" ++ first_borrow))

pub returns-in-Sub : goal.returns-in-Sub
unfolding parameters
returns-in-Sub c = rw c.in-Sub.is record {
  bytes = rw (← first_is) (c.ripple_text.ensures opening difference_place (outputs (codes "d")) (search rules) (search rules) (search rules));
}

pub returns-in-Less : goal.returns-in-Less
returns-in-Less c = rw c.in-Less.is record {
  bytes = c.ripple_text-in-Less.ensures comparator_opening borrow_line last_borrow_line (search rules) (search rules) (search rules);
}

pub returns-in-Inc : goal.returns-in-Inc
returns-in-Inc c = rw c.in-Inc.is record {
  bytes = c.ripple_text-in-Inc.ensures incrementer_opening increment_place (outputs (codes "s")) (search rules) (search rules) (search rules);
}
