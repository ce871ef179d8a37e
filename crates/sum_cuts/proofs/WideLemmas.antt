-- Sums as functions of a cut, by the numbers of a diagram that grows.
use Rattle.std.proofs.Common.{◌≡◌, ℕ, ◌<◌, Bool, false, ◌&&◌, List, ◌++◌, [], ◌∷◌, get_or, length, sym, ap, ap₂, subst, ◌∙◌}
use Rattle.std.specs.Bool.{xor}
use Rattle.std.proofs.lemmas.List.{get_or-map}
use Rattle.list_facts.proofs.AllLemmas.{AllByRecursion-at, AllByRecursion-push, AllByRecursion-weaker}
use Rattle.decision_diagram.specs.Diagrams.{DiagramView, Triple, function_of}
use Rattle.decision_diagram.specs.Functions.{GivesOnly, conjunction, exclusive_or, variable_at}
use Rattle.decision_diagram.specs.Growth.{KeepsFunctions, StandsFor}
use Rattle.linear_forms.specs.Bases.{no_form}
use Rattle.linear_forms.specs.Forms.{FormView, IsConstant, IsSum, form_value}
use Rattle.product_sums.specs.Products.{IsProduct, ProductsView}
use Rattle.sum_cuts.specs.declared.wide.Numbered.{Numbered}
use Rattle.sum_cuts.specs.Cuts.{IsZero}
use Rattle.sum_cuts.specs.inside.Wide.{AreNumbered, IsNumbered, cut_values}

-- ---- as the diagram grows

pub numbered_later : (t : ProductsView) (sums : List FormView) (old now : List Triple) (f : Numbered) → KeepsFunctions old now
    → IsNumbered t sums old f → IsNumbered t sums now f
numbered_later t sums old now f kept is =
    let both = kept f.number is.known in
    record { known = both.0; is = λ atom by. both.1 (cut_values sums atom) ∙ is.is atom by }

pub all_later : (t : ProductsView) (sums : List FormView) (old now : List Triple) (fs : List Numbered) → KeepsFunctions old now
    → AreNumbered t sums old fs → AreNumbered t sums now fs
all_later t sums old now fs kept are =
    AllByRecursion-weaker (IsNumbered t sums old) (IsNumbered t sums now) (λ f. numbered_later t sums old now f kept) fs are

pub one_more : (t : ProductsView) (sums : List FormView) (old now : List Triple) (fs gs : List Numbered) (f : Numbered) → KeepsFunctions old now
    → gs ≡ fs ++ f ∷ [] → IsNumbered t sums now f → AreNumbered t sums old fs → AreNumbered t sums now gs
one_more t sums old now fs gs f kept is own are =
    subst (AreNumbered t sums now) (sym is)
    (AllByRecursion-push (IsNumbered t sums now) fs f (all_later t sums old now fs kept are) own)

pub numbered_at : (t : ProductsView) (sums : List FormView) (nodes : List Triple) (fs : List Numbered) (i : ℕ) (f : Numbered) → i < length fs
    → f ≡ get_or fs i f → AreNumbered t sums nodes fs → IsNumbered t sums nodes f
numbered_at t sums nodes fs i f low is are =
    subst (IsNumbered t sums nodes) (sym is) (AllByRecursion-at (IsNumbered t sums nodes) fs i f are low)

-- ---- functions

pub constant_numbered : (t : ProductsView) (sums : List FormView) (nodes : List Triple) (f : Numbered) (one : Bool)
    → StandsFor nodes f.number (λ _. one) → IsConstant one f.form → IsNumbered t sums nodes f
constant_numbered t sums nodes f one stands is = record {
  known = stands.known;
  is = λ atom by. stands.same (cut_values sums atom) ∙ sym (is atom);
}

pub variable_numbered : (t : ProductsView) (sums : List FormView) (nodes : List Triple) (f : Numbered) (k : ℕ) → k < length sums
    → StandsFor nodes f.number (variable_at k) → f.form ≡ get_or sums k no_form → IsNumbered t sums nodes f
variable_numbered t sums nodes f k low stands is = record {
  known = stands.known;
  is = λ atom by. stands.same (cut_values sums atom) ∙ get_or-map (form_value atom) sums k no_form false low ∙ ap (form_value atom) (sym is);
}

pub sum_numbered : (t : ProductsView) (sums : List FormView) (old now : List Triple) (f g h : Numbered) → IsNumbered t sums old f
    → IsNumbered t sums old g → StandsFor now h.number (exclusive_or (function_of old f.number) (function_of old g.number))
    → IsSum f.form g.form h.form → IsNumbered t sums now h
sum_numbered t sums old now f g h one other stands is = record {
  known = stands.known;
  is = λ atom by. stands.same (cut_values sums atom) ∙ ap₂ xor (one.is atom by) (other.is atom by) ∙ sym (is atom);
}

pub product_numbered : (t : ProductsView) (sums : List FormView) (old now : List Triple) (f g h : Numbered) → IsNumbered t sums old f
    → IsNumbered t sums old g → StandsFor now h.number (conjunction (function_of old f.number) (function_of old g.number))
    → IsProduct t f.form g.form h.form → IsNumbered t sums now h
product_numbered t sums old now f g h one other stands is = record {
  known = stands.known;
  is = λ atom by. stands.same (cut_values sums atom) ∙ ap₂ (λ x y. x && y) (one.is atom by) (other.is atom by) ∙ sym (is atom by);
}

-- a function that is always false
pub zero_numbered : (t : ProductsView) (sums : List FormView) (nodes : List Triple) (f : Numbered) → IsNumbered t sums nodes f
    → GivesOnly (function_of nodes f.number) false → IsZero t f.form
zero_numbered t sums nodes f is none atom by = sym (is.is atom by) ∙ none (cut_values sums atom)

-- ---- a cut that is begun

pub record IsBegun (t : ProductsView) (sums : List FormView) (d : DiagramView) (fs : List Numbered) : Type 0 where
  pub vars : d.vars ≡ length sums
  pub are : AreNumbered t sums d.nodes fs
