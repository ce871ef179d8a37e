-- Forms that stand for bits: as the table grows, as lists are put together, and that the variables determine them.
use Rattle.std.proofs.Common.{◌≡◌, ℕ, ◌+◌, ◌<◌, Bool, false, List, [], ◌∷◌, ◌++◌, map, refl, sym, ap, ap₂, ◌∙◌, arith, length-append}
use Rattle.std.proofs.lemmas.List.{get_or-map, length-map, map-append}
use Rattle.list_facts.specs.Bits.{bit_of}
use Rattle.list_facts.specs.Lists.{below}
use Rattle.list_facts.proofs.OrderLemmas.{length-below}
use Rattle.linear_forms.specs.Bases.{no_form}
use Rattle.linear_forms.specs.Forms.{FormView, form_value}
use Rattle.product_sums.specs.Products.{Extends, IsDetermined, ProductsView}
use Rattle.product_sums.proofs.TableLemmas.{respects_before}
use Rattle.claim_check.proofs.VariableLemmas.{at_below}
use Rattle.circuit_verify.specs.Comparisons.{AreBitsFor, Comparison, variables_in}
use Rattle.sum_verify.specs.inside.Forms.{AreDetermined, AreFormsOf, GivesBits, HasVariables, IsFormOf, IsUnder, form_at}

-- ---- as the table grows

pub under_before : (q : Comparison) (old now : ProductsView) (bits : List Bool) (atom : ℕ → Bool) → Extends old now → IsUnder q now bits atom
    → IsUnder q old bits atom
under_before q old now bits atom more is = record { gives = is.gives; respects = respects_before old now atom more is.respects }

pub form_later : (q : Comparison) (old now : ProductsView) (f : FormView) (bit : List Bool → Bool) → Extends old now → IsFormOf q old f bit
    → IsFormOf q now f bit
form_later q old now f bit more is = record { same = λ bits atom under. is.same bits atom (under_before q old now bits atom more under) }

pub forms_later : (q : Comparison) (old now : ProductsView) (count : ℕ) (forms : List FormView) (value : List Bool → List Bool) → Extends old now
    → AreFormsOf q old count forms value → AreFormsOf q now count forms value
forms_later q old now count forms value more are = record {
  one_each = are.one_each;
  same = λ bits atom under. are.same bits atom (under_before q old now bits atom more under);
}

pub variables_later : (q : Comparison) (old now : ProductsView) → Extends old now → HasVariables q old → HasVariables q now
variables_later q old now more is = more.given ∙ is

-- ---- lists

-- one form of a list
pub form_in : (q : Comparison) (t : ProductsView) (count i : ℕ) (forms : List FormView) (value : List Bool → List Bool)
    → AreFormsOf q t count forms value → i < count → IsFormOf q t (form_at forms i) (λ bits. bit_of (value bits) i)
form_in q t count i forms value are low = record {
  same = λ bits atom under.
      sym (get_or-map (form_value atom) forms i no_form false (omega (arith, low, are.one_each)))
      ∙ ap (λ (z : List Bool). bit_of z i) (are.same bits atom under);
}

pub form_same : (q : Comparison) (t : ProductsView) (f : FormView) (bit other : List Bool → Bool)
    → ((bits : List Bool) → AreBitsFor q bits → bit bits ≡ other bits) → IsFormOf q t f bit → IsFormOf q t f other
form_same q t f bit other same is = record { same = λ bits atom under. is.same bits atom under ∙ same bits under.gives.are }

pub forms_same : (q : Comparison) (t : ProductsView) (count : ℕ) (forms : List FormView) (value other : List Bool → List Bool)
    → ((bits : List Bool) → AreBitsFor q bits → value bits ≡ other bits) → AreFormsOf q t count forms value → AreFormsOf q t count forms other
forms_same q t count forms value other same are = record {
  one_each = are.one_each;
  same = λ bits atom under. are.same bits atom under ∙ same bits under.gives.are;
}

pub forms_none : (q : Comparison) (t : ProductsView) → AreFormsOf q t 0 [] (λ bits. [])
forms_none q t = record { one_each = omega arith; same = λ bits atom under. refl }

pub forms_push : (q : Comparison) (t : ProductsView) (count : ℕ) (forms : List FormView) (f : FormView) (value : List Bool → List Bool)
    (bit : List Bool → Bool) → AreFormsOf q t count forms value → IsFormOf q t f bit
    → AreFormsOf q t (count + 1) (forms ++ f ∷ []) (λ bits. value bits ++ bit bits ∷ [])
forms_push q t count forms f value bit are is = record {
  one_each = length-append forms (f ∷ []) ∙ omega (arith, are.one_each);
  same = λ bits atom under.
      map-append (form_value atom) forms (f ∷ [])
      ∙ ap₂ (λ (z : List Bool) (b : Bool). z ++ b ∷ []) (are.same bits atom under) (is.same bits atom under);
}

-- ---- what the variables determine

-- atoms that agree where they stand for no product give the same bits
gives_bits : (q : Comparison) (u v : ℕ → Bool) → ((k : ℕ) → k < variables_in q → u k ≡ v k) → GivesBits q (map u (below (variables_in q))) v
gives_bits q u v same =
    let n : ℕ = variables_in q in
    record {
      are = length-map (below n) u ∙ length-below n;
      given = λ k low.
          sym (same k low)
          ∙ sym (get_or-map u (below n) k 0 false (omega (arith, low, length-below n)) ∙ ap u (at_below n k low));
    }

pub determined : (q : Comparison) (t : ProductsView) (f : FormView) (bit : List Bool → Bool) → HasVariables q t → IsFormOf q t f bit → IsDetermined t f
determined q t f bit variables is u v by also same =
    let bits : List Bool = map u (below (variables_in q)) in
    is.same bits u (record { gives = gives_bits q u u (λ k low. refl); respects = by })
    ∙ sym (is.same bits v (record { gives = gives_bits q u v (λ k low. same k (omega (arith, low, variables))); respects = also }))

pub all_determined : (q : Comparison) (t : ProductsView) (count : ℕ) (forms : List FormView) (value : List Bool → List Bool) → HasVariables q t
    → AreFormsOf q t count forms value → AreDetermined t forms
all_determined q t count forms value variables are = record {
  each = λ i low. determined q t (form_at forms i) (λ bits. bit_of (value bits) i) variables
      (form_in q t count i forms value are (omega (arith, low, are.one_each)));
}
