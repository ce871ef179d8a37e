-- Functions of a cut.
use Rattle.std.proofs.Common.{◌≡◌, ℕ, ◌<◌, ◌≤◌, Bool, true, false, ◌&&◌, Option, None, Some, IfSome, List, ◌++◌, [], ◌∷◌, get_or, length, map, refl, sym, ap, ap₂, subst, ◌∙◌, arith}
use Rattle.std.specs.Bool.{xor}
use Rattle.std.specs.List.{AllByRecursion}
use Rattle.std.proofs.lemmas.List.{get_or-map, length-map}
use Rattle.list_facts.proofs.AllLemmas.{AllByRecursion-at, AllByRecursion-push, AllByRecursion-weaker}
use Rattle.list_facts.proofs.BitLemmas.{xor_nothing}
use Rattle.linear_forms.specs.Bases.{no_form}
use Rattle.linear_forms.specs.Forms.{FormView, IsConstant, IsSum, form_value}
use Rattle.linear_forms.specs.Pairs.{is_in}
use Rattle.product_sums.specs.Products.{Extends, IsDetermined, IsProduct, ProductsView}
use Rattle.product_sums.proofs.TableLemmas.{respects_before}
use Rattle.sum_cuts.specs.declared.cut.Cut.{Cut}
use Rattle.sum_cuts.specs.declared.cut.Function.{Function}
use Rattle.sum_cuts.specs.Cuts.{AreEqualSums, AreOverCut, CutsDecide, IsOverCut, IsProductOverCut, IsZero, cut_row}
use Rattle.sum_cuts.specs.Tables.{table_bit}
use Rattle.sum_cuts.specs.inside.Functions.{IsFunction, IsOver}
use Rattle.sum_cuts.proofs.TableLemmas.{row_bit, row_inside}

pub decide : CutsDecide
decide t sums words f g one other atom by = sym (one atom by) ∙ other atom by

pub inside : (sums : List FormView) (atom : ℕ → Bool) → length sums ≤ 12 → cut_row sums atom < 4096
inside sums atom few = row_inside (map (form_value atom) sums) (omega (arith, few, length-map sums (form_value atom)))

-- a table that is one constant
pub constant_over : (t : ProductsView) (sums : List FormView) (words : List ℕ) (f : FormView) (one : Bool) → length sums ≤ 12
    → ((row : ℕ) → row < 4096 → table_bit words row ≡ one) → IsConstant one f → IsOverCut t sums words f
constant_over t sums words f one few each is atom by = each (cut_row sums atom) (inside sums atom few) ∙ sym (is atom)

-- the table of a sum of the cut
pub variable_over : (t : ProductsView) (sums : List FormView) (words : List ℕ) (k : ℕ) (f : FormView) → length sums ≤ 12 → k < length sums
    → ((row : ℕ) → row < 4096 → table_bit words row ≡ is_in row k) → f ≡ get_or sums k no_form → IsOverCut t sums words f
variable_over t sums words k f few low each is atom by =
    each (cut_row sums atom) (inside sums atom few)
    ∙ row_bit (map (form_value atom) sums) k
    ∙ get_or-map (form_value atom) sums k no_form false low
    ∙ ap (form_value atom) (sym is)

pub constant_one : (sums : List FormView) (f : Function) → length sums ≤ 12 → ((row : ℕ) → row < 4096 → table_bit f.table.words row ≡ true)
    → IsConstant true f.form → IsFunction sums f
constant_one sums f few each is t = constant_over t sums f.table.words f.form true few each is

pub nothing_over : (cut : Cut) (f : Function) → ((row : ℕ) → row < 4096 → table_bit f.table.words row ≡ false) → IsConstant false f.form → IsOver cut f
nothing_over cut f each is t are = constant_over t cut.sums.items f.table.words f.form false are.few each is

pub variable_function : (sums : List FormView) (k : ℕ) (f : Function) → length sums ≤ 12 → k < length sums
    → ((row : ℕ) → row < 4096 → table_bit f.table.words row ≡ is_in row k) → f.form ≡ get_or sums k no_form → IsFunction sums f
variable_function sums k f few low each is t = variable_over t sums f.table.words k f.form few low each is

pub function_over : (t : ProductsView) (cut : Cut) (k : ℕ) (f : Function) → k < length cut.functions.items → f ≡ get_or cut.functions.items k f
    → AreOverCut t cut → IsOverCut t cut.sums.items f.table.words f.form
function_over t cut k f low is are =
    let P : Function → Type 0 = λ f. IsOverCut t cut.sums.items f.table.words f.form in
    rw is (AllByRecursion-at P cut.functions.items k f are.each low)

pub sum_over : (cut : Cut) (f g h : Function) (k : ℕ) → k < length cut.functions.items → g ≡ get_or cut.functions.items k g
    → IsSum f.form g.form h.form
    → ((row : ℕ) → row < 4096 → table_bit h.table.words row ≡ xor (table_bit f.table.words row) (table_bit g.table.words row))
    → IsOver cut f → IsOver cut h
sum_over cut f g h k low is form table one t are atom by =
    let other : IsOverCut t cut.sums.items g.table.words g.form = function_over t cut k g low is are in
    table (cut_row cut.sums.items atom) (inside cut.sums.items atom are.few)
    ∙ ap₂ xor (one t are atom by) (other atom by)
    ∙ sym (form atom)

-- ---- functions taken in

abbrev pub AreFunctions : List FormView → List Function → Type 0
AreFunctions sums fs = (t : ProductsView) → AllByRecursion (λ (f : Function). IsOverCut t sums f.table.words f.form) fs

pub taken_in : (sums : List FormView) (old now : List Function) (f : Function) → now ≡ old ++ f ∷ [] → IsFunction sums f → AreFunctions sums old
    → AreFunctions sums now
taken_in sums old now f is over are t =
    let P : Function → Type 0 = λ f. IsOverCut t sums f.table.words f.form in
    subst (AllByRecursion P) (sym is) (AllByRecursion-push P old f (are t) (over t))

pub first_in : (sums : List FormView) (none now : List Function) (f : Function) → none ≡ [] → now ≡ none ++ f ∷ [] → IsFunction sums f
    → AreFunctions sums now
first_in sums none now f empty is over =
    let so : now ≡ [] ++ f ∷ [] = is ∙ ap (λ (fs : List Function). fs ++ f ∷ []) empty in
    taken_in sums [] now f so over (λ t. tt)

-- ---- what follows

-- a product that has the table of a sum
pub product_decided : (t : ProductsView) (sums : List FormView) (words : List ℕ) (f g p : FormView) → IsProductOverCut t sums words f g
    → IsOverCut t sums words p → IsProduct t f g p
product_decided t sums words f g p one other atom by = sym (other atom by) ∙ one atom by

pub times_over : (t : ProductsView) (sums : List FormView) (a b words : List ℕ) (f g : FormView) → length sums ≤ 12
    → ((row : ℕ) → row < 4096 → table_bit words row ≡ (table_bit a row && table_bit b row)) → IsOverCut t sums a f → IsOverCut t sums b g
    → IsProductOverCut t sums words f g
times_over t sums a b words f g few each one other atom by =
    each (cut_row sums atom) (inside sums atom few) ∙ ap₂ (λ x y. x && y) (one atom by) (other atom by)

-- a sum whose table is 0
pub zero_decided : (t : ProductsView) (sums : List FormView) (words : List ℕ) (f : FormView) → length sums ≤ 12
    → ((row : ℕ) → row < 4096 → table_bit words row ≡ false) → IsOverCut t sums words f → IsZero t f
zero_decided t sums words f few each is atom by = sym (is atom by) ∙ each (cut_row sums atom) (inside sums atom few)

pub zeros_decided : (cut : Cut) (words : List ℕ) (found : Option FormView) → ((row : ℕ) → row < 4096 → table_bit words row ≡ false)
    → IfSome found (λ f. (t : ProductsView) → AreOverCut t cut → IsOverCut t cut.sums.items words f)
    → IfSome found (λ f. (t : ProductsView) → AreOverCut t cut → IsZero t f)
zeros_decided cut words None each is = tt
zeros_decided cut words (Some f) each is = λ t are. zero_decided t cut.sums.items words f are.few each (is t are)

-- a product taken in
pub joined : (t : ProductsView) (old now : Cut) (words : List ℕ) (f g p : FormView) (taken : Function) → now.sums.items ≡ old.sums.items
    → now.functions.items ≡ old.functions.items ++ taken ∷ [] → taken.table.words ≡ words → taken.form ≡ p
    → IsProductOverCut t old.sums.items words f g → IsProduct t f g p → AreOverCut t old → AreOverCut t now
joined t old now words f g p taken same items table form over is are =
    let P : List FormView → Function → Type 0 = λ sums f. IsOverCut t sums f.table.words f.form in
    let here : IsOverCut t old.sums.items words p = λ atom by. over atom by ∙ sym (is atom by) in
    let own : P old.sums.items taken = rw (table, form) here in
    record {
      few = rw same are.few;
      each = rw (same, items) (AllByRecursion-push (P old.sums.items) old.functions.items taken are.each own);
    }

-- ---- as the table of products grows

pub over_later : (old now : ProductsView) (sums : List FormView) (words : List ℕ) (f : FormView) → Extends old now → IsOverCut old sums words f
    → IsOverCut now sums words f
over_later old now sums words f more is atom by = is atom (respects_before old now atom more by)

pub cut_later : (old now : ProductsView) (cut : Cut) → Extends old now → AreOverCut old cut → AreOverCut now cut
cut_later old now cut more are = record {
  few = are.few;
  each = AllByRecursion-weaker (λ (f : Function). IsOverCut old cut.sums.items f.table.words f.form)
      (λ (f : Function). IsOverCut now cut.sums.items f.table.words f.form) (λ f. over_later old now cut.sums.items f.table.words f.form more)
      cut.functions.items are.each;
}

pub zero_later : (old now : ProductsView) (f : FormView) → Extends old now → IsZero old f → IsZero now f
zero_later old now f more is atom by = is atom (respects_before old now atom more by)

-- ---- equal sums

pub same_sums : (t : ProductsView) (f : FormView) → AreEqualSums t f f
same_sums t f atom by = refl

pub with_zero : (t : ProductsView) (f g zero sum : FormView) → IsZero t zero → IsSum g zero sum → AreEqualSums t f g → AreEqualSums t f sum
with_zero t f g zero sum none is same atom by =
    same atom by ∙ sym (xor_nothing (form_value atom g)) ∙ ap (xor (form_value atom g)) (sym (none atom by)) ∙ sym (is atom)

apart : (x y : Bool) → false ≡ xor x y → x ≡ y
unfolding mathlib.Core.Bool.xor
apart true true same = refl
apart false false same = refl
apart true false same = sym same
apart false true same = same

pub equal_where_zero : (t : ProductsView) (f g sum : FormView) → IsSum f g sum → IsZero t sum → AreEqualSums t f g
equal_where_zero t f g sum is none atom by = apart (form_value atom f) (form_value atom g) (sym (none atom by) ∙ is atom)

pub equal_through : (t : ProductsView) (f g now then_ : FormView) → AreEqualSums t f now → AreEqualSums t g then_ → AreEqualSums t now then_
    → AreEqualSums t f g
equal_through t f g now then_ one other same atom by = one atom by ∙ same atom by ∙ sym (other atom by)

pub product_of_equals : (t : ProductsView) (f g now other p : FormView) → AreEqualSums t f now → AreEqualSums t g other → IsProduct t now other p
    → IsProduct t f g p
product_of_equals t f g now other p one two is atom by =
    is atom by ∙ ap₂ (λ x y. x && y) (sym (one atom by)) (sym (two atom by))

pub determined_equal : (t : ProductsView) (f now : FormView) → AreEqualSums t f now → IsDetermined t f → IsDetermined t now
determined_equal t f now same is u v by also agree = sym (same u by) ∙ is u v by also agree ∙ same v also

pub equal_later : (old now : ProductsView) (f g : FormView) → Extends old now → AreEqualSums old f g → AreEqualSums now f g
equal_later old now f g more same atom by = same atom (respects_before old now atom more by)
