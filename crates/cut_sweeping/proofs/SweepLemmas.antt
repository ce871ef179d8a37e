-- Regions and sums that are 0, as they are taken in and out and as the table of products grows.
use Rattle.std.proofs.Common.{◌≡◌, ℕ, ◌<◌, Bool, true, false, not, List, [], ◌∷◌, ◌++◌, get_or, length, IfOk, IfSome, Option, None, Some, Result, Ok, Err, refl, sym, subst, ap, ◌∙◌}
use Rattle.std.specs.List.{AllByRecursion, swap_remove}
use Rattle.std.proofs.lemmas.List.Sorted.{IsPermutation-swap_remove}
use Rattle.std.specs.Bool.{xor}
use Rattle.list_facts.proofs.BitLemmas.{xor_same}
use Rattle.list_facts.proofs.AllLemmas.{AllByRecursion-at, AllByRecursion-permutation, AllByRecursion-push, AllByRecursion-weaker}
use Rattle.linear_forms.specs.Forms.{FormView, IsConstant, IsSum, form_value}
use Rattle.product_sums.specs.Products.{Extends, IsDetermined, IsProduct, ProductsView}
use Rattle.product_sums.proofs.TableLemmas.{determined_later, determined_product}
use Rattle.sum_cuts.specs.declared.cut.Cut.{Cut}
use Rattle.sum_cuts.specs.Cuts.{AreEqualSums, AreOverCut, IsOverCut, IsProductOverCut, IsZero}
use Rattle.sum_cuts.proofs.CutLemmas.{cut_later, equal_later, equal_through, equal_where_zero, product_decided, product_of_equals, zero_later}
use Rattle.cut_sweeping.specs.declared.cuts.Cuts.{Cuts}
use Rattle.cut_sweeping.specs.declared.regions.Region.{Region}
use Rattle.cut_sweeping.specs.declared.zeros.Zeros.{Zeros}
use Rattle.cut_sweeping.specs.inside.Cuts.{HoldsCuts}
use Rattle.cut_sweeping.specs.inside.Regions.{AreRegions, TakesRegion}
use Rattle.cut_sweeping.specs.inside.Zeros.{AreZeros}

-- ---- regions

pub none_taken : (t : ProductsView) (rs : List Region) → AreRegions t rs → TakesRegion t rs None
none_taken t rs are = record { left = are; taken = tt }

pub one_taken : (t : ProductsView) (old now : List Region) (i : ℕ) (r : Region) → i < length old → r ≡ get_or old i r → now ≡ swap_remove old i r
    → AreRegions t old → TakesRegion t now (Some r)
one_taken t old now i r low is left are =
    let P : Region → Type 0 = λ r. AreOverCut t r.cut in
    let all : AllByRecursion P (r ∷ swap_remove old i r) =
    AllByRecursion-permutation P old (r ∷ swap_remove old i r) (IsPermutation-swap_remove old i r low is) are in
    record { left = subst (AreRegions t) (sym left) all.1; taken = all.0 }

pub begun_for : {E : Type 0} (t : ProductsView) (r : Result (Option Region) E)
    → IfOk r (λ found. IfSome found (λ region. (t : ProductsView) → AreOverCut t region.cut))
    → IfOk r (λ found. IfSome found (λ region. AreOverCut t region.cut))
begun_for t (Ok (Some region)) are = are t
begun_for t (Ok None) are = tt
begun_for t (Err e) are = tt

pub region_kept : (t : ProductsView) (old now : List Region) (r : Region) → now ≡ old ++ r ∷ [] → AreOverCut t r.cut → AreRegions t old → AreRegions t now
region_kept t old now r is over are =
    subst (AreRegions t) (sym is) (AllByRecursion-push (λ (r : Region). AreOverCut t r.cut) old r are over)

-- ---- sums that are 0

pub zero_taken : (t : ProductsView) (old now : Zeros) (f : FormView) → now.forms.items ≡ old.forms.items ++ f ∷ [] → IsZero t f → AreZeros t old
    → AreZeros t now
zero_taken t old now f is zero are = record {
  each = subst (AllByRecursion (IsZero t)) (sym is) (AllByRecursion-push (IsZero t) old.forms.items f are.each zero);
}

pub same_zeros : (t : ProductsView) (old now : Zeros) → now.forms.items ≡ old.forms.items → AreZeros t old → AreZeros t now
same_zeros t old now is are = record { each = subst (AllByRecursion (IsZero t)) (sym is) are.each }

-- ---- as the table of products grows

pub cuts_later : (old now : ProductsView) (cuts : Cuts) → Extends old now → HoldsCuts old cuts → HoldsCuts now cuts
cuts_later old now cuts more holds = record {
  regions = AllByRecursion-weaker (λ (r : Region). AreOverCut old r.cut) (λ (r : Region). AreOverCut now r.cut)
      (λ r. cut_later old now r.cut more) cuts.regions.items holds.regions;
  zeros = record {
    each = AllByRecursion-weaker (IsZero old) (IsZero now) (λ f. zero_later old now f more) cuts.zeros.forms.items holds.zeros.each;
  };
}

-- ---- functions

-- a product that is the sum of functions, if any
pub product_found : (cut : Cut) (words : List ℕ) (f g : FormView) (found : Option FormView)
    → ((t : ProductsView) → AreOverCut t cut → IsProductOverCut t cut.sums.items words f g)
    → IfSome found (λ p. (t : ProductsView) → AreOverCut t cut → IsOverCut t cut.sums.items words p)
    → IfSome found (λ p. (t : ProductsView) → AreOverCut t cut → IsProduct t f g p)
product_found cut words f g None one other = tt
product_found cut words f g (Some p) one other = λ t are. product_decided t cut.sums.items words f g p (one t are) (other t are)

-- ---- equal sums

pub zero_at : (t : ProductsView) (zeros : Zeros) (i : ℕ) (f : FormView) → i < length zeros.forms.items → f ≡ get_or zeros.forms.items i f → AreZeros t zeros
    → IsZero t f
zero_at t zeros i f low is are = subst (IsZero t) (sym is) (AllByRecursion-at (IsZero t) zeros.forms.items i f are.each low)

pub zero_equal : (t : ProductsView) (f g : FormView) → IsZero t f → AreEqualSums t f g → IsZero t g
zero_equal t f g none same atom by = sym (same atom by) ∙ none atom by

-- what is added to a sum to make an equal one
pub added_zero : (t : ProductsView) (f begun normal zero : FormView) → AreEqualSums t f begun → AreEqualSums t begun normal → IsSum normal f zero
    → IsZero t zero
added_zero t f begun normal zero one two is atom by =
    is atom ∙ ap (λ (v : Bool). xor v (form_value atom f)) (sym (one atom by ∙ two atom by)) ∙ xor_same (form_value atom f)

-- the same of an answer
pub zero_normal : {E : Type 0} (cut : Cut) (zeros : Zeros) (f : FormView) (r : Result FormView E)
    → ((t : ProductsView) → AreOverCut t cut → IsZero t f) → IfOk r (λ g. (t : ProductsView) → AreZeros t zeros → AreEqualSums t f g)
    → IfOk r (λ g. (t : ProductsView) → AreOverCut t cut → AreZeros t zeros → IsZero t g)
zero_normal cut zeros f (Ok g) none same = λ t over are. zero_equal t f g (none t over) (same t are)
zero_normal cut zeros f (Err e) none same = tt

-- ---- cuts and tables

pub holds_same : (old now : ProductsView) (cuts : Cuts) → now ≡ old → HoldsCuts old cuts → HoldsCuts now cuts
holds_same old now cuts same holds = subst (λ (t : ProductsView). HoldsCuts t cuts) (sym same) holds

pub holds_parts : (t : ProductsView) (cuts other : Cuts) → other.regions.items ≡ cuts.regions.items → other.zeros ≡ cuts.zeros → HoldsCuts t cuts
    → HoldsCuts t other
holds_parts t cuts other regions zeros holds = record {
  regions = subst (AreRegions t) (sym regions) holds.regions;
  zeros = subst (AreZeros t) (sym zeros) holds.zeros;
}

pub holds_with : (t : ProductsView) (cuts other : Cuts) → AreRegions t other.regions.items → other.zeros ≡ cuts.zeros → HoldsCuts t cuts
    → HoldsCuts t other
holds_with t cuts other regions zeros holds = record { regions = regions; zeros = subst (AreZeros t) (sym zeros) holds.zeros }

-- ---- answers about equal sums

pub told : {E : Type 0} (old now : ProductsView) (f g own other : FormView) (r : Result FormView E) → Extends old now → AreEqualSums old f own
    → AreEqualSums old g other → IfOk r (IsProduct now own other) → IfOk r (IsProduct now f g)
told old now f g own other (Ok p) more one two is =
    product_of_equals now f g own other p (equal_later old now f own more one) (equal_later old now g other more two) is
told old now f g own other (Err e) more one two is = tt

pub told_determined : {E : Type 0} (old now : ProductsView) (f g : FormView) (r : Result FormView E) → Extends old now → IsDetermined old f
    → IsDetermined old g → IfOk r (IsProduct now f g) → IfOk r (IsDetermined now)
told_determined old now f g (Ok p) more one two is =
    determined_product now f g p is (determined_later old now f more one) (determined_later old now g more two)
told_determined old now f g (Err e) more one two is = tt

pub equal_if_zero : (t : ProductsView) (f g own other sum : FormView) → AreEqualSums t f own → AreEqualSums t g other → IsSum own other sum
    → IsZero t sum → AreEqualSums t f g
equal_if_zero t f g own other sum one two is none = equal_through t f g own other one two (equal_where_zero t own other sum is none)

not_one : (one : Bool) → not one ≡ true → one ≡ false
not_one true is = sym is
not_one false is = refl

pub equal_if_none : (t : ProductsView) (f g own other sum : FormView) (one : Bool) → AreEqualSums t f own → AreEqualSums t g other → IsSum own other sum
    → IsConstant one sum → not one ≡ true → AreEqualSums t f g
equal_if_none t f g own other sum one first second is constant none =
    equal_if_zero t f g own other sum first second is (λ atom by. constant atom ∙ not_one one none)
