-- The records of a table.
use Rattle.std.proofs.Common.{◌≡◌, ℕ, ◌+◌, ◌&&◌, Bool, true, false, List, [], ◌∷◌, ◌++◌, cond, refl, sym, ap, subst, ◌∙◌, arith, inl, inr}
use Rattle.std.proofs.Common.{get_or, length, IfOk, IfSome, Option, Some, None, Result, Ok, Err}
use Rattle.std.proofs.Math.Dec.{ltb}
use Rattle.std.proofs.lemmas.Bool.{ltb-true, true≢false}
use Rattle.list_facts.proofs.AllLemmas.{AllByRecursion-at, AllByRecursion-push}
use Rattle.linear_forms.specs.declared.form.Term.{Term}
use Rattle.linear_forms.specs.Forms.{FormView, IsAtom, IsConstant, form_value}
use Rattle.product_sums.specs.declared.known.Known.{Known}
use Rattle.product_sums.specs.Products.{Extends, HasValuations, IsDetermined, IsProduct, ProductView, ProductsView, Respects, atom_count}
use Rattle.product_sums.specs.inside.Deriving.{Follows}
use Rattle.product_sums.specs.inside.Tables.{AreTrue, HasFactors, IsLocal, IsTable, IsTrueOf, made_of, view_of}
use Rattle.product_sums.proofs.TableLemmas.{count_more, extends_more, local_more, more, newest, respects_before, valuations_more}

abbrev pub product_of : Known → ProductView
product_of k = record { first = k.first; second = k.second }

-- ---- a table begins

pub begun : (given : ℕ) → IsTable given [] given
begun given = record {
  count = omega arith;
  valuations = λ base. (base, tt, λ a low. refl);
  local = λ u v same by. tt;
  true_of = λ atom by. tt;
}

-- ---- one more record

made-kept : (ks : List Known) (k : Known) → k.made ≡ false → made_of (ks ++ k ∷ []) ≡ made_of ks
made-kept [] k none = ap (λ t. cond t (product_of k ∷ []) []) none
made-kept (j ∷ js) k none = ap (λ ps. cond j.made (product_of j ∷ ps) ps) (made-kept js k none)

made_joined : (t : Bool) (p : ProductView) (ps qs : List ProductView) → cond t (p ∷ (ps ++ qs)) (ps ++ qs) ≡ cond t (p ∷ ps) ps ++ qs
made_joined true p ps qs = refl
made_joined false p ps qs = refl

made-more : (ks : List Known) (k : Known) → k.made ≡ true → made_of (ks ++ k ∷ []) ≡ made_of ks ++ product_of k ∷ []
made-more [] k one = ap (λ t. cond t (product_of k ∷ []) []) one
made-more (j ∷ js) k one =
    ap (λ ps. cond j.made (product_of j ∷ ps) ps) (made-more js k one) ∙ made_joined j.made (product_of j) (made_of js) (product_of k ∷ [])

-- a sum of known products
pub kept_view : (given : ℕ) (ks : List Known) (k : Known) → k.made ≡ false → view_of given (ks ++ k ∷ []) ≡ view_of given ks
kept_view given ks k none = ap (λ ps. record { given = given; made = ps }) (made-kept ks k none)

pub kept_table : (given n : ℕ) (ks : List Known) (k : Known) → k.made ≡ false → IsProduct (view_of given ks) k.first k.second k.value
    → IsTable given ks n → IsTable given (ks ++ k ∷ []) n
kept_table given n ks k none is table =
    let same = sym (kept_view given ks k none) in
    record {
      count = table.count ∙ ap atom_count same;
      valuations = subst HasValuations same table.valuations;
      local = subst IsLocal same table.local;
      true_of = λ atom by.
          let before = subst (λ (t : ProductsView). Respects t atom) (kept_view given ks k none) by in
          AllByRecursion-push (IsTrueOf atom) ks k (table.true_of atom before) (is atom before);
    }

-- an atom of its own
pub made_view : (given : ℕ) (ks : List Known) (k : Known) → k.made ≡ true → view_of given (ks ++ k ∷ []) ≡ more (view_of given ks) (product_of k)
made_view given ks k one = ap (λ ps. record { given = given; made = ps }) (made-more ks k one)

pub made_extends : (given : ℕ) (ks : List Known) (k : Known) → k.made ≡ true → Extends (view_of given ks) (view_of given (ks ++ k ∷ []))
made_extends given ks k one =
    subst (λ (t : ProductsView). Extends (view_of given ks) t) (sym (made_view given ks k one)) (extends_more (view_of given ks) (product_of k))

pub made_product : (given n : ℕ) (ks : List Known) (k : Known) → k.made ≡ true → IsTable given ks n → IsAtom n k.value
    → IsProduct (view_of given (ks ++ k ∷ [])) k.first k.second k.value
made_product given n ks k one table is atom by =
    let t : ProductsView = view_of given ks in
    is atom ∙ ap atom table.count
    ∙ newest t (product_of k) atom (subst (λ (t : ProductsView). Respects t atom) (made_view given ks k one) by)

pub made_table : (given n : ℕ) (ks : List Known) (k : Known) → k.made ≡ true → IsDetermined (view_of given ks) k.first
    → IsDetermined (view_of given ks) k.second → IsTable given ks n → IsAtom n k.value → IsTable given (ks ++ k ∷ []) (n + 1)
made_table given n ks k one first second table is =
    let t : ProductsView = view_of given ks in
    let p : ProductView = product_of k in
    let same = sym (made_view given ks k one) in
    record {
      count = ap (λ m. m + 1) table.count ∙ sym (count_more t p) ∙ ap atom_count same;
      valuations = subst HasValuations same (valuations_more t p table.valuations table.local first second);
      local = subst IsLocal same (local_more t p table.local first second);
      true_of = λ atom by.
          AllByRecursion-push (IsTrueOf atom) ks k
          (table.true_of atom (respects_before t (view_of given (ks ++ k ∷ [])) atom (made_extends given ks k one) by))
          (made_product given n ks k one table is atom by);
    }

-- ---- one record

-- a record that was pushed: a sum of known products
pub record IsKept (given n : ℕ) (t : ProductsView) (now : List Known) : Type 0 where
  pub table : IsTable given now n
  pub same : view_of given now ≡ t

pub pushed_sum : (given n : ℕ) (t : ProductsView) (ks now : List Known) (k : Known) (f g v : FormView) → view_of given ks ≡ t
    → now ≡ ks ++ k ∷ [] → k ≡ record { first = f; second = g; value = v; made = false } → IsProduct t f g v → IsTable given ks n
    → IsKept given n t now
pushed_sum given n t ks now k f g v view items fields is table =
    let none : k.made ≡ false = ap (λ (k : Known). k.made) fields in
    let product = subst (λ (t : ProductsView). IsProduct t f g v) (sym view) is in
    let own : IsProduct (view_of given ks) k.first k.second k.value =
    subst (λ (k : Known). IsProduct (view_of given ks) k.first k.second k.value) (sym fields) product in
    record {
      table = subst (λ (ks : List Known). IsTable given ks n) (sym items) (kept_table given n ks k none own table);
      same = ap (view_of given) items ∙ kept_view given ks k none ∙ view;
    }

-- an atom of its own
pub record IsMade (given n : ℕ) (t : ProductsView) (now : List Known) (f g v : FormView) : Type 0 where
  pub table : IsTable given now (n + 1)
  pub extends : Extends t (view_of given now)
  pub product : IsProduct (view_of given now) f g v

pub pushed_made : (given n : ℕ) (t : ProductsView) (ks now : List Known) (k : Known) (f g v : FormView) → view_of given ks ≡ t
    → now ≡ ks ++ k ∷ [] → k ≡ record { first = f; second = g; value = v; made = true } → IsAtom n v → IsDetermined t f → IsDetermined t g
    → IsTable given ks n → IsMade given n t now f g v
pushed_made given n t ks now k f g v view items fields is one other table =
    let own : k.made ≡ true = ap (λ (k : Known). k.made) fields in
    let atom : IsAtom n k.value = subst (λ (k : Known). IsAtom n k.value) (sym fields) is in
    let first : IsDetermined (view_of given ks) k.first =
    subst (λ (k : Known). IsDetermined (view_of given ks) k.first) (sym fields) (subst (λ (t : ProductsView). IsDetermined t f) (sym view) one) in
    let second : IsDetermined (view_of given ks) k.second =
    subst (λ (k : Known). IsDetermined (view_of given ks) k.second) (sym fields) (subst (λ (t : ProductsView). IsDetermined t g) (sym view) other) in
    let product : IsProduct (view_of given (ks ++ k ∷ [])) f g v =
    subst (λ (r : Known). IsProduct (view_of given (ks ++ k ∷ [])) r.first r.second r.value) fields (made_product given n ks k own table atom) in
    record {
      table = subst (λ (ks : List Known). IsTable given ks (n + 1)) (sym items) (made_table given n ks k own first second table atom);
      extends = subst (λ (t : ProductsView). Extends t (view_of given now)) view
          (subst (λ (js : List Known). Extends (view_of given ks) (view_of given js)) (sym items) (made_extends given ks k own));
      product = subst (λ (ks : List Known). IsProduct (view_of given ks) f g v) (sym items) product;
    }

-- what is read at a place of a list
pub true_at : (atom : ℕ → Bool) (ks : List Known) (i : ℕ) (k : Known) → AreTrue ks atom → true ≡ ltb i (length ks) → k ≡ get_or ks i k
    → IsTrueOf atom k
true_at atom ks i k all low is =
    let less = ltb-true i (length ks) (sym low) in
    subst (IsTrueOf atom) (sym is) (AllByRecursion-at (IsTrueOf atom) ks i k all (omega (arith, less)))

and_swap : (a b : Bool) → (a && b) ≡ (b && a)
and_swap true true = refl
and_swap true false = refl
and_swap false true = refl
and_swap false false = refl

-- the value of a known product of these factors
pub value_is : (k : Known) (f g : FormView) (atom : ℕ → Bool) → HasFactors k f g → IsTrueOf atom k
    → form_value atom k.value ≡ (form_value atom f && form_value atom g)
value_is k f g atom (inl same) is =
    is ∙ ap (λ h. form_value atom h && form_value atom k.second) same.0 ∙ ap (λ h. form_value atom f && form_value atom h) same.1
value_is k f g atom (inr same) is =
    is ∙ ap (λ h. form_value atom h && form_value atom k.second) same.0 ∙ ap (λ h. form_value atom g && form_value atom h) same.1
    ∙ and_swap (form_value atom g) (form_value atom f)

pub same_form : (f g : FormView) → f.one ≡ g.one → f.terms ≡ g.terms → f ≡ g
same_form f g one terms =
    ap (λ (o : Bool). record { one = o; terms = f.terms }) one ∙ ap (λ (ts : List Term). record { one = g.one; terms = ts }) terms

-- ---- what follows

pub scaled_first : (ks : List Known) (f g p : FormView) (one : Bool) → IsConstant one f → ((atom : ℕ → Bool) → form_value atom p ≡ (form_value atom g && one))
    → Follows ks f g p
scaled_first ks f g p one is made atom all =
    made atom ∙ and_swap (form_value atom g) one ∙ ap (λ b. b && form_value atom g) (sym (is atom))

pub scaled_second : (ks : List Known) (f g p : FormView) (one : Bool) → IsConstant one g → ((atom : ℕ → Bool) → form_value atom p ≡ (form_value atom f && one))
    → Follows ks f g p
scaled_second ks f g p one is made atom all = made atom ∙ ap (λ b. form_value atom f && b) (sym (is atom))

pub known_follows : (ks : List Known) (i : ℕ) (k : Known) (f g : FormView) → true ≡ ltb i (length ks) → k ≡ get_or ks i k → HasFactors k f g
    → Follows ks f g k.value
known_follows ks i k f g low is has atom all = value_is k f g atom has (true_at atom ks i k all low is)

pub product_follows : (given n : ℕ) (ks : List Known) (f g p : FormView) → IsTable given ks n → Follows ks f g p → IsProduct (view_of given ks) f g p
product_follows given n ks f g p table is atom by = is atom (table.true_of atom by)

-- the same of an answer, where there is one
found_product : {E : Type 0} (given n : ℕ) (ks : List Known) (f g : FormView) (r : Result (Option FormView) E) → IsTable given ks n
    → IfOk r (λ found. IfSome found (Follows ks f g)) → IfOk r (λ found. IfSome found (IsProduct (view_of given ks) f g))
found_product given n ks f g (Ok (Some p)) table is = product_follows given n ks f g p table is
found_product given n ks f g (Ok None) table is = tt
found_product given n ks f g (Err e) table is = tt

-- the same of the records as a slice has them
pub found_in : {E : Type 0} (given n : ℕ) (ks slice : List Known) (f g : FormView) (r : Result (Option FormView) E) → IsTable given ks n → slice ≡ ks
    → IfOk r (λ found. IfSome found (Follows slice f g)) → IfOk r (λ found. IfSome found (IsProduct (view_of given ks) f g))
found_in given n ks slice f g r table same is =
    found_product given n ks f g r table (subst (λ (known : List Known). IfOk r (λ found. IfSome found (Follows known f g))) same is)

-- ---- forms

pub beq_same : (a b : Bool) → mathlib.Core.Bool.beq a b ≡ true → a ≡ b
beq_same true true is = refl
beq_same true false is = absurd (true≢false (sym is))
beq_same false true is = absurd (true≢false (sym is))
beq_same false false is = refl

and_true : (b : Bool) → b ≡ (b && true)
and_true true = refl
and_true false = refl

and_false : (b : Bool) → false ≡ (b && false)
and_false true = refl
and_false false = refl

pub taken_once : (f g : FormView) (one : Bool) → f ≡ g → one ≡ true → (atom : ℕ → Bool) → form_value atom f ≡ (form_value atom g && one)
taken_once f g one same is atom =
    ap (form_value atom) same ∙ and_true (form_value atom g) ∙ ap (λ o. form_value atom g && o) (sym is)

pub not_taken : (f g : FormView) (one : Bool) → IsConstant false f → one ≡ false → (atom : ℕ → Bool) → form_value atom f ≡ (form_value atom g && one)
not_taken f g one none is atom = none atom ∙ and_false (form_value atom g) ∙ ap (λ o. form_value atom g && o) (sym is)
