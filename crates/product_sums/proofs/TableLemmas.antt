-- Tables of products as they grow, and what their atoms determine.
use Rattle.std.proofs.Common.{◌≡◌, ℕ, ◌+◌, ◌<◌, ◌&&◌, Bool, List, [], ◌∷◌, ◌++◌, length, cond, append-nil, length-append, refl, sym, ap, subst, ◌∙◌, arith}
use Rattle.std.proofs.Math.Dec.{eqb}
use Rattle.std.proofs.lemmas.Bool.{eq-eqb, ne_eqb}
use Rattle.std.specs.Bool.{xor}
use Rattle.std.proofs.lemmas.List.{append_assoc}
use Rattle.list_facts.specs.Lists.{AllFrom}
use Rattle.list_facts.proofs.AllLemmas.{AllFrom-push}
use Rattle.linear_forms.specs.Forms.{FormView, IsAtom, IsConstant, IsSum, form_value}
use Rattle.product_sums.specs.Products.{AgreeBelow, Extends, HasValuations, IsDetermined, IsProduct}
use Rattle.product_sums.specs.Products.{ProductView, ProductsView, Respects, atom_count, product_value}
use Rattle.product_sums.specs.inside.Tables.{IsLocal}

-- ---- growth

pub extends_same : (t : ProductsView) → Extends t t
extends_same t = record { given = refl; more = []; made = sym (append-nil t.made) }

pub extends_equal : (old now : ProductsView) → now ≡ old → Extends old now
extends_equal old now same = subst (λ (t : ProductsView). Extends t now) same (extends_same now)

pub extends_further : (a b c : ProductsView) → Extends a b → Extends b c → Extends a c
extends_further a b c one two = record {
  given = two.given ∙ one.given;
  more = one.more ++ two.more;
  made = two.made ∙ ap (λ ps. ps ++ two.more) one.made ∙ append_assoc a.made one.more two.more;
}

all_front : {X : Type 0} (P : ℕ → X → Type 0) (k : ℕ) (xs ys : List X) → AllFrom P k (xs ++ ys) → AllFrom P k xs
all_front P k [] ys all = tt
all_front P k (x ∷ xs) ys all = (all.0, all_front P (k + 1) xs ys all.1)

-- what respects a table respects it as it was
pub respects_before : (old now : ProductsView) (atom : ℕ → Bool) → Extends old now → Respects now atom → Respects old atom
respects_before old now atom more is =
    let holds : ℕ → ProductView → Type 0 = λ number p. atom number ≡ product_value atom p in
    all_front holds old.given old.made more.more
    (subst (λ (ps : List ProductView). AllFrom holds old.given ps) more.made (subst (λ (k : ℕ). AllFrom holds k now.made) more.given is))

pub product_later : (old now : ProductsView) (f g p : FormView) → Extends old now → IsProduct old f g p → IsProduct now f g p
product_later old now f g p more is atom by = is atom (respects_before old now atom more by)

pub determined_later : (old now : ProductsView) (f : FormView) → Extends old now → IsDetermined old f → IsDetermined now f
determined_later old now f more is u v by also same =
    is u v (respects_before old now u more by) (respects_before old now v more also)
    (subst (λ (k : ℕ). AgreeBelow k u v) more.given same)

-- ---- what is determined

pub determined_constant : (t : ProductsView) (one : Bool) (f : FormView) → IsConstant one f → IsDetermined t f
determined_constant t one f is u v by also same = is u ∙ sym (is v)

-- an atom that stands for no product
pub determined_atom : (t : ProductsView) (number : ℕ) (f : FormView) → number < t.given → IsAtom number f → IsDetermined t f
determined_atom t number f low is u v by also same = is u ∙ same number low ∙ sym (is v)

pub determined_turned : (t : ProductsView) (one : Bool) (f now : FormView) → ((atom : ℕ → Bool) → form_value atom now ≡ xor one (form_value atom f))
    → IsDetermined t f → IsDetermined t now
determined_turned t one f now is known u v by also same = is u ∙ ap (xor one) (known u v by also same) ∙ sym (is v)

pub determined_sum : (t : ProductsView) (f g sum : FormView) → IsSum f g sum → IsDetermined t f → IsDetermined t g → IsDetermined t sum
determined_sum t f g sum is one other u v by also same =
    is u ∙ ap (xor (form_value u f)) (other u v by also same)
    ∙ ap (λ b. xor b (form_value v g)) (one u v by also same) ∙ sym (is v)

pub determined_product : (t : ProductsView) (f g p : FormView) → IsProduct t f g p → IsDetermined t f → IsDetermined t g → IsDetermined t p
determined_product t f g p is one other u v by also same =
    is u by ∙ ap (λ b. form_value u f && b) (other u v by also same)
    ∙ ap (λ b. b && form_value v g) (one u v by also same) ∙ sym (is v also)

pub product_same : (t : ProductsView) (u v : ℕ → Bool) (p : ProductView) → Respects t u → Respects t v → AgreeBelow t.given u v
    → IsDetermined t p.first → IsDetermined t p.second → product_value u p ≡ product_value v p
product_same t u v p by also same one other =
    ap (λ b. form_value u p.first && b) (other u v by also same) ∙ ap (λ b. b && form_value v p.second) (one u v by also same)

-- ---- one more atom

abbrev pub more : ProductsView → ProductView → ProductsView
more t p = record { given = t.given; made = t.made ++ p ∷ [] }

pub extends_more : (t : ProductsView) (p : ProductView) → Extends t (more t p)
extends_more t p = record { given = refl; more = p ∷ []; made = refl }

pub count_more : (t : ProductsView) (p : ProductView) → atom_count (more t p) ≡ atom_count t + 1
count_more t p = omega (arith, length-append t.made (p ∷ []))

all_last : {X : Type 0} (P : ℕ → X → Type 0) (k : ℕ) (xs : List X) (x : X) → AllFrom P k (xs ++ x ∷ []) → P (k + length xs) x
all_last P k [] x all = subst (λ (n : ℕ). P n x) (omega arith) all.0
all_last P k (y ∷ ys) x all = subst (λ (n : ℕ). P n x) (omega arith) (all_last P (k + 1) ys x all.1)

respects_more : (t : ProductsView) (p : ProductView) (atom : ℕ → Bool) → Respects t atom → atom (atom_count t) ≡ product_value atom p
    → Respects (more t p) atom
respects_more t p atom by is = AllFrom-push (λ number p. atom number ≡ product_value atom p) t.given t.made p by is

pub newest : (t : ProductsView) (p : ProductView) (atom : ℕ → Bool) → Respects (more t p) atom → atom (atom_count t) ≡ product_value atom p
newest t p atom by = all_last (λ number p. atom number ≡ product_value atom p) t.given t.made p by

-- the valuation with another value of one atom
abbrev put : (ℕ → Bool) → ℕ → Bool → ℕ → Bool
put atom n value a = cond (eqb a n) value (atom a)

put_here : (atom : ℕ → Bool) (n : ℕ) (value : Bool) → put atom n value n ≡ value
put_here atom n value = ap (λ t. cond t value (atom n)) (eq-eqb n n refl)

put_below : (atom : ℕ → Bool) (n a : ℕ) (value : Bool) → a < n → put atom n value a ≡ atom a
put_below atom n a value low = ap (λ t. cond t value (atom a)) (ne_eqb a n (λ same. omega (arith, low, same)))

pub valuations_more : (t : ProductsView) (p : ProductView) → HasValuations t → IsLocal t → IsDetermined t p.first → IsDetermined t p.second
    → HasValuations (more t p)
valuations_more t p has near one other base =
    let n : ℕ = atom_count t in
    let old : ℕ → Bool = (has base).0 in
    let now : ℕ → Bool = put old n (product_value old p) in
    let kept : AgreeBelow n old now = λ a low. sym (put_below old n a (product_value old p) low) in
    let also : Respects t now = near old now kept (has base).1 in
    let given : AgreeBelow t.given old now = λ a low. kept a (omega (arith, low)) in (
      now,
      respects_more t p now also (put_here old n (product_value old p) ∙ product_same t old now p (has base).1 also given one other),
      λ a low. (has base).2 a low ∙ given a low,
    )

pub local_more : (t : ProductsView) (p : ProductView) → IsLocal t → IsDetermined t p.first → IsDetermined t p.second → IsLocal (more t p)
local_more t p near one other u v same by =
    let before : Respects t u = respects_before t (more t p) u (extends_more t p) by in
    let agree : AgreeBelow (atom_count t) u v = λ a low. same a (omega (arith, low, count_more t p)) in
    let also : Respects t v = near u v agree before in
    let given : AgreeBelow t.given u v = λ a low. agree a (omega (arith, low)) in
    respects_more t p v also
    (sym (same (atom_count t) (omega (arith, count_more t p))) ∙ newest t p u by ∙ product_same t u v p before also given one other)
