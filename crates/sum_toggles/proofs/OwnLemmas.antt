-- The bit of a factor on whose line it is gathered: it is one of the factor, and the other lacks it.
use Rattle.std.proofs.Common.{◌≡◌, ◌≢◌, Bool, true, false, cond, ◌⊎◌, List, [], ◌∷◌, refl, sym, ap, ap₂, ◌∙◌, subst, inl, inr}
use Rattle.std.specs.Bool.{xor, ⊤}
use Rattle.std.specs.List.{AllByRecursion}
use Rattle.std.specs.declared.cmp.Ordering.TheVariants.{Less, Equal}
use Rattle.std.proofs.lemmas.Bool.{cases_Bool, true≢false}
use Rattle.std.proofs.lemmas.Cmp.{tied_itself}
use Rattle.list_facts.specs.Lists.{IsAmong}
use Rattle.list_facts.proofs.BitLemmas.{xor_left, xor_none, xor_swap}
use Rattle.dependency_graph.specs.declared.node.Base.{Base}
use Rattle.dependency_graph.specs.Folds.{is_same}
use Rattle.dependency_graph.proofs.FoldLemmas.{other_bases, same_bases, same_itself}
use Rattle.bit_sums.specs.Bits.{AreRising, HasOwn, base_cmp}
use Rattle.bit_sums.specs.Products.{IsProduct}
use Rattle.bit_sums.specs.Sums.{ProductView, xor_by}
use Rattle.bit_sums.proofs.SetLemmas.{base_total}
use Rattle.sum_toggles.specs.Toggles.{has, last_own, own_base}

-- ---- membership by the test

pub has_among : (bits : List Base) (b : Base) → has bits b ≡ true → IsAmong b bits
has_among [] b e = absurd (true≢false (sym e))
has_among (x ∷ xs) b e = elim (cases_Bool (is_same b x)) as (λ _. IsAmong b (x ∷ xs)) [
  | inl same ↦ inl (same_bases b x same)
  | inr other ↦ inr (has_among xs b (sym (rw other refl) ∙ e))
]

pub among_has : (bits : List Base) (b : Base) → IsAmong b bits → has bits b ≡ true
among_has [] b k = absurd k
among_has (x ∷ xs) b k = elim k as (λ _. has (x ∷ xs) b ≡ true) [
  | inl same ↦ rw (← same) (rw (same_itself b) refl)
  | inr later ↦ elim (cases_Bool (is_same b x)) as (λ _. has (x ∷ xs) b ≡ true) [
    | inl here ↦ rw here refl
    | inr other ↦ rw other (among_has xs b later)
  ]
]

pub lacks : (bits : List Base) (b : Base) → ¬ IsAmong b bits → has bits b ≡ false
lacks bits b none = elim (cases_Bool (has bits b)) as (λ _. has bits b ≡ false) [ inl e ↦ absurd (none (has_among bits b e)) | inr e ↦ e ]

-- ---- the own bit

-- one of the bits, which the other list lacks
pub record IsOwn (bits other : List Base) (b : Base) : Type 0 where
  pub here : IsAmong b bits
  pub not_there : ¬ IsAmong b other

further : (x : Base) (bits other : List Base) (b : Base) → IsOwn bits other b → IsOwn (x ∷ bits) other b
further x bits other b own = record { here = inr own.here; not_there = own.not_there }

-- it is what was found so far, or a later one
found : (other : List Base) (none : Base) (bits : List Base) → (last_own other none bits ≡ none) ⊎ IsOwn bits other (last_own other none bits)
found other none [] = inl refl
found other none (x ∷ xs) = elim (cases_Bool (has other x)) as
    (λ _. (last_own other none (x ∷ xs) ≡ none) ⊎ IsOwn (x ∷ xs) other (last_own other none (x ∷ xs))) [
      | inl e ↦ rw e (elim (found other none xs) as (λ _. (last_own other none xs ≡ none) ⊎ IsOwn (x ∷ xs) other (last_own other none xs)) [
        | inl same ↦ inl same
        | inr own ↦ inr (further x xs other (last_own other none xs) own)
      ])
      | inr e ↦ rw e (inr (elim (found other x xs) as (λ _. IsOwn (x ∷ xs) other (last_own other x xs)) [
        | inl same ↦ record {
          here = inl same;
          not_there = λ there. true≢false (sym (among_has other x (subst (λ b. IsAmong b other) same there)) ∙ e);
        }
        | inr own ↦ further x xs other (last_own other x xs) own
      ]))
    ]

-- where there is one, one is found
sure : (other : List Base) (none b : Base) (bits : List Base) → IsAmong b bits → ¬ IsAmong b other → IsOwn bits other (last_own other none bits)
sure other none b [] k lack = absurd k
sure other none b (x ∷ xs) k lack = elim k as (λ _. IsOwn (x ∷ xs) other (last_own other none (x ∷ xs))) [
  | inl same ↦
      let e : has other x ≡ false = rw (← same) (lacks other b lack) in
      rw e (elim (found other x xs) as (λ _. IsOwn (x ∷ xs) other (last_own other x xs)) [
        | inl is ↦ record { here = inl is; not_there = λ there. lack (subst (λ z. IsAmong z other) (is ∙ sym same) there) }
        | inr own ↦ further x xs other (last_own other x xs) own
      ])
  | inr later ↦ further x xs other (last_own other (cond (has other x) none x) xs) (sure other (cond (has other x) none x) b xs later lack)
]

pub own_is : (bits other : List Base) → HasOwn bits other → IsOwn bits other (own_base bits other)
own_is bits other has_own = sure other _ has_own.base bits has_own.here has_own.not_there

-- ---- rising bits are different

-- no two bits are equal
abbrev pub AllApart : List Base → Type 0
AllApart [] = ⊤
AllApart (x ∷ xs) = AllByRecursion (λ y. x ≢ y) xs × AllApart xs

less_other : (x y : Base) → base_cmp x y ≡ Less → x ≢ y
less_other x y less same =
    let tied : base_cmp x x ≡ Equal = tied_itself base_total x in
    let lower : base_cmp x x ≡ Less = subst (λ z. base_cmp x z ≡ Less) (sym same) less in
    cc

all_other : (x : Base) (bits : List Base) → AllByRecursion (λ y. base_cmp x y ≡ Less) bits → AllByRecursion (λ y. x ≢ y) bits
all_other x [] less = tt
all_other x (y ∷ ys) less = (less_other x y less.0, all_other x ys less.1)

pub rising_different : (bits : List Base) → AreRising bits → AllApart bits
rising_different [] up = tt
rising_different (x ∷ xs) up = (all_other x xs up.0, rising_different xs up.1)

-- ---- the others

-- what a test gives of the bits other than one
abbrev pub other : Base → (Base → Bool) → Base → Bool
other own f b = cond (is_same b own) false (f b)

none_other : (own : Base) (f : Base → Bool) (bits : List Base) → AllByRecursion (λ y. own ≢ y) bits → xor_by (other own f) bits ≡ xor_by f bits
none_other own f [] apart = refl
none_other own f (x ∷ xs) apart = elim (cases_Bool (is_same x own)) as (λ _. xor_by (other own f) (x ∷ xs) ≡ xor_by f (x ∷ xs)) [
  | inl same ↦ absurd (apart.0 (sym (same_bases x own same)))
  | inr e ↦ rw e (ap (xor (f x)) (none_other own f xs apart.1))
]

-- the others and the own bit are all bits
pub with_own : (own : Base) (f : Base → Bool) (bits : List Base) → AllApart bits → IsAmong own bits
    → xor (xor_by (other own f) bits) (f own) ≡ xor_by f bits
with_own own f [] apart k = absurd k
with_own own f (x ∷ xs) apart k = elim (cases_Bool (is_same x own)) as (λ _. xor (xor_by (other own f) (x ∷ xs)) (f own) ≡ xor_by f (x ∷ xs)) [
  | inl e ↦
      let is : x ≡ own = same_bases x own e in
      let rest : xor_by (other own f) xs ≡ xor_by f xs = none_other own f xs (subst (λ z. AllByRecursion (λ y. z ≢ y) xs) is apart.0) in
      rw e (ap (λ v. xor v (f own)) (xor_none (xor_by (other own f) xs) ∙ rest) ∙ xor_swap (xor_by f xs) (f own) ∙ ap (λ z. xor (f z) (xor_by f xs)) (sym is))
  | inr e ↦
      let later : IsAmong own xs = elim k as (λ _. IsAmong own xs) [ inl same ↦ absurd (other_bases x own e (sym same)) | inr there ↦ there ] in
      rw e (sym (xor_left (f x) (xor_by (other own f) xs) (f own)) ∙ ap (xor (f x)) (with_own own f xs apart.1 later))
]

-- the others rest on the bits of good bases alone
pub others_agree : (IsGood : Base → Type 0) (own : Base) (f g : Base → Bool) (bits : List Base) → AllByRecursion IsGood bits
    → ((b : Base) → IsGood b → b ≢ own → f b ≡ g b) → xor_by (other own f) bits ≡ xor_by (other own g) bits
others_agree IsGood own f g [] good agree = refl
others_agree IsGood own f g (x ∷ xs) good agree = elim (cases_Bool (is_same x own)) as (λ _. xor_by (other own f) (x ∷ xs) ≡ xor_by (other own g) (x ∷ xs)) [
  | inl e ↦ rw e (ap (xor false) (others_agree IsGood own f g xs good.1 agree))
  | inr e ↦ rw e (ap₂ xor (agree x good.0 (other_bases x own e)) (others_agree IsGood own f g xs good.1 agree))
]

-- each factor of a product has a base for itself
pub first_own : (p : ProductView) → IsProduct p → IsOwn p.first p.second (own_base p.first p.second)
first_own p is = own_is p.first p.second is.own

pub second_own : (p : ProductView) → IsProduct p → IsOwn p.second p.first (own_base p.second p.first)
second_own p is = own_is p.second p.first is.other
