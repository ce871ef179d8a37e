-- The first element of which a fact does not hold.
use Rattle.std.proofs.Common.{◌≡◌, ℕ, suc, ◌<◌, List, [], ◌∷◌, ◌++◌, length, take, drop, get_or, refl, sym, ap, ◌∙◌, subst}
use Rattle.std.specs.List.{AllByRecursion}
use Rattle.list_facts.specs.Lists.{IsFirstWithout}
use Rattle.list_facts.proofs.CutLemmas.{cut_at, length-take_below}

pub first_without : {A : Type 0} (P : A → Type 0) (xs : List A) (place : ℕ) (d : A) → place < length xs → AllByRecursion P (take place xs)
    → ¬ P (get_or xs place d) → IsFirstWithout P xs place
first_without P xs place d lt met fails = record {
  before = take place xs;
  named = get_or xs place d;
  behind = drop (suc place) xs;
  cut = cut_at xs place d lt;
  count = length-take_below xs place lt;
  met = met;
  fails = fails;
}

pub all_at : {A : Type 0} (P : A → Type 0) (before : List A) (x : A) (behind : List A) → AllByRecursion P (before ++ x ∷ behind) → P x
all_at P [] x behind h = h.0
all_at P (b ∷ before) x behind h = all_at P before x behind h.1

-- where it holds of all there is none
pub none_without : {A : Type 0} (P : A → Type 0) (xs : List A) (at : ℕ) → AllByRecursion P xs → IsFirstWithout P xs at → ⊥
none_without P xs at all first = first.fails (all_at P first.before first.named first.behind (subst (AllByRecursion P) first.cut all))

-- what stands before the first of which it does not hold, and that one itself
pub record SameFirst {A : Type 0} (before after : List A) (x y : A) : Type 0 where
  pub count : length before ≡ length after
  pub named : x ≡ y

more_same : {A : Type 0} (b c : A) (before after : List A) (x y : A) → SameFirst before after x y → SameFirst (b ∷ before) (c ∷ after) x y
more_same b c before after x y s = record { count = ap suc s.count; named = s.named }

pub first_same : {A : Type 0} (P : A → Type 0) (before after : List A) (x y : A) (behind rest : List A) → before ++ x ∷ behind ≡ after ++ y ∷ rest
    → AllByRecursion P before → AllByRecursion P after → ¬ P x → ¬ P y → SameFirst before after x y
first_same P [] [] x y behind rest e h k n m = record { count = refl; named = cc }
first_same P [] (c ∷ after) x y behind rest e h k n m =
    let same : c ≡ x = cc in
    absurd (n (subst P same k.0))
first_same P (b ∷ before) [] x y behind rest e h k n m =
    let same : b ≡ y = cc in
    absurd (m (subst P same h.0))
first_same P (b ∷ before) (c ∷ after) x y behind rest e h k n m =
    let tails : before ++ x ∷ behind ≡ after ++ y ∷ rest = cc in
    more_same b c before after x y (first_same P before after x y behind rest tails h.1 k.1 n m)

-- there is one first
pub one_without : {A : Type 0} (P : A → Type 0) (xs : List A) (at other : ℕ) → IsFirstWithout P xs at → IsFirstWithout P xs other → at ≡ other
one_without P xs at other a b =
    let same = first_same P a.before b.before a.named b.named a.behind b.behind (sym a.cut ∙ b.cut) a.met b.met a.fails b.fails in
    sym a.count ∙ same.count ∙ b.count
