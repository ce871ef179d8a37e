-- The functions on which claims rest are finitely many, and can be told apart.
use Rattle.std.proofs.Common.{◌≡◌, ℕ, zero, suc, ◌+◌, ◌<◌, ◌≤◌, ◌⊎◌, inl, inr, Bool, false, List, [], ◌∷◌, length, map, take, sum, replicate, slice_get, refl}
use Rattle.std.proofs.Common.{sym, ◌∙◌, subst, arith}
use Rattle.std.proofs.lemmas.Grind.{common_steps}
use Rattle.std.proofs.lemmas.Bool.{cases_lt}
use Rattle.std.proofs.lemmas.List.{length-take-le}
use Rattle.list_facts.specs.Lists.{IsAmong, AnyByRecursion}
use Rattle.list_facts.proofs.AllLemmas.{AllByRecursion-weaker, AllByRecursion-take}
use Rattle.list_facts.proofs.AmongLemmas.{among_map, among_image, gathered, among_gathered, among_source, any_of, some_of, sifted}
use Rattle.list_facts.proofs.CountingLemmas.{no_more, sorts, AreApart-take}
use Rattle.list_facts.proofs.SearchLemmas.{same_or_differ, bits_within, within_all, within_few}
use Rattle.revs_tape.specs.declared.tape.Ref.{Ref}
use Rattle.revs_tape.specs.declared.tape.Ref.TheVariants as refs
use Rattle.revs_tape.specs.declared.tape.Entry.{Entry}
use Rattle.revs_tape.specs.declared.tape.Entry.TheVariants as entries
use Rattle.revs_tape.specs.declared.tape.Claim.{Claim}
use Rattle.revs_tape.specs.Tapes.{TapeView, IsTape, IsKnown, IsKnownEntry, AreKnown, operands}
use Rattle.revs_tape.specs.ClaimFunctions as sets
use Rattle.revs_tape.specs.ClaimFunctions.{operands_at, operands_of, RestsOn, IsBase, Restriction, value_on, IsSameFunction, IsConstant, IsMember, HasMore}
use Rattle.revs_tape.specs.ClaimFunctions.{HasAtMost, MembersAreCounted}

-- ---- what a reference rests on

rests : TapeView → ℕ → Ref → List Ref
rests t zero ref = ref ∷ []
rests t (suc depth) ref = ref ∷ gathered (λ operand. rests t depth operand) (operands_of t ref)

rests_are : (t : TapeView) (depth : ℕ) (ref base : Ref) → IsAmong base (rests t depth ref) → RestsOn t ref base
unfolding rests
rests_are t zero ref base k = elim k as (λ _. RestsOn t ref base) [
  | inl e ↦ subst (λ (z : Ref). RestsOn t ref z) (sym e) (sets.itself ref)
  | inr none ↦ absurd none
]
rests_are t (suc depth) ref base k = elim k as (λ _. RestsOn t ref base) [
  | inl e ↦ subst (λ (z : Ref). RestsOn t ref z) (sym e) (sets.itself ref)
  | inr later ↦
      let found = among_source (λ operand. rests t depth operand) base (operands_of t ref) later in
      sets.through ref found.0 base found.1 (rests_are t depth found.0 base found.2)
]

-- a bound on the steps down from a reference
rank : Ref → ℕ
rank (refs.Input i) = 0
rank (refs.Write j) = suc j

known_rank : (n k : ℕ) (ref : Ref) → IsKnown n k ref → rank ref < suc k
unfolding rank
known_rank n k (refs.Input i) known = omega arith
known_rank n k (refs.Write j) known = omega (arith, known)

two_lower : (n k : ℕ) (a b ref : Ref) → IsKnown n k a → IsKnown n k b → IsAmong ref (a ∷ b ∷ []) → rank ref < suc k
two_lower n k a b ref first second k2 = elim k2 as (λ _. rank ref < suc k) [
  | inl e ↦ subst (λ (z : Ref). rank z < suc k) (sym e) (known_rank n k a first)
  | inr later ↦ elim later as (λ _. rank ref < suc k) [
    | inl e ↦ subst (λ (z : Ref). rank z < suc k) (sym e) (known_rank n k b second)
    | inr none ↦ absurd none
  ]
]

entry_lower : (n k : ℕ) (e : Entry) (ref : Ref) → IsKnownEntry n k e → IsAmong ref (operands e) → rank ref < suc k
entry_lower n k (entries.Const bit) ref known among = absurd among
entry_lower n k (entries.Xor a b) ref known among = two_lower n k a b ref known.0 known.1 among
entry_lower n k (entries.And a b) ref known among = two_lower n k a b ref known.0 known.1 among

operands_lower : (n k : ℕ) (es : List Entry) (j : ℕ) (ref : Ref) → AreKnown n k es → IsAmong ref (operands_at (slice_get es j)) → rank ref < suc (k + j)
operands_lower n k [] j ref known among = absurd among
operands_lower n k (e ∷ es) zero ref known among = omega (arith, entry_lower n k e ref known.0 among)
operands_lower n k (e ∷ es) (suc j) ref known among = omega (arith, operands_lower n (k + 1) es j ref known.1 among)

lower : (t : TapeView) → IsTape t → (ref operand : Ref) → IsAmong operand (operands_of t ref) → rank operand < rank ref
unfolding rank
lower t is (refs.Input i) operand among = absurd among
lower t is (refs.Write j) operand among = omega (arith, operands_lower (sum t.params) 0 t.entries j operand is.known among)

rests_all : (t : TapeView) → IsTape t → (depth : ℕ) (ref base : Ref) → RestsOn t ref base → rank ref ≤ depth → IsAmong base (rests t depth ref)
unfolding rests
rests_all t is zero _ _ (sets.itself ref) deep = inl refl
rests_all t is zero _ _ (sets.through ref operand base among below) deep = absurd (omega (arith, lower t is ref operand among, deep))
rests_all t is (suc depth) _ _ (sets.itself ref) deep = inl refl
rests_all t is (suc depth) _ _ (sets.through ref operand base among below) deep =
    inr (among_gathered (λ o. rests t depth o) base operand (operands_of t ref) among
    (rests_all t is depth operand base below (omega (arith, lower t is ref operand among, deep))))

-- ---- the functions

same_or_not : (t : TapeView) (r s : Restriction) → IsSameFunction t r s ⊎ (¬ IsSameFunction t r s)
same_or_not t r s = elim (same_or_differ (sum t.params) (value_on t r) (value_on t s)) as (λ _. IsSameFunction t r s ⊎ (¬ IsSameFunction t r s)) [
  | inl all ↦ inl (λ v size. all v size)
  | inr found ↦ inr (λ same. found.2 (same found.0 found.1))
]

constant_or_not : (t : TapeView) (r : Restriction) → IsConstant t r ⊎ (¬ IsConstant t r)
constant_or_not t r =
    let v0 : List Bool = replicate (sum t.params) false in
    let size0 : length v0 ≡ sum t.params = grind (arith, common_steps) in
    elim (same_or_differ (sum t.params) (value_on t r) (λ v. value_on t r v0)) as (λ _. IsConstant t r ⊎ (¬ IsConstant t r)) [
      | inl all ↦ inl (λ one other size size2. all one size ∙ sym (all other size2))
      | inr found ↦ inr (λ constant. found.2 (constant found.0 v0 found.1 size0))
    ]

abbrev made : Ref → List Bool → Restriction
made of fixed = record { of = of; fixed = fixed }

abbrev bases : TapeView → ℕ → List Ref
bases t claims = gathered (λ (claim : Claim). rests t (rank claim.of) claim.of) (take claims t.claims)

abbrev candidates : TapeView → ℕ → List Restriction
candidates t claims = gathered (λ of. map (made of) (bits_within (sum t.params))) (bases t claims)

base_listed : (t : TapeView) (claims : ℕ) (base : Ref) → IsTape t → IsBase t claims base → IsAmong base (bases t claims)
base_listed t claims base is k =
    let found = some_of (λ (claim : Claim). RestsOn t claim.of base) (take claims t.claims) k in
    among_gathered (λ (claim : Claim). rests t (rank claim.of) claim.of) base found.0 (take claims t.claims) found.1
    (rests_all t is (rank (found.0).of) (found.0).of base found.2 (omega arith))

listed_base : (t : TapeView) (claims : ℕ) (base : Ref) → IsAmong base (bases t claims) → IsBase t claims base
listed_base t claims base k =
    let found = among_source (λ (claim : Claim). rests t (rank claim.of) claim.of) base (take claims t.claims) k in
    any_of (λ (claim : Claim). RestsOn t claim.of base) found.0 (take claims t.claims) found.1 (rests_are t (rank (found.0).of) (found.0).of base found.2)

candidate : (t : TapeView) (claims : ℕ) (r : Restriction) → IsTape t → IsMember t claims r → IsAmong r (candidates t claims)
candidate t claims r is member =
    among_gathered (λ of. map (made of) (bits_within (sum t.params))) r r.of (bases t claims) (base_listed t claims r.of is member.base)
    (among_map (made r.of) r.fixed (bits_within (sum t.params)) (within_all (sum t.params) r.fixed member.few))

member_or_not : (t : TapeView) (claims : ℕ) (r : Restriction) → IsAmong r (candidates t claims) → IsMember t claims r ⊎ (¬ IsMember t claims r)
member_or_not t claims r k =
    let at = among_source (λ of. map (made of) (bits_within (sum t.params))) r (bases t claims) k in
    let of_it = among_image (made at.0) r (bits_within (sum t.params)) at.2 in
    let base : IsBase t claims r.of = subst (λ (z : Restriction). IsBase t claims z.of) (sym of_it.2) (listed_base t claims at.0 at.1) in
    let few : length r.fixed ≤ sum t.params = subst (λ (z : Restriction). length z.fixed ≤ sum t.params) (sym of_it.2)
    (within_few (sum t.params) of_it.0 of_it.1) in
    elim (constant_or_not t r) as (λ _. IsMember t claims r ⊎ (¬ IsMember t claims r)) [
      | inl constant ↦ inr (λ member. member.varies constant)
      | inr varies ↦ inl (record { base = base; few = few; varies = varies })
    ]

turned : (t : TapeView) (r s : Restriction) → IsSameFunction t r s → IsSameFunction t s r
turned t r s same = λ v size. sym (same v size)

joined : (t : TapeView) (r s u : Restriction) → IsSameFunction t r s → IsSameFunction t s u → IsSameFunction t r u
joined t r s u one two = λ v size. one v size ∙ two v size

more_or_most : (t : TapeView) → IsTape t → (claims limit : ℕ) → HasMore t claims limit ⊎ HasAtMost t claims limit
more_or_most t is claims limit =
    let members = sifted (IsMember t claims) (candidates t claims) (λ r k. member_or_not t claims r k) in
    let each = sorts (IsSameFunction t) (turned t) (joined t) (λ r v size. refl) (same_or_not t) (IsMember t claims) members.kept members.are in
    elim (cases_lt limit (length each.kept)) as (λ _. HasMore t claims limit ⊎ HasAtMost t claims limit) [
      | inl more ↦ inl (record {
        members = take (limit + 1) each.kept;
        are = AllByRecursion-take (IsMember t claims) (limit + 1) each.kept each.are;
        apart = AreApart-take (IsSameFunction t) (turned t) (joined t) (limit + 1) each.kept each.apart;
        many = length-take-le (limit + 1) each.kept (omega (arith, more));
      })
      | inr few ↦ inr (record {
        listed = each.kept;
        few = few;
        all = λ r member. each.all r (members.all r (candidate t claims r is member) member);
      })
    ]

not_both : (t : TapeView) (claims limit : ℕ) → HasMore t claims limit → ¬ HasAtMost t claims limit
not_both t claims limit more most =
    let alike = AllByRecursion-weaker (IsMember t claims) (λ r. AnyByRecursion (IsSameFunction t r) most.listed) most.all more.members more.are in
    let fewer = no_more (IsSameFunction t) (turned t) (joined t) more.members most.listed more.apart alike in
    omega (arith, fewer, more.many, most.few)

pub members_are_counted : MembersAreCounted
members_are_counted t is claims limit = (more_or_most t is claims limit, λ more. not_both t claims limit more)
