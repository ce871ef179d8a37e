-- What is put behind a tape, and the two tapes that are made so.
use Rattle.std.proofs.Common.{◌≡◌, ℕ, zero, suc, ◌+◌, ◌-◌, ◌*◌, ◌<◌, ◌≤◌, List, [], ◌∷◌, ◌++◌, length, take, drop, sum, slice_index_or}
use Rattle.std.proofs.Common.{refl, sym, ap, ap₂, ◌∙◌, subst, arith, append_assoc, length-append}
use Rattle.list_facts.proofs.AllLemmas.{AllByRecursion-take, AllByRecursion-drop}
use Rattle.revs_tape.specs.declared.limits.TheConstants.{MOST_CLAIMS}
use Rattle.revs_tape.specs.declared.tape.Claim.{Claim}
use Rattle.revs_tape.specs.declared.tape.Entry.{Entry}
use Rattle.revs_tape.specs.declared.tape.Kind.TheVariants as kinds
use Rattle.revs_tape.specs.declared.tape.Ref.{Ref}
use Rattle.revs_tape.specs.declared.tape.Ref.TheVariants as refs
use Rattle.revs_tape.specs.Tapes.{TapeView, IsTape, IsKnown, IsKnownEntry, AreKnown}
use Rattle.claim_assumptions.specs.Assumptions.{assumed_of, assuming, behind, constants, failing_links, granted, met_links, premise, restricted}
use Rattle.claim_assumptions.specs.inside.Links.{AreClaimsOn, IsCopiedSoFar, with_links}

-- ---- the writes of a tape

known_at : (n k : ℕ) (es : List Entry) (i : ℕ) (d : Entry) → AreKnown n k es → i < length es → IsKnownEntry n (k + i) (slice_index_or es i d)
known_at n k [] i d known low = absurd (omega (arith, low))
known_at n k (e ∷ es) zero d known low = subst (λ (z : ℕ). IsKnownEntry n z e) (omega arith) known.0
known_at n k (e ∷ es) (suc i) d known low =
    subst (λ (z : ℕ). IsKnownEntry n z (slice_index_or es i d)) (omega arith) (known_at n (k + 1) es i d known.1 (omega (arith, low)))

-- the next write is made of earlier ones, also in the copy
pub copied_known : (t made : TapeView) (i : ℕ) (d : Entry) → IsTape t → IsCopiedSoFar t i made → i < length t.entries
    → IsKnownEntry (sum made.params) (length made.entries) (slice_index_or t.entries i d)
copied_known t made i d is so low =
    let params : sum t.params ≡ sum made.params = sym (ap (λ (z : TapeView). sum z.params) so.is) in
    let size : 0 + i ≡ length made.entries = omega (arith, so.size) in
    subst (λ (n : ℕ). IsKnownEntry n (length made.entries) (slice_index_or t.entries i d)) params
    (subst (λ (k : ℕ). IsKnownEntry (sum t.params) k (slice_index_or t.entries i d)) size (known_at (sum t.params) 0 t.entries i d is.known low))

-- ---- how many

pub length-met_links : (writes number : ℕ) (cs : List Claim) → length (met_links writes number cs) ≡ 2 * length cs
length-met_links writes number [] = refl
length-met_links writes number (c ∷ cs) = let rest = length-met_links writes (number + 1) cs in omega arith

pub length-failing_links : (writes met number : ℕ) (cs : List Claim) → length (failing_links writes met number cs) ≡ 2 * length cs
length-failing_links writes met number [] = refl
length-failing_links writes met number (c ∷ cs) = let rest = length-failing_links writes met (number + 1) cs in omega arith

pub length-granted : (writes : ℕ) (cs : List Claim) → length (granted writes cs) ≡ length cs
length-granted writes [] = refl
length-granted writes (c ∷ cs) = let rest = length-granted writes cs in omega arith

pub length-restricted : (writes number : ℕ) (cs : List Claim) → length (restricted writes number cs) ≡ length cs
length-restricted writes number [] = refl
length-restricted writes number (c ∷ cs) = let rest = length-restricted writes (number + 1) cs in omega arith

-- ---- the first claims and the others

take-counted : {A : Type 0} (n : ℕ) (xs : List A) → take (length (take n xs)) xs ≡ take n xs
take-counted zero xs = refl
take-counted (suc n) [] = refl
take-counted (suc n) (x ∷ xs) = ap (λ ys. x ∷ ys) (take-counted n xs)

drop-counted : {A : Type 0} (n : ℕ) (xs : List A) → drop (length (take n xs)) xs ≡ drop n xs
drop-counted zero xs = refl
drop-counted (suc n) [] = refl
drop-counted (suc n) (x ∷ xs) = drop-counted n xs

pub first_known : (t : TapeView) (count : ℕ) (first : List Claim) → IsTape t → first ≡ take count t.claims → AreClaimsOn t.params (length t.entries) first
first_known t count first is same = subst (AreClaimsOn t.params (length t.entries)) (sym same)
    (AllByRecursion-take (λ (c : Claim). IsKnown (sum t.params) (length t.entries) c.of) count t.claims is.claims)

-- ---- the tape of the bit

pub links_size : (t one : TapeView) (first : List Claim) → one ≡ with_links t first → length one.entries ≡ length t.entries + 2 + 2 * length first
links_size t one first is =
    let links : List Entry = met_links (length t.entries) 0 first in
    ap (λ (z : TapeView). length z.entries) is
    ∙ omega (arith, length-append t.entries (constants ++ links), length-met_links (length t.entries) 0 first)

pub premise_made : (t one two three : TapeView) (assumed count : ℕ) (first : List Claim) (met : ℕ) (outputs : List Ref) → first ≡ take count t.claims
    → count ≡ length (assumed_of t assumed) → one ≡ with_links t first → met ≡ length one.entries - 1
    → two ≡ record one { claims = one.claims ++ record { kind = kinds.Clean; of = refs.Write met; at = record { line = 1; column = 1 } } ∷ [] }
    → outputs ≡ refs.Write met ∷ [] → three ≡ record two { outputs = outputs } → three ≡ premise assumed t
premise_made t one two three assumed count first met outputs firsts counted links place claimed made put =
    let named : ℕ → Claim = λ m. record { kind = kinds.Clean; of = refs.Write m; at = record { line = 1; column = 1 } } in
    let are : first ≡ assumed_of t assumed = firsts ∙ ap (λ (k : ℕ). take k t.claims) counted ∙ take-counted assumed t.claims in
    let at : met ≡ length t.entries + 1 + 2 * length (assumed_of t assumed) =
    omega (arith, place, links_size t one first links, ap length are) in
    put
    ∙ ap₂ (λ (z : TapeView) (os : List Ref). record z { outputs = os }) claimed made
    ∙ ap (λ (z : TapeView). record z { claims = z.claims ++ named met ∷ []; outputs = refs.Write met ∷ [] }) links
    ∙ ap₂ (λ (cs : List Claim) (m : ℕ). record (with_links t cs) { claims = named m ∷ []; outputs = refs.Write m ∷ [] }) are at

-- ---- the tape of the claims

pub grant_size : (t one two : TapeView) (first : List Claim) (writes more count : ℕ) → one ≡ with_links t first
    → two ≡ record one { claims = one.claims ++ granted writes first } → more ≡ length t.entries → count ≡ length first
    → length two.entries ≡ more + 2 + 2 * count
grant_size t one two first writes more count links granting same counted =
    ap (λ (z : TapeView). length z.entries) granting ∙ links_size t one first links ∙ omega (arith, same, counted)

pub others_known : (t one two : TapeView) (first others : List Claim) (writes more count : ℕ) → IsTape t → one ≡ with_links t first
    → two ≡ record one { claims = one.claims ++ granted writes first } → more ≡ length t.entries → others ≡ drop count t.claims
    → AreClaimsOn two.params more others
others_known t one two first others writes more count is links granting same rest =
    let params : t.params ≡ two.params = sym (ap (λ (z : TapeView). z.params) granting ∙ ap (λ (z : TapeView). z.params) links) in
    let known : AreClaimsOn t.params (length t.entries) others = subst (AreClaimsOn t.params (length t.entries)) (sym rest)
    (AllByRecursion-drop (λ (c : Claim). IsKnown (sum t.params) (length t.entries) c.of) count t.claims is.claims) in
    subst (λ (ps : List ℕ). AreClaimsOn ps more others) params (subst (λ (w : ℕ). AreClaimsOn t.params w others) (sym same) known)

pub others_few : (t one two : TapeView) (first others : List Claim) (writes count : ℕ) → IsTape t → one ≡ with_links t first
    → two ≡ record one { claims = one.claims ++ granted writes first } → length first ≡ count → length others + count ≡ length t.claims
    → length two.claims + length others ≤ MOST_CLAIMS
others_few t one two first others writes count is links granting front back =
    let size : length two.claims ≡ length first =
    ap (λ (z : TapeView). length z.claims) granting
    ∙ ap (λ (z : TapeView). length (z.claims ++ granted writes first)) links
    ∙ length-granted writes first in
    let few : length t.claims ≤ MOST_CLAIMS = is.few_claims in
    omega (arith, size, front, back, few)

behind_some : (cs others : List Claim) (t : TapeView) → 1 ≤ length cs → behind cs others t ≡ record t {
  entries =
      t.entries
      ++ (constants ++ (met_links (length t.entries) 0 cs ++ failing_links (length t.entries) (length cs) (length cs) others));
  claims = granted (length t.entries) cs ++ restricted (length t.entries) (length cs) others;
}
behind_some [] others t some = absurd (omega (arith, some))
behind_some (c ∷ cs) others t some = refl

pub assuming_made : (t one two three : TapeView) (assumed count : ℕ) (first others : List Claim) (writes more : ℕ) → first ≡ take count t.claims
    → others ≡ drop count t.claims → count ≡ length (assumed_of t assumed) → 1 ≤ length (assumed_of t assumed) → one ≡ with_links t first
    → writes ≡ length t.entries → two ≡ record one { claims = one.claims ++ granted writes first } → more ≡ length t.entries
    → three ≡ record two { entries = two.entries ++ failing_links more count count others; claims = two.claims ++ restricted more count others }
    → record three { outputs = t.outputs } ≡ assuming assumed t
assuming_made t one two three assumed count first others writes more firsts rest counted some links same granting again put =
    let w : ℕ = length t.entries in
    let assumed_ones : List Claim = assumed_of t assumed in
    let are : first ≡ assumed_ones = firsts ∙ ap (λ (k : ℕ). take k t.claims) counted ∙ take-counted assumed t.claims in
    let left : others ≡ drop assumed t.claims = rest ∙ ap (λ (k : ℕ). drop k t.claims) counted ∙ drop-counted assumed t.claims in
    let all = λ (cs : List Claim) (es : List Entry). record t {
      entries = es;
      claims = granted w cs ++ restricted w (length assumed_ones) (drop assumed t.claims);
    } in
    let regrouped : (t.entries ++ (constants ++ met_links w 0 assumed_ones))
    ++ failing_links w (length assumed_ones) (length assumed_ones) (drop assumed t.claims)
    ≡ t.entries ++ (constants ++ (met_links w 0 assumed_ones ++ failing_links w (length assumed_ones) (length assumed_ones) (drop assumed t.claims))) =
    simp append_assoc in
    ap (λ (z : TapeView). record z { outputs = t.outputs }) put
    ∙ ap (λ (z : TapeView). record z {
      entries = z.entries ++ failing_links more count count others;
      claims = z.claims ++ restricted more count others;
      outputs = t.outputs;
    }) granting
    ∙ ap (λ (z : TapeView). record z {
      entries = z.entries ++ failing_links more count count others;
      claims = (z.claims ++ granted writes first) ++ restricted more count others;
      outputs = t.outputs;
    }) links
    ∙ ap (λ (v : ℕ). record t {
      entries = (t.entries ++ (constants ++ met_links w 0 first)) ++ failing_links more count count others;
      claims = granted v first ++ restricted more count others;
    }) same
    ∙ ap (λ (v : ℕ). record t {
      entries = (t.entries ++ (constants ++ met_links w 0 first)) ++ failing_links v count count others;
      claims = granted w first ++ restricted v count others;
    }) again
    ∙ ap (λ (k : ℕ). record t {
      entries = (t.entries ++ (constants ++ met_links w 0 first)) ++ failing_links w k k others;
      claims = granted w first ++ restricted w k others;
    }) counted
    ∙ ap₂ (λ (cs ds : List Claim). record t {
      entries = (t.entries ++ (constants ++ met_links w 0 cs)) ++ failing_links w (length assumed_ones) (length assumed_ones) ds;
      claims = granted w cs ++ restricted w (length assumed_ones) ds;
    }) are left
    ∙ ap (all assumed_ones) regrouped
    ∙ sym (behind_some assumed_ones (drop assumed t.claims) t some)
