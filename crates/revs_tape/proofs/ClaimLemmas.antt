-- A claim holds on every input, or one input is the least that breaks it: a search that fixes one variable after another.
use Rattle.std.proofs.Common.{◌≡◌, ◌≢◌, ℕ, ◌<◌, ◌⊎◌, inl, inr, Bool, true, false, List, [], ◌∷◌, ◌++◌, length, drop, set, slice_index_or, sum, refl, sym, ap}
use Rattle.std.proofs.Common.{◌∙◌, subst, arith}
use Rattle.std.specs.List.{AllByRecursion}
use Rattle.std.proofs.lemmas.Bool.{cases_Bool, cases_eq, true≢false}
use Rattle.std.proofs.lemmas.List.{length-set, length-replicate, get_or-set_same, get_or-set_other, ext_get_or}
use Rattle.list_facts.specs.Bits.{bit_of, zeros}
use Rattle.list_facts.specs.Lists.{IsAmong, AreDifferent}
use Rattle.list_facts.proofs.AmongLemmas.{all_among}
use Rattle.revs_tape.specs.declared.tape.Claim.{Claim}
use Rattle.revs_tape.specs.Claims.{HoldsEverywhere, IsLeastBreaking, HasOneLeastBreaking, ClaimsAreSettled}
use Rattle.revs_tape.specs.Tapes.{TapeView, Holds, bit_at, claimed, written_by}
use Rattle.revs_tape.specs.VariableOrders.{IsBefore, IsOrderOf, variable_order}
use Rattle.revs_tape.proofs.VariableOrderLemmas.{is_order}

-- ---- lists of bits in an order

head_same : (x y : ℕ) (xs ys : List ℕ) → x ∷ xs ≡ y ∷ ys → x ≡ y
head_same x y xs ys e = ap (λ (zs : List ℕ). slice_index_or zs 0 0) e

abbrev FirstDiffers : ℕ → List ℕ → List Bool → List Bool → Type 0
FirstDiffers i rest one other = ((bit_of one i ≡ false) × (bit_of other i ≡ true)) ⊎ ((bit_of one i ≡ bit_of other i) × IsBefore rest one other)

cut_cases : (i : ℕ) (rest before : List ℕ) (at : ℕ) (behind : List ℕ) (one other : List Bool) → i ∷ rest ≡ before ++ at ∷ behind
    → AllByRecursion (λ k. bit_of one k ≡ bit_of other k) before → bit_of one at ≡ false → bit_of other at ≡ true → FirstDiffers i rest one other
cut_cases i rest [] at behind one other cut same low high =
    let here : i ≡ at = head_same i at rest behind cut in
    inl (ap (bit_of one) here ∙ low, ap (bit_of other) here ∙ high)
cut_cases i rest (j ∷ before) at behind one other cut same low high =
    let here : i ≡ j = head_same i j rest (before ++ at ∷ behind) cut in
    inr (
      ap (bit_of one) here ∙ same.0 ∙ ap (bit_of other) (sym here),
      record { before = before; at = at; behind = behind; cut = ap (drop 1) cut; same = same.1; low = low; high = high },
    )

-- the first variable decides, or the ones behind it
before_cases : (i : ℕ) (rest : List ℕ) (one other : List Bool) → IsBefore (i ∷ rest) one other → FirstDiffers i rest one other
before_cases i rest one other b = cut_cases i rest b.before b.at b.behind one other b.cut b.same b.low b.high

none_before : (before : List ℕ) (at : ℕ) (behind : List ℕ) → [] ≡ before ++ at ∷ behind → ⊥
none_before [] at behind e = cc
none_before (j ∷ before) at behind e = cc

sooner : (i : ℕ) (rest : List ℕ) (one other : List Bool) → bit_of one i ≡ false → bit_of other i ≡ true → IsBefore (i ∷ rest) one other
sooner i rest one other low high = record { before = []; at = i; behind = rest; cut = refl; same = tt; low = low; high = high }

later : (i : ℕ) (rest : List ℕ) (one other : List Bool) → bit_of one i ≡ bit_of other i → IsBefore rest one other → IsBefore (i ∷ rest) one other
later i rest one other same b = record {
  before = i ∷ b.before;
  at = b.at;
  behind = b.behind;
  cut = ap (λ xs. i ∷ xs) b.cut;
  same = (same, b.same);
  low = b.low;
  high = b.high;
}

abbrev Compared : List ℕ → List Bool → List Bool → Type 0
Compared order one other = AllByRecursion (λ i. bit_of one i ≡ bit_of other i) order ⊎ (IsBefore order one other ⊎ IsBefore order other one)

compared_behind : (i : ℕ) (rest : List ℕ) (one other : List Bool) → bit_of one i ≡ bit_of other i → Compared rest one other → Compared (i ∷ rest) one other
compared_behind i rest one other same result = elim result as (λ _. Compared (i ∷ rest) one other) [
  | inl all ↦ inl (same, all)
  | inr differ ↦ elim differ as (λ _. Compared (i ∷ rest) one other) [
    | inl first ↦ inr (inl (later i rest one other same first))
    | inr second ↦ inr (inr (later i rest other one (sym same) second))
  ]
]

compared : (order : List ℕ) (one other : List Bool) → Compared order one other
compared [] one other = inl tt
compared (i ∷ rest) one other =
    elim (cases_Bool (bit_of one i)) as (λ _. Compared (i ∷ rest) one other) [
      | inl t ↦ elim (cases_Bool (bit_of other i)) as (λ _. Compared (i ∷ rest) one other) [
        | inl u ↦ compared_behind i rest one other (t ∙ sym u) (compared rest one other)
        | inr g ↦ inr (inr (sooner i rest other one g t))
      ]
      | inr f ↦ elim (cases_Bool (bit_of other i)) as (λ _. Compared (i ∷ rest) one other) [
        | inl u ↦ inr (inl (sooner i rest one other f u))
        | inr g ↦ compared_behind i rest one other (f ∙ sym g) (compared rest one other)
      ]
    ]

-- ---- lists of bits that agree off some places

abbrev AgreeOff : ℕ → List ℕ → List Bool → List Bool → Type 0
AgreeOff n places one other = (i : ℕ) → i < n → IsAmong i places ⊎ (bit_of one i ≡ bit_of other i)

same_bits : (n : ℕ) (one other : List Bool) → length one ≡ n → length other ≡ n → ((i : ℕ) → i < n → bit_of one i ≡ bit_of other i) → one ≡ other
same_bits n one other size size2 same = ext_get_or false one other (omega (arith, size, size2)) (λ i lt. same i (omega (arith, lt, size)))

-- one place less: it holds the bit
off_fixed : (n i : ℕ) (rest : List ℕ) (one other : List Bool) (b : Bool) → length other ≡ n → i < n → bit_of one i ≡ b → AgreeOff n (i ∷ rest) one other
    → AgreeOff n rest one (set other i b)
off_fixed n i rest one other b size inside bit off k lt =
    elim (cases_eq k i) as (λ _. IsAmong k rest ⊎ (bit_of one k ≡ bit_of (set other i b) k)) [
      | inl e ↦ inr (ap (bit_of one) e ∙ bit ∙ sym (get_or-set_same other i b false (omega (arith, inside, size))) ∙ ap (bit_of (set other i b)) (sym e))
      | inr ne ↦ elim (off k lt) as (λ _. IsAmong k rest ⊎ (bit_of one k ≡ bit_of (set other i b) k)) [
        | inl among ↦ elim among as (λ _. IsAmong k rest ⊎ (bit_of one k ≡ bit_of (set other i b) k)) [
          | inl e ↦ absurd (ne e)
          | inr further ↦ inl further
        ]
        | inr same ↦ inr (same ∙ sym (get_or-set_other other i k b false ne))
      ]
    ]

off_more : (n i : ℕ) (rest : List ℕ) (one other : List Bool) (b : Bool) → AgreeOff n rest one (set other i b) → AgreeOff n (i ∷ rest) one other
off_more n i rest one other b off k lt =
    elim (cases_eq k i) as (λ _. IsAmong k (i ∷ rest) ⊎ (bit_of one k ≡ bit_of other k)) [
      | inl e ↦ inl (inl e)
      | inr ne ↦ elim (off k lt) as (λ _. IsAmong k (i ∷ rest) ⊎ (bit_of one k ≡ bit_of other k)) [
        | inl among ↦ inl (inr among)
        | inr same ↦ inr (same ∙ get_or-set_other other i k b false ne)
      ]
    ]

own_bit : (n i : ℕ) (rest : List ℕ) (one other : List Bool) (b : Bool) → length other ≡ n → i < n → AllByRecursion (λ k. i ≢ k) rest
    → AgreeOff n rest one (set other i b) → bit_of one i ≡ b
own_bit n i rest one other b size inside apart off = elim (off i inside) as (λ _. bit_of one i ≡ b) [
  | inl among ↦ absurd (all_among (λ k. i ≢ k) rest apart i among refl)
  | inr same ↦ same ∙ get_or-set_same other i b false (omega (arith, inside, size))
]

-- ---- the search

module _ (n : ℕ) (P : List Bool → Type 0) (decide : (v : List Bool) → P v ⊎ (¬ P v)) where
  pub record Least (order : List ℕ) (v : List Bool) : Type 0 where
    pub input : List Bool
    pub size : length input ≡ n
    pub off : AgreeOff n order input v
    pub fails : ¬ P input
    pub least : (other : List Bool) → length other ≡ n → AgreeOff n order other v → IsBefore order other input → P other

  abbrev Everywhere : List ℕ → List Bool → Type 0
  Everywhere order v = (other : List Bool) → length other ≡ n → AgreeOff n order other v → P other

  no_variable : (v : List Bool) → length v ≡ n → Everywhere [] v ⊎ Least [] v
  no_variable v size = elim (decide v) as (λ _. Everywhere [] v ⊎ Least [] v) [
    | inl holds ↦ inl (λ other size2 off.
        let same : other ≡ v = same_bits n other v size2 size
        (λ i lt. elim (off i lt) as (λ _. bit_of other i ≡ bit_of v i) [ inl none ↦ absurd none | inr e ↦ e ]) in
        subst P (sym same) holds)
    | inr fails ↦ inr (record {
      input = v;
      size = size;
      off = λ i lt. inr refl;
      fails = fails;
      least = λ other size2 off b. absurd (none_before b.before b.at b.behind b.cut);
    })
  ]

  -- the least behind a bit, where P holds of what has another bit and comes before
  with_bit : (i : ℕ) (rest : List ℕ) (v : List Bool) (b : Bool) → length v ≡ n → i < n → AllByRecursion (λ k. i ≢ k) rest
      → ((other : List Bool) → length other ≡ n → AgreeOff n (i ∷ rest) other v → bit_of other i ≡ false → b ≡ true → P other)
      → Least rest (set v i b) → Least (i ∷ rest) v
  with_bit i rest v b size inside apart lower found =
      let bit : bit_of found.input i ≡ b = own_bit n i rest found.input v b size inside apart found.off in
      record {
        input = found.input;
        size = found.size;
        off = off_more n i rest found.input v b found.off;
        fails = found.fails;
        least = λ other size2 off before. elim (before_cases i rest other found.input before) as (λ _. P other) [
          | inl first ↦ lower other size2 off first.0 (sym bit ∙ first.1)
          | inr behind ↦ found.least other size2 (off_fixed n i rest other v b size inside (behind.0 ∙ bit) off) behind.1
        ];
      }

  both_ways : (i : ℕ) (rest : List ℕ) (v : List Bool) → length v ≡ n → i < n → Everywhere rest (set v i false) → Everywhere rest (set v i true)
      → Everywhere (i ∷ rest) v
  both_ways i rest v size inside nones ones other size2 off = elim (cases_Bool (bit_of other i)) as (λ _. P other) [
    | inl t ↦ ones other size2 (off_fixed n i rest other v true size inside t off)
    | inr f ↦ nones other size2 (off_fixed n i rest other v false size inside f off)
  ]

  pub everywhere_or_least : (order : List ℕ) (v : List Bool) → length v ≡ n → AreDifferent order → AllByRecursion (λ i. i < n) order
      → Everywhere order v ⊎ Least order v
  everywhere_or_least [] v size different inside = no_variable v size
  everywhere_or_least (i ∷ rest) v size different inside =
      elim (everywhere_or_least rest (set v i false) (length-set v i false ∙ size) different.1 inside.1)
      as (λ _. Everywhere (i ∷ rest) v ⊎ Least (i ∷ rest) v) [
        | inr found ↦ inr (with_bit i rest v false size inside.0 different.0 (λ other size2 off none one. absurd (true≢false (sym one))) found)
        | inl nones ↦ elim (everywhere_or_least rest (set v i true) (length-set v i true ∙ size) different.1 inside.1)
            as (λ _. Everywhere (i ∷ rest) v ⊎ Least (i ∷ rest) v) [
              | inr found ↦ inr (with_bit i rest v true size inside.0 different.0
                  (λ other size2 off none one. nones other size2 (off_fixed n i rest other v false size inside.0 none off)) found)
              | inl ones ↦ inl (both_ways i rest v size inside.0 nones ones)
            ]
      ]

-- ---- the law

met_or_not : (a b : Bool) → (a ≡ b) ⊎ (¬ (a ≡ b))
met_or_not true true = inl refl
met_or_not true false = inr (λ e. cc)
met_or_not false true = inr (λ e. cc)
met_or_not false false = inl refl

holds_or_not : (t : TapeView) (claim : Claim) (v : List Bool) → Holds t v claim ⊎ (¬ Holds t v claim)
holds_or_not t claim v = met_or_not (bit_at v (written_by v [] t.entries) claim.of) (claimed claim.kind)

pub one_least : (t : TapeView) (claim : Claim) (one other : List Bool) → IsLeastBreaking t claim one → IsLeastBreaking t claim other → other ≡ one
one_least t claim one other a b =
    let n : ℕ = sum t.params in
    let order : List ℕ = variable_order t.params in
    elim (compared order other one) as (λ _. other ≡ one) [
      | inl same ↦ same_bits n other one b.is_input a.is_input
          (λ i lt. all_among (λ k. bit_of other k ≡ bit_of one k) order same i ((is_order t.params).all i lt))
      | inr differ ↦ elim differ as (λ _. other ≡ one) [
        | inl first ↦ absurd (b.fails (a.least other b.is_input first))
        | inr second ↦ absurd (a.fails (b.least one a.is_input second))
      ]
    ]

pub claims_are_settled : ClaimsAreSettled
claims_are_settled t claim =
    let n : ℕ = sum t.params in
    let order : List ℕ = variable_order t.params in
    let is : IsOrderOf n order = is_order t.params in
    let start : List Bool = zeros n in
    let any : (v : List Bool) → AgreeOff n order v start = λ v i lt. inl (is.all i lt) in
    elim (everywhere_or_least n (λ v. Holds t v claim) (holds_or_not t claim) order start (length-replicate n false) is.different is.inputs)
    as (λ _. HoldsEverywhere t claim ⊎ HasOneLeastBreaking t claim) [
      | inl all ↦ inl (λ input size. all input size (any input))
      | inr found ↦
          let least : IsLeastBreaking t claim found.input = record {
            is_input = found.size;
            fails = found.fails;
            least = λ other size before. found.least other size (any other) before;
          } in
          inr (record { input = found.input; is = least; only = λ other there. one_least t claim found.input other least there })
    ]
