-- What the index of lines tells of the flips in the slots.
use Rattle.std.proofs.Common.{◌≡◌, ◌≢◌, ℕ, zero, suc, ◌+◌, ◌-◌, ◌<◌, ◌≤◌, max, ◌⊎◌, inl, inr, Bool, true, false, not, ◌&&◌, ◌||◌, eqb, cond, Option, Some, None}
use Rattle.std.proofs.Common.{Result, Ok, Err, List, [], ◌∷◌, ◌++◌}
use Rattle.std.proofs.Common.{length, take, drop, set, get_or, refl, sym, ap, ◌∙◌, subst, add-one, arith}
use Rattle.std.specs.List.{AllByRecursion}
use Rattle.std.specs.Global.{Vec}
use Rattle.std.specs.Option.{is_some}
use Rattle.std.specs.Result.{OnOk}
use Rattle.std.proofs.lemmas.Bool.{cases_eq, cases_lt, cases_order, both_ways, false_from_ne_true, or_from, or_left, or_right, eqb-false, eq-eqb, ne_eqb}
use Rattle.std.proofs.lemmas.List.{get_or_append_left, get_or_push, get_or_past, get_or-set_same, get_or-set_other, length_push, length-set, length-map}
use Rattle.std.proofs.lemmas.List.{map-set, get_or-map, take_more, take_all, take-append-drop, drop_more}
use Rattle.list_facts.specs.Lists.{IsAmong, IsRising, AreDifferent}
use Rattle.list_facts.proofs.OrderLemmas.{AreDifferent-left, AreDifferent-parts}
use Rattle.list_facts.proofs.AllLemmas.{AllByRecursion-left, AllByRecursion-right, AllByRecursion-push, AllByRecursion-weaker}
use Rattle.list_facts.proofs.AmongLemmas.{among_left, among_right, among_append, all_among}
use Rattle.mct_circuit.specs.Gates.{IsGateOn}
use Rattle.mct_circuit.specs.Sizes.{has_line}
use Rattle.mct_circuit.proofs.ReversalLemmas.{lines_of-flip_of}
use Rattle.flip_lists.specs.declared.flip.Flip.{Flip}
use Rattle.flip_lists.specs.Flips.{are_alike, are_free, controls_of, gate_of}
use Rattle.flip_lists.specs.inside.Index.{slot_at, with_slot, flips_below, flips_in, is_like_in, ArePlaces, IsThere, IsBehindLast, FindsLast, contents}
use Rattle.flip_lists.specs.inside.Index.{places_at, AreIndexed}
use Rattle.flip_lists.specs.inside.Index.{has_target, has_control, IsPartner, HasNoPartner, HoldLikes, ArePushed, AreIndexes}
use Rattle.flip_lists.specs.Settling.{onto, without, or_with, with_flip}
use Rattle.flip_lists.proofs.FlipLemmas.{alike_says, among_has, among_lacks, free_from}
use Rattle.flip_lists.proofs.SettlingLemmas.{without-meets, without-passes, without-stops}

-- ---- slots

never_some : {A : Type 0} (x : A) → None ≢ Some x
never_some x e = cc

pub slot_within : (slots : List (Option Flip)) (place : ℕ) (flip : Flip) → slot_at slots place ≡ Some flip → place < length slots
slot_within slots place flip is = elim (cases_lt place (length slots)) [
  | inl lt ↦ lt
  | inr past ↦ absurd (never_some flip (sym (get_or_past slots place None past) ∙ is))
]

pub slot-push : (slots : List (Option Flip)) (new : Option Flip) (place : ℕ) (flip : Flip) → slot_at (slots ++ new ∷ []) place ≡ Some flip
    → (slot_at slots place ≡ Some flip) ⊎ ((place ≡ length slots) × (new ≡ Some flip))
slot-push slots new place flip is = elim (cases_order place (length slots)) [
  | inl e ↦ inr (e, sym (get_or_push slots new None place (sym e)) ∙ is)
  | inr other ↦ elim other as (λ _. (slot_at slots place ≡ Some flip) ⊎ ((place ≡ length slots) × (new ≡ Some flip))) [
    | inl lt ↦ inl (sym (get_or_append_left slots (new ∷ []) None place lt) ∙ is)
    | inr gt ↦ absurd (never_some flip (sym (get_or_past (slots ++ new ∷ []) place None (omega (arith, length_push slots new))) ∙ is))
  ]
]

pub slot-emptied : (slots : List (Option Flip)) (emptied place : ℕ) (flip : Flip) → emptied < length slots
    → slot_at (set slots emptied None) place ≡ Some flip → (place ≢ emptied) × (slot_at slots place ≡ Some flip)
slot-emptied slots emptied place flip inside is = elim (cases_eq place emptied) [
  | inl e ↦ absurd (never_some flip (sym (ap (slot_at (set slots emptied None)) e ∙ get_or-set_same slots emptied None None inside) ∙ is))
  | inr ne ↦ (ne, sym (get_or-set_other slots emptied place None None ne) ∙ is)
]

-- ---- the flips in the slots

flips_below-same : (these those : List (Option Flip)) (n : ℕ) → ((place : ℕ) → place < n → slot_at these place ≡ slot_at those place)
    → flips_below these n ≡ flips_below those n
flips_below-same these those zero same = refl
flips_below-same these those (suc n) same =
    ap (λ s. with_slot s (flips_below these n)) (same n (omega arith))
    ∙ ap (with_slot (slot_at those n)) (flips_below-same these those n (λ place lt. same place (omega (arith, lt))))

pub flips_in-push : (slots : List (Option Flip)) (flip : Flip) → flips_in (slots ++ Some flip ∷ []) ≡ flip ∷ flips_in slots
flips_in-push slots flip =
    ap (flips_below (slots ++ Some flip ∷ [])) (length_push slots (Some flip) ∙ add-one (length slots))
    ∙ ap (λ s. with_slot s (flips_below (slots ++ Some flip ∷ []) (length slots))) (get_or_push slots (Some flip) None (length slots) refl)
    ∙ ap (λ l. flip ∷ l) (flips_below-same (slots ++ Some flip ∷ []) slots (length slots) (λ place lt. get_or_append_left slots (Some flip ∷ []) None place lt))

-- a flip like this one is there, and what is behind it is free and not like it
taken_from : (slots : List (Option Flip)) (flip other : Flip) (place : ℕ) → place < length slots → slot_at slots place ≡ Some other
    → are_alike flip other ≡ true
    → ((later : ℕ) (one : Flip) → place < later → slot_at slots later ≡ Some one → (are_alike flip one ≡ false) × (are_free flip one ≡ true))
    → (n : ℕ) → place < n → without flip (flips_below slots n) ≡ Some (flips_below (set slots place None) n)
taken_from slots flip other place inside is alike behind zero lt = absurd (omega (arith, lt))
taken_from slots flip other place inside is alike behind (suc n) lt = elim (cases_eq n place) [
  | inl e ↦
      ap (λ s. without flip (with_slot s (flips_below slots n))) (ap (slot_at slots) e ∙ is)
      ∙ without-meets flip other (flips_below slots n) alike
      ∙ ap Some (flips_below-same slots (set slots place None) n (λ q below. sym (get_or-set_other slots place q None None (λ same. absurd (omega
      (arith, e, same, below))))))
      ∙ sym (ap (λ s. Some (with_slot s (flips_below (set slots place None) n))) (ap (slot_at (set slots place None)) e
      ∙ get_or-set_same slots place None None inside))
  | inr ne ↦
      let below : place < n = let other : n ≢ place = ne in omega arith in
      let rest = taken_from slots flip other place inside is alike behind n below in
      by (slot_at slots n) refl rest (behind n) below ne
]
  where
    by : (s : Option Flip) → slot_at slots n ≡ s → without flip (flips_below slots n) ≡ Some (flips_below (set slots place None) n)
        → ((one : Flip) → place < n → slot_at slots n ≡ Some one → (are_alike flip one ≡ false) × (are_free flip one ≡ true)) → place < n → n ≢ place
        → without flip (with_slot (slot_at slots n) (flips_below slots n)) ≡ Some (with_slot (slot_at (set slots place None) n) (flips_below
        (set slots place None) n))
    by None at rest free below ne =
        ap (λ s. without flip (with_slot s (flips_below slots n))) at ∙ rest
        ∙ sym (ap (λ s. Some (with_slot s (flips_below (set slots place None) n))) (get_or-set_other slots place n None None ne ∙ at))
    by (Some one) at rest free below ne =
        let apart = free one below at in
        ap (λ s. without flip (with_slot s (flips_below slots n))) at
        ∙ without-passes flip one (flips_below slots n) apart.0 apart.1 ∙ ap (onto one) rest
        ∙ sym (ap (λ s. Some (with_slot s (flips_below (set slots place None) n))) (get_or-set_other slots place n None None ne ∙ at))

-- nothing like this flip is at the bound or behind it, where all is free of it
nothing_from : (slots : List (Option Flip)) (flip : Flip) (bound : ℕ)
    → ((place : ℕ) (one : Flip) → bound ≤ place → slot_at slots place ≡ Some one → (are_alike flip one ≡ false) × (are_free flip one ≡ true))
    → without flip (flips_below slots bound) ≡ None → (n : ℕ) → bound ≤ n → without flip (flips_below slots n) ≡ None
nothing_from slots flip bound behind stopped zero le = let none : bound ≡ 0 = omega (arith, le) in subst (λ b. without flip
    (flips_below slots b) ≡ None) none stopped
nothing_from slots flip bound behind stopped (suc n) le = elim (cases_eq bound (suc n)) [
  | inl e ↦ subst (λ b. without flip (flips_below slots b) ≡ None) e stopped
  | inr ne ↦
      let below : bound ≤ n = let other : bound ≢ suc n = ne in omega arith in
      by (slot_at slots n) refl (nothing_from slots flip bound behind stopped n below) (behind n) below
]
  where
    by : (s : Option Flip) → slot_at slots n ≡ s → without flip (flips_below slots n) ≡ None
        → ((one : Flip) → bound ≤ n → slot_at slots n ≡ Some one → (are_alike flip one ≡ false) × (are_free flip one ≡ true)) → bound ≤ n
        → without flip (with_slot (slot_at slots n) (flips_below slots n)) ≡ None
    by None at rest free below = ap (λ s. without flip (with_slot s (flips_below slots n))) at ∙ rest
    by (Some one) at rest free below =
        let apart = free one below at in
        ap (λ s. without flip (with_slot s (flips_below slots n))) at
        ∙ without-passes flip one (flips_below slots n) apart.0 apart.1 ∙ ap (onto one) rest

-- ---- a flip whose bound is known

-- a flip whose target is no control of it is free of those like it
alike_is_free : (flip other : Flip) → has_line flip.target (controls_of flip) ≡ false → are_alike flip other ≡ true → are_free flip other ≡ true
alike_is_free flip other apart alike =
    let says = alike_says flip other alike in
    free_from flip other (record {
      first = among_lacks flip.target (controls_of other) (controls_of flip) says.back apart;
      second = subst (λ t. has_line t (controls_of flip) ≡ false) says.target apart;
    })

is_free : (flip other : Flip) → not (are_free flip other) ≡ false → are_free flip other ≡ true
is_free flip other e = by (are_free flip other) e
  where
    by : (b : Bool) → not b ≡ false → b ≡ true
    by true e = refl
    by false e = sym e

is_blocked : (flip other : Flip) → not (are_free flip other) ≡ true → are_free flip other ≡ false
is_blocked flip other e = by (are_free flip other) e
  where
    by : (b : Bool) → not b ≡ true → b ≡ false
    by true e = sym e
    by false e = refl

stopped_at : (slots : List (Option Flip)) (flip : Flip) (bound : ℕ) → has_line flip.target (controls_of flip) ≡ false
    → IsBehindLast slots (λ other. not (are_free flip other)) bound → without flip (flips_below slots bound) ≡ None
stopped_at slots flip bound apart is = elim is.last [
  | inl none ↦ ap (λ b. without flip (flips_below slots b)) none
  | inr there ↦
      let blocked = is_blocked flip there.flip there.passes in
      let differ : are_alike flip there.flip ≡ false =
      false_from_ne_true (are_alike flip there.flip) (λ alike. both_ways (are_free flip there.flip) blocked (alike_is_free flip there.flip apart alike)) in
      ap (λ b. without flip (flips_below slots b)) (there.at ∙ add-one there.place)
      ∙ ap (λ s. without flip (with_slot s (flips_below slots there.place))) there.is
      ∙ without-stops flip there.flip (flips_below slots there.place) differ blocked
]

pub put_out : (slots : List (Option Flip)) (flip : Flip) (bound place : ℕ) → IsBehindLast slots (λ other. not (are_free flip other)) bound
    → IsPartner slots flip bound place → flips_in (set slots place None) ≡ with_flip flip (flips_in slots)
put_out slots flip bound place is partner =
    let inside = slot_within slots place partner.other partner.is in
    ap (flips_below (set slots place None)) (length-set slots place None)
    ∙ sym (ap (or_with flip (flips_in slots)) (taken_from slots flip partner.other place inside partner.is partner.alike
    (λ later one lt at. let far : bound ≤ later = let near = partner.within in omega arith in
    (partner.latest later one lt at, is_free flip one (is.none later one far at))) (length slots) inside))

pub put_behind : (slots : List (Option Flip)) (flip : Flip) (bound : ℕ) → has_line flip.target (controls_of flip) ≡ false
    → IsBehindLast slots (λ other. not (are_free flip other)) bound → HasNoPartner slots flip bound
    → flips_in (slots ++ Some flip ∷ []) ≡ with_flip flip (flips_in slots)
put_behind slots flip bound apart is alone =
    let within : bound ≤ length slots = elim is.last [
      | inl none ↦ omega (arith, none)
      | inr there ↦ omega (arith, there.at, slot_within slots there.place there.flip there.is)
    ] in
    flips_in-push slots flip
    ∙ sym (ap (or_with flip (flips_in slots)) (nothing_from slots flip bound
    (λ place one le at. (alone.none place one le at, is_free flip one (is.none place one le at)))
    (stopped_at slots flip bound apart is) (length slots) within))

-- ---- lists of places

rising_front : (xs ys : List ℕ) → IsRising (xs ++ ys) → IsRising xs
rising_front [] ys up = tt
rising_front (x ∷ xs) ys up = (AllByRecursion-left (λ y. x < y) xs ys up.0, rising_front xs ys up.1)

rising_last : (xs : List ℕ) (last q : ℕ) → IsRising (xs ++ last ∷ []) → IsAmong q (xs ++ last ∷ []) → q ≤ last
rising_last [] last q up among = elim among as (λ _. q ≤ last) [ inl e ↦ omega (arith, e) | inr none ↦ absurd none ]
rising_last (x ∷ xs) last q up among = elim among as (λ _. q ≤ last) [
  | inl e ↦ let lt = all_among (λ y. x < y) (xs ++ last ∷ []) up.0 last (among_right last xs (last ∷ []) (inl refl)) in omega (arith, e, lt)
  | inr later ↦ rising_last xs last q up.1 later
]

rising_push : (xs : List ℕ) (n : ℕ) → IsRising xs → AllByRecursion (λ x. x < n) xs → IsRising (xs ++ n ∷ [])
rising_push [] n up low = (tt, tt)
rising_push (x ∷ xs) n up low = (AllByRecursion-push (λ y. x < y) xs n up.0 low.0, rising_push xs n up.1 low.1)

pub none_there : (slots : List (Option Flip)) (test : Flip → Bool) → ArePlaces slots test [] → IsBehindLast slots test 0
none_there slots test are = record {
  none = λ place flip le is. false_from_ne_true (test flip) (λ passes. absurd (are.all place flip is passes));
  last = inl refl;
}

pub last_there : (slots : List (Option Flip)) (test : Flip → Bool) (front : List ℕ) (last : ℕ) (flip : Flip) → slot_at slots last ≡ Some flip
    → ArePlaces slots test (front ++ last ∷ []) → IsBehindLast slots test (last + 1)
last_there slots test front last flip there are = record {
  none = λ place other le is. false_from_ne_true (test other)
      (λ passes. let most = rising_last front last place are.rising (are.all place other is passes) in absurd (omega (arith, most, le)));
  last = inr (record { place = last; flip = flip; at = refl; is = there; passes = are.pass last flip (among_right last front (last ∷ []) (inl refl)) there });
}

pub last_passed_over : (slots : List (Option Flip)) (test : Flip → Bool) (front : List ℕ) (last : ℕ) → slot_at slots last ≡ None
    → ArePlaces slots test (front ++ last ∷ []) → ArePlaces slots test front
last_passed_over slots test front last empty are = record {
  rising = rising_front front (last ∷ []) are.rising;
  below = AllByRecursion-left (λ place. place < length slots) front (last ∷ []) are.below;
  pass = λ place flip among is. are.pass place flip (among_left place front (last ∷ []) among) is;
  all = λ place flip is passes. elim (among_append place front (last ∷ []) (are.all place flip is passes)) as (λ _. IsAmong place front) [
    | inl early ↦ early
    | inr at ↦ elim at as (λ _. IsAmong place front) [
      | inl e ↦ absurd (never_some flip (sym empty ∙ ap (slot_at slots) (sym e) ∙ is))
      | inr none ↦ absurd none
    ]
  ];
}

pub places-emptied : (slots : List (Option Flip)) (test : Flip → Bool) (places : List ℕ) (emptied : ℕ) → emptied < length slots
    → ArePlaces slots test places → ArePlaces (set slots emptied None) test places
places-emptied slots test places emptied inside are = record {
  rising = are.rising;
  below = subst (λ n. AllByRecursion (λ place. place < n) places) (sym (length-set slots emptied None)) are.below;
  pass = λ place flip among is. are.pass place flip among (slot-emptied slots emptied place flip inside is).1;
  all = λ place flip is passes. are.all place flip (slot-emptied slots emptied place flip inside is).1 passes;
}

pub places-pushed : (slots : List (Option Flip)) (test : Flip → Bool) (places : List ℕ) (new : Flip) → test new ≡ true
    → ArePlaces slots test places → ArePlaces (slots ++ Some new ∷ []) test (places ++ length slots ∷ [])
places-pushed slots test places new passes are = record {
  rising = rising_push places (length slots) are.rising are.below;
  below = AllByRecursion-push (λ place. place < length (slots ++ Some new ∷ [])) places (length slots)
      (AllByRecursion-weaker (λ place. place < length slots) (λ place. place < length (slots ++ Some new ∷ [])) (λ place lt. omega
      (arith, lt, length_push slots (Some new))) places are.below)
      (omega (arith, length_push slots (Some new)));
  pass = λ place flip among is. elim (slot-push slots (Some new) place flip is) [
    | inr here ↦ let same : new ≡ flip = let e = here.1 in cc in subst (λ f. test f ≡ true) same passes
    | inl early ↦ elim (among_append place places (length slots ∷ []) among) as (λ _. test flip ≡ true) [
      | inl old ↦ are.pass place flip old early
      | inr at ↦ elim at as (λ _. test flip ≡ true) [
        | inl e ↦ absurd (let lt = slot_within slots place flip early in omega (arith, e, lt))
        | inr none ↦ absurd none
      ]
    ]
  ];
  all = λ place flip is holds. elim (slot-push slots (Some new) place flip is) as (λ _. IsAmong place (places ++ length slots ∷ [])) [
    | inr here ↦ among_right place places (length slots ∷ []) (inl here.0)
    | inl early ↦ among_left place places (length slots ∷ []) (are.all place flip early holds)
  ];
}

pub places-other : (slots : List (Option Flip)) (test : Flip → Bool) (places : List ℕ) (new : Flip) → test new ≡ false
    → ArePlaces slots test places → ArePlaces (slots ++ Some new ∷ []) test places
places-other slots test places new fails are = record {
  rising = are.rising;
  below = AllByRecursion-weaker (λ place. place < length slots) (λ place. place < length (slots ++ Some new ∷ [])) (λ place lt. omega
      (arith, lt, length_push slots (Some new))) places are.below;
  pass = λ place flip among is. elim (slot-push slots (Some new) place flip is) [
    | inr here ↦ absurd (let lt = all_among (λ p. p < length slots) places are.below place among in omega (arith, here.0, lt))
    | inl early ↦ are.pass place flip among early
  ];
  all = λ place flip is holds. elim (slot-push slots (Some new) place flip is) as (λ _. IsAmong place places) [
    | inr here ↦ absurd (both_ways (test new) fails (let same : new ≡ flip = let e = here.1 in cc in subst (λ f. test f ≡ true) (sym same) holds))
    | inl early ↦ are.all place flip early holds
  ];
}

-- ---- bounds together

-- what is behind the last flip of a test is behind one of any test that this one passes
passes_more : (slots : List (Option Flip)) (these those : Flip → Bool) (bound greatest : ℕ) → greatest ≡ bound
    → ((flip : Flip) → these flip ≡ true → those flip ≡ true) → (bound ≡ 0) ⊎ IsThere slots these bound → (greatest ≡ 0) ⊎ IsThere slots those greatest
passes_more slots these those bound greatest same more (inl none) = inl (same ∙ none)
passes_more slots these those bound greatest same more (inr there) = inr (record {
  place = there.place;
  flip = there.flip;
  at = same ∙ there.at;
  is = there.is;
  passes = more there.flip there.passes;
})

pub bound-same : (slots : List (Option Flip)) (these those : Flip → Bool) (bound : ℕ) → ((flip : Flip) → these flip ≡ those flip)
    → IsBehindLast slots these bound → IsBehindLast slots those bound
bound-same slots these those bound same is = record {
  none = λ place flip le at. sym (same flip) ∙ is.none place flip le at;
  last = passes_more slots these those bound bound refl (λ flip passes. sym (same flip) ∙ passes) is.last;
}

pub bound-either : (slots : List (Option Flip)) (these those : Flip → Bool) (one other : ℕ) → IsBehindLast slots these one → IsBehindLast slots those other
    → IsBehindLast slots (λ flip. these flip || those flip) (max one other)
bound-either slots these those one other first second =
    let either : Flip → Bool = λ flip. these flip || those flip in
    record {
      none = λ place flip le at.
          or_from (these flip) (those flip) (first.none place flip (omega (arith, le)) at) (second.none place flip (omega (arith, le)) at);
      last = elim (cases_lt one other) as (λ _. (max one other ≡ 0) ⊎ IsThere slots either (max one other)) [
        | inl lt ↦ passes_more slots those either other (max one other) (omega arith) (λ flip. or_right (these flip) (those flip)) second.last
        | inr le ↦ passes_more slots these either one (max one other) (omega arith) (λ flip. or_left (these flip) (those flip)) first.last
      ];
    }

-- ---- the places of a line

pub length-contents : (places : List (Vec ℕ)) → length (contents places) ≡ length places
length-contents places = length-map places (λ (v : Vec ℕ). v.items)

pub places_at-set : (places : List (Vec ℕ)) (line : ℕ) (v : Vec ℕ) → line < length places → places_at (set places line v) line ≡ v.items
places_at-set places line v lt =
    ap (λ l. get_or l line []) (map-set (λ (u : Vec ℕ). u.items) places line v)
    ∙ get_or-set_same (contents places) line v.items [] (omega (arith, length-contents places))

pub contents-set : (places : List (Vec ℕ)) (line : ℕ) (v : Vec ℕ) → line < length places
    → contents (set places line v) ≡ set (contents places) line (places_at (set places line v) line)
contents-set places line v lt =
    map-set (λ (u : Vec ℕ). u.items) places line v ∙ ap (set (contents places) line) (sym (places_at-set places line v lt))

-- the list of places that was read
pub places_at-read : (places : List (Vec ℕ)) (line : ℕ) (d : Vec ℕ) → line < length places → d ≡ get_or places line d → places_at places line ≡ d.items
places_at-read places line d lt read =
    get_or-map (λ (u : Vec ℕ). u.items) places line d [] lt ∙ ap (λ (u : Vec ℕ). u.items) (sym read)

pub contents-push : (places : List (Vec ℕ)) (line place : ℕ) (v d : Vec ℕ) → line < length places → d ≡ get_or places line d → v.items ≡ d.items ++ place ∷ []
    → contents (set places line v) ≡ set (contents places) line (places_at places line ++ place ∷ [])
contents-push places line place v d lt read pushed =
    map-set (λ (u : Vec ℕ). u.items) places line v
    ∙ ap (set (contents places) line) (pushed ∙ ap (λ l. l ++ place ∷ []) (sym (places_at-read places line d lt read)))

pub same_length : (old new : List (Vec ℕ)) (line : ℕ) (xs : List ℕ) → contents new ≡ set (contents old) line xs → length new ≡ length old
same_length old new line xs e =
    sym (length-contents new) ∙ ap length e ∙ length-set (contents old) line xs ∙ length-contents old

pub changed_at : (old new : List (Vec ℕ)) (line : ℕ) (xs : List ℕ) → contents new ≡ set (contents old) line xs → line < length old → places_at new line ≡ xs
changed_at old new line xs e lt = ap (λ l. get_or l line []) e ∙ get_or-set_same (contents old) line xs [] (omega (arith, length-contents old))

pub kept_at : (old new : List (Vec ℕ)) (line key : ℕ) (xs : List ℕ) → contents new ≡ set (contents old) line xs → key ≢ line
    → places_at new key ≡ places_at old key
kept_at old new line key xs e ne = ap (λ l. get_or l key []) e ∙ get_or-set_other (contents old) line key xs [] ne

-- ---- the whole index

pub record Looked (slots : List (Option Flip)) (test : ℕ → Flip → Bool) (old new : List (Vec ℕ)) (line bound : ℕ) : Type 0 where
  pub indexed : AreIndexed slots test new
  pub is : IsBehindLast slots (test line) bound
  pub long : length new ≡ length old

pub looked : (slots : List (Option Flip)) (test : ℕ → Flip → Bool) (old new : List (Vec ℕ)) (line bound : ℕ) → AreIndexed slots test old → line < length old
    → FindsLast slots (places_at old line) (places_at new line) bound → contents new ≡ set (contents old) line (places_at new line)
    → Looked slots test old new line bound
looked slots test old new line bound are lt finds e =
    let long = same_length old new line (places_at new line) e in
    record {
      indexed = record {
        each = λ key below. elim (cases_eq key line) as (λ _. ArePlaces slots (test key) (places_at new key)) [
          | inl same ↦ subst (λ k. ArePlaces slots (test k) (places_at new k)) (sym same) (finds.kept (test line) (are.each line lt))
          | inr ne ↦ subst (ArePlaces slots (test key)) (sym (kept_at old new line key (places_at new line) e ne)) (are.each key (omega (arith, below, long)))
        ];
      };
      is = finds.is (test line) (are.each line lt);
      long = long;
    }

indexed-emptied : (slots : List (Option Flip)) (test : ℕ → Flip → Bool) (places : List (Vec ℕ)) (emptied : ℕ) → emptied < length slots
    → AreIndexed slots test places → AreIndexed (set slots emptied None) test places
indexed-emptied slots test places emptied inside are =
    record { each = λ line lt. places-emptied slots (test line) (places_at places line) emptied inside (are.each line lt) }

pub emptied : (n : ℕ) (slots : List (Option Flip)) (targets controls : List (Vec ℕ)) (place : ℕ) → place < length slots → AreIndexes n slots targets controls
    → AreIndexes n (set slots place None) targets controls
emptied n slots targets controls place inside are = record {
  of_targets = indexed-emptied slots has_target targets place inside are.of_targets;
  of_controls = indexed-emptied slots has_control controls place inside are.of_controls;
  target_lines = are.target_lines;
  control_lines = are.control_lines;
}

targets-pushed : (slots : List (Option Flip)) (flip : Flip) (old new : List (Vec ℕ)) → AreIndexed slots has_target old → flip.target < length old
    → contents new ≡ set (contents old) flip.target (places_at old flip.target ++ length slots ∷ []) → AreIndexed (slots ++ Some flip ∷ []) has_target new
targets-pushed slots flip old new are inside e = record {
  each = λ line lt. elim (cases_eq line flip.target) as (λ _. ArePlaces (slots ++ Some flip ∷ []) (has_target line) (places_at new line)) [
    | inl same ↦ subst (λ k. ArePlaces (slots ++ Some flip ∷ []) (has_target k) (places_at new k)) (sym same)
        (subst (ArePlaces (slots ++ Some flip ∷ []) (has_target flip.target)) (sym (changed_at old new flip.target
        (places_at old flip.target ++ length slots ∷ []) e inside))
        (places-pushed slots (has_target flip.target) (places_at old flip.target) flip (eq-eqb flip.target flip.target refl) (are.each flip.target inside)))
    | inr ne ↦ subst (ArePlaces (slots ++ Some flip ∷ []) (has_target line))
        (sym (kept_at old new flip.target line (places_at old flip.target ++ length slots ∷ []) e ne))
        (places-other slots (has_target line) (places_at old line) flip (ne_eqb flip.target line (λ same. ne (sym same)))
        (are.each line (omega (arith, lt, same_length old new flip.target (places_at old flip.target ++ length slots ∷ []) e))))
  ];
}

controls-pushed : (slots : List (Option Flip)) (flip : Flip) (old new : List (Vec ℕ)) → AreIndexed slots has_control old
    → ArePushed (controls_of flip) (length slots) old new → AreIndexed (slots ++ Some flip ∷ []) has_control new
controls-pushed slots flip old new are pushed = record {
  each = λ line lt.
      let below : line < length old = omega (arith, lt, pushed.long) in
      subst (ArePlaces (slots ++ Some flip ∷ []) (has_control line)) (sym (pushed.each line below))
      (by line (has_line line (controls_of flip)) refl (are.each line below));
}
  where
    by : (line : ℕ) (has : Bool) → has_line line (controls_of flip) ≡ has → ArePlaces slots (has_control line) (places_at old line)
        → ArePlaces (slots ++ Some flip ∷ []) (has_control line) (cond has (places_at old line ++ length slots ∷ []) (places_at old line))
    by line true e places = places-pushed slots (has_control line) (places_at old line) flip e places
    by line false e places = places-other slots (has_control line) (places_at old line) flip e places

pub appended : (n : ℕ) (slots now : List (Option Flip)) (flip : Flip) (targets controls new_targets new_controls : List (Vec ℕ))
    → AreIndexes n slots targets controls
    → flip.target < n → now ≡ slots ++ Some flip ∷ []
    → contents new_targets ≡ set (contents targets) flip.target (places_at targets flip.target ++ length slots ∷ [])
    → ArePushed (controls_of flip) (length slots) controls new_controls → AreIndexes n now new_targets new_controls
appended n slots now flip targets controls new_targets new_controls are inside is of_target pushed =
    subst (λ s. AreIndexes n s new_targets new_controls) (sym is) (record {
      of_targets = targets-pushed slots flip targets new_targets are.of_targets (omega (arith, inside, are.target_lines)) of_target;
      of_controls = controls-pushed slots flip controls new_controls are.of_controls pushed;
      target_lines = same_length targets new_targets flip.target (places_at targets flip.target ++ length slots ∷ []) of_target ∙ are.target_lines;
      control_lines = pushed.long ∙ are.control_lines;
    })

-- ---- the loops

cut_before_last : (xs : List ℕ) (n last : ℕ) → n ≡ length xs → 0 < n → last ≡ get_or xs (n - 1) last → xs ≡ take (n - 1) xs ++ last ∷ []
cut_before_last xs n last long some e =
    sym (take_all (n - 1 + 1) xs (omega (arith, long, some))) ∙ take_more xs (n - 1) last (omega (arith, long, some))
    ∙ ap (λ x. take (n - 1) xs ++ x ∷ []) (sym e)

record HasFlip (o : Option Flip) : Type 0 where
  flip : Flip
  is : o ≡ Some flip

has_flip : (o : Option Flip) → true ≡ is_some o → HasFlip o
has_flip None e = cc
has_flip (Some flip) e = record { flip = flip; is = refl }

no_flip : (o : Option Flip) → false ≡ is_some o → o ≡ None
no_flip None e = refl
no_flip (Some flip) e = cc

pub finds_there : (slots : List (Option Flip)) (old now : List ℕ) (n last : ℕ) → n ≡ length now → 0 < n → last ≡ get_or now (n - 1) last
    → true ≡ is_some (slot_at slots last) → ((test : Flip → Bool) → ArePlaces slots test old → ArePlaces slots test now) → FindsLast slots old now (last + 1)
finds_there slots old now n last long some e there kept =
    let found = has_flip (slot_at slots last) there in
    record {
      kept = kept;
      is = λ test are. last_there slots test (take (n - 1) now) last found.flip found.is (subst (ArePlaces slots test)
          (cut_before_last now n last long some e) (kept test are));
    }

pub finds_none : (slots : List (Option Flip)) (old now : List ℕ) → now ≡ [] → ((test : Flip → Bool) → ArePlaces slots test old → ArePlaces slots test now)
    → FindsLast slots old now 0
finds_none slots old now e kept = record { kept = kept; is = λ test are. none_there slots test (subst (ArePlaces slots test) e (kept test are)) }

pub passes_last : (slots : List (Option Flip)) (old now left : List ℕ) (n last : ℕ) → n ≡ length now → 0 < n → last ≡ get_or now (n - 1) last
    → false ≡ is_some (slot_at slots last) → left ≡ take (n - 1) now → AllByRecursion (λ place. place < length slots) now
    → ((test : Flip → Bool) → ArePlaces slots test old → ArePlaces slots test now)
    → AllByRecursion (λ place. place < length slots) left × ((test : Flip → Bool) → ArePlaces slots test old → ArePlaces slots test left)
passes_last slots old now left n last long some e gone is low kept =
    let cut = cut_before_last now n last long some e in (
      subst (AllByRecursion (λ place. place < length slots)) (sym is)
          (AllByRecursion-left (λ place. place < length slots) (take (n - 1) now) (last ∷ []) (subst (AllByRecursion (λ place. place < length slots)) cut low)),
      λ test are. subst (ArePlaces slots test) (sym is)
          (last_passed_over slots test (take (n - 1) now) last (no_flip (slot_at slots last) gone) (subst (ArePlaces slots test) cut (kept test are))),
    )

-- where a flip like this one may be
like_is_among : (slots : List (Option Flip)) (flip : Flip) (places : List ℕ) (left : ℕ) → HoldLikes slots flip places
    → AllByRecursion (λ place. is_like_in flip (slot_at slots place) ≡ false) (drop left places)
    → (place : ℕ) (other : Flip) → slot_at slots place ≡ Some other → are_alike flip other ≡ true → IsAmong place (take left places)
like_is_among slots flip places left are unlike place other is alike =
    let among = are.all place other is alike in
    elim (among_append place (take left places) (drop left places) (subst (IsAmong place) (sym (take-append-drop left places)) among)) as
    (λ _. IsAmong place (take left places)) [
      | inl front ↦ front
      | inr behind ↦ absurd (both_ways (are_alike flip other)
          (ap (is_like_in flip) (sym is) ∙ all_among (λ p. is_like_in flip (slot_at slots p) ≡ false) (drop left places) unlike place behind) alike)
    ]

-- the greatest of the places before the given index
most_before : (places : List ℕ) (left q : ℕ) → IsRising places → 0 < left → left ≤ length places → IsAmong q (take left places) → q ≤ get_or places (left - 1) 0
most_before places left q up some few among =
    let last = get_or places (left - 1) 0 in
    let whole : left - 1 + 1 ≡ left = omega (arith, some) in
    let cut : take left places ≡ take (left - 1) places ++ last ∷ [] =
    ap (λ n. take n places) (sym whole) ∙ take_more places (left - 1) 0 (omega (arith, some, few)) in
    rising_last (take (left - 1) places) last q
    (subst IsRising cut (rising_front (take left places) (drop left places) (subst IsRising (sym (take-append-drop left places)) up)))
    (subst (IsAmong q) cut among)

pub none_before : (slots : List (Option Flip)) (flip : Flip) (bound : ℕ) (places : List ℕ) (left : ℕ) → HoldLikes slots flip places
    → 0 < left → left ≤ length places → AllByRecursion (λ place. is_like_in flip (slot_at slots place) ≡ false) (drop left places)
    → get_or places (left - 1) 0 < bound → HasNoPartner slots flip bound
none_before slots flip bound places left are some few unlike before = record {
  none = λ place other le is. false_from_ne_true (are_alike flip other) (λ alike.
      let most = most_before places left place are.rising some few (like_is_among slots flip places left are unlike place other is alike) in
      absurd (omega (arith, most, before, le)));
}

pub none_at_all : (slots : List (Option Flip)) (flip : Flip) (bound : ℕ) (places : List ℕ) (left : ℕ) → HoldLikes slots flip places
    → left ≡ 0 → AllByRecursion (λ place. is_like_in flip (slot_at slots place) ≡ false) (drop left places) → HasNoPartner slots flip bound
none_at_all slots flip bound places left are none unlike = record {
  none = λ place other le is. false_from_ne_true (are_alike flip other) (λ alike.
      let among = like_is_among slots flip places left are unlike place other is alike in
      absurd (subst (λ n. IsAmong place (take n places)) none among));
}

record HasLike (flip : Flip) (o : Option Flip) : Type 0 where
  other : Flip
  is : o ≡ Some other
  alike : are_alike flip other ≡ true

has_like : (flip : Flip) (o : Option Flip) → is_like_in flip o ≡ true → HasLike flip o
has_like flip None e = cc
has_like flip (Some other) e = record { other = other; is = refl; alike = e }

pub partner_at : (slots : List (Option Flip)) (flip : Flip) (bound : ℕ) (places : List ℕ) (left : ℕ) → HoldLikes slots flip places
    → 0 < left → left ≤ length places → AllByRecursion (λ place. is_like_in flip (slot_at slots place) ≡ false) (drop left places)
    → bound ≤ get_or places (left - 1) 0 → is_like_in flip (slot_at slots (get_or places (left - 1) 0)) ≡ true
    → IsPartner slots flip bound (get_or places (left - 1) 0)
partner_at slots flip bound places left are some few unlike far like =
    let found = has_like flip (slot_at slots (get_or places (left - 1) 0)) like in
    record {
      other = found.other;
      within = far;
      is = found.is;
      alike = found.alike;
      latest = λ later one lt is. false_from_ne_true (are_alike flip one) (λ alike.
          let most = most_before places left later are.rising some few (like_is_among slots flip places left are unlike later one is alike) in
          absurd (omega (arith, most, lt)));
    }

pub unlike_more : (slots : List (Option Flip)) (flip : Flip) (places : List ℕ) (left : ℕ) → 0 < left → left ≤ length places
    → AllByRecursion (λ place. is_like_in flip (slot_at slots place) ≡ false) (drop left places)
    → is_like_in flip (slot_at slots (get_or places (left - 1) 0)) ≡ false
    → AllByRecursion (λ place. is_like_in flip (slot_at slots place) ≡ false) (drop (left - 1) places)
unlike_more slots flip places left some few unlike here =
    let whole : left - 1 + 1 ≡ left = omega (arith, some) in
    subst (AllByRecursion (λ place. is_like_in flip (slot_at slots place) ≡ false))
    (sym (drop_more places (left - 1) 0 (omega (arith, some, few)) ∙ ap (λ n. get_or places (left - 1) 0 ∷ drop n places) whole)) (here, unlike)

pub found_at : (slots : List (Option Flip)) (places : List (Vec ℕ)) (line bound : ℕ) (d v : Vec ℕ) → line < length places → d ≡ get_or places line d
    → FindsLast slots d.items v.items bound → FindsLast slots (places_at places line) (places_at (set places line v) line) bound
found_at slots places line bound d v lt read finds =
    subst (λ l. FindsLast slots l (places_at (set places line v) line) bound) (sym (places_at-read places line d lt read))
    (subst (λ l. FindsLast slots d.items l bound) (sym (places_at-set places line v lt)) finds)

pub looked_at : (slots seen : List (Option Flip)) (test : ℕ → Flip → Bool) (old new : List (Vec ℕ)) (line bound : ℕ) → seen ≡ slots → AreIndexed slots test old
    → line < length old → FindsLast seen (places_at old line) (places_at new line) bound → contents new ≡ set (contents old) line (places_at new line)
    → Looked slots test old new line bound
looked_at slots seen test old new line bound same are lt finds e =
    looked slots test old new line bound are lt (subst (λ s. FindsLast s (places_at old line) (places_at new line) bound) same finds) e

pub on_ok_both : {T E A B C : Type 0} (r : Result T E) → (A → B → C) → OnOk r A → OnOk r B → OnOk r C
on_ok_both (Ok x) f a b = f a b
on_ok_both (Err e) f a b = tt

pub some_left : (n m : ℕ) (b : Bool) → b ≡ eqb n 0 → b ≡ false → m ≡ n → 0 < m
some_left n m b is no_end same = let differ : n ≢ 0 = eqb-false n 0 (sym is ∙ no_end) in omega (arith, same)

-- ---- what the index tells of one flip

pub indexes_controls : (n : ℕ) (slots : List (Option Flip)) (targets controls now : List (Vec ℕ)) (line bound : ℕ) → AreIndexes n slots targets controls
    → Looked slots has_control controls now line bound → AreIndexes n slots targets now
indexes_controls n slots targets controls now line bound are found =
    record { of_targets = are.of_targets; of_controls = found.indexed; target_lines = are.target_lines; control_lines = found.long ∙ are.control_lines }

pub indexes_targets : (n : ℕ) (slots : List (Option Flip)) (targets controls now : List (Vec ℕ)) (line bound : ℕ) → AreIndexes n slots targets controls
    → Looked slots has_target targets now line bound → AreIndexes n slots now controls
indexes_targets n slots targets controls now line bound are found =
    record { of_targets = found.indexed; of_controls = are.of_controls; target_lines = found.long ∙ are.target_lines; control_lines = are.control_lines }

blocks_so : (a b : Bool) → (a || b) ≡ not (not a && not b)
blocks_so true b = refl
blocks_so false true = refl
blocks_so false false = refl

-- what is not free of a flip: it has the flip's target as a control, or its target is one of the flip's controls
blocked_by : (flip other : Flip) → (has_control flip.target other || has_line other.target (controls_of flip)) ≡ not (are_free flip other)
blocked_by flip other = blocks_so (has_line flip.target (controls_of other)) (has_line other.target (controls_of flip))

or_nothing : (a : Bool) → (a || false) ≡ a
or_nothing true = refl
or_nothing false = refl

pub bound_zero : (slots : List (Option Flip)) (flip : Flip) (bound : ℕ) → [] ≡ controls_of flip → IsBehindLast slots (has_control flip.target) bound
    → IsBehindLast slots (λ other. not (are_free flip other)) bound
bound_zero slots flip bound none is =
    bound-same slots (has_control flip.target) (λ other. not (are_free flip other)) bound
    (λ other. sym (or_nothing (has_control flip.target other)) ∙ ap (λ l. has_control flip.target other || has_line other.target l) none
    ∙ blocked_by flip other) is

pub bound_one : (slots : List (Option Flip)) (flip : Flip) (one a b : ℕ) → one ∷ [] ≡ controls_of flip → IsBehindLast slots (has_control flip.target) a
    → IsBehindLast slots (has_target one) b → IsBehindLast slots (λ other. not (are_free flip other)) (max a b)
bound_one slots flip one a b is first second =
    bound-same slots (λ other. has_control flip.target other || has_target one other) (λ other. not (are_free flip other)) (max a b)
    (λ other. ap (λ t. has_control flip.target other || t) (sym (or_nothing (has_target one other)))
    ∙ ap (λ l. has_control flip.target other || has_line other.target l) is ∙ blocked_by flip other)
    (bound-either slots (has_control flip.target) (has_target one) a b first second)

pub bound_two : (slots : List (Option Flip)) (flip : Flip) (one two a b d : ℕ) → one ∷ two ∷ [] ≡ controls_of flip
    → IsBehindLast slots (has_control flip.target) a
    → IsBehindLast slots (has_target one) b → IsBehindLast slots (has_target two) d → IsBehindLast slots (λ other. not (are_free flip other)) (max a (max b d))
bound_two slots flip one two a b d is first second third =
    bound-same slots (λ other. has_control flip.target other || (has_target one other || has_target two other)) (λ other. not (are_free flip other)) (max a
    (max b d))
    (λ other. ap (λ t. has_control flip.target other || (has_target one other || t)) (sym (or_nothing (has_target two other)))
    ∙ ap (λ l. has_control flip.target other || has_line other.target l) is ∙ blocked_by flip other)
    (bound-either slots (has_control flip.target) (λ other. has_target one other || has_target two other) a (max b d) first
    (bound-either slots (has_target one) (has_target two) b d second third))

-- the lines of a flip on n lines
pub record HasLines (n : ℕ) (flip : Flip) : Type 0 where
  pub target : flip.target < n
  pub apart : has_line flip.target (controls_of flip) ≡ false
  pub low : AllByRecursion (λ line. line < n) (controls_of flip)
  pub different : AreDifferent (controls_of flip)

lacks_from_apart : (lines : List ℕ) (target : ℕ) → AllByRecursion (λ x. AllByRecursion (λ y. x ≢ y) (target ∷ [])) lines → has_line target lines ≡ false
lacks_from_apart [] target apart = refl
lacks_from_apart (x ∷ xs) target apart =
    ap (λ b. b || has_line target xs) (ne_eqb target x (λ e. apart.0.0 (sym e))) ∙ lacks_from_apart xs target apart.1

pub lines_of_flip : (n : ℕ) (flip : Flip) → IsGateOn n (gate_of flip) → HasLines n flip
lines_of_flip n flip on =
    let low : AllByRecursion (λ line. line < n) (controls_of flip ++ flip.target ∷ []) = subst (AllByRecursion (λ line. line < n)) (lines_of-flip_of
    (controls_of flip) flip.target) on.in_range in
    let different : AreDifferent (controls_of flip ++ flip.target ∷ []) = subst AreDifferent (lines_of-flip_of (controls_of flip) flip.target) on.different in
    record {
      target = (AllByRecursion-right (λ line. line < n) (controls_of flip) (flip.target ∷ []) low).0;
      apart = lacks_from_apart (controls_of flip) flip.target (AreDifferent-parts (controls_of flip) (flip.target ∷ []) different).0;
      low = AllByRecursion-left (λ line. line < n) (controls_of flip) (flip.target ∷ []) low;
      different = AreDifferent-left (controls_of flip) (flip.target ∷ []) different;
    }

-- ---- places of the flips like one

pub likes_by_target : (slots : List (Option Flip)) (flip : Flip) (places : List ℕ) → ArePlaces slots (has_target flip.target) places
    → HoldLikes slots flip places
likes_by_target slots flip places are = record {
  rising = are.rising;
  below = are.below;
  all = λ place other is alike. are.all place other is (eq-eqb other.target flip.target (sym (alike_says flip other alike).target));
}

pub likes_by_control : (slots : List (Option Flip)) (flip : Flip) (line : ℕ) (places : List ℕ) → has_line line (controls_of flip) ≡ true
    → ArePlaces slots (has_control line) places → HoldLikes slots flip places
likes_by_control slots flip line places has are = record {
  rising = are.rising;
  below = are.below;
  all = λ place other is alike. are.all place other is (among_has line (controls_of flip) (controls_of other) (alike_says flip other alike).forth has);
}

pub either_likes : (slots : List (Option Flip)) (flip : Flip) (one other answer : List ℕ) → (answer ≡ one) ⊎ (answer ≡ other) → HoldLikes slots flip one
    → HoldLikes slots flip other → HoldLikes slots flip answer
either_likes slots flip one other answer (inl e) first second = subst (HoldLikes slots flip) (sym e) first
either_likes slots flip one other answer (inr e) first second = subst (HoldLikes slots flip) (sym e) second

-- as the code reads the lists
pub likes_at_target : (n : ℕ) (slots : List (Option Flip)) (targets controls : List (Vec ℕ)) (flip : Flip) (d : Vec ℕ) (places : List ℕ)
    → AreIndexes n slots targets controls → IsGateOn n (gate_of flip) → d ≡ get_or targets flip.target d → places ≡ d.items → HoldLikes slots flip places
likes_at_target n slots targets controls flip d places are on read is =
    let lines = lines_of_flip n flip on in
    let low : flip.target < length targets = let lt = lines.target in let long = are.target_lines in omega arith in
    subst (HoldLikes slots flip) (places_at-read targets flip.target d low read ∙ sym is)
    (likes_by_target slots flip (places_at targets flip.target) (are.of_targets.each flip.target low))

pub likes_at_control : (n : ℕ) (slots : List (Option Flip)) (targets controls : List (Vec ℕ)) (flip : Flip) (line : ℕ) (d : Vec ℕ) (places : List ℕ)
    → AreIndexes n slots targets controls → line < n → has_line line (controls_of flip) ≡ true → d ≡ get_or controls line d → places ≡ d.items
    → HoldLikes slots flip places
likes_at_control n slots targets controls flip line d places are below has read is =
    let low : line < length controls = let long = are.control_lines in omega arith in
    subst (HoldLikes slots flip) (places_at-read controls line d low read ∙ sym is)
    (likes_by_control slots flip line (places_at controls line) has (are.of_controls.each line low))
