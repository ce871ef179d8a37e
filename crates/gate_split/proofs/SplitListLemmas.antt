-- Split lists of the first of some gates and of all of them; and what a split comes to is one thing.
use Rattle.std.proofs.Common.{◌≡◌, ℕ, ◌+◌, ◌<◌, ◌≤◌, List, [], ◌∷◌, ◌++◌, length, get_or, take, drop, Option, Some, None, Result, Ok, Err}
use Rattle.std.proofs.Common.{refl, sym, ap, ◌∙◌, subst, inl, inr, arith}
use Rattle.std.proofs.lemmas.List.{append_assoc, append-nil, length-append, take_more, take-append-drop, take-take}
use Rattle.std.proofs.lemmas.Option.{same_Some}
use Rattle.std.proofs.lemmas.Bool.Decides.{leb_tells}
use Rattle.mct_circuit.specs.Gates.{GateView}
use Rattle.gate_split.specs.declared.fault.SplitFault.{SplitFault}
use Rattle.gate_split.specs.declared.fault.SplitFault.TheVariants.{NoIdle, Gates, Memory}
use Rattle.gate_split.specs.Split.{behind, joined, split_gate, split_gates, HasSplitList, IsSplit, IsSplitList, PassesLimit, WantsIdle}

-- ---- lists joined

behind_nothing : (o : Option (List GateView)) → behind [] o ≡ o
behind_nothing None = refl
behind_nothing (Some gates) = refl

joined_nothing : (o : Option (List GateView)) → joined o (Some []) ≡ o
joined_nothing None = refl
joined_nothing (Some gates) = ap Some (append-nil gates)

joined_assoc : (a b c : Option (List GateView)) → joined (joined a b) c ≡ joined a (joined b c)
joined_assoc None b c = refl
joined_assoc (Some x) None c = refl
joined_assoc (Some x) (Some y) None = refl
joined_assoc (Some x) (Some y) (Some z) = ap Some (append_assoc x y z)

-- the parts of what is joined
pub record Parts (a b : Option (List GateView)) (whole : List GateView) : Type 0 where
  pub first : List GateView
  pub rest : List GateView
  pub first_is : a ≡ Some first
  pub rest_is : b ≡ Some rest
  pub all : first ++ rest ≡ whole

pub parts_of : (a b : Option (List GateView)) (whole : List GateView) → joined a b ≡ Some whole → Parts a b whole
parts_of None b whole e = absurd (cc)
parts_of (Some x) None whole e = absurd (cc)
parts_of (Some x) (Some y) whole e = record { first = x; rest = y; first_is = refl; rest_is = refl; all = same_Some _ _ e }

-- ---- the first of the gates

split_gates-append : (n : ℕ) (front back : List GateView) → split_gates n (front ++ back) ≡ joined (split_gates n front) (split_gates n back)
split_gates-append n [] back = sym (behind_nothing (split_gates n back))
split_gates-append n (gate ∷ gates) back =
    ap (joined (split_gate n gate)) (split_gates-append n gates back)
    ∙ sym (joined_assoc (split_gate n gate) (split_gates n gates) (split_gates n back))

-- one gate more
pub one_further : (n : ℕ) (gates : List GateView) (i : ℕ) (gate : GateView) (done : List GateView) → i < length gates → gate ≡ get_or gates i gate
    → split_gates n (take i gates) ≡ Some done → split_gates n (take (i + 1) gates) ≡ behind done (split_gate n gate)
one_further n gates i gate done low at known =
    ap (split_gates n) (take_more gates i gate low ∙ ap (λ g. take i gates ++ g ∷ []) (sym at)) ∙ split_gates-append n (take i gates) (gate ∷ [])
    ∙ ap (λ o. joined o (joined (split_gate n gate) (Some []))) known ∙ ap (behind done) (joined_nothing (split_gate n gate))

-- where the first of the gates have no lists, not all have
pub none_after : (n k : ℕ) (gates : List GateView) → split_gates n (take k gates) ≡ None → split_gates n gates ≡ None
none_after n k gates none =
    ap (split_gates n) (sym (take-append-drop k gates)) ∙ split_gates-append n (take k gates) (drop k gates)
    ∙ ap (λ o. joined o (split_gates n (drop k gates))) none

-- where all gates have a split list, so have the first of them
pub first_have : (n limit k : ℕ) (gates : List GateView) → HasSplitList n limit gates → HasSplitList n limit (take k gates)
first_have n limit k gates has =
    let front = split_gates n (take k gates) in
    let back = split_gates n (drop k gates) in
    let cut : joined front back ≡ Some has.narrow =
    sym (split_gates-append n (take k gates) (drop k gates)) ∙ ap (split_gates n) (take-append-drop k gates) ∙ has.split.is in
    let parts = parts_of front back has.narrow cut in
    let few = has.split.within in
    let long = sym (length-append parts.first parts.rest) ∙ ap length parts.all in
    record { narrow = parts.first; split = record { is = parts.first_is; within = omega arith } }

-- ---- a split comes to one thing

-- the gates before this place have a split list, and those up to it have none
record Stops (n limit : ℕ) (gates : List GateView) (place : ℕ) : Type 0 where
  before : HasSplitList n limit (take place gates)
  stops : HasSplitList n limit (take (place + 1) gates) → ⊥

idle_stops : (n limit : ℕ) (gates : List GateView) (place : ℕ) → WantsIdle n limit gates place → Stops n limit gates place
idle_stops n limit gates place w = record { before = w.before; stops = λ has. let both = sym w.none ∙ has.split.is in cc }

limit_stops : (n limit : ℕ) (gates : List GateView) (p : PassesLimit n limit gates) → Stops n limit gates p.place
limit_stops n limit gates p = record {
  before = p.before;
  stops = λ has. let same = ap length (same_Some _ _ (sym p.is ∙ has.split.is)) in
      let few = has.split.within in let many = p.passes in omega arith;
}

never_later : (n limit : ℕ) (gates : List GateView) (p q : ℕ) → Stops n limit gates p → Stops n limit gates q → p + 1 ≤ q → ⊥
never_later n limit gates p q a b h =
    a.stops (subst (HasSplitList n limit) (take-take (p + 1) q gates h) (first_have n limit (p + 1) (take q gates) b.before))

one_place : (n limit : ℕ) (gates : List GateView) (p q : ℕ) → Stops n limit gates p → Stops n limit gates q → p ≡ q
one_place n limit gates p q a b = elim (leb_tells (p + 1) q) [
  | inl t ↦ absurd (never_later n limit gates p q a b t.1)
  | inr t ↦ elim (leb_tells (q + 1) p) [ inl u ↦ absurd (never_later n limit gates q p b a u.1) | inr u ↦ omega (arith, t.1, u.1) ]
]

no_stop : (n limit : ℕ) (gates narrow : List GateView) (place : ℕ) → IsSplitList n limit gates narrow → Stops n limit gates place → ⊥
no_stop n limit gates narrow place s stop = stop.stops (first_have n limit (place + 1) gates (record { narrow = narrow; split = s }))

idle_or_limit : (n limit : ℕ) (gates : List GateView) (place : ℕ) → WantsIdle n limit gates place → PassesLimit n limit gates → ⊥
idle_or_limit n limit gates place w p =
    let same : place ≡ p.place = one_place n limit gates place p.place (idle_stops n limit gates place w) (limit_stops n limit gates p) in
    let both = sym w.none ∙ ap (λ k. split_gates n (take (k + 1) gates)) same ∙ p.is in cc

pub one_split : (n limit : ℕ) (gates : List GateView) (a b : Result (List GateView) SplitFault) → IsSplit n limit gates a → IsSplit n limit gates b → a ≡ b
one_split n limit gates (Ok x) (Ok y) a b = ap Ok (same_Some _ _ (sym a.is ∙ b.is))
one_split n limit gates (Ok x) (Err (NoIdle q)) a b = absurd (no_stop n limit gates x q a (idle_stops n limit gates q b))
one_split n limit gates (Ok x) (Err Gates) a b = absurd (no_stop n limit gates x b.place a (limit_stops n limit gates b))
one_split n limit gates (Ok x) (Err (Memory _)) a b = absurd b
one_split n limit gates (Err (NoIdle p)) (Ok y) a b = absurd (no_stop n limit gates y p b (idle_stops n limit gates p a))
one_split n limit gates (Err (NoIdle p)) (Err (NoIdle q)) a b =
    ap (λ k. Err (NoIdle k)) (one_place n limit gates p q (idle_stops n limit gates p a) (idle_stops n limit gates q b))
one_split n limit gates (Err (NoIdle p)) (Err Gates) a b = absurd (idle_or_limit n limit gates p a b)
one_split n limit gates (Err (NoIdle p)) (Err (Memory _)) a b = absurd b
one_split n limit gates (Err Gates) (Ok y) a b = absurd (no_stop n limit gates y a.place b (limit_stops n limit gates a))
one_split n limit gates (Err Gates) (Err (NoIdle q)) a b = absurd (idle_or_limit n limit gates q b a)
one_split n limit gates (Err Gates) (Err Gates) a b = refl
one_split n limit gates (Err Gates) (Err (Memory _)) a b = absurd b
one_split n limit gates (Err (Memory _)) b one other = absurd one
