-- Runs at the front of a text: bytes that pass a test, up to the first that does not.
use Rattle.std.proofs.Common.{◌≡◌, ℕ, suc, ◌+◌, ◌≤◌, ◌<◌, eqb, Bool, true, false, ◌&&◌, List, [], ◌∷◌, ◌++◌, length, get_or, take, drop, refl, ap, sym, ◌∙◌}
use Rattle.std.proofs.Common.{subst, inl, inr, arith, one-add, eq-eqb, append-nil}
use Rattle.std.specs.List.{list_all, prefix_len}
use Rattle.std.proofs.lemmas.Bool.{false≢true, and_parts, and_from, cond-true, cond-false, cases_Bool, ne_eqb}
use Rattle.std.proofs.lemmas.List.{take_at, drop_at}

-- the list is empty, or its first element fails
abbrev pub Stops : (ℕ → Bool) → List ℕ → Type 0
Stops q [] = Unit {0}
Stops q (b ∷ bs) = q b ≡ false

pub prefix_len-yes : (q : ℕ → Bool) (b : ℕ) (bs : List ℕ) → q b ≡ true → prefix_len q (b ∷ bs) ≡ suc (prefix_len q bs)
prefix_len-yes q b bs e = cond-true (q b) (1 + prefix_len q bs) 0 e ∙ one-add (prefix_len q bs)

pub prefix_len-no : (q : ℕ → Bool) (b : ℕ) (bs : List ℕ) → q b ≡ false → prefix_len q (b ∷ bs) ≡ 0
prefix_len-no q b bs e = cond-false (q b) (1 + prefix_len q bs) 0 e

-- a front that passes lies within the run
pub front_in_run : (q : ℕ → Bool) (front behind : List ℕ) → list_all q front ≡ true → length front ≤ prefix_len q (front ++ behind)
front_in_run q [] behind all = omega arith
front_in_run q (b ∷ bs) behind all =
    let parts = and_parts (q b) (list_all q bs) all in
    let within = front_in_run q bs behind parts.1 in
    let longer = prefix_len-yes q b (bs ++ behind) parts.0 in
    omega arith

-- and is the run, where it ends there
pub front_is_run : (q : ℕ → Bool) (front behind : List ℕ) → list_all q front ≡ true → Stops q behind → prefix_len q (front ++ behind) ≡ length front
front_is_run q [] [] all stops = refl
front_is_run q [] (c ∷ cs) all stops = prefix_len-no q c cs stops
front_is_run q (b ∷ bs) behind all stops =
    let parts = and_parts (q b) (list_all q bs) all in
    prefix_len-yes q b (bs ++ behind) parts.0 ∙ ap suc (front_is_run q bs behind parts.1 stops)

-- the run passes, and stops
pub record IsRun (q : ℕ → Bool) (text : List ℕ) (n : ℕ) : Type 0 where
  pub passes : list_all q (take n text) ≡ true
  pub stops : Stops q (drop n text)
  pub within : n ≤ length text

pub run_of : (q : ℕ → Bool) (text : List ℕ) → IsRun q text (prefix_len q text)
run_of q [] = record { passes = refl; stops = tt; within = omega arith }
run_of q (b ∷ bs) =
    elim (cases_Bool (q b)) [
      | inl passed ↦
          let rest = run_of q bs in
          subst (IsRun q (b ∷ bs)) (sym (prefix_len-yes q b bs passed)) (record {
            passes = and_from (q b) (list_all q (take (prefix_len q bs) bs)) passed rest.passes;
            stops = rest.stops;
            within = omega (arith, rest.within);
          })
      | inr failed ↦
          subst (IsRun q (b ∷ bs)) (sym (prefix_len-no q b bs failed)) (record { passes = refl; stops = failed; within = omega arith })
    ]

pub some_text : (text : List ℕ) → eqb (length text) 0 ≡ false → 0 < length text
some_text [] e = absurd (false≢true (sym e))
some_text (b ∷ bs) e = omega arith

-- a run is not empty where the first byte passes
pub some_run : (q : ℕ → Bool) (text : List ℕ) → 0 < length text → q (get_or text 0 0) ≡ true → 0 < prefix_len q text
some_run q [] some e = absurd (omega arith)
some_run q (b ∷ bs) some e = let longer = prefix_len-yes q b bs e in omega arith

-- one text has one front of a length
pub same_split : (text front behind other rest : List ℕ) → text ≡ front ++ behind → text ≡ other ++ rest → length front ≡ length other → (front ≡ other)
    × (behind ≡ rest)
same_split text front behind other rest cut cut' same = (
  sym (take_at front behind (length front) refl) ∙ ap (take (length front)) (sym cut ∙ cut') ∙ take_at other rest (length front) (sym same),
  sym (drop_at front behind (length front) refl) ∙ ap (drop (length front)) (sym cut ∙ cut') ∙ drop_at other rest (length front) (sym same),
)

-- a run that does not pass the whole list is shorter
short_run : (q : ℕ → Bool) (text : List ℕ) → list_all q text ≡ false → prefix_len q text < length text
short_run q [] e = absurd (false≢true (sym e))
short_run q (b ∷ bs) e =
    elim (cases_Bool (q b)) [
      | inl passed ↦
          let rest : list_all q bs ≡ false = sym (ap (λ (t : Bool). t && list_all q bs) passed) ∙ e in
          let shorter = short_run q bs rest in
          let longer = prefix_len-yes q b bs passed in
          omega arith
      | inr failed ↦ let none = prefix_len-no q b bs failed in omega arith
    ]

-- the run is the whole list exactly where all pass
pub run_is_all : (q : ℕ → Bool) (text : List ℕ) → eqb (prefix_len q text) (length text) ≡ list_all q text
run_is_all q text =
    elim (cases_Bool (list_all q text)) [
      | inl all ↦
          eq-eqb (prefix_len q text) (length text) (ap (prefix_len q) (sym (append-nil text)) ∙ front_is_run q text [] all tt) ∙ sym all
      | inr some ↦ ne_eqb (prefix_len q text) (length text) (λ e. let shorter = short_run q text some in absurd (omega arith)) ∙ sym some
    ]
