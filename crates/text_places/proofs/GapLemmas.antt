-- The gap at the front of a text: there is at most one.
use Rattle.std.proofs.Common.{◌≡◌, ℕ, suc, ◌<◌, Bool, true, false, not, cond, List, [], ◌∷◌, ◌++◌, length, take, drop, nat_eq, refl, ap, sym, ◌∙◌, subst, ◌⊎◌}
use Rattle.std.proofs.Common.{inl, inr, arith, length-append}
use Rattle.std.specs.Prelude.{codes}
use Rattle.std.specs.List.{prefix_len, starts_with}
use Rattle.std.proofs.lemmas.Bool.{cond-true, cond-false, not-false, not_from_true}
use Rattle.std.proofs.lemmas.Bool.Decides.{Decides-eqb}
use Rattle.std.proofs.lemmas.Slice.Eq.{starts_is}
use Rattle.text_places.specs.Bytes.{is_blank, is_line_feed}
use Rattle.text_places.specs.Gaps.{IsGap, IsLineEnd, HasNoGap}
use Rattle.text_places.specs.Gaps as gaps
use Rattle.text_places.proofs.RunLemmas.{Stops, front_is_run, run_of, same_split}
use Rattle.text_places.proofs.ByteLemmas.{first_of}

abbrev pub in_line : ℕ → Bool
in_line b = not (is_line_feed b)

-- how long the gap is, and 0 where there is none
abbrev gap_len : List ℕ → ℕ
gap_len text = cond (is_blank (first_of text)) 1 (cond (starts_with nat_eq text (codes "//")) (prefix_len in_line text) 0)

line_end_stops : (rest : List ℕ) → IsLineEnd rest → Stops in_line rest
line_end_stops [] h = tt
line_end_stops (b ∷ bs) h = not_from_true (is_line_feed b) h

stop_is_line_end : (rest : List ℕ) → Stops in_line rest → IsLineEnd rest
stop_is_line_end [] h = tt
stop_is_line_end (b ∷ bs) h = not-false (is_line_feed b) h

gap_len-gap : (gap rest : List ℕ) → IsGap gap rest → (gap_len (gap ++ rest) ≡ length gap) × (0 < length gap)
gap_len-gap gap rest (gaps.blank {b} h) = (cond-true (is_blank b) _ _ h, omega arith)
gap_len-gap gap rest (gaps.comment {body} clean ends) =
    let run = front_is_run in_line body rest clean (line_end_stops rest ends) in (omega (arith, run), omega arith)

-- a text has one gap at its front
pub same_gap : (text gap rest other behind : List ℕ) → text ≡ gap ++ rest → IsGap gap rest → text ≡ other ++ behind → IsGap other behind → (gap ≡ other)
    × (rest ≡ behind)
same_gap text gap rest other behind cut h cut' k =
    same_split text gap rest other behind cut cut'
    (sym (gap_len-gap gap rest h).0 ∙ ap gap_len (sym cut ∙ cut') ∙ (gap_len-gap other behind k).0)

-- it is not empty
pub some_gap : (gap rest : List ℕ) → IsGap gap rest → 0 < length gap
some_gap gap rest h = (gap_len-gap gap rest h).1

-- what a gap begins with
pub gap_begins : (gap rest : List ℕ) → IsGap gap rest → (is_blank (first_of (gap ++ rest)) ≡ true) ⊎ (first_of (gap ++ rest) ≡ 47)
gap_begins gap rest (gaps.blank {b} h) = inl h
gap_begins gap rest (gaps.comment {body} clean ends) = inr refl

-- what the code finds
pub blank_at_front : (text : List ℕ) → 0 < length text → is_blank (first_of text) ≡ true → IsGap (take 1 text) (drop 1 text)
blank_at_front [] some e = absurd (omega arith)
blank_at_front (b ∷ bs) some e = gaps.blank e

comment_here : (bytes : List ℕ) → let text = codes "//" ++ bytes in IsGap (take (prefix_len in_line text) text) (drop (prefix_len in_line text) text)
comment_here bytes =
    let text : List ℕ = codes "//" ++ bytes in
    let n = prefix_len in_line bytes in
    let run = run_of in_line bytes in
    let two : suc (suc n) ≡ prefix_len in_line text = omega arith in
    let here : IsGap (take (suc (suc n)) text) (drop (suc (suc n)) text) = gaps.comment run.passes (stop_is_line_end (drop n bytes) run.stops) in
    subst (λ (k : ℕ). IsGap (take k text) (drop k text)) two here

pub comment_at_front : (text : List ℕ) (n : ℕ) → true ≡ starts_with nat_eq text (codes "//") → n ≡ prefix_len in_line text → IsGap (take n text) (drop n text)
comment_at_front text n begins same =
    let whole = (starts_is Decides-eqb text (codes "//") true begins).0 refl in
    subst (λ (k : ℕ). IsGap (take k text) (drop k text)) (sym same)
    (subst (λ (t : List ℕ). IsGap (take (prefix_len in_line t) t) (drop (prefix_len in_line t) t)) (sym whole) (comment_here (drop 2 text)))

pub no_gap_in_nothing : (text : List ℕ) → length text ≡ 0 → HasNoGap text
no_gap_in_nothing text none gap rest cut h =
    let some = some_gap gap rest h in let whole = ap length cut ∙ length-append gap rest in absurd (omega arith)

pub no_gap_at_front : (text : List ℕ) → is_blank (first_of text) ≡ false → starts_with nat_eq text (codes "//") ≡ false → HasNoGap text
no_gap_at_front text no_blank no_comment gap rest cut h =
    let none : gap_len text ≡ 0 = cond-false (is_blank (first_of text)) _ _ no_blank ∙ cond-false (starts_with nat_eq text (codes "//")) _ _ no_comment in
    let found = gap_len-gap gap rest h in
    let same : gap_len text ≡ length gap = ap gap_len cut ∙ found.0 in
    absurd (omega arith)
