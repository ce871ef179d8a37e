-- A text is cut in one way, and the code cuts it piece by piece.
use Rattle.std.proofs.Common.{◌≡◌, ◌≢◌, ℕ, ◌≤◌, ◌<◌, List, [], ◌∷◌, ◌++◌, length, take, drop, refl, ap, sym, ◌∙◌, subst, ⊎_elim, arith, append_assoc}
use Rattle.std.proofs.Common.{length-append}
use Rattle.std.proofs.lemmas.List.{append-nil, take-append-drop}
use Rattle.revc_base.specs.declared.place.Place.{Place}
use Rattle.revs_lexer.specs.Spelling.{Spells, IsWithinLimits}
use Rattle.revs_lexer.specs.Tokens.{IsCut, Stop, IsLongest, Refuses, IsTokens, IsRefused, closed, IsEnded, OneOutcome}
use Rattle.text_places.specs.Gaps.{IsGap}
use Rattle.text_places.specs.Places.{start, place_after}
use Rattle.text_places.proofs.PlaceLemmas.{place_past}
use Rattle.revs_lexer.specs.Tokens as cuts
use Rattle.revs_lexer.specs.inside.Pieces.{TakesGap, TakesToken, Takes}
use Rattle.revs_lexer.specs.declared.token.Tok.{Tok}
use Rattle.revs_lexer.specs.declared.token.Tok.TheVariants as toks
use Rattle.revs_lexer.specs.declared.token.Token.{Token}
use Rattle.revs_lexer.specs.declared.token.LexFault.{LexFault}
use Rattle.revs_lexer.proofs.LongestLemmas.{same_longest, some_longest, no_gap_before_token}
use Rattle.text_places.proofs.GapLemmas.{same_gap, some_gap}

-- a piece that is not empty is no front of an empty text
not_empty : (piece rest : List ℕ) → [] ≡ piece ++ rest → 0 < length piece → ⊥
not_empty piece rest cut some =
    let none = ap length cut in absurd (omega (arith, length-append piece rest))

-- where a text is refused neither a gap nor a token within limits stands
refused_no_end : (at : Place) (text : List ℕ) (fault : LexFault) → Refuses at text fault → text ≡ [] → ⊥
refused_no_end at text fault (cuts.bad_byte no_gap no_token) e = absurd cc
refused_no_end at text fault (cuts.long_name run rest h long) e = not_empty run rest (sym e ∙ h.cut) (some_longest h)
refused_no_end at text fault (cuts.long_number run rest n h long) e = not_empty run rest (sym e ∙ h.cut) (some_longest h)

refused_no_gap : (at : Place) (text : List ℕ) (fault : LexFault) (gap behind : List ℕ) → Refuses at text fault → text ≡ gap ++ behind → IsGap gap behind → ⊥
refused_no_gap at text fault gap behind (cuts.bad_byte no_gap no_token) cut g = no_gap gap behind cut g
refused_no_gap at text fault gap behind (cuts.long_name run rest h long) cut g = no_gap_before_token text run rest gap behind (toks.Name run) h cut g
refused_no_gap at text fault gap behind (cuts.long_number run rest n h long) cut g = no_gap_before_token text run rest gap behind (toks.Number n) h cut g

refused_no_token : (at : Place) (text : List ℕ) (fault : LexFault) (piece behind : List ℕ) (tok : Tok) → Refuses at text fault → IsLongest text piece behind tok
    → IsWithinLimits piece tok → ⊥
refused_no_token at text fault piece behind tok (cuts.bad_byte no_gap no_token) k within = no_token piece behind tok k.cut k.spelled
refused_no_token at text fault piece behind tok (cuts.long_name run rest h long) k within =
    let same = same_longest text piece behind tok run rest (toks.Name run) k h in
    let here : length piece ≤ 64 = subst (IsWithinLimits piece) same.tok within in
    let len = ap length same.piece in
    absurd (omega arith)
refused_no_token at text fault piece behind tok (cuts.long_number run rest n h long) k within =
    let same = same_longest text piece behind tok run rest (toks.Number n) k h in
    let here : length piece ≤ 4 = subst (IsWithinLimits piece) same.tok within in
    let len = ap length same.piece in
    absurd (omega arith)

name_is_no_number : (name : List ℕ) (n : ℕ) → toks.Name name ≡ toks.Number n → ⊥
name_is_no_number name n e = absurd cc

same_refusal : (at : Place) (text : List ℕ) (fault other : LexFault) → Refuses at text fault → Refuses at text other → fault ≡ other
same_refusal at text fault other (cuts.bad_byte no_gap no_token) (cuts.bad_byte no_gap' no_token') = refl
same_refusal at text fault other (cuts.bad_byte no_gap no_token) (cuts.long_name run rest h long) = absurd (no_token run rest (toks.Name run) h.cut h.spelled)
same_refusal at text fault other (cuts.bad_byte no_gap no_token) (cuts.long_number run rest n h long) =
    absurd (no_token run rest (toks.Number n) h.cut h.spelled)
same_refusal at text fault other (cuts.long_name run rest h long) (cuts.bad_byte no_gap no_token) = absurd (no_token run rest (toks.Name run) h.cut h.spelled)
same_refusal at text fault other (cuts.long_name run rest h long) (cuts.long_name run' rest' h' long') = refl
same_refusal at text fault other (cuts.long_name run rest h long) (cuts.long_number run' rest' n h' long') =
    absurd (name_is_no_number run n (same_longest text run rest (toks.Name run) run' rest' (toks.Number n) h h').tok)
same_refusal at text fault other (cuts.long_number run rest n h long) (cuts.bad_byte no_gap no_token) =
    absurd (no_token run rest (toks.Number n) h.cut h.spelled)
same_refusal at text fault other (cuts.long_number run rest n h long) (cuts.long_name run' rest' h' long') =
    absurd (name_is_no_number run' n (same_longest text run' rest' (toks.Name run') run rest (toks.Number n) h' h).tok)
same_refusal at text fault other (cuts.long_number run rest n h long) (cuts.long_number run' rest' n' h' long') = refl

-- what each way to cut a text begins with, by what stands at its front
cut_of_nothing : (at : Place) (text : List ℕ) (us : List Token) (other : Stop) → text ≡ [] → IsCut at text us other → (us ≡ []) × (other ≡ cuts.whole)
cut_of_nothing at text us other e cuts.done = (refl, refl)
cut_of_nothing at text us other e (cuts.gap piece rest cut g k) = absurd (not_empty piece rest (sym e ∙ cut) (some_gap piece rest g))
cut_of_nothing at text us other e (cuts.token piece rest tok h within k) = absurd (not_empty piece rest (sym e ∙ h.cut) (some_longest h))
cut_of_nothing at text us other e (cuts.refusal fault r) = absurd (refused_no_end at text fault r e)

cut_at_gap : (at : Place) (text gap behind : List ℕ) (us : List Token) (other : Stop) → text ≡ gap ++ behind → IsGap gap behind → IsCut at text us other
    → IsCut (place_after at gap) behind us other
cut_at_gap at text gap behind us other begins g cuts.done = absurd (not_empty gap behind begins (some_gap gap behind g))
cut_at_gap at text gap behind us other begins g (cuts.gap piece rest cut g' k) =
    let same = same_gap text piece rest gap behind cut g' begins g in
    subst (λ (p : List ℕ). IsCut (place_after at p) behind us other) same.0 (subst (λ (r : List ℕ). IsCut (place_after at piece) r us other) same.1 k)
cut_at_gap at text gap behind us other begins g (cuts.token piece rest tok h within k) = absurd (no_gap_before_token text piece rest gap behind tok h begins g)
cut_at_gap at text gap behind us other begins g (cuts.refusal fault r) = absurd (refused_no_gap at text fault gap behind r begins g)

abbrev CutBehind : Place → List ℕ → Tok → List ℕ → List Token → Stop → Type 0
CutBehind at piece tok rest us other = (more : List Token) × (us ≡ record { tok = tok; at = at } ∷ more) × IsCut (place_after at piece) rest more other

cut_at_token : (at : Place) (text front behind : List ℕ) (t : Tok) (us : List Token) (other : Stop) → IsLongest text front behind t → IsWithinLimits front t
    → IsCut at text us other → CutBehind at front t behind us other
cut_at_token at text front behind t us other h short cuts.done = absurd (not_empty front behind h.cut (some_longest h))
cut_at_token at text front behind t us other h short (cuts.gap piece rest cut g k) = absurd (no_gap_before_token text front behind piece rest t h cut g)
cut_at_token at text front behind t us other h short (cuts.token {ts = more} piece rest tok h' within k) =
    let same = same_longest text piece rest tok front behind t h' h in
    let first : ◌≡◌ {A = Token} (record { tok = tok; at = at }) (record { tok = t; at = at }) =
    ap (λ (x : Tok). let found : Token = record { tok = x; at = at } in found) same.tok in (
      more,
      ap (λ (x : Token). x ∷ more) first,
      subst (λ (p : List ℕ). IsCut (place_after at p) behind more other) same.piece
          (subst (λ (r : List ℕ). IsCut (place_after at piece) r more other) same.rest k),
    )
cut_at_token at text front behind t us other h short (cuts.refusal fault r) = absurd (refused_no_token at text fault front behind t r h short)

cut_at_refusal : (at : Place) (text : List ℕ) (fault : LexFault) (us : List Token) (other : Stop) → Refuses at text fault → IsCut at text us other → (us ≡ [])
    × (other ≡ cuts.refused fault)
cut_at_refusal at text fault us other r cuts.done = absurd (refused_no_end at text fault r refl)
cut_at_refusal at text fault us other r (cuts.gap piece rest cut g k) = absurd (refused_no_gap at text fault piece rest r cut g)
cut_at_refusal at text fault us other r (cuts.token piece rest tok h within k) = absurd (refused_no_token at text fault piece rest tok r h within)
cut_at_refusal at text fault us other r (cuts.refusal fault' r') = (refl, ap cuts.refused (same_refusal at text fault' fault r' r))

-- A text that stands at a place is cut in one way.
same_cut : (at : Place) (text : List ℕ) (ts us : List Token) (stop other : Stop) → IsCut at text ts stop → IsCut at text us other → (ts ≡ us) × (stop ≡ other)
same_cut at text ts us stop other cuts.done k = let end = cut_of_nothing at [] us other refl k in (sym end.0, sym end.1)
same_cut at text ts us stop other (cuts.gap piece rest cut g h) k =
    same_cut (place_after at piece) rest ts us stop other h (cut_at_gap at text piece rest us other cut g k)
same_cut at text ts us stop other (cuts.token {ts = later} piece rest tok h within l) k =
    let (more, same, behind) = cut_at_token at text piece rest tok us other h within k in
    let tail = same_cut (place_after at piece) rest later more stop other l behind in
    (ap (λ (x : List Token). record { tok = tok; at = at } ∷ x) tail.0 ∙ sym same, tail.1)
same_cut at text ts us stop other (cuts.refusal fault r) k = let end = cut_at_refusal at text fault us other r k in (sym end.0, sym end.1)

pub one_way : OneOutcome
one_way text ts us stop other h k = same_cut start text ts us stop other h k

-- A text was cut up to a place, where the rest stands: however the rest is cut, the whole is cut so behind these tokens.
pub record Underway (text : List ℕ) (ts : List Token) (at : Place) (rest : List ℕ) : Type 0 where
  pub completes : (more : List Token) (stop : Stop) → IsCut at rest more stop → IsCut start text (ts ++ more) stop
  -- the end has one place, from here and from the start
  pub place : place_after at rest ≡ place_after start text

pub underway_at_start : (text : List ℕ) → Underway text [] start text
underway_at_start text = record { completes = λ more stop k. k; place = refl }

pub underway_past : (text : List ℕ) (old new : List Token) (at : Place) (rest : List ℕ) (len : ℕ) → Underway text old at rest → Takes at rest len old new
    → Underway text new (place_after at (take len rest)) (drop len rest)
underway_past text old new at rest len so_far taken =
    record {
      completes = λ more stop k.
          ⊎_elim
          (λ (gap : TakesGap rest len old new). subst (λ (ts : List Token). IsCut start text (ts ++ more) stop) (sym gap.kept)
          (so_far.completes more stop (cuts.gap (take len rest) (drop len rest) (sym (take-append-drop len rest)) gap.gap k)))
          (λ (token : TakesToken at rest len old new). subst (λ (ts : List Token). IsCut start text (ts ++ more) stop) (sym token.added)
          (subst (λ (ts : List Token). IsCut start text ts stop) (sym (append_assoc old (record { tok = token.tok; at = at } ∷ []) more))
          (so_far.completes (record { tok = token.tok; at = at } ∷ more) stop
          (cuts.token (take len rest) (drop len rest) token.tok token.longest token.within k))))
          taken;
      place = place_past at rest len ∙ so_far.place;
    }

-- where nothing is left the tokens are those of the text, and where the rest is refused the text is
pub underway_at_end : (text : List ℕ) (ts : List Token) (at : Place) → Underway text ts at [] → IsCut start text ts cuts.whole
underway_at_end text ts at h = subst (λ (us : List Token). IsCut start text us cuts.whole) (append-nil ts) (h.completes [] cuts.whole cuts.done)

pub underway_at_refusal : (text : List ℕ) (ts : List Token) (at : Place) (rest : List ℕ) (fault : LexFault) → Underway text ts at rest → Refuses at rest fault
    → IsRefused text fault
underway_at_refusal text ts at rest fault h r = (ts ++ [], h.completes [] (cuts.refused fault) (cuts.refusal fault r))

pub closed_at_end : (text : List ℕ) (ts : List Token) (at : Place) → Underway text ts at [] → ts ++ record { tok = toks.End; at = at } ∷ [] ≡ closed text ts
closed_at_end text ts at h = ap (λ (p : Place). ts ++ record { tok = toks.End; at = p } ∷ []) h.place

-- a text has no more tokens than bytes, and none of them is `End`
pub cut_is_short : (at : Place) (text : List ℕ) (ts : List Token) (stop : Stop) → IsCut at text ts stop → length ts ≤ length text
cut_is_short at text ts stop cuts.done = omega arith
cut_is_short at text ts stop (cuts.gap piece rest cut g k) =
    let later = cut_is_short (place_after at piece) rest ts stop k in let len = ap length cut ∙ length-append piece rest in omega arith
cut_is_short at text ts stop (cuts.token {ts = more} piece rest tok h within k) =
    let later = cut_is_short (place_after at piece) rest more stop k in
    let len = ap length h.cut ∙ length-append piece rest in
    let some = some_longest h in
    omega arith
cut_is_short at text ts stop (cuts.refusal fault r) = omega arith

spelled_no_end : (piece : List ℕ) (tok : Tok) → Spells piece tok → tok ≢ toks.End
spelled_no_end piece tok h e = subst (Spells piece) e h

ended_behind : (t : Token) (ts : List Token) (end : Token) → t.tok ≢ toks.End → IsEnded (ts ++ end ∷ []) → IsEnded (t ∷ (ts ++ end ∷ []))
ended_behind t [] end apart h = (apart, h)
ended_behind t (u ∷ ts) end apart h = (apart, h)

pub ended_cut : (at : Place) (text : List ℕ) (ts : List Token) (stop : Stop) (end : Place) → IsCut at text ts stop
    → IsEnded (ts ++ record { tok = toks.End; at = end } ∷ [])
ended_cut at text ts stop end cuts.done = refl
ended_cut at text ts stop end (cuts.gap piece rest cut g k) = ended_cut (place_after at piece) rest ts stop end k
ended_cut at text ts stop end (cuts.token {ts = more} piece rest tok h within k) =
    ended_behind (record { tok = tok; at = at }) more (record { tok = toks.End; at = end }) (spelled_no_end piece tok h.spelled)
    (ended_cut (place_after at piece) rest more stop end k)
ended_cut at text ts stop end (cuts.refusal fault r) = refl
