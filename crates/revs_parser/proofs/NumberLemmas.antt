-- Numbers: units, and sums of them.
use Rattle.std.proofs.Common.{◌≡◌, ◌==◌, Bool, true, false, List, [], ◌∷◌, ◌++◌, inl}
use Rattle.std.proofs.Common.{inr, refl, ◌∙◌, ap, append_assoc, append-nil}
use Rattle.revc_base.specs.declared.place.Place.{Place}
use Rattle.revs_lexer.specs.declared.sign.Sign.TheVariants as signs
use Rattle.revs_lexer.specs.declared.token.Tok.{Tok}
use Rattle.revs_lexer.specs.declared.token.Tok.TheVariants as toks
use Rattle.revs_lexer.specs.declared.token.Token.{Token}
use Rattle.revs_grammar.specs.declared.profile.Profile.TheVariants as profiles
use Rattle.revs_grammar.specs.Forms.{any_name, code, kept, Numeral, in_profile, common}
use Rattle.revs_grammar.specs.Forms as g
use Rattle.revs_grammar.specs.Productions.{digits_of}
use Rattle.revs_terms.specs.Numbers.{plus}
use Rattle.revs_grammar.specs.Sentences.{kept_token, form}
use Rattle.revs_grammar.specs.inside.Machine.{Stack, first_some, is_end, outcome}
use Rattle.revs_grammar.proofs.CheckHints.{may_follow}
use Rattle.revs_grammar.proofs.CheckLemmas.{begin}
use Rattle.revs_grammar.proofs.LineLemmas.{table_is}
use Rattle.revs_terms.specs.declared.term.Unit as u
use Rattle.revs_terms.specs.declared.term.Unit.TheVariants as units_of
use Rattle.revs_terms.specs.declared.term.Step.{Step}
use Rattle.revs_terms.specs.declared.term.Name.{Name}
use Rattle.revs_parser.specs.declared.stop.Stop.{Stop}
use Rattle.revs_parser.specs.inside.Reading.{Reads, ReadsForm, Skips, Halts, HaltsIn, Heads, is_name, name_first}
use Rattle.revs_parser.specs.inside.Forms.{step_sign, NoStep}
use Rattle.revs_parser.proofs.PassingLemmas.{passes_then, beside, and_then, and_maybe, line_passes, halts_first, halts_behind}
use Rattle.revs_parser.proofs.StepLemmas.{as_line, as_none, only_line, by_first, first_less, first_only, not_name, no_sign}
use Rattle.revs_parser.proofs.TokenLemmas.{a_sign, by_pieces, halts_by_pieces, halts_by_token, left_out}
use Rattle.revs_parser.proofs.ReadingLemmas.{Repeats, repeats_begun, repeats_more, repeats_done, repeats_halts}

-- ---- single steps

as_digits : (ts : List Token) (ms : Stack) → outcome ts (form (in_profile profiles.One g.num) 0 ∷ ms) ≡ outcome ts (form (common g.number) 0 ∷ ms)
as_digits ts ms =
    only_line (in_profile profiles.One g.num) 0 _ (inl refl) refl refl (λ t. table_is (code t) (in_profile profiles.One g.num) ∙ first_only _) ts ms

as_sum_of_units : (ts : List Token) (ms : Stack)
    → outcome ts (form (in_profile profiles.Two g.num) 0 ∷ ms) ≡ outcome ts (form (common g.unit) 0 ∷ form (common g.units) 0 ∷ ms)
as_sum_of_units ts ms =
    only_line (in_profile profiles.Two g.num) 0 _ (inl refl) refl refl (λ t. table_is (code t) (in_profile profiles.Two g.num) ∙ first_only _) ts ms

as_unit_number : (ts : List Token) → name_first ts ≡ false → (ms : Stack)
    → outcome ts (form (common g.unit) 0 ∷ ms) ≡ outcome ts (form (common g.number) 0 ∷ ms)
as_unit_number [] h ms = refl
as_unit_number (t ∷ ts) h ms =
    as_line (common g.unit) 0 _ (inl refl) refl refl (t ∷ ts)
    (table_is (code t.tok) (common g.unit) ∙ ap (first_some _) (first_less (code t.tok == 1) _ (not_name t.tok h)) ∙ first_only _) ms

unit_begins : (t : Tok) → is_name t ≡ true → (is_end t ≡ false) × (begin (may_follow (common g.unit)) (code t) (kept any_name ∷ []) ≡ true)
unit_begins (toks.Name text) h = (refl, refl)
unit_begins _ h = cc

as_unit_name : (ts : List Token) → name_first ts ≡ true → (ms : Stack) → outcome ts (form (common g.unit) 0 ∷ ms) ≡ outcome ts (kept_token any_name ∷ ms)
as_unit_name [] h ms = cc
as_unit_name (t ∷ ts) h ms =
    let b = unit_begins t.tok h in by_first (common g.unit) 0 _ (inr (inl refl)) {k = t.tok} {at = t.at} {rest = ts} (record { cut = refl }) b.0 b.1 refl ms

no_units : (ts : List Token) → NoStep ts → (ms : Stack) → outcome ts (form (common g.units) 0 ∷ ms) ≡ outcome ts ms
no_units [] h ms = refl
no_units (t ∷ ts) h ms =
    as_none (common g.units) 0 refl (t ∷ ts)
    (table_is (code t.tok) (common g.units) ∙ first_less (code t.tok == 33) _ (no_sign t.tok signs.Plus h.no_plus)
    ∙ first_less (code t.tok == 34) _ (no_sign t.tok signs.Minus h.no_minus)) ms

-- ---- units

pub unit_name : {n : Name} {ts rest : List Token} → name_first ts ≡ true → Reads (kept_token any_name ∷ []) (n, tt) ts rest
    → ReadsForm (common g.unit) 0 (units_of.Name n) ts rest
unit_name {ts = ts} h r = by_pieces (common g.unit) 0 _ (inr (inl refl)) (as_unit_name ts h) r

pub unit_no_name : {ts : List Token} {stop : Stop} → name_first ts ≡ true → Halts (kept_token any_name ∷ []) ts stop → HaltsIn (common g.unit) 0 ts stop
unit_no_name {ts} h k = halts_by_pieces (common g.unit) 0 _ (inr (inl refl)) (as_unit_name ts h) k

pub unit_number : {n : Numeral} {ts rest : List Token} → name_first ts ≡ false → ReadsForm (common g.number) 0 n ts rest
    → ReadsForm (common g.unit) 0 (digits_of n) ts rest
unit_number {ts = ts} h r = by_pieces (common g.unit) 0 _ (inl refl) (as_unit_number ts h) r

pub unit_no_number : {ts : List Token} {stop : Stop} → name_first ts ≡ false → HaltsIn (common g.number) 0 ts stop → HaltsIn (common g.unit) 0 ts stop
unit_no_number {ts} h k = halts_by_pieces (common g.unit) 0 _ (inl refl) (as_unit_number ts h) k

-- ---- steps

-- The steps so far.
pub record StepsSoFar (read : List Step) (ts rest : List Token) : Type 0 where
  pub repeats : Repeats (common g.units) 0 (λ more. read ++ more) ts rest

pub steps_begun : (steps : List Step) (ts : List Token) → steps ≡ [] → StepsSoFar steps ts ts
steps_begun steps ts e = rw e (record { repeats = repeats_begun (common g.units) 0 (λ more. [] ++ more) ts (λ v. refl) })

another_step : (taken : Bool) {this : u.Unit} {at : Place} {ts mid rest : List Token} → Heads (toks.Sign (step_sign taken)) at ts mid
    → ReadsForm (common g.unit) 0 this mid rest → Repeats (common g.units) 0 (λ more. record { minus = taken; unit = this } ∷ more) ts rest
another_step false h r = record {
  passes = passes_then (line_passes (common g.units) 0 _ (inr (inl refl)) (by_first (common g.units) 0 _ (inr (inl refl)) h refl refl refl))
      (beside (form (common g.units) 0 ∷ []) (and_then (a_sign h) r).passes);
}
another_step true h r = record {
  passes = passes_then (line_passes (common g.units) 0 _ (inr (inr (inl refl))) (by_first (common g.units) 0 _ (inr (inr (inl refl))) h refl refl refl))
      (beside (form (common g.units) 0 ∷ []) (and_then (a_sign h) r).passes);
}

pub steps_more : {steps new : List Step} (taken : Bool) {this : u.Unit} {at : Place} {ts mid behind rest : List Token} → StepsSoFar steps ts mid
    → Heads (toks.Sign (step_sign taken)) at mid behind → ReadsForm (common g.unit) 0 this behind rest
    → new ≡ steps ++ record { minus = taken; unit = this } ∷ [] → StepsSoFar new ts rest
steps_more {steps} taken {this} n h r e = rw e (record {
  repeats = repeats_more (λ more. (steps ++ record { minus = taken; unit = this } ∷ []) ++ more) n.repeats (another_step taken h r)
      (λ more. rw append_assoc);
})

pub steps_done : {steps : List Step} {ts rest : List Token} → StepsSoFar steps ts rest → NoStep rest
    → Skips (form (common g.units) 0 ∷ []) (steps, tt) ts rest
steps_done {steps} {rest = rest} n k =
    rw (append-nil steps) at (repeats_done [] n.repeats (left_out (common g.units) 0 _ (inl refl) (no_units rest k)))

in_step : (taken : Bool) {at : Place} {ts mid : List Token} {stop : Stop} → Heads (toks.Sign (step_sign taken)) at ts mid
    → HaltsIn (common g.unit) 0 mid stop → HaltsIn (common g.units) 0 ts stop
in_step false h k =
    halts_by_token (common g.units) 0 _ (inr (inl refl)) h refl refl refl (halts_first (form (common g.units) 0 ∷ [])
    (halts_behind (form (common g.unit) 0 ∷ []) (a_sign h) k))
in_step true h k =
    halts_by_token (common g.units) 0 _ (inr (inr (inl refl))) h refl refl refl (halts_first (form (common g.units) 0 ∷ [])
    (halts_behind (form (common g.unit) 0 ∷ []) (a_sign h) k))

pub steps_halt : {steps : List Step} (taken : Bool) {at : Place} {ts mid behind : List Token} {stop : Stop} → StepsSoFar steps ts mid
    → Heads (toks.Sign (step_sign taken)) at mid behind → HaltsIn (common g.unit) 0 behind stop → HaltsIn (common g.units) 0 ts stop
steps_halt taken n h k = repeats_halts n.repeats (in_step taken h k)

-- ---- numbers

pub digits_read : {n : Numeral} {steps : List Step} {ts rest : List Token} → ReadsForm (common g.number) 0 n ts rest → steps ≡ plus (digits_of n) ∷ []
    → ReadsForm (in_profile profiles.One g.num) 0 steps ts rest
digits_read {ts = ts} r e = rw e (by_pieces (in_profile profiles.One g.num) 0 _ (inl refl) (as_digits ts) r)

pub no_digits : {ts : List Token} {stop : Stop} → HaltsIn (common g.number) 0 ts stop → HaltsIn (in_profile profiles.One g.num) 0 ts stop
no_digits {ts} k = halts_by_pieces (in_profile profiles.One g.num) 0 _ (inl refl) (as_digits ts) k

pub units_read : {first : u.Unit} {more steps : List Step} {ts a rest : List Token} → ReadsForm (common g.unit) 0 first ts a
    → Skips (form (common g.units) 0 ∷ []) (more, tt) a rest → steps ≡ plus first ∷ more → ReadsForm (in_profile profiles.Two g.num) 0 steps ts rest
units_read {ts = ts} r n e = rw e (by_pieces (in_profile profiles.Two g.num) 0 _ (inl refl) (as_sum_of_units ts) (and_maybe r n))

pub no_first_unit : {ts : List Token} {stop : Stop} → HaltsIn (common g.unit) 0 ts stop → HaltsIn (in_profile profiles.Two g.num) 0 ts stop
no_first_unit {ts} k =
    halts_by_pieces (in_profile profiles.Two g.num) 0 _ (inl refl) (as_sum_of_units ts) (halts_first (form (common g.units) 0 ∷ []) k)

pub in_units : {first : u.Unit} {ts a : List Token} {stop : Stop} → ReadsForm (common g.unit) 0 first ts a → HaltsIn (common g.units) 0 a stop
    → HaltsIn (in_profile profiles.Two g.num) 0 ts stop
in_units {ts = ts} r k =
    halts_by_pieces (in_profile profiles.Two g.num) 0 _ (inl refl) (as_sum_of_units ts) (halts_behind (form (common g.units) 0 ∷ []) r k)
