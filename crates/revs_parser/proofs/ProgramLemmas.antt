-- Whole programs: their parameters, their end, and their limits.
use Rattle.std.proofs.Common.{◌≡◌, ℕ, ◌+◌, ◌≤◌, Bool, true, false, ◌&&◌, leb, Option, Some, None, List, [], ◌∷◌, append-nil}
use Rattle.std.proofs.Common.{◌++◌, ◌-◌, ◌<◌, refl, sym, ◌∙◌, ap, subst, length, length-append, append_assoc, get_or, sum, inl, inr, arith}
use Rattle.std.proofs.Math.Seq.{get_or-append_seam}
use Rattle.std.specs.Prelude.{Result, Ok, Err}
use Rattle.std.specs.List.{list_all}
use Rattle.std.proofs.lemmas.List.{map-append}
use Rattle.std.proofs.lemmas.List.Sums.{sum_by-append}
use Rattle.std.proofs.lemmas.List.Folds.{list_all-append}
use Rattle.std.proofs.lemmas.Bool.Decides.{nat_tests}
use Rattle.revc_base.specs.declared.place.Place.{Place}
use Rattle.revs_tape.specs.declared.limits.TheConstants.{MOST_INPUTS}
use Rattle.revs_lexer.specs.declared.sign.Sign.TheVariants as signs
use Rattle.revs_lexer.specs.declared.word.Word.TheVariants as words
use Rattle.revs_lexer.specs.declared.token.Tok.{Tok}
use Rattle.revs_lexer.specs.declared.token.Tok.TheVariants as toks
use Rattle.revs_lexer.specs.declared.token.Token.{Token}
use Rattle.revs_lexer.specs.Tokens.{IsEnded}
use Rattle.revs_grammar.specs.declared.profile.Profile.{Profile}
use Rattle.revs_grammar.specs.declared.profile.Profile.TheVariants as profiles
use Rattle.revs_grammar.specs.Forms.{any_name, two, word, sign, Numeral, in_profile, common}
use Rattle.revs_grammar.specs.Forms as g
use Rattle.revs_grammar.specs.Sentences.{token, kept_token, form, Vals, at_start}
use Rattle.revs_grammar.specs.Answers.{HasSentence, IsProgramOf, PassesAt, IsInputs}
use Rattle.revs_grammar.specs.Faults.{Verdict, IsVerdict, within_limits, syntax, nesting, inputs}
use Rattle.revs_grammar.specs.inside.Machine.{Stack, Outcome, no_syntax, is_end, outcome}
use Rattle.revs_grammar.proofs.OutcomeLemmas.{StopsAt, Says, outcome_says}
use Rattle.revs_grammar.proofs.VerdictLemmas.{one_verdict, syntax_is, nesting_is}
use Rattle.revs_terms.specs.declared.term.Name.{Name}
use Rattle.revs_terms.specs.declared.program.Param.{Param}
use Rattle.revs_terms.specs.declared.program.Program.{Program}
use Rattle.revs_terms.specs.Programs.{AreParams, width_of, widths_of}
use Rattle.revs_terms.specs.Trees.{Tree}
use Rattle.revs_parser.specs.declared.stop.Stop.{Stop}
use Rattle.revs_parser.specs.declared.stop.Stop.TheVariants as stops
use Rattle.revs_parser.specs.declared.program.ParseFault.{ParseFault}
use Rattle.revs_parser.specs.declared.program.ParseFault.TheVariants as faults
use Rattle.revs_parser.specs.inside.Reading.{Reads, ReadsForm, IsHalt, Halts, HaltsIn, Heads, NotFirst, end_first}
use Rattle.revs_parser.specs.inside.Forms.{ReadsParameters, after_main, ReadsProfile, ReadsProgram, IsRefusal, Left}
use Rattle.revs_parser.specs.Results.{IsAnswer, IsRefused}
use Rattle.revs_parser.proofs.StepLemmas as m
use Rattle.revs_parser.proofs.PassingLemmas.{passes_then, beside, passes_reads, and_then, and_maybe}
use Rattle.revs_parser.proofs.PassingLemmas.{line_passes, halts_first, halts_there, halts_behind, halts_past}
use Rattle.revs_parser.proofs.TokenLemmas.{a_sign, bare_word, by_pieces, by_token, halts_by_pieces, left_out}
use Rattle.revs_parser.proofs.ReadingLemmas.{Repeats}
use Rattle.revs_parser.proofs.ReadingLemmas.{repeats_begun, repeats_more, repeats_done, repeats_halts}

-- ---- parameters

pub no_width : {ts rest : List Token} → NotFirst (toks.Sign signs.OpenSquare) ts → Reads (token (sign signs.CloseRound) ∷ []) tt ts rest
    → ReadsForm (common g.width) 0 None ts rest
no_width {ts} h q = by_pieces (common g.width) 0 _ (inl refl) (m.as_width ts h) q

pub some_width : {w : Numeral} {at : Place} {ts a b c rest : List Token} → Heads (toks.Sign signs.OpenSquare) at ts a → ReadsForm (common g.number) 0 w a b
    → Reads (token (sign signs.CloseSquare) ∷ []) tt b c → Reads (token (sign signs.CloseRound) ∷ []) tt c rest
    → ReadsForm (common g.width) 0 (Some w.value) ts rest
some_width h n k q = by_token (common g.width) 0 _ (inr (inl refl)) h refl refl refl (and_then (a_sign h) (and_then n (and_then k q)))

pub width_unclosed : {ts : List Token} {stop : Stop} → NotFirst (toks.Sign signs.OpenSquare) ts → Halts (token (sign signs.CloseRound) ∷ []) ts stop
    → HaltsIn (common g.width) 0 ts stop
width_unclosed {ts} h k = halts_by_pieces (common g.width) 0 _ (inl refl) (m.as_width ts h) k

pub one_parameter : (w : Option ℕ) {n : Name} {at : Place} {ts a b c d rest : List Token} → Heads (toks.Sign signs.OpenRound) at ts a
    → Reads (kept_token any_name ∷ []) (n, tt) a b
    → Reads (token (sign signs.Colon) ∷ []) tt b c → Reads (token (word words.Bool) ∷ []) tt c d → ReadsForm (common g.width) 0 w d rest
    → ReadsForm (common g.parameter) 0 (record { name = n; width = w }) ts rest
one_parameter w {ts} h q k b r = by_pieces (common g.parameter) 0 _ (inl refl) (m.as_parameter ts)
    (and_then (a_sign h) (and_then q (and_then k (and_then b r))))

-- The parameters so far, behind those before.
pub record Parameters (before all : List Param) (ts rest : List Token) : Type 0 where
  pub read : List Param
  pub all_params : all ≡ before ++ read
  pub repeats : Repeats (common g.parameters) 0 (λ more. read ++ more) ts rest

pub parameters_begun : (params : List Param) (ts : List Token) → Parameters params params ts ts
parameters_begun params ts = record {
  read = [];
  all_params = sym (append-nil params);
  repeats = repeats_begun (common g.parameters) 0 (λ more. [] ++ more) ts (λ v. refl);
}

another : {at : Place} {ts a : List Token} → Heads (toks.Sign signs.OpenRound) at ts a
    → (ms : Stack) → outcome ts (form (common g.parameters) 0 ∷ ms) ≡ outcome ts (form (common g.parameter) 0 ∷ form (common g.parameters) 0 ∷ ms)
another h = m.by_first (common g.parameters) 0 _ (inr (inl refl)) h refl refl refl

pub parameters_more : {before all new : List Param} {next : Param} {at : Place} {ts mid a rest : List Token} → Parameters before all ts mid
    → Heads (toks.Sign signs.OpenRound) at mid a
    → ReadsForm (common g.parameter) 0 next mid rest → new ≡ all ++ next ∷ [] → Parameters before new ts rest
parameters_more {next} {mid} {rest} n h q e = record {
  read = n.read ++ next ∷ [];
  all_params = rw (e, n.all_params, append_assoc);
  repeats = repeats_more (λ more. (n.read ++ next ∷ []) ++ more) n.repeats one (λ more. rw append_assoc);
}
  where
    one : Repeats (common g.parameters) 0 (λ more. next ∷ more) mid rest
    one = record {
      passes = passes_then (line_passes (common g.parameters) 0 _ (inr (inl refl)) (another h))
          (beside (form (common g.parameters) 0 ∷ []) q.passes);
    }

pub parameters_done : {before all : List Param} {ts rest : List Token} → Parameters before all ts rest → NotFirst (toks.Sign signs.OpenRound) rest
    → ReadsParameters before all ts rest
parameters_done {rest} n k = record {
  more = n.read ++ [];
  all_params = rw (n.all_params, append-nil);
  skips = repeats_done [] n.repeats (left_out (common g.parameters) 0 _ (inl refl) (m.no_parameters rest k));
}

pub parameters_halt : {before all : List Param} {at : Place} {ts mid a : List Token} {stop : Stop} → Parameters before all ts mid
    → Heads (toks.Sign signs.OpenRound) at mid a
    → HaltsIn (common g.parameter) 0 mid stop → HaltsIn (common g.parameters) 0 ts stop
parameters_halt n h k =
    repeats_halts n.repeats (halts_there (form (common g.parameters) 0 ∷ []) (form (common g.parameter) 0 ∷ form (common g.parameters) 0 ∷ []) (another h)
    (halts_first (form (common g.parameters) 0 ∷ []) k))

-- ---- the profile

pub profile_one : {at : Place} {ts a : List Token} → Heads (toks.Word words.Main) at ts a → ReadsProfile profiles.One ts a
profile_one h = record {
  passes = passes_then (line_passes (common g.program) 0 _ (inl refl) (m.by_first (common g.program) 0 _ (inl refl) h refl refl refl))
      (beside (after_main profiles.One) (bare_word h).passes);
}

module _ {ts : List Token} (h : NotFirst (toks.Word words.Main) ts) where
  in_second_line : {stop : Stop} → Halts (token (word words.Revs) ∷ token two ∷ token (word words.Main) ∷ after_main profiles.Two) ts stop
      → HaltsIn (common g.program) 0 ts stop
  in_second_line k = halts_by_pieces (common g.program) 0 _ (inr (inl refl)) (m.as_program ts h) k

  pub no_revs : {stop : Stop} → Halts (token (word words.Revs) ∷ []) ts stop → HaltsIn (common g.program) 0 ts stop
  no_revs k = in_second_line (halts_first (token two ∷ token (word words.Main) ∷ after_main profiles.Two) k)

  module _ {a : List Token} (r : Reads (token (word words.Revs) ∷ []) tt ts a) where
    pub no_number : {stop : Stop} → Halts (token two ∷ []) a stop → HaltsIn (common g.program) 0 ts stop
    no_number k = in_second_line (halts_first (token (word words.Main) ∷ after_main profiles.Two) (halts_behind (token two ∷ []) r k))

    module _ {b : List Token} (n : Reads (token two ∷ []) tt a b) where
      pub no_main : {stop : Stop} → Halts (token (word words.Main) ∷ []) b stop → HaltsIn (common g.program) 0 ts stop
      no_main k = in_second_line (halts_first (after_main profiles.Two) (halts_behind (token (word words.Main) ∷ []) (and_then r n) k))

      pub profile_two : {c : List Token} → Reads (token (word words.Main) ∷ []) tt b c → ReadsProfile profiles.Two ts c
      profile_two q = record {
        passes = passes_then (line_passes (common g.program) 0 _ (inr (inl refl)) (m.as_program ts h))
            (beside (after_main profiles.Two) (and_then (and_then r n) q).passes);
      }

-- ---- sentences

pub sentence_halts : {p : Profile} {ts a : List Token} {stop : Stop} → ReadsProfile p ts a → Halts (after_main p) a stop
    → HaltsIn (common g.program) 0 ts stop
sentence_halts h k = halts_past h.passes k

pub in_first : (p : Profile) {a : List Token} {stop : Stop} → HaltsIn (common g.parameter) 0 a stop → Halts (after_main p) a stop
in_first p k = halts_first (form (common g.parameters) 0 ∷ token (sign signs.Equal) ∷ form (in_profile p g.expression) 1 ∷ []) k

module _ {q : Profile} {p : Param} {a b : List Token} (r : ReadsForm (common g.parameter) 0 p a b) where
  pub in_parameters : {stop : Stop} → HaltsIn (common g.parameters) 0 b stop → Halts (after_main q) a stop
  in_parameters k = halts_first (token (sign signs.Equal) ∷ form (in_profile q g.expression) 1 ∷ []) (halts_behind (form (common g.parameters) 0 ∷ []) r k)

  pub no_equal : {before all : List Param} {c : List Token} {stop : Stop} → ReadsParameters before all b c → Halts (token (sign signs.Equal) ∷ []) c stop
      → Halts (after_main q) a stop
  no_equal n k = halts_first (form (in_profile q g.expression) 1 ∷ []) (halts_behind (token (sign signs.Equal) ∷ []) (and_maybe r n.skips) k)

  pub in_body : {before all : List Param} {c d : List Token} {stop : Stop} → ReadsParameters before all b c → Reads (token (sign signs.Equal) ∷ []) tt c d
      → HaltsIn (in_profile q g.expression) 1 d stop → Halts (after_main q) a stop
  in_body n e k = halts_behind (form (in_profile q g.expression) 1 ∷ []) (and_then (and_maybe r n.skips) e) k

pub a_sentence : {q : Profile} {p : Param} {before all : List Param} {body : Tree} {ts a b c d rest : List Token} → ReadsProfile q ts a
    → ReadsForm (common g.parameter) 0 p a b → before ≡ p ∷ [] → ReadsParameters before all b c
    → Reads (token (sign signs.Equal) ∷ []) tt c d → ReadsForm (in_profile q g.expression) 1 body d rest → ReadsProgram all body ts rest
a_sentence h r e n k x =
    rw (n.all_params, e) (passes_reads h.passes (and_then (and_then (and_maybe r n.skips) k) x))

-- ---- the end

end_is_last : (front : List Token) (t : Token) (more : List Token) → IsEnded (front ++ t ∷ more) → t.tok ≡ toks.End → more ≡ []
end_is_last [] t [] e h = refl
end_is_last [] t (u ∷ more) e h = absurd (e.0 h)
end_is_last (x ∷ []) t more e h = end_is_last [] t more e.1 h
end_is_last (x ∷ y ∷ front) t more e h = end_is_last (y ∷ front) t more e.1 h

end_is : (t : Tok) → is_end t ≡ true → t ≡ toks.End
end_is toks.End e = refl
end_is (toks.Name text) e = cc
end_is _ e = cc

pub ended : {params : List Param} {body : Tree} (tokens rest : List Token) → IsEnded tokens → ReadsProgram params body tokens rest → end_first rest ≡ true
    → HasSentence tokens params body
ended tokens [] e q h = cc
ended {params} {body} tokens (t ∷ more) e q h =
    let f = q.passes in
    let at_end : t.tok ≡ toks.End = end_is t.tok h in
    let none : more ≡ [] = end_is_last f.front t more (subst IsEnded f.cut e) at_end in
    let stands = f.stands_for [] tt tt in
    record {
      sentence = f.front;
      end = t;
      cut = f.cut ∙ ap (λ (z : List Token). f.front ++ t ∷ z) none;
      ended = at_end;
      spelled = record {
        reading = f.leads [];
        params_are = ap (λ (v : Vals at_start). v.0.params) stands;
        body_is = ap (λ (v : Vals at_start). v.0.body) stands;
      };
    }

not_ended : (rest : List Token) → end_first rest ≡ false → outcome rest [] ≡ no_syntax (length rest)
not_ended [] h = refl
not_ended (t ∷ ts) h = rw h (ap no_syntax (omega arith))

left_as : {tokens : List Token} {left : ℕ} {Seen : List Token → Token → Type 0} {Why : ℕ → Place → Type 0} (s : StopsAt tokens left Seen)
    → Why (length s.front) s.named.at → Left tokens left Why
left_as s why = record { front = s.front; named = s.named; rest = s.rest; cut = s.cut; count = s.count; why = why }

refused : (tokens : List Token) (stop : Stop) (o : Outcome) → IsHalt stop o → Says tokens o → IsRefusal tokens stop
refused tokens (stops.Syntax left) o e k = let f = subst (Says tokens) e k in left_as f (syntax_is f)
refused tokens (stops.Nesting left) o e k = let f = subst (Says tokens) e k in left_as f (nesting_is f)
refused tokens (stops.Memory _) o e k = tt

pub halt_is_right : (tokens : List Token) (stop : Stop) → IsEnded tokens → HaltsIn (common g.program) 0 tokens stop → IsRefusal tokens stop
halt_is_right tokens stop e h = refused tokens stop (outcome tokens at_start) (h.halt []) (outcome_says tokens e)

pub not_at_end : {params : List Param} {body : Tree} (tokens rest : List Token) → IsEnded tokens → ReadsProgram params body tokens rest → end_first rest ≡ false
    → IsRefusal tokens (stops.Syntax (length rest))
not_at_end tokens rest e q h = refused tokens (stops.Syntax (length rest)) (outcome tokens at_start) (q.passes.goes_on [] ∙ not_ended rest h)
    (outcome_says tokens e)

-- ---- the limits of the widths

-- The parameters so far are within the limits, and their widths add up to this.
pub record WithinLimits (params rest : List Param) (inputs : ℕ) : Type 0 where
  pub before : List Param
  pub cut : params ≡ before ++ rest
  pub fine : AreParams before
  pub total : sum (widths_of before) ≡ inputs

bits-push : (ps : List Param) (p : Param) → list_all (λ width. leb 1 width) (widths_of (ps ++ p ∷ []))
    ≡ list_all (λ width. leb 1 width) (widths_of ps) && list_all (λ width. leb 1 width) (width_of p.width ∷ [])
bits-push ps p = rw map-append (list_all-append (λ width. leb 1 width) (widths_of ps) (widths_of (p ∷ [])))

sum-push : (ps : List Param) (p : Param) → sum (widths_of (ps ++ p ∷ [])) ≡ sum (widths_of ps) + width_of p.width
sum-push ps p =
    ap (λ (z : List ℕ). sum z) (map-append (λ (p : Param). width_of p.width) ps (p ∷ [])) ∙ sum_by-append (λ x. x) (widths_of ps) (widths_of (p ∷ []))
    ∙ one (width_of p.width)
  where
    one : (w : ℕ) → sum (widths_of ps) + sum (w ∷ []) ≡ sum (widths_of ps) + w
    one w = ap (λ (z : ℕ). sum (widths_of ps) + z) (alone w)
      where
        alone : (w : ℕ) → sum (w ∷ []) ≡ w
        alone w = omega arith

one_bit : (w : ℕ) → ¬ (w ≡ 0) → list_all (λ width. leb 1 width) (w ∷ []) ≡ true
one_bit w h = grind (arith, nat_tests)

pub limits_more : {params rest : List Param} {total : ℕ} (p : Param) (behind : List Param) (new : ℕ) → WithinLimits params rest total → rest ≡ p ∷ behind
    → ¬ (width_of p.width ≡ 0) → total + width_of p.width ≤ MOST_INPUTS → new ≡ total + width_of p.width → WithinLimits params behind new
limits_more {total} p behind new h e some few w =
    let t = h.total in
    let pushed = sum-push h.before p in record {
      before = h.before ++ p ∷ [];
      cut = h.cut ∙ ap (λ (z : List Param). h.before ++ z) e ∙ sym (append_assoc h.before (p ∷ []) behind);
      fine = record {
        bits = bits-push h.before p ∙ m_and (list_all (λ width. leb 1 width) (widths_of h.before))
            (list_all (λ width. leb 1 width) (width_of p.width ∷ [])) h.fine.bits (one_bit (width_of p.width) some);
        inputs = omega (arith, pushed, t, few);
      };
      total = pushed ∙ ap (λ (z : ℕ). z + width_of p.width) t ∙ sym w;
    }
  where
    m_and : (a b : Bool) → a ≡ true → b ≡ true → a && b ≡ true
    m_and true b e f = f
    m_and false b e f = cc

-- ---- the answer

exactly : (tokens : List Token) (given : Verdict) (answer : Result Program ParseFault) → IsVerdict tokens given → IsAnswer given answer
    → (verdict : Verdict) → IsVerdict tokens verdict → IsAnswer verdict answer
exactly tokens given answer is a verdict other = rw (one_verdict tokens given verdict is other) at a

pub program_exactly : (tokens : List Token) (p : Program) → (params : List Param) (body : Tree) → IsProgramOf tokens params body
    → (verdict : Verdict) → IsVerdict tokens verdict → IsAnswer verdict (Ok p)
program_exactly tokens p params body is = exactly tokens within_limits (Ok p) (record { params = params; body = body; program = is }) (inr refl)

pub inputs_exactly : (tokens : List Token) (at : Place) → IsInputs tokens at → (verdict : Verdict) → IsVerdict tokens verdict
    → IsAnswer verdict (Err (faults.Inputs at))
inputs_exactly tokens at is = exactly tokens (inputs at) (Err (faults.Inputs at)) is (inr refl)

pub refusal_exactly : (tokens : List Token) (fault : ParseFault) → IsRefused tokens fault → (verdict : Verdict) → IsVerdict tokens verdict
    → IsAnswer verdict (Err fault)
refusal_exactly tokens (faults.Syntax number at) is = exactly tokens (syntax number at) (Err (faults.Syntax number at)) is (inr refl)
refusal_exactly tokens (faults.Nesting at) is = exactly tokens (nesting at) (Err (faults.Nesting at)) is (inr refl)
refusal_exactly tokens (faults.Inputs at) is = absurd is
refusal_exactly tokens (faults.Memory _) is = λ verdict other. inl refl

pub inputs_at : {tokens : List Token} {params : List Param} {body : Tree} {at : Place} → HasSentence tokens params body → PassesAt params at
    → IsInputs tokens at
inputs_at {params} {body} h k = record { params = params; body = body; sentence = h; passes = k }

-- ---- the first of the tokens that are left

pub left_within : {tokens : List Token} {left : ℕ} {Why : ℕ → Place → Type 0} → Left tokens left Why → length tokens - left < length tokens
left_within k = omega (arith, ap length k.cut, length-append k.front (k.named ∷ k.rest), k.count)

pub left_says : {tokens : List Token} {left : ℕ} {Why : ℕ → Place → Type 0} → Left tokens left Why → (other : Token)
    → Why (length tokens - left) (get_or tokens (length tokens - left) other).at
left_says {tokens} {left} {Why} k other =
    let number : length tokens - left ≡ length k.front = omega (arith, ap length k.cut, length-append k.front (k.named ∷ k.rest), k.count) in
    let first : get_or tokens (length k.front) other ≡ k.named = ap (λ (z : List Token). get_or z (length k.front) other) k.cut ∙ get_or-append_seam k.front
    k.named k.rest other in
    rw (number, first) k.why
