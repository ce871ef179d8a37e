-- Each text has one refusal at most, and none where it is well formed and its program has no claims.
use Rattle.std.proofs.Common.{◌≡◌, ℕ, Bool, false, ◌<◌, ◌≤◌, List, length, sum, replicate, refl, sym, ap, ◌∙◌, subst, arith}
use Rattle.std.proofs.lemmas.List.{length-replicate}
use Rattle.revs_lexer.specs.declared.token.LexFault.{LexFault}
use Rattle.revs_lexer.specs.declared.token.LexFault.TheVariants as lexer
use Rattle.revs_lexer.specs.declared.token.Token.{Token}
use Rattle.revs_lexer.specs.Tokens.{IsTokens, IsRefused, closed}
use Rattle.revs_lexer.proofs.OutcomeLemmas.{IsTokens-same, IsRefused-same, refused_has_no_tokens}
use Rattle.revs_terms.specs.declared.program.Param.{Param}
use Rattle.revs_terms.specs.Trees.{Tree}
use Rattle.revs_grammar.specs.Faults.{Verdict, within_limits, syntax, nesting, inputs, IsVerdict}
use Rattle.revs_grammar.proofs.VerdictLemmas.{one_verdict}
use Rattle.command_answers.specs.declared.fault.FaultKind.{FaultKind}
use Rattle.command_answers.specs.declared.fault.FaultKind.TheVariants as kinds
use Rattle.command_answers.specs.declared.fault.Refusal.{Refusal}
use Rattle.command_answers.specs.declared.fault.Refusal.TheVariants as refusals
use Rattle.revs_parser.specs.WellFormed.{IsProgramText, IsWellFormed}
use Rattle.revs_parser.proofs.OneTextLemmas.{one_text}
use Rattle.revs_terms.specs.Views.{ProgramView}
use Rattle.revs_terms.specs.Programs.{widths_of}
use Rattle.revs_terms.specs.Running.{Stamped, Outcome, stuck, went}
use Rattle.revs_terms.specs.declared.cause.Cause.{Cause}
use Rattle.revs_terms.specs.Runs.{IsInput, run_of_program, EndsOnAll}
use Rattle.revs_terms.specs.Scopes.{ScopeVerdict, scope_verdict, bound_as, two_params, unbound_name}
use Rattle.revc_base.specs.declared.place.Place.{Place}
use Rattle.program_texts.specs.Refusals.{OfTokens, IsStuckFor, IsRefusal}

-- ---- how a program ends: its run is looked at on the input of zeros

data ProgramEnd : Type 0 where
  two_names : Place → ProgramEnd
  no_binding : Place → ProgramEnd
  stuck_at : Cause → Place → ProgramEnd
  leaves : Tree → ProgramEnd

end_of_run : Tree → Outcome Bool (List (Stamped Bool)) → ProgramEnd
end_of_run tree (stuck cause at) = stuck_at cause at
end_of_run tree (went outputs s) = leaves tree

zeros : List Param → List Bool
zeros params = replicate (sum (widths_of params)) false

zeros_are_input : (params : List Param) → IsInput params (zeros params)
unfolding zeros
zeros_are_input params = length-replicate (sum (widths_of params)) false

end_in : List Param → ScopeVerdict → ProgramEnd
end_in params (two_params at) = two_names at
end_in params (unbound_name at) = no_binding at
end_in params (bound_as tree) = end_of_run tree (run_of_program params tree (zeros params))

end_of : ProgramView → ProgramEnd
end_of p = end_in p.params (scope_verdict p.params p.body)

ends_two : (p : ProgramView) (at : Place) → scope_verdict p.params p.body ≡ two_params at → end_of p ≡ two_names at
unfolding end_of end_in
ends_two p at e = ap (end_in p.params) e

ends_unbound : (p : ProgramView) (at : Place) → scope_verdict p.params p.body ≡ unbound_name at → end_of p ≡ no_binding at
unfolding end_of end_in
ends_unbound p at e = ap (end_in p.params) e

ends_stuck : (p : ProgramView) (cause : Cause) (at : Place) → IsStuckFor cause at p → end_of p ≡ stuck_at cause at
unfolding end_of end_in end_of_run
ends_stuck p cause at h = ap (end_in p.params) h.1 ∙ ap (end_of_run h.0) (h.2 (zeros p.params) (zeros_are_input p.params))

ends_left : (params : List Param) (unbound tree : Tree) → scope_verdict params unbound ≡ bound_as tree → EndsOnAll params tree
    → end_in params (scope_verdict params unbound) ≡ leaves tree
unfolding end_in end_of_run
ends_left params unbound tree e run =
    let one = run.ends (zeros params) (zeros_are_input params) in
    ap (end_in params) e ∙ ap (end_of_run tree) one.1.ends

-- ---- what a text is found to be

data Found : Type 0 where
  long : Found
  lexed : LexFault → Found
  judged : Verdict → Found
  ended : ProgramEnd → Found

abbrev IsFound : List ℕ → Found → Type 0
IsFound text long = 1048576 < length text
IsFound text (lexed fault) = (length text ≤ 1048576) × IsRefused text fault
IsFound text (judged verdict) = (length text ≤ 1048576) × (verdict ≡ within_limits → ⊥) × OfTokens text (λ tokens. IsVerdict tokens verdict)
IsFound text (ended end) = (p : ProgramView) × IsProgramText text p × (end_of p ≡ end)

not_judged : (text : List ℕ) (verdict : Verdict) (p : ProgramView) → OfTokens text (λ tokens. IsVerdict tokens verdict) → IsProgramText text p → verdict
    ≡ within_limits
not_judged text verdict p h is =
    let same : h.0 ≡ is.tokens = IsTokens-same text h.0 is.tokens h.1 is.cut in
    one_verdict (closed text is.tokens) verdict within_limits (subst (λ (ts : List Token). IsVerdict (closed text ts) verdict) same h.2)
    (record { params = p.params; body = p.body; program = is.sentence })

one_found : (text : List ℕ) (f g : Found) → IsFound text f → IsFound text g → f ≡ g
one_found text long long a b = refl
one_found text long (lexed fault) a b = absurd (omega arith)
one_found text long (judged verdict) a b = absurd (omega arith)
one_found text long (ended end) a b = let short = b.1.short in absurd (omega arith)
one_found text (lexed fault) long a b = absurd (omega arith)
one_found text (lexed fault) (lexed other) a b = ap (λ (f : LexFault). lexed f) (IsRefused-same text fault other a.1 b.1)
one_found text (lexed fault) (judged verdict) a b = absurd (refused_has_no_tokens text fault b.2.0 a.1 b.2.1)
one_found text (lexed fault) (ended end) a b = absurd (refused_has_no_tokens text fault b.1.tokens a.1 b.1.cut)
one_found text (judged verdict) long a b = absurd (omega arith)
one_found text (judged verdict) (lexed fault) a b = absurd (refused_has_no_tokens text fault a.2.0 b.1 a.2.1)
one_found text (judged verdict) (judged other) a b =
    let v = a.2 in
    let w = b.2 in
    let same : v.0 ≡ w.0 = IsTokens-same text v.0 w.0 v.1 w.1 in
    ap (λ (v : Verdict). judged v) (one_verdict (closed text w.0) verdict other (subst (λ (ts : List Token). IsVerdict (closed text ts) verdict) same v.2) w.2)
one_found text (judged verdict) (ended end) a b = absurd (a.1 (not_judged text verdict b.0 a.2 b.1))
one_found text (ended end) long a b = let short = a.1.short in absurd (omega arith)
one_found text (ended end) (lexed fault) a b = absurd (refused_has_no_tokens text fault a.1.tokens b.1 a.1.cut)
one_found text (ended end) (judged verdict) a b = absurd (b.1 (not_judged text verdict a.0 b.2 a.1))
one_found text (ended end) (ended other) a b = ap (λ (e : ProgramEnd). ended e) (sym a.2 ∙ ap end_of (one_text text a.0 b.0 a.1 b.1) ∙ b.2)

-- the refusal of what was found
refusal_of : Found → Refusal
refusal_of long = refusals.TooLong
refusal_of (lexed (lexer.BadByte at)) = refusals.At kinds.BadByte at
refusal_of (lexed (lexer.LongName at)) = refusals.At kinds.LongName at
refusal_of (lexed (lexer.LongNumber at)) = refusals.At kinds.LongNumber at
refusal_of (lexed (lexer.Memory _)) = refusals.TooLong
refusal_of (judged within_limits) = refusals.TooLong
refusal_of (judged (syntax number at)) = refusals.At kinds.Syntax at
refusal_of (judged (nesting at)) = refusals.At kinds.Nesting at
refusal_of (judged (inputs at)) = refusals.At kinds.Inputs at
refusal_of (ended (two_names at)) = refusals.At kinds.TwoParams at
refusal_of (ended (no_binding at)) = refusals.At kinds.Unbound at
refusal_of (ended (stuck_at cause at)) = refusals.At (kinds.Stuck cause) at
refusal_of (ended (leaves tree)) = refusals.TooLong

-- where a program is left, there is no place of a refusal
no_place : (kind : FaultKind) (at : Place) (found : Found) {tree : Tree} → found ≡ ended (leaves tree) → refusal_of found ≡ refusals.At kind at → ⊥
unfolding refusal_of
no_place kind at found {tree} e same = apart (sym (ap refusal_of e) ∙ same)
  where
    apart : refusals.TooLong ≡ refusals.At kind at → ⊥
    apart e = absurd cc

record IsFoundFor (text : List ℕ) (refusal : Refusal) : Type 0 where
  found : Found
  is : IsFound text found
  same : refusal_of found ≡ refusal

no_syntax : (number : ℕ) (at : Place) → syntax number at ≡ within_limits → ⊥
no_syntax number at e = absurd cc

no_nesting : (at : Place) → nesting at ≡ within_limits → ⊥
no_nesting at e = absurd cc

no_inputs : (at : Place) → inputs at ≡ within_limits → ⊥
no_inputs at e = absurd cc

stuck_found : (text : List ℕ) (cause : Cause) (at : Place) (h : (p : ProgramView) × IsProgramText text p × IsStuckFor cause at p)
    → IsFoundFor text (refusals.At (kinds.Stuck cause) at)
unfolding refusal_of
stuck_found text cause at h = record { found = ended (stuck_at cause at); is = (h.0, h.1, ends_stuck h.0 cause at h.2); same = refl }

formed_found : (text : List ℕ) (p : ProgramView) → IsWellFormed text p → IsFound text (ended (leaves p.body))
unfolding end_of
formed_found text p w = (record p { body = w.unbound }, w.text_of, ends_left p.params w.unbound p.body w.bound w.run)

found_for : (text : List ℕ) (refusal : Refusal) → IsRefusal text refusal → IsFoundFor text refusal
unfolding refusal_of
found_for text refusals.TooLong h = record { found = long; is = h; same = refl }
found_for text (refusals.At kinds.BadByte at) h = record { found = lexed (lexer.BadByte at); is = h; same = refl }
found_for text (refusals.At kinds.LongName at) h = record { found = lexed (lexer.LongName at); is = h; same = refl }
found_for text (refusals.At kinds.LongNumber at) h = record { found = lexed (lexer.LongNumber at); is = h; same = refl }
found_for text (refusals.At kinds.Syntax at) h = record {
  found = judged (syntax h.1.2.0 at);
  is = (
    h.0,
    no_syntax h.1.2.0 at,
    (h.1.0, h.1.1, h.1.2.1),
  );
  same = refl;
}
found_for text (refusals.At kinds.Nesting at) h = record { found = judged (nesting at); is = (h.0, no_nesting at, h.1); same = refl }
found_for text (refusals.At kinds.Inputs at) h = record { found = judged (inputs at); is = (h.0, no_inputs at, h.1); same = refl }
found_for text (refusals.At kinds.TwoParams at) h = record { found = ended (two_names at); is = (h.1.0, h.1.1, ends_two h.1.0 at h.1.2); same = refl }
found_for text (refusals.At kinds.Unbound at) h = record { found = ended (no_binding at); is = (h.1.0, h.1.1, ends_unbound h.1.0 at h.1.2); same = refl }
found_for text (refusals.At (kinds.Stuck cause) at) h = stuck_found text cause at h.1

pub one_refusal : (text : List ℕ) (refusal other : Refusal) → IsRefusal text refusal → IsRefusal text other → refusal ≡ other
one_refusal text refusal other a b =
    let f = found_for text refusal a in
    let g = found_for text other b in
    sym f.same ∙ ap refusal_of (one_found text f.found g.found f.is g.is) ∙ g.same

-- a well-formed text has no refusal
pub never_refused : (text : List ℕ) (p : ProgramView) (refusal : Refusal) → IsWellFormed text p → IsRefusal text refusal → ⊥
never_refused text p refusals.TooLong w h = let short = w.text_of.short in omega arith
never_refused text p (refusals.At kind at) w h =
    let f = found_for text (refusals.At kind at) h in
    no_place kind at f.found (one_found text f.found (ended (leaves p.body)) f.is (formed_found text p w)) f.same

-- what holds of the lexer's tokens
pub of_tokens : (text : List ℕ) (all : List Token) (P : List Token → Type 0) → (tokens : List Token) × IsTokens text tokens × (all ≡ closed text tokens) → P all
    → OfTokens text P
of_tokens text all P given h = (given.0, given.1, subst P given.2 h)
