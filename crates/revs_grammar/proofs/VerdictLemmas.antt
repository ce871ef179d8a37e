-- Each list of tokens has one verdict.
use Rattle.std.proofs.Common.{◌≡◌, ℕ, suc, ◌+◌, ◌==◌, Bool, true, false, cond, Option, Some, None, List, [], ◌∷◌}
use Rattle.std.proofs.Common.{◌++◌, ◌⊎◌, inl, inr, refl, sym, ◌∙◌, ap, subst, length, length-append, arith, rules}
use Rattle.std.proofs.lemmas.Bool.Decides.{nat_tests}
use Rattle.revc_base.specs.declared.place.Place.{Place}
use Rattle.revs_lexer.specs.declared.token.Tok.{Tok}
use Rattle.revs_lexer.specs.declared.token.Tok.TheVariants as toks
use Rattle.revs_lexer.specs.declared.token.Token.{Token}
use Rattle.revs_terms.specs.declared.program.Param.{Param}
use Rattle.revs_terms.specs.Programs.{AreParams}
use Rattle.revs_terms.specs.Trees.{Tree}
use Rattle.revs_grammar.specs.Forms.{Mark, code, mark_code}
use Rattle.revs_grammar.specs.Sentences.{Leads, done, read, keep, open_level, by_line, at_start, any_level, few_levels, Begins}
use Rattle.revs_grammar.specs.Answers.{HasSentence, IsInputs}
use Rattle.revs_grammar.specs.Faults.{IsWithinLimits, CannotStandAs, IsSyntax, IsNesting, Verdict, within_limits}
use Rattle.revs_grammar.specs.Faults.{syntax, nesting, inputs, IsVerdict, SomeVerdict, OneVerdict}
use Rattle.revs_grammar.specs.inside.Machine.{Stack, step, run, is_done, Outcome, accepted, no_syntax, too_deep, is_end, at_token, outcome}
use Rattle.revs_grammar.proofs.LineLemmas.{no_end, true≢false}
use Rattle.revs_grammar.proofs.RunLemmas.{run_next, step_leads}
use Rattle.revs_grammar.proofs.LeadsLemmas.{leads_accepted, run_begins, run_few, accepted_sentence, same_program}
use Rattle.revs_grammar.proofs.OutcomeLemmas.{run_more, run_end, run_any, step_any, begins_runs, few_runs, StopsAt, Refuses, Deepens, Says, outcome_says}
use Rattle.revs_grammar.proofs.LimitLemmas.{AreParams-none, Passes, all_pass, one_passes, none_passes}

-- No reading takes an `End`.
marked : (c : ℕ) (m : Mark) → c ≡ mark_code m → c ≡ 0 → ⊥
marked c m e z =
    let same : 0 == mark_code m ≡ true = grind (arith, nat_tests) in true≢false (sym same ∙ no_end m)

leads_no_end : {a : ℕ → Bool} {ss left : Stack} {t : Token} {ts : List Token} → Leads a ss (t ∷ ts) left → code t.tok ≡ 0 → ⊥
leads_no_end (read {m = m} {t = t} e d) z = marked (code t.tok) m e z
leads_no_end (keep {m = m} {t = t} e d) z = marked (code t.tok) m e z
leads_no_end (open_level {m = m} {t = t} e ok d) z = marked (code t.tok) m e z
leads_no_end (by_line p i d) z = leads_no_end d z

end_code : (t : Tok) → is_end t ≡ true → code t ≡ 0
end_code toks.End e = refl
end_code (toks.Name text) e = cc
end_code _ e = cc

taken_is_no_end : (a : ℕ → Bool) (ss : Stack) (t : Token) (x : Stack) → step a (code t.tok) ss ≡ Some x → is_end t.tok ≡ false
taken_is_no_end a ss t x e = go (is_end t.tok) refl
  where
    go : (b : Bool) → is_end t.tok ≡ b → is_end t.tok ≡ false
    go false is = is
    go true is = absurd (leads_no_end (step_leads a t ss x x [] e done) (end_code t.tok is))

-- the outcome at a token, from what the machine does there
outcome_at : (t : Token) (rest : List Token) (ms : Stack) (o q : Option Stack)
    → is_end t.tok ≡ false → step few_levels (code t.tok) ms ≡ o → step any_level (code t.tok) ms ≡ q
    → outcome (t ∷ rest) ms ≡ at_token o q (length rest + 1) (outcome rest)
outcome_at t rest ms o q e f h =
    subst (λ (b : Bool). cond b (cond (is_done ms) accepted (no_syntax (length rest + 1)))
    (at_token (step few_levels (code t.tok) ms) (step any_level (code t.tok) ms) (length rest + 1) (outcome rest))
    ≡ at_token o q (length rest + 1) (outcome rest)) (sym e)
    (subst (λ (z : Option Stack). at_token z (step any_level (code t.tok) ms) (length rest + 1) (outcome rest) ≡ at_token o q (length rest + 1) (outcome rest))
    (sym f)
    (subst (λ (z : Option Stack). at_token o z (length rest + 1) (outcome rest) ≡ at_token o q (length rest + 1) (outcome rest)) (sym h) refl))

outcome_at_end : (t : Token) (rest : List Token) (ms : Stack) (b : Bool) → t.tok ≡ toks.End → is_done ms ≡ b
    → outcome (t ∷ rest) ms ≡ cond b accepted (no_syntax (length rest + 1))
outcome_at_end t rest ms b e d =
    subst (λ (k : Tok). cond (is_end k) (cond (is_done ms) accepted (no_syntax (length rest + 1)))
    (at_token (step few_levels (code k) ms) (step any_level (code k) ms) (length rest + 1) (outcome rest)) ≡ cond b accepted (no_syntax (length rest + 1)))
    (sym e)
    (subst (λ (z : Bool). cond z accepted (no_syntax (length rest + 1)) ≡ cond b accepted (no_syntax (length rest + 1))) (sym d) refl)

outcome_run : (front rest : List Token) (ms x : Stack) → run few_levels front ms ≡ Some x → outcome (front ++ rest) ms ≡ outcome rest x
outcome_run [] rest ms x e = let same : ms ≡ x = cc in ap (outcome rest) same
outcome_run (t ∷ front) rest ms x e =
    let n = run_next few_levels t front ms x e in
    outcome_at t (front ++ rest) ms (Some n.0) (step any_level (code t.tok) ms) (taken_is_no_end few_levels ms t n.0 n.1) n.1 refl
    ∙ outcome_run front rest n.0 x n.2

-- Whether the machine goes on is settled by whether it must not.
is_none : (o : Option Stack) → ((x : Stack) → o ≡ Some x → ⊥) → o ≡ None
is_none None h = refl
is_none (Some x) h = absurd (h x refl)

is_false : (b : Bool) → (b ≡ true → ⊥) → b ≡ false
is_false false h = refl
is_false true h = absurd (h refl)

-- The outcome at a sentence with no level above 100.
pub sentence_outcome : (tokens : List Token) (params : List Param) (term : Tree) → HasSentence tokens params term → outcome tokens at_start ≡ accepted
sentence_outcome tokens params term h =
    let r = leads_accepted few_levels h.sentence h.spelled.reading in
    subst (λ (z : List Token). outcome z at_start ≡ accepted) (sym h.cut)
    (outcome_run h.sentence (h.end ∷ []) at_start r.stack r.runs ∙ outcome_at_end h.end [] r.stack true h.ended r.holds)

within_outcome : (tokens : List Token) → IsWithinLimits tokens → outcome tokens at_start ≡ accepted
within_outcome tokens w = sentence_outcome tokens w.params w.body w.program.sentence

inputs_outcome : (tokens : List Token) (at : Place) → IsInputs tokens at → outcome tokens at_start ≡ accepted
inputs_outcome tokens at i = sentence_outcome tokens i.params i.body i.sentence

stuck : (named : Token) (rest : List Token) (front : List Token) (x : Stack)
    → run few_levels front at_start ≡ Some x → (¬ Begins (front ++ named ∷ [])) → is_end named.tok ≡ false → outcome (named ∷ rest) x
    ≡ no_syntax (length rest + 1)
stuck named rest front x r c n =
    let far : (y : Stack) → step any_level (code named.tok) x ≡ Some y → ⊥ = λ y is.
    c (run_begins (front ++ named ∷ []) y (run_more any_level front named at_start x y (run_any front at_start x r) is)) in
    outcome_at named rest x None None n
    (is_none (step few_levels (code named.tok) x) (λ y is. far y (step_any (code named.tok) x y is)))
    (is_none (step any_level (code named.tok) x) far)

-- what a token that cannot stand does to the machine
stuck_outcome : (named : Token) (rest : List Token) (front : List Token) (x : Stack) (k : Tok) → named.tok ≡ k
    → run few_levels front at_start ≡ Some x → CannotStandAs k front named → outcome (named ∷ rest) x ≡ no_syntax (length rest + 1)
stuck_outcome named rest front x toks.End e r c =
    outcome_at_end named rest x false e (is_false (is_done x) (λ d. c (accepted_sentence front x (run_any front at_start x r) d)))
stuck_outcome named rest front x (toks.Name text) e r c = stuck named rest front x r c (ap is_end e)
stuck_outcome named rest front x k e r c = stuck named rest front x r c (ap is_end e)

syntax_outcome : (tokens : List Token) (number : ℕ) (at : Place) → (f : IsSyntax tokens number at) → outcome tokens at_start ≡ no_syntax (length f.rest + 1)
syntax_outcome tokens number at f =
    let runs = few_runs f.front f.begins.few in
    subst (λ (z : List Token). outcome z at_start ≡ no_syntax (length f.rest + 1)) (sym f.cut)
    (outcome_run f.front (f.named ∷ f.rest) at_start runs.0 runs.1
    ∙ stuck_outcome f.named f.rest f.front runs.0 f.named.tok refl runs.1 f.refused)

nesting_outcome : (tokens : List Token) (at : Place) → (f : IsNesting tokens at) → outcome tokens at_start ≡ too_deep (length f.rest + 1)
nesting_outcome tokens at f =
    let k = code f.named.tok in
    let runs = few_runs f.front f.few in
    let far = begins_runs (f.front ++ f.named ∷ []) f.begins in
    let is : step any_level k runs.0 ≡ Some far.0 = run_end any_level f.front f.named at_start runs.0 far.0 (run_any f.front at_start runs.0 runs.1) far.1 in
    let not : step few_levels k runs.0 ≡ None = is_none (step few_levels k runs.0) (λ y now.
    f.deep (run_few (f.front ++ f.named ∷ []) y (run_more few_levels f.front f.named at_start runs.0 y runs.1 now))) in
    subst (λ (z : List Token). outcome z at_start ≡ too_deep (length f.rest + 1)) (sym f.cut)
    (outcome_run f.front (f.named ∷ f.rest) at_start runs.0 runs.1
    ∙ outcome_at f.named f.rest runs.0 None (Some far.0) (taken_is_no_end any_level runs.0 f.named far.0 is) not is)

-- A token is known by how many stand behind it.
same_cut : (f h : List Token) (n m : Token) (r q : List Token) → f ++ n ∷ r ≡ h ++ m ∷ q → length r ≡ length q → (n ≡ m) × (length f ≡ length h)
same_cut [] [] n m r q e l = (cc, refl)
same_cut [] (x ∷ h) n m r q e l =
    let tail : r ≡ h ++ m ∷ q = cc in
    let len = ap length tail in absurd (omega (arith, l, len, length-append h (m ∷ q)))
same_cut (x ∷ f) [] n m r q e l =
    let tail : f ++ n ∷ r ≡ q = cc in
    let len = ap length tail in absurd (omega (arith, l, len, length-append f (n ∷ r)))
same_cut (x ∷ f) (y ∷ h) n m r q e l =
    let tail : f ++ n ∷ r ≡ h ++ m ∷ q = cc in
    let same = same_cut f h n m r q tail l in (same.0, ap suc same.1)

one_syntax : (tokens : List Token) (k j : ℕ) (at by : Place) → IsSyntax tokens k at → IsSyntax tokens j by → syntax k at ≡ syntax j by
one_syntax tokens k j at by f h =
    let left : no_syntax (length f.rest + 1) ≡ no_syntax (length h.rest + 1) = sym (syntax_outcome tokens k at f) ∙ syntax_outcome tokens j by h in
    let sums : length f.rest + 1 ≡ length h.rest + 1 = cc in
    let same = same_cut f.front h.front f.named h.named f.rest h.rest (sym f.cut ∙ h.cut) (omega (arith, sums)) in
    let places : at ≡ by = sym f.place ∙ ap (λ (t : Token). t.at) same.0 ∙ h.place in
    let numbers : k ≡ j = sym f.count ∙ same.1 ∙ h.count in cc

one_nesting : (tokens : List Token) (at by : Place) → IsNesting tokens at → IsNesting tokens by → nesting at ≡ nesting by
one_nesting tokens at by f h =
    let left : too_deep (length f.rest + 1) ≡ too_deep (length h.rest + 1) = sym (nesting_outcome tokens at f) ∙ nesting_outcome tokens by h in
    let sums : length f.rest + 1 ≡ length h.rest + 1 = cc in
    let same = same_cut f.front h.front f.named h.named f.rest h.rest (sym f.cut ∙ h.cut) (omega (arith, sums)) in
    let places : at ≡ by = sym f.place ∙ ap (λ (t : Token). t.at) same.0 ∙ h.place in cc

program_not_inputs : (tokens : List Token) (at : Place) → IsWithinLimits tokens → IsInputs tokens at → ⊥
program_not_inputs tokens at w i =
    let same = same_program tokens w.params i.params w.body i.body w.program.sentence i.sentence in
    let a = i.passes in
    a.passed (none_passes a.before a.named a.behind (subst (λ (z : List Param). AreParams z) (same.0 ∙ a.cut) w.program.inputs))

one_inputs : (tokens : List Token) (at by : Place) → IsInputs tokens at → IsInputs tokens by → inputs at ≡ inputs by
one_inputs tokens at by i k =
    let same = same_program tokens i.params k.params i.body k.body i.sentence k.sentence in
    let a = i.passes in
    let b = k.passes in
    let named = one_passes a.before b.before a.named b.named a.behind b.behind (sym a.cut ∙ same.0 ∙ b.cut) a.fine a.passed b.fine b.passed in
    let places : at ≡ by = sym a.place ∙ ap (λ (p : Param). p.name.at) named ∙ b.place in cc

pub one_verdict : OneVerdict
one_verdict tokens within_limits within_limits v w = refl
one_verdict tokens within_limits (syntax j by) v w = let a = within_outcome tokens v in let b = syntax_outcome tokens j by w in cc
one_verdict tokens within_limits (nesting by) v w = let a = within_outcome tokens v in let b = nesting_outcome tokens by w in cc
one_verdict tokens within_limits (inputs by) v w = absurd (program_not_inputs tokens by v w)
one_verdict tokens (syntax k at) within_limits v w = let a = within_outcome tokens w in let b = syntax_outcome tokens k at v in cc
one_verdict tokens (syntax k at) (syntax j by) v w = one_syntax tokens k j at by v w
one_verdict tokens (syntax k at) (nesting by) v w = let a = syntax_outcome tokens k at v in let b = nesting_outcome tokens by w in cc
one_verdict tokens (syntax k at) (inputs by) v w = let a = syntax_outcome tokens k at v in let b = inputs_outcome tokens by w in cc
one_verdict tokens (nesting at) within_limits v w = let a = within_outcome tokens w in let b = nesting_outcome tokens at v in cc
one_verdict tokens (nesting at) (syntax j by) v w = let a = nesting_outcome tokens at v in let b = syntax_outcome tokens j by w in cc
one_verdict tokens (nesting at) (nesting by) v w = one_nesting tokens at by v w
one_verdict tokens (nesting at) (inputs by) v w = let a = nesting_outcome tokens at v in let b = inputs_outcome tokens by w in cc
one_verdict tokens (inputs at) within_limits v w = absurd (program_not_inputs tokens at w v)
one_verdict tokens (inputs at) (syntax j by) v w = let a = inputs_outcome tokens at v in let b = syntax_outcome tokens j by w in cc
one_verdict tokens (inputs at) (nesting by) v w = let a = inputs_outcome tokens at v in let b = nesting_outcome tokens by w in cc
one_verdict tokens (inputs at) (inputs by) v w = one_inputs tokens at by v w

-- what a sentence with no level above 100 is found to be
pub limits_of : (tokens : List Token) (params : List Param) (term : Tree) → HasSentence tokens params term → (verdict : Verdict) × IsVerdict tokens verdict
limits_of tokens params term h = go (all_pass [] params AreParams-none)
  where
    go : AreParams params ⊎ Passes [] params → (verdict : Verdict) × IsVerdict tokens verdict
    go (inl k) = (within_limits, record { params = params; body = term; program = record { sentence = h; inputs = k } })
    go (inr k) = (
      inputs k.named.name.at,
      record {
        params = params;
        body = term;
        sentence = h;
        passes = record { before = k.fine; named = k.named; behind = k.behind; cut = k.cut; place = refl; fine = k.keep; passed = k.passed };
      },
    )

-- What the outcome says of the token at which it stops makes it the fault's.
pub syntax_is : {tokens : List Token} {left : ℕ} (s : StopsAt tokens left Refuses) → IsSyntax tokens (length s.front) s.named.at
syntax_is s = search rules

pub nesting_is : {tokens : List Token} {left : ℕ} (s : StopsAt tokens left Deepens) → IsNesting tokens s.named.at
nesting_is s =
    record { front = s.front; named = s.named; rest = s.rest; cut = s.cut; place = refl; begins = s.why.0; few = s.why.1; deep = s.why.2 }

pub verdict_of : (tokens : List Token) (o : Outcome) → Says tokens o → (verdict : Verdict) × IsVerdict tokens verdict
verdict_of tokens accepted s =
    limits_of tokens s.params s.body s.sentence
verdict_of tokens (no_syntax left) s = (syntax (length s.front) s.named.at, syntax_is s)
verdict_of tokens (too_deep left) s = (nesting s.named.at, nesting_is s)

pub some_verdict : SomeVerdict
some_verdict tokens e = verdict_of tokens (outcome tokens at_start) (outcome_says tokens e)
