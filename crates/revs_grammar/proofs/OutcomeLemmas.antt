-- How the machine's outcome over a list of tokens tells where and why the list is refused.
use Rattle.std.proofs.Common.{◌≡◌, ◌≢◌, ℕ, ◌+◌, ◌==◌, Bool, true, false, cond, Option, Some, None, List}
use Rattle.std.proofs.Common.{[], ◌∷◌, ◌++◌, refl, sym, ◌∙◌, subst, length, append_assoc, arith}
use Rattle.revs_lexer.specs.declared.token.Tok.{Tok}
use Rattle.revs_lexer.specs.declared.token.Tok.TheVariants as toks
use Rattle.revs_lexer.specs.declared.token.Token.{Token}
use Rattle.revs_lexer.specs.Tokens.{IsEnded}
use Rattle.revs_terms.specs.declared.program.Param.{Param}
use Rattle.revs_terms.specs.Trees.{Tree}
use Rattle.revs_grammar.specs.Forms.{code, mark_code}
use Rattle.revs_grammar.specs.Sentences.{token, kept_token, opening_token, form, Leads, value, any_level, few_levels}
use Rattle.revs_grammar.specs.Sentences.{at_start, IsSentence, Begins, HasFewLevels, BeginsLow}
use Rattle.revs_grammar.specs.Answers.{HasSentence}
use Rattle.revs_grammar.specs.Faults.{CannotStandAs, CannotStand}
use Rattle.revs_grammar.specs.inside.Machine.{Stack, Opening, table, is_optional, at_level, taken, step, is_done, run}
use Rattle.revs_grammar.specs.inside.Machine.{Outcome, accepted, no_syntax, too_deep, is_end, at_token, outcome}
use Rattle.revs_grammar.proofs.RunLemmas.{run_next, first_step}
use Rattle.revs_grammar.proofs.LeadsLemmas.{IsDone, leads_accepted, accepted_leads, leads_on, run_begins, run_few}

-- ---- what the machine does where only few levels are allowed, it does where any are

level_any : (o : Option ℕ) (ss x : Stack) → at_level few_levels o ss ≡ Some x → at_level any_level o ss ≡ Some x
level_any None ss x e = e
level_any (Some l) ss x e = go (few_levels l) e
  where
    go : (b : Bool) → cond b (Some ss) None ≡ Some x → Some ss ≡ Some x
    go true e = e
    go false e = cc

pub step_any : (c : ℕ) (ss x : Stack) → step few_levels c ss ≡ Some x → step any_level c ss ≡ Some x
step_any c [] x e = e
step_any c (token m ∷ ss) x e = e
step_any c (kept_token m ∷ ss) x e = e
step_any c (opening_token m l ∷ ss) x e = go (c == mark_code m) e
  where
    go : (b : Bool) → cond b (at_level few_levels (Some l) ss) None ≡ Some x → cond b (at_level any_level (Some l) ss) None ≡ Some x
    go true e = level_any (Some l) ss x e
    go false e = cc
step_any c (form f l ∷ ss) x e = go (table c f) (is_optional f) e (step_any c ss x)
  where
    go : (o : Option Opening) (b : Bool) → taken few_levels l ss o (cond b (step few_levels c ss) None) ≡ Some x
        → (step few_levels c ss ≡ Some x → step any_level c ss ≡ Some x) → taken any_level l ss o (cond b (step any_level c ss) None) ≡ Some x
    go (Some o) b e next = level_any (o.opens l) (o.rest l ++ ss) x e
    go None true e next = next e
    go None false e next = cc

pub run_any : (front : List Token) (ss x : Stack) → run few_levels front ss ≡ Some x → run any_level front ss ≡ Some x
run_any [] ss x e = e
run_any (t ∷ front) ss x e =
    let n = run_next few_levels t front ss x e in
    first_step any_level t front ss n.0 x (step_any (code t.tok) ss n.0 n.1) (run_any front n.0 x n.2)

-- ---- one token more

same_stack : (x y : Stack) → Some x ≡ Some y → x ≡ y
same_stack x y e = cc

module _ (a : ℕ → Bool) where
  pub run_more : (front : List Token) (t : Token) (ss y x : Stack) → run a front ss ≡ Some y → step a (code t.tok) y ≡ Some x
      → run a (front ++ t ∷ []) ss ≡ Some x
  run_more [] t ss y x e p =
      first_step a t [] ss x x (subst (λ (z : Stack). step a (code t.tok) z ≡ Some x) (sym (same_stack ss y e)) p) refl
  run_more (s ∷ front) t ss y x e p =
      let n = run_next a s front ss y e in first_step a s (front ++ t ∷ []) ss n.0 x n.1 (run_more front t n.0 y x n.2 p)

  pub run_end : (front : List Token) (t : Token) (ss y x : Stack) → run a front ss ≡ Some y → run a (front ++ t ∷ []) ss ≡ Some x
      → step a (code t.tok) y ≡ Some x
  run_end [] t ss y x e p =
      let n = run_next a t [] y x (subst (λ (z : Stack). run a (t ∷ []) z ≡ Some x) (same_stack ss y e) p) in n.1 ∙ n.2
  run_end (s ∷ front) t ss y x e p =
      let n = run_next a s front ss y e in
      let k = run_next a s (front ++ t ∷ []) ss x p in
      let same : n.0 ≡ k.0 = same_stack n.0 k.0 (sym n.1 ∙ k.1) in
      run_end front t n.0 y x n.2 (subst (λ (z : Stack). run a (front ++ t ∷ []) z ≡ Some x) (sym same) k.2)

  -- The machine comes on over what begins what it reads.
  pub run_front : (front rest : List Token) (ss x : Stack) → run a (front ++ rest) ss ≡ Some x
      → (y : Stack) × (run a front ss ≡ Some y) × (run a rest y ≡ Some x)
  run_front [] rest ss x e = (ss, refl, e)
  run_front (t ∷ front) rest ss x e =
      let n = run_next a t (front ++ rest) ss x e in
      let r = run_front front rest n.0 x n.2 in (r.0, first_step a t front ss n.0 r.0 n.1 r.1, r.2)

-- The machine reads whatever begins a sentence, and a sentence to its end.
pub begins_runs : (front : List Token) → Begins front → (x : Stack) × (run any_level front at_start ≡ Some x)
begins_runs front b =
    let r = leads_accepted any_level (front ++ b.rest) b.sentence.spelled.reading in
    let f = run_front any_level front b.rest at_start r.stack r.runs in (f.0, f.1)

pub few_runs : (front : List Token) → HasFewLevels front → (x : Stack) × (run few_levels front at_start ≡ Some x)
few_runs front h = leads_on few_levels front h.left h.reading

pub run_done : (a : ℕ → Bool) (front : List Token) (x : Stack) → run a front at_start ≡ Some x → Leads a at_start front [] → is_done x ≡ true
run_done a front x e d = let r = leads_accepted a front d in subst IsDone (same_stack r.stack x (sym r.runs ∙ e)) r.holds

-- ---- what an outcome says

-- The reading stops at the token in front of which so many tokens were read.
pub record StopsAt (tokens : List Token) (left : ℕ) (Why : List Token → Token → Type 0) : Type 0 where
  pub front : List Token
  pub named : Token
  pub rest : List Token
  pub cut : tokens ≡ front ++ named ∷ rest
  pub count : length rest + 1 ≡ left
  pub why : Why front named

abbrev pub Refuses : List Token → Token → Type 0
Refuses front named = BeginsLow front × CannotStand front named

abbrev pub Deepens : List Token → Token → Type 0
Deepens front named = Begins (front ++ named ∷ []) × HasFewLevels front × (¬ HasFewLevels (front ++ named ∷ []))

-- The tokens are a sentence with no level above 100, and `End`.
pub record IsSentenceAndEnd (tokens : List Token) : Type 0 where
  pub params : List Param
  pub body : Tree
  pub sentence : HasSentence tokens params body

abbrev pub Says : List Token → Outcome → Type 0
Says tokens accepted = IsSentenceAndEnd tokens
Says tokens (no_syntax left) = StopsAt tokens left Refuses
Says tokens (too_deep left) = StopsAt tokens left Deepens

pub not_end : (t : Tok) → t ≢ toks.End → is_end t ≡ false
not_end toks.End h = absurd (h refl)
not_end (toks.Name text) h = refl
not_end _ h = refl

cannot : (front : List Token) (t : Token) (k : Tok) → k ≢ toks.End → (¬ Begins (front ++ t ∷ [])) → CannotStandAs k front t
cannot front t toks.End h b = absurd (h refl)
cannot front t (toks.Name text) h b = b
cannot front t _ h b = b

cannot_end : (front : List Token) (t : Token) → t.tok ≡ toks.End → (¬ IsSentence front) → CannotStand front t
cannot_end front t e b = subst (λ (z : Tok). CannotStandAs z front t) (sym e) b

none_some : (o : Option Stack) (x : Stack) → o ≡ None → o ≡ Some x → ⊥
none_some o x e f = let wrong : None ≡ Some x = sym e ∙ f in cc

-- Where the machine is stuck, no sentence goes on; and no level below 101 is opened.
never : (front : List Token) (t : Token) (ss : Stack) → run any_level front at_start ≡ Some ss → step any_level (code t.tok) ss ≡ None
    → ¬ Begins (front ++ t ∷ [])
never front t ss r stuck b =
    let n = begins_runs (front ++ t ∷ []) b in
    none_some (step any_level (code t.tok) ss) n.0 stuck (run_end any_level front t at_start ss n.0 r n.1)

never_few : (front : List Token) (t : Token) (ss : Stack) → run few_levels front at_start ≡ Some ss → step few_levels (code t.tok) ss ≡ None
    → ¬ HasFewLevels (front ++ t ∷ [])
never_few front t ss r stuck h =
    let n = few_runs (front ++ t ∷ []) h in
    none_some (step few_levels (code t.tok) ss) n.0 stuck (run_end few_levels front t at_start ss n.0 r n.1)

says : (front : List Token) (t : Token) (ss : Stack) → run few_levels front at_start ≡ Some ss → t.tok ≡ toks.End
    → Says (front ++ t ∷ []) (cond (is_done ss) accepted (no_syntax 1))
says front t ss r e = go (is_done ss) refl
  where
    far : run any_level front at_start ≡ Some ss
    far = run_any front at_start ss r

    go : (b : Bool) → is_done ss ≡ b → Says (front ++ t ∷ []) (cond b accepted (no_syntax 1))
    go true d =
        let all = accepted_leads few_levels front ss r d in record {
          params = (value all tt).0.params;
          body = (value all tt).0.body;
          sentence = record { sentence = front; end = t; cut = refl; ended = e; spelled = record { reading = all; params_are = refl; body_is = refl } };
        }
    go false d = record {
      front = front;
      named = t;
      rest = [];
      cut = refl;
      count = omega arith;
      why = (
        record { begins = run_begins front ss far; few = run_few front ss r },
        cannot_end front t e (λ s.
            let all = run_done any_level front ss far s.spelled.reading in
            let wrong : false ≡ true = sym d ∙ all in cc),
      );
    }

-- What the machine's outcome says, wherever the reading has come to.
says_behind : (rest : List Token) (front : List Token) (ss : Stack) → run few_levels front at_start ≡ Some ss → IsEnded rest
    → Says (front ++ rest) (outcome rest ss)
says_behind [] front ss r e = absurd e
says_behind (t ∷ []) front ss r e =
    subst (λ (k : Tok). Says (front ++ t ∷ []) (cond (is_end k) (cond (is_done ss) accepted (no_syntax 1))
    (at_token (step few_levels (code k) ss) (step any_level (code k) ss) 1 (outcome [])))) (sym e) (says front t ss r e)
says_behind (t ∷ u ∷ ts) front ss r e =
    let go_on : (next : Stack) → step few_levels (code t.tok) ss ≡ Some next → Says (front ++ t ∷ u ∷ ts) (outcome (u ∷ ts) next) = λ next is.
    subst (λ (z : List Token). Says z (outcome (u ∷ ts) next)) (append_assoc front (t ∷ []) (u ∷ ts))
    (says_behind (u ∷ ts) (front ++ t ∷ []) next (run_more few_levels front t at_start ss next r is) e.1) in
    subst (λ (b : Bool). Says (front ++ t ∷ u ∷ ts) (cond b (cond (is_done ss) accepted (no_syntax (length (u ∷ ts) + 1)))
    (at_token (step few_levels (code t.tok) ss) (step any_level (code t.tok) ss) (length (u ∷ ts) + 1) (outcome (u ∷ ts))))) (sym (not_end t.tok e.0))
    (cases go_on (step few_levels (code t.tok) ss) (step any_level (code t.tok) ss) refl refl)
  where
    far : run any_level front at_start ≡ Some ss
    far = run_any front at_start ss r

    stops : {Why : List Token → Token → Type 0} → Why front t → StopsAt (front ++ t ∷ u ∷ ts) (length (u ∷ ts) + 1) Why
    stops {Why} why = record { front = front; named = t; rest = u ∷ ts; cut = refl; count = refl; why = why }

    cases : ((next : Stack) → step few_levels (code t.tok) ss ≡ Some next → Says (front ++ t ∷ u ∷ ts) (outcome (u ∷ ts) next))
        → (o q : Option Stack) → step few_levels (code t.tok) ss ≡ o → step any_level (code t.tok) ss ≡ q
        → Says (front ++ t ∷ u ∷ ts) (at_token o q (length (u ∷ ts) + 1) (outcome (u ∷ ts)))
    cases go_on (Some next) q is other = go_on next is
    cases go_on None (Some next) is other =
        stops {Why = Deepens} (
          run_begins (front ++ t ∷ []) next (run_more any_level front t at_start ss next far other),
          run_few front ss r,
          never_few front t
              ss r is,
        )
    cases go_on None None is other =
        stops {Why = Refuses} (record { begins = run_begins front ss far; few = run_few front ss r }, cannot front t t.tok e.0 (never front t ss far other))

-- What the outcome says of a whole list of tokens.
pub outcome_says : (tokens : List Token) → IsEnded tokens → Says tokens (outcome tokens at_start)
outcome_says tokens e = says_behind tokens [] at_start refl e
