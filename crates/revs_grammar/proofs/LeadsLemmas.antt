-- Readings of tokens, one behind the other, and what they stand for.
use Rattle.std.proofs.Common.{◌≡◌, ℕ, Bool, true, Some, List, [], ◌∷◌, ◌++◌, refl, sym, ◌∙◌, ap, subst, append-nil}
use Rattle.revs_lexer.specs.declared.token.Token.{Token}
use Rattle.revs_grammar.specs.Forms.{Held, held, code, Form, Val, Piece, Production, IsOneOf}
use Rattle.revs_grammar.specs.Productions.{productions}
use Rattle.revs_grammar.specs.Sentences.{Symbol, form, symbols, Leads, done, read, keep, open_level, by_line, Vals, front_of, behind_of, fill}
use Rattle.revs_grammar.specs.Sentences.{value, any_level, few_levels, at_start, IsSentenceOf, IsSentence, Begins, HasFewLevels, OneProgram}
use Rattle.revs_grammar.specs.Answers.{HasSentence}
use Rattle.revs_terms.specs.declared.program.Param.{Param}
use Rattle.revs_terms.specs.Trees.{Tree}
use Rattle.revs_grammar.specs.inside.Machine.{Stack, is_done, run, is_empty}
use Rattle.revs_grammar.proofs.CheckHints.{may_follow}
use Rattle.revs_grammar.proofs.CheckLemmas.{one_line_at_most, begin, starts_well, starts, lines_part, left_out_once}
use Rattle.revs_grammar.proofs.LineLemmas.{true≢false, one_line, all_below-at, code_low, all_lines-at}
use Rattle.revs_grammar.proofs.StepLemmas.{step_begins, IsOrdered, ordered_line, begin_of, line_done, done_is_empty}
use Rattle.revs_grammar.proofs.RunLemmas.{HoldsByLines, RunsTo, leads_runs, run_next, run_leads, done_leads, completed}

-- ---- one reading behind the other

abbrev pub leads-then : {a : ℕ → Bool} {ss mid left : List Symbol} {ts us : List Token} → Leads a ss ts mid → Leads a mid us left → Leads a ss (ts ++ us) left
leads-then done e = e
leads-then (read c d) e = read c (leads-then d e)
leads-then (keep c d) e = keep c (leads-then d e)
leads-then (open_level c ok d) e = open_level c ok (leads-then d e)
leads-then (by_line p i d) e = by_line p i (leads-then d e)

-- what a line stands for, and what stands behind it, from what its pieces stand for
abbrev pub folded : (f : Form) (l : ℕ) (ss : List Symbol) (p : Production (Val f)) → Vals (symbols l p.pieces ++ ss) → Val f × Vals ss
folded f l ss p vs = (fill l p.pieces p.build (front_of (symbols l p.pieces) ss vs), behind_of (symbols l p.pieces) ss vs)

pub value-then : {a : ℕ → Bool} {ss mid left : List Symbol} {ts us : List Token} (d : Leads a ss ts mid) (e : Leads a mid us left) (vs : Vals left)
    → value (leads-then d e) vs ≡ value d (value e vs)
value-then done e vs = refl
value-then (read c d) e vs = value-then d e vs
value-then (keep {m = m} {t = t} {ss = ss} c d) e vs = ap (λ (z : Vals ss). let v : Held m × Vals ss = (held m t, z) in v) (value-then d e vs)
value-then (open_level {m = m} {t = t} {ss = ss} c ok d) e vs = ap (λ (z : Vals ss). let v : Held m × Vals ss = (held m t, z) in v) (value-then d e vs)
value-then (by_line {f = f} {l = l} {ss = ss} p i d) e vs = ap (folded f l ss p) (value-then d e vs)

-- What few levels allow, any levels do.
pub leads-any : {ss left : List Symbol} {ts : List Token} → Leads few_levels ss ts left → Leads any_level ss ts left
leads-any done = done
leads-any (read c d) = read c (leads-any d)
leads-any (keep c d) = keep c (leads-any d)
leads-any (open_level c ok d) = open_level c refl (leads-any d)
leads-any (by_line p i d) = by_line p i (leads-any d)

-- ---- tokens are read in one way

-- whether a line may be read at the first of these tokens
abbrev takes : Form → List Token → List Piece → Bool
takes f [] ps = is_empty ps
takes f (t ∷ ts) ps = begin (may_follow f) (code t.tok) ps

takes_once : (f : Form) (ts : List Token) → one_line_at_most (takes f ts) (productions f) ≡ true
takes_once f [] = left_out_once f
takes_once f (t ∷ ts) = all_below-at 36 (λ c. one_line_at_most (begin (may_follow f) c) (productions f)) (code t.tok) (lines_part f) (code_low t.tok)

abbrev pub IsDone : Stack → Type 0
IsDone ss = is_done ss ≡ true

pub done_by_lines : HoldsByLines IsDone
done_by_lines = record { by_lines = λ f l ss p i d. line_done f l ss p i d }

taking : (a : ℕ → Bool) (f : Form) (l : ℕ) (ss : List Symbol) (ts : List Token) (p : Production (Val f)) → IsOneOf p (productions f) → IsOrdered (form f l ∷ ss)
    → Leads a (symbols l p.pieces ++ ss) ts [] → takes f ts p.pieces ≡ true
taking a f l ss [] p i o d =
    let r = leads_runs IsDone done_by_lines a d (ordered_line f l ss p i o) refl in
    let e = r.runs in
    let same : r.stack ≡ symbols l p.pieces ++ ss = cc in
    done_is_empty l _ p.pieces ss (all_lines-at (starts_well _) (productions f) p (starts f) i) (subst IsDone same r.holds)
taking a f l ss (t ∷ ts) p i o d =
    let r = leads_runs IsDone done_by_lines a d (ordered_line f l ss p i o) refl in
    let n = run_next a t ts (symbols l p.pieces ++ ss) r.stack r.runs in
    begin_of (may_follow f) (code t.tok) l p.pieces ss (step_begins a (code t.tok) (symbols l p.pieces ++ ss) n.0 n.1)
    (o.0.follows (code t.tok) (code_low t.tok))

-- By one line, two readings stand for one thing.
by_one : (b : ℕ → Bool) (f : Form) (l : ℕ) (ss : List Symbol) (ts : List Token) (p q : Production (Val f)) → p ≡ q → (vs : Vals (symbols l p.pieces ++ ss))
    → ((e : Leads b (symbols l p.pieces ++ ss) ts []) → vs ≡ value e tt)
    → (e : Leads b (symbols l q.pieces ++ ss) ts []) → folded f l ss p vs ≡ folded f l ss q (value e tt)
by_one b f l ss ts p q is vs h =
    subst (λ (z : Production (Val f)). (e : Leads b (symbols l z.pieces ++ ss) ts []) → folded f l ss p vs ≡ folded f l ss z (value e tt)) is
    (λ e. ap (folded f l ss p) (h e))

pub same_value : {a b : ℕ → Bool} {ss : List Symbol} {ts : List Token} (d : Leads a ss ts []) (e : Leads b ss ts []) → IsOrdered ss → value d tt ≡ value e tt
same_value done done o = refl
same_value (read c d) (read k e) o = same_value d e o
same_value (keep {m = m} {t = t} {ss = ss} c d) (keep k e) o = ap (λ (z : Vals ss). let v : Held m × Vals ss = (held m t, z) in v) (same_value d e o)
same_value (open_level {m = m} {t = t} {ss = ss} c ok d) (open_level k okay e) o = ap (λ (z : Vals ss). let v : Held m × Vals ss = (held m t, z) in v)
    (same_value d e o)
same_value {a} {b} (by_line {f = f} {l = l} {ss = ss} {ts = ts} p i d) (by_line q j e) o =
    by_one b f l ss ts p q
    (one_line (takes f ts) (productions f) p q (takes_once f ts) i j (taking a f l ss ts p i o d) (taking b f l ss ts q j o e))
    (value d tt) (λ e. same_value d e (ordered_line f l ss p i o)) e

-- ---- whole sentences

pub start_ordered : IsOrdered at_start
start_ordered = (record { follows = λ c low b. absurd (true≢false (sym b)) }, tt)

-- A list of tokens is the sentence of one program.
pub one_program : OneProgram
one_program allowed others ts params more body term d e =
    let same = same_value d.reading e.reading start_ordered in (
      sym d.params_are ∙ ap (λ (v : Vals at_start). v.0.params) same ∙ e.params_are,
      sym d.body_is ∙ ap (λ (v : Vals at_start). v.0.body) same ∙ e.body_is,
    )

same_front : (ts us : List Token) (x y : Token) → ts ++ x ∷ [] ≡ us ++ y ∷ [] → ts ≡ us
same_front [] [] x y e = refl
same_front [] (u ∷ []) x y e = cc
same_front [] (u ∷ v ∷ us) x y e = cc
same_front (t ∷ []) [] x y e = cc
same_front (t ∷ v ∷ ts) [] x y e = cc
same_front (t ∷ ts) (u ∷ us) x y e =
    let tail : ts ++ x ∷ [] ≡ us ++ y ∷ [] = cc in
    let same = same_front ts us x y tail in
    let head : t ≡ u = cc in cc

-- So it is with `End` behind it.
pub same_program : (tokens : List Token) (params more : List Param) (body term : Tree)
    → HasSentence tokens params body → HasSentence tokens more term → (params ≡ more) × (body ≡ term)
same_program tokens params more body term h k =
    let sentence = same_front h.sentence k.sentence h.end k.end (sym h.cut ∙ k.cut) in
    one_program few_levels few_levels k.sentence params more body term
    (subst (λ (z : List Token). IsSentenceOf few_levels z params body) sentence h.spelled) k.spelled

-- ---- whole sentences, and what begins one

module _ (a : ℕ → Bool) where
  -- The machine reads a sentence to its end.
  pub leads_accepted : (ts : List Token) → Leads a at_start ts [] → RunsTo IsDone a ts at_start
  leads_accepted ts d = leads_runs IsDone done_by_lines a d start_ordered refl

  -- What the machine reads to its end is a sentence.
  pub accepted_leads : (ts : List Token) (x : Stack) → run a ts at_start ≡ Some x → is_done x ≡ true → Leads a at_start ts []
  accepted_leads ts x e d = subst (λ (z : List Token). Leads a at_start z []) (append-nil ts) (leads-then (run_leads a ts at_start x e) (done_leads a x d))

  -- The machine reads whatever leads on.
  pub leads_on : (ts : List Token) (left : Stack) → Leads a at_start ts left → (x : Stack) × (run a ts at_start ≡ Some x)
  leads_on ts left d = let r = leads_runs (λ ss. Unit {0}) (record { by_lines = λ f l ss p i q. tt }) a d start_ordered tt in (r.stack, r.runs)

sentence_of : (ts : List Token) → Leads any_level at_start ts [] → IsSentence ts
sentence_of ts d = record { params = (value d tt).0.params; body = (value d tt).0.body; spelled = record { reading = d; params_are = refl; body_is = refl } }

-- What was read begins some sentence.
pub run_begins : (front : List Token) (x : Stack) → run any_level front at_start ≡ Some x → Begins front
run_begins front x e =
    let rest = completed x in
    record { rest = rest.0; sentence = sentence_of (front ++ rest.0) (leads-then (run_leads any_level front at_start x e) rest.1) }

pub run_few : (front : List Token) (x : Stack) → run few_levels front at_start ≡ Some x → HasFewLevels front
run_few front x e = record { left = x; reading = run_leads few_levels front at_start x e }

pub accepted_sentence : (ts : List Token) (x : Stack) → run any_level ts at_start ≡ Some x → is_done x ≡ true → IsSentence ts
accepted_sentence ts x e d = sentence_of ts (accepted_leads any_level ts x e d)
