-- The machine reads what leads from one stack to another, and nothing else.
use Rattle.std.proofs.Common.{◌≡◌, ℕ, zero, suc, ◌+◌, ◌==◌, Bool, true, false, cond, Option, Some, None, List}
use Rattle.std.proofs.Common.{[], ◌∷◌, ◌++◌, inl, inr, is_some, refl, sym, ap, subst, append_assoc, arith}
use Rattle.std.proofs.lemmas.Bool.Decides.{nat_tests}
use Rattle.revs_lexer.specs.declared.token.Token.{Token}
use Rattle.std.proofs.lemmas.Bool.{and_parts}
use Rattle.revs_grammar.specs.Forms.{Mark, any_name, two, other_number, word, sign, code, mark_code, Form, Val}
use Rattle.revs_grammar.specs.Forms.{level, Piece, one, kept, opening, sub, Production, IsOneOf}
use Rattle.revs_grammar.specs.Productions.{productions}
use Rattle.revs_grammar.specs.Sentences.{token, kept_token, opening_token, form, symbols, Leads, done, read, keep, open_level, by_line, any_level}
use Rattle.revs_grammar.specs.inside.Machine.{Stack, Opening, first_some, behind, begun, first_line, opened, table, is_empty}
use Rattle.revs_grammar.specs.inside.Machine.{has_empty, is_optional, at_level, taken, step, is_done, run}
use Rattle.revs_grammar.proofs.CheckLemmas.{sample, onto, both_lists, fill_pieces, first_filled, completion, completes}
use Rattle.revs_grammar.proofs.LineLemmas.{code_low}
use Rattle.revs_grammar.proofs.StepLemmas.{taken_if, opened_if, IsOrdered, ordered_line, line_step, empty_is}

-- ---- runs, step by step

module _ (a : ℕ → Bool) where
  pub run_next : (t : Token) (ts : List Token) (ss x : Stack) → run a (t ∷ ts) ss ≡ Some x
      → (next : Stack) × (step a (code t.tok) ss ≡ Some next) × (run a ts next ≡ Some x)
  run_next t ts ss x e = go (step a (code t.tok) ss) refl e
    where
      go : (o : Option Stack) → step a (code t.tok) ss ≡ o → elim o as (λ _. Option Stack) [ None ↦ None | Some next ↦ run a ts next ] ≡ Some x
          → (next : Stack) × (step a (code t.tok) ss ≡ Some next) × (run a ts next ≡ Some x)
      go None is e = cc
      go (Some next) is e = (next, is, e)

  pub first_step : (t : Token) (ts : List Token) (ss next x : Stack) → step a (code t.tok) ss ≡ Some next → run a ts next ≡ Some x → run a (t ∷ ts) ss ≡ Some x
  first_step t ts ss next x e r =
      subst (λ (o : Option Stack). elim o as (λ _. Option Stack) [ None ↦ None | Some next ↦ run a ts next ] ≡ Some x) (sym e) r

-- ---- the machine reads what leads

-- What holds of a stack that is left, holds of the form that a line leaves so.
pub record HoldsByLines (Q : Stack → Type 0) : Type 0 where
  pub by_lines : (f : Form) (l : ℕ) (ss : Stack) (p : Production (Val f)) → IsOneOf p (productions f) → Q (symbols l p.pieces ++ ss) → Q (form f l ∷ ss)

pub record RunsTo (Q : Stack → Type 0) (a : ℕ → Bool) (ts : List Token) (ss : Stack) : Type 0 where
  pub stack : Stack
  pub runs : run a ts ss ≡ Some stack
  pub holds : Q stack

taken_so : {A : Type 0} (c k : ℕ) (x : A) → c ≡ k → cond (c == k) (Some x) None ≡ Some x
taken_so c k x e = go (c == k) (grind (arith, nat_tests))
  where
    go : (b : Bool) → b ≡ true → cond b (Some x) None ≡ Some x
    go true e = refl
    go false e = cc

opened_so : (c k : ℕ) (ok : Bool) (ss : Stack) → c ≡ k → ok ≡ true → cond (c == k) (cond ok (Some ss) None) None ≡ Some ss
opened_so c k true ss e ok = taken_so' (c == k) (grind (arith, nat_tests))
  where
    taken_so' : (b : Bool) → b ≡ true → cond b (Some ss) None ≡ Some ss
    taken_so' true e = refl
    taken_so' false e = cc
opened_so c k false ss e ok = cc

module _ (Q : Stack → Type 0) (by : HoldsByLines Q) (a : ℕ → Bool) where
  stepped : (t : Token) (ts : List Token) (ss next : Stack) → step a (code t.tok) ss ≡ Some next → RunsTo Q a ts next → RunsTo Q a (t ∷ ts) ss
  stepped t ts ss next e r = record { stack = r.stack; runs = first_step a t ts ss next r.stack e r.runs; holds = r.holds }

  lined : (ts : List Token) (f : Form) (l : ℕ) (ss : Stack) (p : Production (Val f)) → IsOneOf p (productions f) → IsOrdered (form f l ∷ ss)
      → RunsTo Q a ts (symbols l p.pieces ++ ss) → RunsTo Q a ts (form f l ∷ ss)
  lined [] f l ss p i o r =
      let same : symbols l p.pieces ++ ss ≡ r.stack = (let e = r.runs in cc) in
      record { stack = form f l ∷ ss; runs = refl; holds = by.by_lines f l ss p i (subst Q (sym same) r.holds) }
  lined (t ∷ ts) f l ss p i o r =
      let n = run_next a t ts (symbols l p.pieces ++ ss) r.stack r.runs in
      record {
        stack = r.stack;
        runs = first_step a t ts (form f l ∷ ss) n.0 r.stack (line_step a (code t.tok) f l ss n.0 p (code_low t.tok) i o.0 n.1) n.2;
        holds = r.holds;
      }

  pub leads_runs : {ss left : Stack} {ts : List Token} → Leads a ss ts left → IsOrdered ss → Q left → RunsTo Q a ts ss
  leads_runs (done {ss = ss}) o q = record { stack = ss; runs = refl; holds = q }
  leads_runs (read {m = m} {t = t} {ss = ss} {ts = ts} e d) o q =
      stepped t ts (token m ∷ ss) ss (taken_so (code t.tok) (mark_code m) ss e) (leads_runs d o q)
  leads_runs (keep {m = m} {t = t} {ss = ss} {ts = ts} e d) o q =
      stepped t ts (kept_token m ∷ ss) ss (taken_so (code t.tok) (mark_code m) ss e) (leads_runs d o q)
  leads_runs (open_level {m = m} {l = l} {t = t} {ss = ss} {ts = ts} e ok d) o q =
      stepped t ts (opening_token m l ∷ ss) ss (opened_so (code t.tok) (mark_code m) (a l) ss e ok) (leads_runs d o q)
  leads_runs (by_line {f = f} {l = l} {ss = ss} {ts = ts} p i d) o q =
      lined ts f l ss p i o (leads_runs d (ordered_line f l ss p i o) q)

-- ---- what the machine reads leads

same_code : (c k : ℕ) → c == k ≡ true → c ≡ k
same_code c k e = grind (arith, nat_tests)

empty_line : {V : Type 0} (ps : List (Production V)) → has_empty ps ≡ true → (p : Production V) × IsOneOf p ps × (is_empty p.pieces ≡ true)
empty_line [] e = cc
empty_line (q ∷ qs) e = go (is_empty q.pieces) refl e (λ h. empty_line qs h)
  where
    go : (b : Bool) → is_empty q.pieces ≡ b → cond b true (has_empty qs) ≡ true
        → (has_empty qs ≡ true → (p : Production _) × IsOneOf p qs × (is_empty p.pieces ≡ true))
        → (p : Production _) × IsOneOf p (q ∷ qs) × (is_empty p.pieces ≡ true)
    go true is h next = (q, inl refl, is)
    go false is h next = let n = next h in (n.0, inr n.1, n.2)

module _ (a : ℕ → Bool) (t : Token) where
  -- What is left behind the token leads on, where the level that the token opens is allowed.
  abbrev IsOpen : (ℕ → Stack) → Option Opening → Type 0
  IsOpen front None = Unit {0}
  IsOpen front (Some o) = (l : ℕ) (ss x left : Stack) (ts : List Token) → at_level a (o.opens l) (o.rest l ++ ss) ≡ Some x → Leads a x ts left
      → Leads a (front l ++ ss) (t ∷ ts) left

  abbrev IsFormOpen : Form → Option Opening → Type 0
  IsFormOpen f o = IsOpen (λ l. form f l ∷ []) o

  moved : {x y left : Stack} {ts : List Token} → Some x ≡ Some y → Leads a y ts left → Leads a x ts left
  moved {x} {y} {left} {ts} e d = let same : y ≡ x = cc in subst (λ (z : Stack). Leads a z ts left) same d

  -- So it is with a token of the line, where the token is of its kind.
  mark_leads : (front : ℕ → Stack) (m : Mark) (o : Opening) → (code t.tok ≡ mark_code m → IsOpen front (Some o))
      → IsOpen front (cond (code t.tok == mark_code m) (Some o) None)
  mark_leads front m o h = go (code t.tok == mark_code m) refl
    where
      go : (b : Bool) → code t.tok == mark_code m ≡ b → IsOpen front (cond b (Some o) None)
      go true is = h (same_code (code t.tok) (mark_code m) is)
      go false is = tt

  piece_leads : (rest : Form → Option Opening) → ((f : Form) → IsFormOpen f (rest f)) → (ps : List Piece)
      → IsOpen (λ l. symbols l ps) (begun rest (code t.tok) ps)
  piece_leads rest h [] = tt
  piece_leads rest h (one m ∷ ps) = mark_leads (λ l. symbols l (one m ∷ ps)) m _ (λ is l ss x left ts e d. read is (moved e d))
  piece_leads rest h (kept m ∷ ps) = mark_leads (λ l. symbols l (kept m ∷ ps)) m _ (λ is l ss x left ts e d. keep is (moved e d))
  piece_leads rest h (opening m ∷ ps) = mark_leads (λ l. symbols l (opening m ∷ ps)) m _
      (λ is l ss x left ts e d. let k = opened_if (a (l + 1)) e in open_level is k.0 (moved k.1 d))
  piece_leads rest h (sub d f ∷ ps) = go (rest f) (h f)
    where
      go : (o : Option Opening) → IsFormOpen f o → IsOpen (λ l. symbols l (sub d f ∷ ps)) (behind d ps o)
      go None k = tt
      go (Some o) k = λ l ss x left ts e y.
          k (level d l) (symbols l ps ++ ss) x left ts
          (subst (λ (z : Stack). at_level a (o.opens (level d l)) z ≡ Some x) (append_assoc (o.rest (level d l)) (symbols l ps) ss) e) y

  line_leads : (rest : Form → Option Opening) → ((f : Form) → IsFormOpen f (rest f)) → (f : Form) (ps : List (Production (Val f)))
      → ((p : Production (Val f)) → IsOneOf p ps → IsOneOf p (productions f)) → IsFormOpen f (first_line rest (code t.tok) ps)
  line_leads rest h f [] all = tt
  line_leads rest h f (p ∷ ps) all =
      go (begun rest (code t.tok) p.pieces) (piece_leads rest h p.pieces) (line_leads rest h f ps (λ q i. all q (inr i)))
    where
      go : (o : Option Opening) → IsOpen (λ l. symbols l p.pieces) o → IsFormOpen f (first_line rest (code t.tok) ps)
          → IsFormOpen f (first_some o (first_line rest (code t.tok) ps))
      go None k next = next
      go (Some o) k next = λ l ss x left ts e d. by_line p (all p (inl refl)) (k l ss x left ts e d)

  opened_leads : (n : ℕ) (f : Form) → IsFormOpen f (opened n (code t.tok) f)
  opened_leads zero f = tt
  opened_leads (suc n) f = line_leads (opened n (code t.tok)) (opened_leads n) f (productions f) (λ p i. i)

  left_out : (f : Form) (l : ℕ) {ss left : Stack} {ts : List Token} → is_optional f ≡ true → Leads a ss ts left → Leads a (form f l ∷ ss) ts left
  left_out f l {ss} {left} {ts} e d =
      let p = empty_line (productions f) e in
      by_line p.0 p.1 (subst (λ (z : List Piece). Leads a (symbols l z ++ ss) ts left) (sym (empty_is p.0.pieces p.2)) d)

  pub step_leads : (ss x left : Stack) (ts : List Token) → step a (code t.tok) ss ≡ Some x → Leads a x ts left → Leads a ss (t ∷ ts) left
  step_leads [] x left ts e d = cc
  step_leads (token m ∷ ss) x left ts e d =
      let k = taken_if (code t.tok == mark_code m) e in read (same_code (code t.tok) (mark_code m) k.0) (moved (ap (λ z. Some z) k.1) d)
  step_leads (kept_token m ∷ ss) x left ts e d =
      let k = taken_if (code t.tok == mark_code m) e in keep (same_code (code t.tok) (mark_code m) k.0) (moved (ap (λ z. Some z) k.1) d)
  step_leads (opening_token m l ∷ ss) x left ts e d =
      let k = opened_if (code t.tok == mark_code m) e in
      let n = opened_if (a l) k.1 in open_level (same_code (code t.tok) (mark_code m) k.0) n.0 (moved n.1 d)
  step_leads (form f l ∷ ss) x left ts e d = go (table (code t.tok) f) (opened_leads 9 f) (is_optional f) refl e (λ h. step_leads ss x left ts h d)
    where
      go : (o : Option Opening) → IsFormOpen f o → (b : Bool) → is_optional f ≡ b → taken a l ss o (cond b (step a (code t.tok) ss) None) ≡ Some x
          → (step a (code t.tok) ss ≡ Some x → Leads a ss (t ∷ ts) left) → Leads a (form f l ∷ ss) (t ∷ ts) left
      go (Some o) k b is e next = k l ss x left ts e d
      go None k true is e next = left_out f l is (next e)
      go None k false is e next = cc

module _ (a : ℕ → Bool) where
  pub run_leads : (ts : List Token) (ss x : Stack) → run a ts ss ≡ Some x → Leads a ss ts x
  run_leads [] ss x e = let same : ss ≡ x = cc in subst (λ (z : Stack). Leads a ss [] z) same done
  run_leads (t ∷ ts) ss x e = let n = run_next a t ts ss x e in step_leads a t ss n.0 x ts n.1 (run_leads ts n.0 x n.2)

  pub done_leads : (ss : Stack) → is_done ss ≡ true → Leads a ss [] []
  done_leads [] e = done
  done_leads (form f l ∷ ss) e =
      let k = and_parts (is_optional f) (is_done ss) e in
      let p = empty_line (productions f) k.0 in
      by_line p.0 p.1 (subst (λ (z : List Piece). Leads a (symbols l z ++ ss) [] []) (sym (empty_is p.0.pieces p.2)) (done_leads ss k.1))
  done_leads (token m ∷ ss) e = cc
  done_leads (kept_token m ∷ ss) e = cc
  done_leads (opening_token m l ∷ ss) e = cc

-- ---- every stack can be completed

sample_code : (m : Mark) → code (sample m).tok ≡ mark_code m
sample_code any_name = refl
sample_code two = refl
sample_code other_number = refl
sample_code (word w) = refl
sample_code (sign s) = refl

-- These tokens complete what stands in front.
abbrev IsFilled : (ℕ → Stack) → Option (List Token) → Type 0
IsFilled front None = Unit {0}
IsFilled front (Some us) = (l : ℕ) (ss left : Stack) (ts : List Token) → Leads any_level ss ts left → Leads any_level (front l ++ ss) (us ++ ts) left

filled_onto : (m : Mark) (front new : ℕ → Stack) (o : Option (List Token)) → IsFilled front o
    → ((l : ℕ) (ss left : Stack) (ts : List Token) → Leads any_level (front l ++ ss) ts left → Leads any_level (new l ++ ss) (sample m ∷ ts) left)
    → IsFilled new (onto (sample m) o)
filled_onto m front new None k put = tt
filled_onto m front new (Some us) k put = λ l ss left ts d. put l ss left (us ++ ts) (k l ss left ts d)

filled_pieces : (whole : Form → Option (List Token)) → ((f : Form) → IsFilled (λ l. form f l ∷ []) (whole f)) → (ps : List Piece)
    → IsFilled (λ l. symbols l ps) (fill_pieces whole ps)
filled_pieces whole h [] = λ l ss left ts d. d
filled_pieces whole h (one m ∷ ps) =
    filled_onto m (λ l. symbols l ps) (λ l. symbols l (one m ∷ ps)) (fill_pieces whole ps) (filled_pieces whole h ps) (λ l ss left ts d. read (sample_code m) d)
filled_pieces whole h (kept m ∷ ps) =
    filled_onto m (λ l. symbols l ps) (λ l. symbols l (kept m ∷ ps)) (fill_pieces whole ps) (filled_pieces whole h ps)
    (λ l ss left ts d. keep (sample_code m) d)
filled_pieces whole h (opening m ∷ ps) =
    filled_onto m (λ l. symbols l ps) (λ l. symbols l (opening m ∷ ps)) (fill_pieces whole ps) (filled_pieces whole h ps)
    (λ l ss left ts d. open_level (sample_code m) refl d)
filled_pieces whole h (sub d f ∷ ps) = go (whole f) (h f) (fill_pieces whole ps) (filled_pieces whole h ps)
  where
    go : (o : Option (List Token)) → IsFilled (λ l. form f l ∷ []) o → (q : Option (List Token)) → IsFilled (λ l. symbols l ps) q
        → IsFilled (λ l. symbols l (sub d f ∷ ps)) (both_lists o q)
    go None k q n = tt
    go (Some us) k None n = tt
    go (Some us) k (Some vs) n = λ l ss left ts y.
        subst (λ (z : List Token). Leads any_level (symbols l (sub d f ∷ ps) ++ ss) z left) (sym (append_assoc us vs ts))
        (k (level d l) (symbols l ps ++ ss) left (vs ++ ts) (n l ss left ts y))

filled_lines : (whole : Form → Option (List Token)) → ((f : Form) → IsFilled (λ l. form f l ∷ []) (whole f)) → (f : Form) (ps : List (Production (Val f)))
    → ((p : Production (Val f)) → IsOneOf p ps → IsOneOf p (productions f)) → IsFilled (λ l. form f l ∷ []) (first_filled whole ps)
filled_lines whole h f [] all = tt
filled_lines whole h f (p ∷ ps) all =
    go (fill_pieces whole p.pieces) (filled_pieces whole h p.pieces) (filled_lines whole h f ps (λ q i. all q (inr i)))
  where
    go : (o : Option (List Token)) → IsFilled (λ l. symbols l p.pieces) o → IsFilled (λ l. form f l ∷ []) (first_filled whole ps)
        → IsFilled (λ l. form f l ∷ []) (elim o as (λ _. Option (List Token)) [ None ↦ first_filled whole ps | Some ts ↦ Some ts ])
    go None k next = next
    go (Some us) k next = λ l ss left ts d. by_line p (all p (inl refl)) (k l ss left ts d)

completion_leads : (n : ℕ) (f : Form) → IsFilled (λ l. form f l ∷ []) (completion n f)
completion_leads zero f = tt
completion_leads (suc n) f = filled_lines (completion n) (completion_leads n) f (productions f) (λ p i. i)

pub completed : (ss : Stack) → (ts : List Token) × Leads any_level ss ts []
completed [] = ([], done)
completed (token m ∷ ss) = let c = completed ss in (sample m ∷ c.0, read (sample_code m) c.1)
completed (kept_token m ∷ ss) = let c = completed ss in (sample m ∷ c.0, keep (sample_code m) c.1)
completed (opening_token m l ∷ ss) = let c = completed ss in (sample m ∷ c.0, open_level (sample_code m) refl c.1)
completed (form f l ∷ ss) = go (completion 9 f) (completes f) (completion_leads 9 f) (completed ss)
  where
    go : (o : Option (List Token)) → is_some o ≡ true → IsFilled (λ l. form f l ∷ []) o → (ts : List Token) × Leads any_level ss ts []
        → (ts : List Token) × Leads any_level (form f l ∷ ss) ts []
    go None e k c = cc
    go (Some us) e k c = (us ++ c.0, k l ss [] c.0 c.1)
