-- The machine step by step: what it takes is what its stack begins with, and a form takes what its line takes.
use Rattle.std.proofs.Common.{◌≡◌, ℕ, ◌+◌, ◌<◌, ◌==◌, Bool, true, false, ◌&&◌, ◌||◌, not, cond, leb, Option, Some, None}
use Rattle.std.proofs.Common.{List, [], ◌∷◌, ◌++◌, inl, inr, is_some, refl, sym, ◌∙◌, ap, subst, append_assoc}
use Rattle.std.proofs.lemmas.Bool.{and_parts, and_from}
use Rattle.revs_grammar.specs.Forms.{mark_code, Form, Val, level, Piece, one, kept, opening, sub, Production, IsOneOf}
use Rattle.revs_grammar.specs.Productions.{productions}
use Rattle.revs_grammar.specs.Sentences.{token, kept_token, opening_token, form, symbols}
use Rattle.revs_grammar.specs.inside.Machine.{Stack, Opening, behind, begun, table, is_empty, has_empty, is_optional, at_level, taken, step, is_done}
use Rattle.revs_grammar.proofs.CheckHints.{rank, may_follow}
use Rattle.revs_grammar.proofs.CheckLemmas.{all_below, begin, starts_well, is_closed, starts, closes}
use Rattle.revs_grammar.proofs.LineLemmas.{all_below-at, true≢false, not_true, implied, all_lines-at, begun_begins, table_line}

-- ---- what a stack begins with

-- whether a token of this kind begins what the stack expects, whatever levels are allowed
abbrev pub may_begin : ℕ → Stack → Bool
may_begin c [] = false
may_begin c (token m ∷ ss) = c == mark_code m
may_begin c (kept_token m ∷ ss) = c == mark_code m
may_begin c (opening_token m l ∷ ss) = c == mark_code m
may_begin c (form f l ∷ ss) = is_some (table c f) || (is_optional f && may_begin c ss)

pub taken_if : {A : Type 0} {x y : A} (b : Bool) → cond b (Some x) None ≡ Some y → (b ≡ true) × (x ≡ y)
taken_if true e = (refl, cc)
taken_if false e = cc

pub opened_if : {o : Option Stack} {x : Stack} (b : Bool) → cond b o None ≡ Some x → (b ≡ true) × (o ≡ Some x)
opened_if true e = (refl, e)
opened_if false e = cc

pub step_begins : (a : ℕ → Bool) (c : ℕ) (ss x : Stack) → step a c ss ≡ Some x → may_begin c ss ≡ true
step_begins a c [] x e = cc
step_begins a c (token m ∷ ss) x e = (taken_if (c == mark_code m) e).0
step_begins a c (kept_token m ∷ ss) x e = (taken_if (c == mark_code m) e).0
step_begins a c (opening_token m l ∷ ss) x e = (opened_if (c == mark_code m) e).0
step_begins a c (form f l ∷ ss) x e = go (table c f) (is_optional f) e (step_begins a c ss x)
  where
    go : (o : Option Opening) (b : Bool) → taken a l ss o (cond b (step a c ss) None) ≡ Some x → (step a c ss ≡ Some x → may_begin c ss ≡ true)
        → is_some o || (b && may_begin c ss) ≡ true
    go (Some o) b e next = refl
    go None true e next = next e
    go None false e next = cc

-- ---- what may stand behind a form

-- What begins the stack may follow the form.
pub record BehindIn (f : Form) (ss : Stack) : Type 0 where
  pub follows : (c : ℕ) → c < 36 → may_begin c ss ≡ true → may_follow f c ≡ true

abbrev pub IsOrdered : Stack → Type 0
IsOrdered [] = Unit {0}
IsOrdered (token m ∷ ss) = IsOrdered ss
IsOrdered (kept_token m ∷ ss) = IsOrdered ss
IsOrdered (opening_token m l ∷ ss) = IsOrdered ss
IsOrdered (form f l ∷ ss) = BehindIn f ss × IsOrdered ss

pub begin_of : (next : ℕ → Bool) (c l : ℕ) (ps : List Piece) (ss : Stack) → may_begin c (symbols l ps ++ ss) ≡ true
    → (may_begin c ss ≡ true → next c ≡ true) → begin next c ps ≡ true
begin_of next c l [] ss e h = h e
begin_of next c l (one m ∷ ps) ss e h = e
begin_of next c l (kept m ∷ ps) ss e h = e
begin_of next c l (opening m ∷ ps) ss e h = e
begin_of next c l (sub d f ∷ ps) ss e h = go (is_some (table c f)) (is_optional f) e (λ k. begin_of next c l ps ss k h)
  where
    go : (a b : Bool) → a || (b && may_begin c (symbols l ps ++ ss)) ≡ true → (may_begin c (symbols l ps ++ ss) ≡ true → begin next c ps ≡ true)
        → a || (b && begin next c ps) ≡ true
    go true b e k = refl
    go false true e k = k e
    go false false e k = e

ordered : (next : ℕ → Bool) (l : ℕ) (ps : List Piece) (ss : Stack) → is_closed next ps ≡ true
    → ((c : ℕ) → c < 36 → may_begin c ss ≡ true → next c ≡ true) → IsOrdered ss → IsOrdered (symbols l ps ++ ss)
ordered next l [] ss e h o = o
ordered next l (one m ∷ ps) ss e h o = ordered next l ps ss e h o
ordered next l (kept m ∷ ps) ss e h o = ordered next l ps ss e h o
ordered next l (opening m ∷ ps) ss e h o = ordered next l ps ss e h o
ordered next l (sub d f ∷ ps) ss e h o =
    let parts = and_parts (all_below 36 (λ c. not (begin next c ps) || may_follow f c)) (is_closed next ps) e in (
      record {
        follows = λ c low b.
            implied (begin next c ps) (may_follow f c) (all_below-at 36 (λ c. not (begin next c ps) || may_follow f c) c parts.0 low)
            (begin_of next c l ps ss b (h c low));
      },
      ordered next l ps ss parts.1 h o,
    )

pub ordered_line : (f : Form) (l : ℕ) (ss : Stack) (p : Production (Val f)) → IsOneOf p (productions f) → IsOrdered (form f l ∷ ss)
    → IsOrdered (symbols l p.pieces ++ ss)
ordered_line f l ss p i o = ordered (may_follow f) l p.pieces ss (all_lines-at (is_closed (may_follow f)) (productions f) p (closes f) i) o.0.follows o.1

-- ---- a form takes what its line takes

-- What the machine takes by the pieces of a line, it takes behind an empty line, or by what is left of the line's front.
pub data TakenBy (a : ℕ → Bool) (c l : ℕ) (ps : List Piece) (ss x : Stack) : Type 0 where
  skipped : is_empty ps ≡ true → step a c ss ≡ Some x → TakenBy a c l ps ss x
  by_front : (o : Opening) → begun (table c) c ps ≡ Some o → at_level a (o.opens l) (o.rest l ++ ss) ≡ Some x → TakenBy a c l ps ss x

token_front : (a : ℕ → Bool) (c l : ℕ) (ps : List Piece) (ss x : Stack) (o : Opening) (b : Bool)
    → cond b (at_level a (o.opens l) (o.rest l ++ ss)) None ≡ Some x → begun (table c) c ps ≡ cond b (Some o) None → TakenBy a c l ps ss x
token_front a c l ps ss x o true e is = by_front o is e
token_front a c l ps ss x o false e is = cc

pub piece_step : (a : ℕ → Bool) (c l : ℕ) (r : ℕ) (ps : List Piece) (ss x : Stack) → starts_well r ps ≡ true → step a c (symbols l ps ++ ss) ≡ Some x
    → TakenBy a c l ps ss x
piece_step a c l r [] ss x w e = skipped refl e
piece_step a c l r (one m ∷ ps) ss x w e =
    token_front a c l (one m ∷ ps) ss x (record { opens = λ l. None; rest = λ l. symbols l ps }) (c == mark_code m) e refl
piece_step a c l r (kept m ∷ ps) ss x w e =
    token_front a c l (kept m ∷ ps) ss x (record { opens = λ l. None; rest = λ l. symbols l ps }) (c == mark_code m) e refl
piece_step a c l r (opening m ∷ ps) ss x w e =
    token_front a c l (opening m ∷ ps) ss x (record { opens = λ l. Some (l + 1); rest = λ l. symbols l ps }) (c == mark_code m) e refl
piece_step a c l r (sub d f ∷ ps) ss x w e =
    let must : is_optional f ≡ false = not_true (is_optional f) (and_parts (not (is_optional f)) (leb (rank f + 1) r) w).0 in
    go (table c f) refl (subst (λ (b : Bool). taken a (level d l) (symbols l ps ++ ss) (table c f) (cond b (step a c (symbols l ps ++ ss)) None)
    ≡ Some x) must e)
  where
    go : (o : Option Opening) → table c f ≡ o → taken a (level d l) (symbols l ps ++ ss) o None ≡ Some x → TakenBy a c l (sub d f ∷ ps) ss x
    go None is e = cc
    go (Some o) is e =
        by_front (record { opens = λ l. o.opens (level d l); rest = λ l. o.rest (level d l) ++ symbols l ps })
        (ap (behind d ps) is)
        (subst (λ (z : Stack). at_level a (o.opens (level d l)) z ≡ Some x) (sym (append_assoc (o.rest (level d l)) (symbols l ps) ss)) e)

pub empty_is : (ps : List Piece) → is_empty ps ≡ true → ps ≡ []
empty_is [] e = refl
empty_is (p ∷ ps) e = cc

pub has_empty-of : {V : Type 0} (ps : List (Production V)) (p : Production V) → IsOneOf p ps → is_empty p.pieces ≡ true → has_empty ps ≡ true
has_empty-of [] p i e = absurd i
has_empty-of (q ∷ qs) p (inl is) e = go (is_empty q.pieces) (subst (λ (z : Production _). is_empty z.pieces ≡ true) is e)
  where
    go : (b : Bool) → b ≡ true → cond b true (has_empty qs) ≡ true
    go true e = refl
    go false e = cc
has_empty-of (q ∷ qs) p (inr i) e = go (is_empty q.pieces) (has_empty-of qs p i e)
  where
    go : (b : Bool) → has_empty qs ≡ true → cond b true (has_empty qs) ≡ true
    go true e = refl
    go false e = e

-- The step of a form is that of its line.
pub line_step : (a : ℕ → Bool) (c : ℕ) (f : Form) (l : ℕ) (ss x : Stack) (p : Production (Val f)) → c < 36 → IsOneOf p (productions f) → BehindIn f ss
    → step a c (symbols l p.pieces ++ ss) ≡ Some x → step a c (form f l ∷ ss) ≡ Some x
line_step a c f l ss x p low i b e = go (piece_step a c l (rank f) p.pieces ss x (all_lines-at (starts_well (rank f)) (productions f) p (starts f) i) e)
  where
    found : begin (may_follow f) c p.pieces ≡ true → (o : Option Opening) → begun (table c) c p.pieces ≡ o
        → taken a l ss o (cond (is_optional f) (step a c ss) None) ≡ Some x → step a c (form f l ∷ ss) ≡ Some x
    found h o is e =
        subst (λ (z : Option Opening). taken a l ss z (cond (is_optional f) (step a c ss) None) ≡ Some x) (sym (table_line c f p low i h ∙ is)) e

    go : TakenBy a c l p.pieces ss x → step a c (form f l ∷ ss) ≡ Some x
    go (skipped empty e) =
        let none = empty_is p.pieces empty in
        let follows : may_follow f c ≡ true = b.follows c low (step_begins a c ss x e) in
        found (subst (λ (z : List Piece). begin (may_follow f) c z ≡ true) (sym none) follows) None (ap (begun (table c) c) none)
        (subst (λ (z : Bool). cond z (step a c ss) None ≡ Some x) (sym (has_empty-of (productions f) p i empty)) e)
    go (by_front o is e) = found (begun_begins (may_follow f) c p.pieces o is) (Some o) is e

pub done_is_empty : (l r : ℕ) (ps : List Piece) (ss : Stack) → starts_well r ps ≡ true → is_done (symbols l ps ++ ss) ≡ true → is_empty ps ≡ true
done_is_empty l r [] ss w d = refl
done_is_empty l r (sub e f ∷ ps) ss w d =
    let must = not_true (is_optional f) (and_parts (not (is_optional f)) (leb (rank f + 1) r) w).0 in
    absurd (true≢false (sym (and_parts (is_optional f) (is_done (symbols l ps ++ ss)) d).0 ∙ must))
done_is_empty l r (one m ∷ ps) ss w d = cc
done_is_empty l r (kept m ∷ ps) ss w d = cc
done_is_empty l r (opening m ∷ ps) ss w d = cc

-- Nothing more has to come by a form where nothing has to come by its line.
pub line_done : (f : Form) (l : ℕ) (ss : Stack) (p : Production (Val f)) → IsOneOf p (productions f) → is_done (symbols l p.pieces ++ ss) ≡ true
    → is_done (form f l ∷ ss) ≡ true
line_done f l ss p i d =
    let e = done_is_empty l (rank f) p.pieces ss (all_lines-at (starts_well (rank f)) (productions f) p (starts f) i) d in
    and_from (is_optional f) (is_done ss) (has_empty-of (productions f) p i e)
    (subst (λ (z : List Piece). is_done (symbols l z ++ ss) ≡ true) (empty_is p.pieces e) d)
