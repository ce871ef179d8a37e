-- Lines of a form: tests of them, and what the table says of the line that a token begins.
use Rattle.std.proofs.Common.{◌≡◌, ℕ, zero, suc, ◌+◌, ◌<◌, ◌≤◌, ◌==◌, Bool, true, false, ◌&&◌, ◌||◌, not, cond, leb, Option}
use Rattle.std.proofs.Common.{Some, None, List, [], ◌∷◌, inl, inr, is_some, refl, sym, ◌∙◌, ap, subst, arith}
use Rattle.std.proofs.lemmas.Bool.Decides.{nat_tests}
use Rattle.revs_lexer.specs.declared.sign.Sign.{Sign}
use Rattle.revs_lexer.specs.declared.sign.Sign.TheVariants as signs
use Rattle.revs_lexer.specs.declared.word.Word.{Word}
use Rattle.revs_lexer.specs.declared.word.Word.TheVariants as words
use Rattle.revs_lexer.specs.declared.token.Tok.{Tok}
use Rattle.revs_lexer.specs.declared.token.Tok.TheVariants as toks
use Rattle.std.proofs.lemmas.Bool.{and_parts}
use Rattle.revs_grammar.specs.Forms.{Mark, any_name, two, other_number, word, sign, word_code, sign_code, code, mark_code}
use Rattle.revs_grammar.specs.Forms.{Form, Val, Piece, one, kept, opening, sub, Production, IsOneOf}
use Rattle.revs_grammar.specs.Productions.{productions}
use Rattle.revs_grammar.specs.inside.Machine.{Opening, first_some, behind, begun, first_line, opened, table, is_optional}
use Rattle.revs_grammar.proofs.CheckHints.{rank, may_follow}
use Rattle.revs_grammar.proofs.CheckLemmas.{all_below, all_lines, no_line, one_line_at_most, begin, starts_well, starts, lines_part, low_rank}

-- ---- kinds of tokens

pub word_low : (w : Word) → word_code w ≤ 14
word_low words.Main = omega arith
word_low _ = omega arith

pub sign_low : (s : Sign) → sign_code s ≤ 16
sign_low signs.Dot = omega arith
sign_low _ = omega arith

number_low : (b : Bool) → cond b 35 2 < 36
number_low true = omega arith
number_low false = omega arith

pub code_low : (t : Tok) → code t < 36
code_low toks.End = omega arith
code_low (toks.Name text) = omega arith
code_low (toks.Number n) = number_low (n == 2)
code_low (toks.Word w) = omega (arith, word_low w)
code_low (toks.Sign s) = omega (arith, sign_low s)

-- No mark is that of `End`.
pub no_end : (m : Mark) → 0 == mark_code m ≡ false
no_end any_name = refl
no_end two = refl
no_end other_number = refl
no_end (word w) = go w
  where
    go : (w : Word) → 0 == 3 + word_code w ≡ false
    go words.Main = refl
    go _ = refl
no_end (sign s) = go s
  where
    go : (s : Sign) → 0 == 18 + sign_code s ≡ false
    go signs.Dot = refl
    go _ = refl

pub all_below-at : (n : ℕ) (f : ℕ → Bool) (c : ℕ) → all_below n f ≡ true → c < n → f c ≡ true
all_below-at zero f c e h = absurd (omega arith)
all_below-at (suc n) f c e h = go (c == n) refl (λ less. all_below-at n f c (and_parts (f n) (all_below n f) e).1 less)
  where
    go : (b : Bool) → c == n ≡ b → (c < n → f c ≡ true) → f c ≡ true
    go true is below = let same : c ≡ n = grind (arith, nat_tests) in subst (λ (k : ℕ). f k ≡ true) (sym same) (and_parts (f n) (all_below n f) e).0
    go false is below = below (grind (arith, nat_tests))

-- ---- tests of lines

pub true≢false : true ≡ false → ⊥
true≢false e = cc

pub not_true : (b : Bool) → not b ≡ true → b ≡ false
not_true false e = refl
not_true true e = cc

pub implied : (a b : Bool) → not a || b ≡ true → a ≡ true → b ≡ true
implied true b e f = e
implied false b e f = cc

on_true : (b x y : Bool) → cond b x y ≡ true → b ≡ true → x ≡ true
on_true true x y e h = e
on_true false x y e h = cc

on_false : (b x y : Bool) → cond b x y ≡ true → b ≡ false → y ≡ true
on_false true x y e h = cc
on_false false x y e h = e

module _ {V : Type 0} where
  pub all_lines-at : (f : List Piece → Bool) (ps : List (Production V)) (p : Production V) → all_lines f ps ≡ true → IsOneOf p ps → f p.pieces ≡ true
  all_lines-at f [] p e i = absurd i
  all_lines-at f (q ∷ qs) p e (inl is) = subst (λ (z : Production V). f z.pieces ≡ true) (sym is) (and_parts (f q.pieces) (all_lines f qs) e).0
  all_lines-at f (q ∷ qs) p e (inr i) = all_lines-at f qs p (and_parts (f q.pieces) (all_lines f qs) e).1 i

  no_line-at : (f : List Piece → Bool) (ps : List (Production V)) (p : Production V) → no_line f ps ≡ true → IsOneOf p ps → f p.pieces ≡ false
  no_line-at f [] p e i = absurd i
  no_line-at f (q ∷ qs) p e (inl is) =
      subst (λ (z : Production V). f z.pieces ≡ false) (sym is) (not_true (f q.pieces) (and_parts (not (f q.pieces)) (no_line f qs) e).0)
  no_line-at f (q ∷ qs) p e (inr i) = no_line-at f qs p (and_parts (not (f q.pieces)) (no_line f qs) e).1 i

  passes : (f : List Piece → Bool) {p q : Production V} → p ≡ q → f p.pieces ≡ true → f q.pieces ≡ true
  passes f is h = subst (λ (z : Production V). f z.pieces ≡ true) is h

  alone : (f : List Piece → Bool) (q p : Production V) (qs : List (Production V)) → one_line_at_most f (q ∷ qs) ≡ true → f q.pieces ≡ true
      → IsOneOf p qs → f p.pieces ≡ true → ⊥
  alone f q p qs e h i g =
      true≢false (sym g ∙ no_line-at f qs p (on_true (f q.pieces) (no_line f qs) (one_line_at_most f qs) e h) i)

  -- Where one line at most passes, two that pass are one.
  pub one_line : (f : List Piece → Bool) (ps : List (Production V)) (p q : Production V) → one_line_at_most f ps ≡ true → IsOneOf p ps → IsOneOf q ps
      → f p.pieces ≡ true → f q.pieces ≡ true → p ≡ q
  one_line f [] p q e i j g h = absurd i
  one_line f (x ∷ xs) p q e (inl a) (inl b) g h = a ∙ sym b
  one_line f (x ∷ xs) p q e (inl a) (inr j) g h = absurd (alone f x q xs e (passes f a g) j h)
  one_line f (x ∷ xs) p q e (inr i) (inl b) g h = absurd (alone f x p xs e (passes f b h) i g)
  one_line f (x ∷ xs) p q e (inr i) (inr j) g h = go (f x.pieces) refl (λ rest. one_line f xs p q rest i j g h)
    where
      go : (b : Bool) → f x.pieces ≡ b → (one_line_at_most f xs ≡ true → p ≡ q) → p ≡ q
      go true is next = absurd (alone f x p xs e is i g)
      go false is next = next (on_false (f x.pieces) (no_line f xs) (one_line_at_most f xs) e is)

-- ---- the table

-- A table of lesser forms says enough of the front of a line.
steady_pieces : (c r : ℕ) (left other : Form → Option Opening) → ((f : Form) → rank f + 1 ≤ r → left f ≡ other f)
    → (ps : List Piece) → starts_well r ps ≡ true → begun left c ps ≡ begun other c ps
steady_pieces c r left other h [] e = refl
steady_pieces c r left other h (one m ∷ ps) e = refl
steady_pieces c r left other h (kept m ∷ ps) e = refl
steady_pieces c r left other h (opening m ∷ ps) e = refl
steady_pieces c r left other h (sub d f ∷ ps) e =
    let low : leb (rank f + 1) r ≡ true = (and_parts (not (is_optional f)) (leb (rank f + 1) r) e).1 in
    ap (behind d ps) (h f (grind (arith, nat_tests)))

steady_lines : {V : Type 0} (c r : ℕ) (left other : Form → Option Opening) → ((f : Form) → rank f + 1 ≤ r → left f ≡ other f)
    → (ps : List (Production V)) → all_lines (starts_well r) ps ≡ true → first_line left c ps ≡ first_line other c ps
steady_lines c r left other h [] e = refl
steady_lines c r left other h (p ∷ ps) e =
    let parts = and_parts (starts_well r p.pieces) (all_lines (starts_well r) ps) e in
    ap (λ (z : Option Opening). first_some z (first_line left c ps)) (steady_pieces c r left other h p.pieces parts.0)
    ∙ ap (first_some (begun other c p.pieces)) (steady_lines c r left other h ps parts.1)

steady : (n m c : ℕ) (f : Form) → rank f + 1 ≤ n → rank f + 1 ≤ m → opened n c f ≡ opened m c f
steady zero m c f h k = absurd (omega arith)
steady (suc n) zero c f h k = absurd (omega arith)
steady (suc n) (suc m) c f h k =
    steady_lines c (rank f) (opened n c) (opened m c) (λ g low. steady n m c g (omega (arith, low, h)) (omega (arith, low, k))) (productions f) (starts f)

pub table_is : (c : ℕ) (f : Form) → table c f ≡ first_line (table c) c (productions f)
table_is c f =
    let low : leb (rank f) 8 ≡ true = low_rank f in
    let few : rank f ≤ 8 = grind (arith, nat_tests) in
    steady_lines c (rank f) (opened 8 c) (table c) (λ g less. steady 8 9 c g (omega (arith, less, few)) (omega (arith, less, few))) (productions f) (starts f)

-- ---- the line that a token begins

pub chosen : {x y : Opening} (b : Bool) → cond b (Some x) None ≡ Some y → (b ≡ true) × (x ≡ y)
chosen true e = (refl, cc)
chosen false e = cc

pub or_left : (a b : Bool) → a ≡ true → a || b ≡ true
or_left true b e = refl
or_left false b e = cc

pub begun_begins : (next : ℕ → Bool) (c : ℕ) (ps : List Piece) (o : Opening) → begun (table c) c ps ≡ Some o → begin next c ps ≡ true
begun_begins next c [] o e = cc
begun_begins next c (one m ∷ ps) o e = (chosen (c == mark_code m) e).0
begun_begins next c (kept m ∷ ps) o e = (chosen (c == mark_code m) e).0
begun_begins next c (opening m ∷ ps) o e = (chosen (c == mark_code m) e).0
begun_begins next c (sub d f ∷ ps) o e = or_left (is_some (table c f)) (is_optional f && begin next c ps) (go (table c f) e)
  where
    go : (x : Option Opening) → behind d ps x ≡ Some o → is_some x ≡ true
    go None e = cc
    go (Some x) e = refl

module _ (next : ℕ → Bool) (c : ℕ) where
  not_begun : (ps : List Piece) → begin next c ps ≡ false → begun (table c) c ps ≡ None
  not_begun ps h = go (begun (table c) c ps) refl
    where
      go : (o : Option Opening) → begun (table c) c ps ≡ o → begun (table c) c ps ≡ None
      go None is = is
      go (Some o) is = absurd (true≢false (sym (begun_begins next c ps o is) ∙ h))

  none_begun : {V : Type 0} (ps : List (Production V)) → no_line (begin next c) ps ≡ true → first_line (table c) c ps ≡ None
  none_begun [] e = refl
  none_begun (p ∷ ps) e =
      let parts = and_parts (not (begin next c p.pieces)) (no_line (begin next c) ps) e in
      ap (λ (z : Option Opening). first_some z (first_line (table c) c ps)) (not_begun p.pieces (not_true (begin next c p.pieces) parts.0))
      ∙ none_begun ps parts.1

  -- The line that begins so is what the table finds, also where it is empty.
  pub found : {V : Type 0} (ps : List (Production V)) (p : Production V) → one_line_at_most (begin next c) ps ≡ true → IsOneOf p ps → begin next c p.pieces
      ≡ true
      → first_line (table c) c ps ≡ begun (table c) c p.pieces
  found [] p e i h = absurd i
  found {V = W} (q ∷ qs) p e (inl is) h =
      let mine : begin next c q.pieces ≡ true = passes (begin next c) is h in
      ap (first_some (begun (table c) c q.pieces))
      (none_begun qs (on_true (begin next c q.pieces) (no_line (begin next c) qs) (one_line_at_most (begin next c) qs) e mine))
      ∙ first_only (begun (table c) c q.pieces) ∙ ap (λ (z : Production W). begun (table c) c z.pieces) (sym is)
    where
      first_only : (o : Option Opening) → first_some o None ≡ o
      first_only None = refl
      first_only (Some o) = refl
  found (q ∷ qs) p e (inr i) h = go (begin next c q.pieces) refl (λ rest. found qs p rest i h)
    where
      go : (b : Bool) → begin next c q.pieces ≡ b → (one_line_at_most (begin next c) qs ≡ true → first_line (table c) c qs ≡ begun (table c) c p.pieces)
          → first_line (table c) c (q ∷ qs) ≡ begun (table c) c p.pieces
      go true is rest = absurd (alone (begin next c) q p qs e is i h)
      go false is rest =
          ap (λ (z : Option Opening). first_some z (first_line (table c) c qs)) (not_begun q.pieces is)
          ∙ rest (on_false (begin next c q.pieces) (no_line (begin next c) qs) (one_line_at_most (begin next c) qs) e is)

-- What the table says of a form is what its line says that begins with the token or with what may follow the form.
pub table_line : (c : ℕ) (f : Form) (p : Production (Val f)) → c < 36 → IsOneOf p (productions f) → begin (may_follow f) c p.pieces ≡ true
    → table c f ≡ begun (table c) c p.pieces
table_line c f p low i h =
    table_is c f
    ∙ found (may_follow f) c (productions f) p
    (all_below-at 36 (λ k. one_line_at_most (begin (may_follow f) k) (productions f)) c (lines_part f) low) i h
