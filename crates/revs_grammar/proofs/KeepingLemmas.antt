-- What the lines of the grammar keep, the values of readings keep, with the number of tokens that each value takes.
use Rattle.std.proofs.Common.{◌≡◌, ℕ, ◌+◌, Bool, true, List, [], ◌∷◌, ◌++◌, inl, inr, refl, sym, subst, length, arith}
use Rattle.revs_lexer.specs.declared.token.Token.{Token}
use Rattle.revs_grammar.specs.Forms.{Held, Form, Val, level, Piece, one, kept, opening, sub, Builds, Production, IsOneOf}
use Rattle.revs_grammar.specs.Productions.{productions}
use Rattle.revs_grammar.specs.Sentences.{Symbol, token, kept_token, opening_token, form, symbols, Leads, done, read}
use Rattle.revs_grammar.specs.Sentences.{keep, open_level, by_line, Vals, front_of, behind_of, fill, value}

-- Keeps f l v n: the value of this form at this level, which n tokens stand for, keeps what is wanted.
module _ (allowed : ℕ → Bool) (Keeps : (f : Form) → ℕ → Val f → ℕ → Type 0) where
  -- What a line builds is kept where what its pieces stand for is.
  abbrev pub Builds_kept : {V : Type 0} → (V → ℕ → Type 0) → (l : ℕ) (ps : List Piece) → Builds V ps → ℕ → Type 0
  Builds_kept Q l [] b n = Q b n
  Builds_kept Q l (one m ∷ ps) b n = Builds_kept Q l ps b (n + 1)
  Builds_kept Q l (kept m ∷ ps) b n = (x : Held m) → Builds_kept Q l ps (b x) (n + 1)
  Builds_kept Q l (opening m ∷ ps) b n = (x : Held m) → allowed (l + 1) ≡ true → Builds_kept Q l ps (b x) (n + 1)
  Builds_kept Q l (sub d f ∷ ps) b n = (x : Val f) (k : ℕ) → Keeps f (level d l) x k → Builds_kept Q l ps (b x) (n + k)

  abbrev pub LinesKeep : (f : Form) → List (Production (Val f)) → Type 0
  LinesKeep f [] = Unit {0}
  LinesKeep f (p ∷ ps) = ((l : ℕ) → Builds_kept (Keeps f l) l p.pieces p.build 0) × LinesKeep f ps

  -- What is expected is kept, and so many tokens stand for it.
  abbrev pub AreKept : (ss : List Symbol) → Vals ss → ℕ → Type 0
  AreKept [] vs n = Unit {0}
  AreKept (token m ∷ ss) vs n = (k : ℕ) × (n ≡ k + 1) × AreKept ss vs k
  AreKept (kept_token m ∷ ss) vs n = (k : ℕ) × (n ≡ k + 1) × AreKept ss vs.1 k
  AreKept (opening_token m l ∷ ss) vs n = (allowed l ≡ true) × ((k : ℕ) × (n ≡ k + 1) × AreKept ss vs.1 k)
  AreKept (form f l ∷ ss) vs n = (j : ℕ) × (k : ℕ) × (n ≡ j + k) × Keeps f l vs.0 j × AreKept ss vs.1 k

  record Filled {V : Type 0} (Q : V → ℕ → Type 0) (v : V) (ss : List Symbol) (vs : Vals ss) (n : ℕ) : Type 0 where
    first : ℕ
    rest : ℕ
    sum : n ≡ first + rest
    kept_first : Q v first
    kept_rest : AreKept ss vs rest

  filled : {V : Type 0} (Q : V → ℕ → Type 0) (l : ℕ) (ps : List Piece) (b : Builds V ps) (ss : List Symbol) (vs : Vals (symbols l ps ++ ss)) (i n : ℕ)
      → Builds_kept Q l ps b i → AreKept (symbols l ps ++ ss) vs n
      → Filled Q (fill l ps b (front_of (symbols l ps) ss vs)) ss (behind_of (symbols l ps) ss vs) (i + n)
  filled Q l [] b ss vs i n h k = record { first = i; rest = n; sum = refl; kept_first = h; kept_rest = k }
  filled Q l (one m ∷ ps) b ss vs i n h k = subst (Filled Q _ ss _) (let e = k.1 in omega (arith, e)) (filled Q l ps b ss vs (i + 1) k.0 h k.2)
  filled Q l (kept m ∷ ps) b ss vs i n h k =
      subst (Filled Q _ ss _) (let e = k.1 in omega (arith, e)) (filled Q l ps (b vs.0) ss vs.1 (i + 1) k.0 (h vs.0) k.2)
  filled Q l (opening m ∷ ps) b ss vs i n h k =
      subst (Filled Q _ ss _) (let e = k.1.1 in omega (arith, e)) (filled Q l ps (b vs.0) ss vs.1 (i + 1) k.1.0 (h vs.0 k.0) k.1.2)
  filled Q l (sub d f ∷ ps) b ss vs i n h k =
      subst (Filled Q _ ss _) (let e = k.2 in omega (arith, e)) (filled Q l ps (b vs.0) ss vs.1 (i + k.0) k.1 (h vs.0 k.0 k.3) k.4)

  line_keeps : (f : Form) (ps : List (Production (Val f))) → LinesKeep f ps → (p : Production (Val f)) → IsOneOf p ps → (l : ℕ)
      → Builds_kept (Keeps f l) l p.pieces p.build 0
  line_keeps f [] h p i l = absurd i
  line_keeps f (q ∷ qs) h p (inl is) l =
      subst (λ (z : Production (Val f)). Builds_kept (Keeps f l) l z.pieces z.build 0) (sym is) (h.0 l)
  line_keeps f (q ∷ qs) h p (inr i) l = line_keeps f qs h.1 p i l

  -- Where each line keeps it, each reading does.
  pub values_kept : ((f : Form) → LinesKeep f (productions f)) → {ss left : List Symbol} {ts : List Token} (d : Leads allowed ss ts left) (ws : Vals left)
      (m n : ℕ)
      → n ≡ length ts + m → AreKept left ws m → AreKept ss (value d ws) n
  values_kept all (done {ss = ss}) ws m n e k = subst (AreKept ss ws) (omega (arith, e)) k
  values_kept all (read {ts = ts} c d) ws m n e k = (length ts + m, omega (arith, e), values_kept all d ws m (length ts + m) refl k)
  values_kept all (keep {ts = ts} c d) ws m n e k = (length ts + m, omega (arith, e), values_kept all d ws m (length ts + m) refl k)
  values_kept all (open_level {ts = ts} c ok d) ws m n e k = (ok, (length ts + m, omega (arith, e), values_kept all d ws m (length ts + m) refl k))
  values_kept all (by_line {f = f} {l = l} {ss = ss} p i d) ws m n e k =
      let r = filled (Keeps f l) l p.pieces p.build ss (value d ws) 0 n (line_keeps f (productions f) (all f) p i l) (values_kept all d ws m n e k) in
      (r.first, r.rest, (let s = r.sum in omega (arith, s)), r.kept_first, r.kept_rest)
