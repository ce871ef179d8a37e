-- The words of a text that was made of lines of words.
use Rattle.std.proofs.Common.{◌≡◌, ℕ, ◌<◌, eqb, Bool, true, false, not, ◌||◌, ◌&&◌, List, [], ◌∷◌, ◌++◌, length, map, refl, sym, ap, ◌∙◌, arith, append_assoc}
use Rattle.std.specs.List.{AllByRecursion, list_all, flat_map}
use Rattle.std.proofs.lemmas.List.Folds.{list_all-append}
use Rattle.real_format.specs.Words.{lines_of_text, is_blank, is_word_byte, begins_word, words_of_line, is_comment, before_comment, said_words, said_lines}
use Rattle.real_format.specs.Written.{line_text}

-- ---- tests

pub and-true : (a b : Bool) → (a && b) ≡ true → (a ≡ true) × (b ≡ true)
and-true true b e = (refl, e)
and-true false b e = (e, absurd (cc))

pub true-and : (a b : Bool) → a ≡ true → b ≡ true → (a && b) ≡ true
true-and true b p q = q
true-and false b p q = p

-- what a byte of a word is not
record IsSolid (b : ℕ) : Type 0 where
  dark : is_blank b ≡ false
  inside : eqb b 10 ≡ false

solid-tests : (blank feed : Bool) → not (blank || feed) ≡ true → (blank ≡ false) × (feed ≡ false)
solid-tests true feed e = absurd (cc)
solid-tests false true e = absurd (cc)
solid-tests false false e = (refl, refl)

solid_from_test : (b : ℕ) → is_word_byte b ≡ true → IsSolid b
solid_from_test b e = let p = solid-tests (is_blank b) (eqb b 10) e in record { dark = p.0; inside = p.1 }

-- a word of a line that begins no comment: some bytes, all of them bytes of words
pub record IsWord (word : List ℕ) : Type 0 where
  pub some : 0 < length word
  pub solid : list_all is_word_byte word ≡ true
  pub plain : is_comment word ≡ false

-- ---- lines

-- all bytes but line feeds stay in the line
lines_of-line : (line rest : List ℕ) → list_all (λ b. not (eqb b 10)) line ≡ true → lines_of_text (line ++ 10 ∷ rest) ≡ line ∷ lines_of_text rest
lines_of-line [] rest e = refl
lines_of-line (b ∷ bs) rest e =
    let p = and-true (not (eqb b 10)) (list_all (λ b. not (eqb b 10)) bs) e in
    let other : eqb b 10 ≡ false = not-true (eqb b 10) p.0 in
    rw (other, lines_of-line bs rest p.1) refl
  where
    not-true : (t : Bool) → not t ≡ true → t ≡ false
    not-true true q = sym q
    not-true false q = refl

-- ---- words of a line

words_of-word : (word rest : List ℕ) → 0 < length word → list_all is_word_byte word ≡ true → begins_word rest ≡ false
    → words_of_line (word ++ rest) ≡ word ∷ words_of_line rest
words_of-word [] rest some solid e = absurd (omega arith)
words_of-word (b ∷ []) rest some solid e =
    let s = solid_from_test b (and-true (is_word_byte b) true solid).0 in
    rw (s.dark, e) refl
words_of-word (b ∷ c ∷ cs) rest some solid e =
    let p = and-true (is_word_byte b) (is_word_byte c && list_all is_word_byte cs) solid in
    let q = and-true (is_word_byte c) (list_all is_word_byte cs) p.1 in
    let s = solid_from_test b p.0 in
    let t = solid_from_test c q.0 in
    let tail : words_of_line ((c ∷ cs) ++ rest) ≡ (c ∷ cs) ∷ words_of_line rest = words_of-word (c ∷ cs) rest (omega arith) p.1 e in
    rw (s.dark, tail, t.dark) refl

-- words behind one space each
abbrev pub behind_spaces : List (List ℕ) → List ℕ
behind_spaces words = flat_map (λ w. 32 ∷ w) words

begins_word-behind_spaces : (words : List (List ℕ)) → begins_word (behind_spaces words) ≡ false
begins_word-behind_spaces [] = refl
begins_word-behind_spaces (w ∷ ws) = refl

words_of-behind_spaces : (words : List (List ℕ)) → AllByRecursion IsWord words → words_of_line (behind_spaces words) ≡ words
words_of-behind_spaces [] h = refl
words_of-behind_spaces (w ∷ ws) h =
    words_of-word w (behind_spaces ws) h.0.some h.0.solid (begins_word-behind_spaces ws) ∙ ap (λ rest. w ∷ rest) (words_of-behind_spaces ws h.1)

abbrev body_of : List (List ℕ) → List ℕ
body_of [] = []
body_of (w ∷ ws) = w ++ behind_spaces ws

words_of-body_of : (words : List (List ℕ)) → AllByRecursion IsWord words → words_of_line (body_of words) ≡ words
words_of-body_of [] h = refl
words_of-body_of (w ∷ ws) h = words_of-word w (behind_spaces ws) h.0.some h.0.solid (begins_word-behind_spaces ws)
    ∙ ap (λ rest. w ∷ rest) (words_of-behind_spaces ws h.1)

no_feed-word : (word : List ℕ) → list_all is_word_byte word ≡ true → list_all (λ b. not (eqb b 10)) word ≡ true
no_feed-word [] e = refl
no_feed-word (b ∷ bs) e =
    let p = and-true (is_word_byte b) (list_all is_word_byte bs) e in
    let s = solid_from_test b p.0 in
    rw s.inside (no_feed-word bs p.1)

no_feed-behind_spaces : (words : List (List ℕ)) → AllByRecursion IsWord words → list_all (λ b. not (eqb b 10)) (behind_spaces words) ≡ true
no_feed-behind_spaces [] h = refl
no_feed-behind_spaces (w ∷ ws) h =
    list_all-append (λ b. not (eqb b 10)) w (behind_spaces ws) ∙ true-and _ _ (no_feed-word w h.0.solid) (no_feed-behind_spaces ws h.1)

no_feed-body_of : (words : List (List ℕ)) → AllByRecursion IsWord words → list_all (λ b. not (eqb b 10)) (body_of words) ≡ true
no_feed-body_of [] h = refl
no_feed-body_of (w ∷ ws) h =
    list_all-append (λ b. not (eqb b 10)) w (behind_spaces ws) ∙ true-and _ _ (no_feed-word w h.0.solid) (no_feed-behind_spaces ws h.1)

-- ---- texts

line_text-body : (words : List (List ℕ)) (rest : List ℕ) → line_text words ++ rest ≡ body_of words ++ 10 ∷ rest
line_text-body [] rest = refl
line_text-body (w ∷ ws) rest = simp append_assoc

no_comment : (words : List (List ℕ)) → AllByRecursion IsWord words → before_comment words ≡ words
no_comment [] h = refl
no_comment (w ∷ ws) h = rw (h.0.plain, no_comment ws h.1) refl

-- the lines and words of a text are those that it was made of
pub words_of_lines : (lines : List (List (List ℕ))) → AllByRecursion (AllByRecursion IsWord) lines → said_lines (flat_map line_text lines) ≡ lines
words_of_lines [] h = refl
words_of_lines (l ∷ ls) h =
    let front : lines_of_text (line_text l ++ flat_map line_text ls) ≡ body_of l ∷ lines_of_text (flat_map line_text ls)
    = ap lines_of_text (line_text-body l (flat_map line_text ls)) ∙ lines_of-line (body_of l) (flat_map line_text ls) (no_feed-body_of l h.0) in
    let said : said_words (body_of l) ≡ l = ap before_comment (words_of-body_of l h.0) ∙ no_comment l h.0 in
    ap (map said_words) front ∙ ap (λ w. w ∷ said_lines (flat_map line_text ls)) said ∙ ap (λ rest. l ∷ rest) (words_of_lines ls h.1)
