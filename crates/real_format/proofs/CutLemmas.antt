-- Cutting a text into lines, and a line into words, by the lengths of runs.
use Rattle.std.proofs.Common.{◌≡◌, ℕ, suc, ◌+◌, ◌<◌, Bool, true, false, not, ◌==◌, ◌⊎◌, inl, inr, eqb, if◌then◌else◌, List, [], ◌∷◌, length, get_or, take, drop}
use Rattle.std.proofs.Common.{refl, sym, ap, ◌∙◌, subst, arith, min, map}
use Rattle.std.specs.List.{prefix_len}
use Rattle.std.proofs.lemmas.Bool.{cases_Bool, eq-eqb}
use Rattle.real_format.specs.Words.{lines_of_text, onto_first, words_of_line, before_comment, said_words, said_lines, is_blank, is_comment}

one_plus : (n : ℕ) → 1 + n ≡ suc n
one_plus n = omega arith

-- blanks before a word are dropped
blanks_dropped : (text : List ℕ) → words_of_line (drop (prefix_len is_blank text) text) ≡ words_of_line text
blanks_dropped [] = refl
blanks_dropped (b ∷ bs) = elim (cases_Bool (is_blank b)) [
  | inl blank ↦
      let size : prefix_len is_blank (b ∷ bs) ≡ suc (prefix_len is_blank bs) = rw blank (one_plus (prefix_len is_blank bs)) in
      ap (λ k. words_of_line (drop k (b ∷ bs))) size ∙ blanks_dropped bs ∙ sym (skipped b (words_of_line bs) _ blank)
  | inr dark ↦
      let size : prefix_len is_blank (b ∷ bs) ≡ 0 = rw dark refl in
      ap (λ k. words_of_line (drop k (b ∷ bs))) size
]
  where
    skipped : (b : ℕ) (rest other : List (List ℕ)) → is_blank b ≡ true → (if is_blank b then rest else other) ≡ rest
    skipped b rest other e = rw e refl

-- the first byte of a line, before the words of what is left
alone_first : (b : ℕ) (rest : List (List ℕ)) (begins : Bool) → is_blank b ≡ false → begins ≡ false
    → (if is_blank b then rest else (if begins then onto_first b rest else (b ∷ []) ∷ rest)) ≡ (b ∷ []) ∷ rest
alone_first b rest begins e f = rw (e, f) refl

joined_first : (b : ℕ) (rest : List (List ℕ)) (begins : Bool) → is_blank b ≡ false → begins ≡ true
    → (if is_blank b then rest else (if begins then onto_first b rest else (b ∷ []) ∷ rest)) ≡ onto_first b rest
joined_first b rest begins e f = rw (e, f) refl

-- behind blanks stands no blank
no_blank_first : (text : List ℕ) (b : ℕ) (bs : List ℕ) → drop (prefix_len is_blank text) text ≡ b ∷ bs → is_blank b ≡ false
no_blank_first [] b bs e = absurd (cc)
no_blank_first (x ∷ xs) b bs e = elim (cases_Bool (is_blank x)) [
  | inl blank ↦ no_blank_first xs b bs (sym (rw (blank, one_plus (prefix_len is_blank xs)) refl) ∙ e)
  | inr dark ↦
      let whole : drop (prefix_len is_blank (x ∷ xs)) (x ∷ xs) ≡ x ∷ xs = rw dark refl in
      let same : x ∷ xs ≡ b ∷ bs = sym whole ∙ e in
      subst (λ y. is_blank y ≡ false) (ap (λ ys. get_or ys 0 0) same) dark
]

-- a word ends before a blank or with the line
word_taken : (b : ℕ) (bs : List ℕ) → is_blank b ≡ false → (len : ℕ) → len ≡ prefix_len (λ x. not (is_blank x)) (b ∷ bs)
    → words_of_line (b ∷ bs) ≡ take len (b ∷ bs) ∷ words_of_line (drop len (b ∷ bs))
word_taken b [] e len is =
    let one : len ≡ suc 0 = is ∙ rw e refl in
    subst (λ k. words_of_line (b ∷ []) ≡ take k (b ∷ []) ∷ words_of_line (drop k (b ∷ []))) (sym one) (rw e refl)
word_taken b (c ∷ cs) e len is =
    let n : ℕ = prefix_len (λ x. not (is_blank x)) (c ∷ cs) in
    let more : len ≡ suc n = is ∙ (rw e (one_plus n)) in
    subst (λ k. words_of_line (b ∷ c ∷ cs) ≡ take k (b ∷ c ∷ cs) ∷ words_of_line (drop k (b ∷ c ∷ cs))) (sym more)
    (elim (cases_Bool (is_blank c)) [
      | inl blank ↦
          let none : n ≡ 0 = rw blank refl in
          alone_first b (words_of_line (c ∷ cs)) (not (is_blank c)) e (ap not blank)
          ∙ ap (λ k. take (suc k) (b ∷ c ∷ cs) ∷ words_of_line (drop (suc k) (b ∷ c ∷ cs))) (sym none)
      | inr dark ↦ joined_first b (words_of_line (c ∷ cs)) (not (is_blank c)) e (ap not dark) ∙ ap (onto_first b) (word_taken c cs dark n refl)
    ])

-- no word is left: blanks alone, or a comment
pub words_stop : (self rest begun : List ℕ) (words : List (List ℕ)) (len : ℕ) → words ≡ said_words rest → len ≡ prefix_len is_blank rest → begun ≡ drop len rest
    → (length begun ≡ 0) ⊎ (is_comment begun ≡ true) → words ≡ []
words_stop self rest begun words len view is back stop =
    view ∙ ap before_comment (sym (blanks_dropped rest) ∙ ap (λ k. words_of_line (drop k rest)) (sym is) ∙ ap words_of_line (sym back))
    ∙ by begun (λ b bs same. no_blank_first rest b bs (ap (λ k. drop k rest) (sym is) ∙ sym back ∙ same)) stop
  where
    by : (left : List ℕ) → ((b : ℕ) (bs : List ℕ) → left ≡ b ∷ bs → is_blank b ≡ false) → (length left ≡ 0) ⊎ (is_comment left ≡ true)
        → before_comment (words_of_line left) ≡ []
    by [] dark s = refl
    by (b ∷ bs) dark (inl none) = absurd (omega arith)
    by (b ∷ bs) dark (inr hash) =
        let n : ℕ = prefix_len (λ x. not (is_blank x)) bs in
        let first : words_of_line (b ∷ bs) ≡ take (suc n) (b ∷ bs) ∷ words_of_line (drop (suc n) (b ∷ bs)) =
        word_taken b bs (dark b bs refl) (suc n) (sym (rw (dark b bs refl) (one_plus n))) in
        ap before_comment first ∙ comment (b ∷ take n bs) (words_of_line (drop n bs)) hash
      where
        comment : (w : List ℕ) (ws : List (List ℕ)) → is_comment w ≡ true → before_comment (w ∷ ws) ≡ []
        comment w ws e = rw e refl

-- a word is left, and the words behind it
pub words_go : (rest begun word left : List ℕ) (words : List (List ℕ)) (len size : ℕ) → words ≡ said_words rest → len ≡ prefix_len is_blank rest
    → begun ≡ drop len rest → (length begun ≡ 0 → ⊥) → is_comment begun ≡ false → size ≡ prefix_len (λ b. not (is_blank b)) begun → word ≡ take size begun
    → left ≡ drop size begun → words ≡ word ∷ said_words left
words_go rest begun word left words len size view is back some other long front behind =
    view ∙ ap before_comment (sym (blanks_dropped rest) ∙ ap (λ k. words_of_line (drop k rest)) (sym is) ∙ ap words_of_line (sym back))
    ∙ by begun (λ b bs same. no_blank_first rest b bs (ap (λ k. drop k rest) (sym is) ∙ sym back ∙ same)) some other long
    ∙ ap (λ w. w ∷ said_words (drop size begun)) (sym front) ∙ ap (λ l. word ∷ said_words l) (sym behind)
  where
    by : (text : List ℕ) → ((b : ℕ) (bs : List ℕ) → text ≡ b ∷ bs → is_blank b ≡ false) → (length text ≡ 0 → ⊥) → is_comment text ≡ false
        → size ≡ prefix_len (λ b. not (is_blank b)) text → before_comment (words_of_line text) ≡ take size text ∷ said_words (drop size text)
    by [] dark n h s = absurd (n refl)
    by (b ∷ bs) dark n h s =
        let first : words_of_line (b ∷ bs) ≡ take size (b ∷ bs) ∷ words_of_line (drop size (b ∷ bs)) = word_taken b bs (dark b bs refl) size s in
        ap before_comment first ∙ solid_front (take size (b ∷ bs)) (words_of_line (drop size (b ∷ bs)))
        (let suc_size : size ≡ suc (prefix_len (λ x. not (is_blank x)) bs) = s ∙ rw (dark b bs refl) (one_plus _) in
        ap (λ k. is_comment (take k (b ∷ bs))) suc_size ∙ h)
      where
        solid_front : (w : List ℕ) (ws : List (List ℕ)) → is_comment w ≡ false → before_comment (w ∷ ws) ≡ w ∷ before_comment ws
        solid_front w ws e = rw e refl

-- ---- lines

behind_feed : List ℕ → List ℕ
behind_feed [] = []
behind_feed (b ∷ bs) = bs

one_dropped : (text : List ℕ) → drop (min (length text) 1) text ≡ behind_feed text
unfolding behind_feed
one_dropped [] = refl
one_dropped (b ∷ bs) =
    let one : min (length (b ∷ bs)) 1 ≡ suc 0 = omega arith in
    ap (λ k. drop k (b ∷ bs)) one

line_cut : (text : List ℕ) (len : ℕ) → 0 < length text → len ≡ prefix_len (λ b. not (b == 10)) text
    → lines_of_text text ≡ take len text ∷ lines_of_text (behind_feed (drop len text))
unfolding behind_feed
line_cut [] len h is = absurd (omega arith)
line_cut (b ∷ []) len h is = elim (cases_Bool (eqb b 10)) [
  | inl feed ↦
      let none : len ≡ 0 = is ∙ rw feed refl in
      subst (λ k. lines_of_text (b ∷ []) ≡ take k (b ∷ []) ∷ lines_of_text (behind_feed (drop k (b ∷ [])))) (sym none) (rw feed refl)
  | inr other ↦
      let one : len ≡ suc 0 = is ∙ rw other refl in
      subst (λ k. lines_of_text (b ∷ []) ≡ take k (b ∷ []) ∷ lines_of_text (behind_feed (drop k (b ∷ [])))) (sym one) (rw other refl)
]
line_cut (b ∷ c ∷ cs) len h is =
    let n : ℕ = prefix_len (λ b. not (b == 10)) (c ∷ cs) in
    let rest : lines_of_text (c ∷ cs) ≡ take n (c ∷ cs) ∷ lines_of_text (behind_feed (drop n (c ∷ cs))) = line_cut (c ∷ cs) n (omega arith) refl in
    elim (cases_Bool (eqb b 10)) [
      | inl feed ↦
          let none : len ≡ 0 = is ∙ rw feed refl in
          subst (λ k. lines_of_text (b ∷ c ∷ cs) ≡ take k (b ∷ c ∷ cs) ∷ lines_of_text (behind_feed (drop k (b ∷ c ∷ cs)))) (sym none) (rw feed refl)
      | inr other ↦
          let more : len ≡ suc n = is ∙ rw other (one_plus n) in
          let grown : lines_of_text (b ∷ c ∷ cs) ≡ onto_first b (lines_of_text (c ∷ cs)) = rw other refl in
          subst (λ k. lines_of_text (b ∷ c ∷ cs) ≡ take k (b ∷ c ∷ cs) ∷ lines_of_text (behind_feed (drop k (b ∷ c ∷ cs)))) (sym more)
          (grown ∙ ap (onto_first b) rest)
    ]

-- the first line, and the lines behind its line feed
pub line_taken : (text line behind rest : List ℕ) (len : ℕ) → (length text ≡ 0 → ⊥) → len ≡ prefix_len (λ b. not (b == 10)) text → line ≡ take len text
    → behind ≡ drop len text → rest ≡ drop (min (length behind) 1) behind → said_lines text ≡ said_words line ∷ said_lines rest
line_taken text line behind rest len some is front back left =
    ap (map said_words) (line_cut text len (omega arith) is)
    ∙ ap (λ l. said_words l ∷ said_lines (behind_feed (drop len text))) (sym front)
    ∙ ap (λ t. said_words line ∷ said_lines t) (sym (left ∙ ap (λ t. drop (min (length t) 1) t) back ∙ one_dropped (drop len text)))

-- a text with bytes, as the test of an empty one says it
pub some_left : (n : ℕ) (r : Bool) → r ≡ (n == 0) → r ≡ false → n ≡ 0 → ⊥
some_left n r is empty none = let both : true ≡ false = sym (eq-eqb n 0 none) ∙ sym is ∙ empty in cc
