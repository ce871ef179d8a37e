-- The tokens of a text that was made of lines of words.
use Rattle.std.proofs.Common.{◌≡◌, ℕ, true, inl, inr, List, [], ◌∷◌, ◌++◌, map, codes, refl, sym, ap, ◌∙◌, subst, append_assoc}
use Rattle.std.specs.List.{AllByRecursion, flat_map, concat}
use Rattle.std.proofs.lemmas.List.Folds.{concat-append}
use Rattle.qasm_lexer.specs.Tokens.{is_identifier, is_number, IsLongest, AreTokens, nothing_taken, gap_dropped, token_taken}
use Rattle.text_places.specs.Gaps.{blank}
use Rattle.qasm_format.specs.Statements.{Argument, Statement, bracketed, argument_words, parted, words_of, head_words}
use Rattle.qasm_format.specs.Written.{line_text}
use Rattle.qasm_lexer.proofs.TokenLemmas.{longest_name, longest_number, longest_version, longest_sign}

-- ---- words with nothing between them

-- the longest word is taken
word_taken : {text : List ℕ} {tokens : List (List ℕ)} (word rest : List ℕ) → IsLongest text word rest → AreTokens rest tokens → AreTokens text (word ∷ tokens)
word_taken word rest longest more = token_taken word rest (inl longest) more

-- words with nothing between them are cut into these words, whatever stands behind
pub record AreCut (words : List (List ℕ)) : Type 0 where
  pub says : (rest : List ℕ) (tokens : List (List ℕ)) → AreTokens rest tokens → AreTokens (concat words ++ rest) (words ++ tokens)

pub AreCut-append : (words others : List (List ℕ)) → AreCut words → AreCut others → AreCut (words ++ others)
AreCut-append words others h k = record {
  says = λ rest tokens more.
      subst (λ text. AreTokens text ((words ++ others) ++ tokens)) (sym (ap (λ t. t ++ rest) (concat-append words others)
      ∙ append_assoc (concat words) (concat others) rest))
      (subst (λ ts. AreTokens (concat words ++ (concat others ++ rest)) ts) (sym (append_assoc words others tokens))
      (h.says (concat others ++ rest) (others ++ tokens) (k.says rest tokens more)));
}

pub AreCut-comma : AreCut (codes "," ∷ [])
AreCut-comma = record { says = λ rest tokens more. word_taken (codes ",") rest (longest_sign 44 [] rest (inr (inr (inr (inl refl)))) refl refl) more }

pub AreCut-semicolon : AreCut (codes ";" ∷ [])
AreCut-semicolon = record { says = λ rest tokens more. word_taken (codes ";") rest (longest_sign 59 [] rest (inr (inr (inl refl))) refl refl) more }

open_taken : (rest : List ℕ) (tokens : List (List ℕ)) → AreTokens rest tokens → AreTokens (91 ∷ rest) ((91 ∷ []) ∷ tokens)
open_taken rest tokens more = word_taken (91 ∷ []) rest (longest_sign 91 [] rest (inr (inr (inr (inr (inl refl))))) refl refl) more

close_taken : (rest : List ℕ) (tokens : List (List ℕ)) → AreTokens rest tokens → AreTokens (93 ∷ rest) ((93 ∷ []) ∷ tokens)
close_taken rest tokens more = word_taken (93 ∷ []) rest (longest_sign 93 [] rest (inr (inr (inr (inr (inr (inl refl)))))) refl refl) more

bracketed_text : (name digits rest : List ℕ) → concat (bracketed name digits) ++ rest ≡ name ++ 91 ∷ (digits ++ 93 ∷ rest)
bracketed_text name digits rest =
    append_assoc name (91 ∷ (digits ++ 93 ∷ [])) rest ∙ ap (λ t. name ++ 91 ∷ t) (append_assoc digits (93 ∷ []) rest)

pub AreCut-bracketed : (name digits : List ℕ) → is_identifier name ≡ true → is_number digits ≡ true → AreCut (bracketed name digits)
AreCut-bracketed name digits named numbered = record {
  says = λ rest tokens more.
      subst (λ text. AreTokens text (bracketed name digits ++ tokens)) (sym (bracketed_text name digits rest))
      (word_taken name (91 ∷ (digits ++ 93 ∷ rest)) (longest_name name (digits ++ 93 ∷ rest) 91 named refl)
      (open_taken (digits ++ 93 ∷ rest) _ (word_taken digits (93 ∷ rest) (longest_number digits rest 93 numbered refl)
      (close_taken rest tokens more))));
}

pub AreCut-head : AreCut (codes "2.0" ∷ codes ";" ∷ [])
AreCut-head = record {
  says = λ rest tokens more.
      word_taken (codes "2.0") (59 ∷ rest) (longest_version (codes "2.0") rest 59 (inl refl) refl refl) (AreCut-semicolon.says rest tokens more);
}

pub AreCut-include : AreCut (codes "\"qelib1.inc\"" ∷ codes ";" ∷ [])
AreCut-include = record {
  says = λ rest tokens more.
      word_taken (codes "\"qelib1.inc\"") (59 ∷ rest) (longest_sign 34 (codes "qelib1.inc\"") (59 ∷ rest) (inr (inl refl)) refl refl)
      (AreCut-semicolon.says rest tokens more);
}

-- ---- arguments

-- arguments that are cut so, parted by commas
pub AreCut-parted : (arguments : List Argument) → AllByRecursion (λ argument. AreCut (argument_words argument)) arguments → AreCut (parted arguments)
AreCut-parted [] h = record { says = λ rest tokens more. more }
AreCut-parted (a ∷ []) h = h.0
AreCut-parted (a ∷ b ∷ bs) h =
    AreCut-append (argument_words a) (codes "," ∷ parted (b ∷ bs)) h.0
    (AreCut-append (codes "," ∷ []) (parted (b ∷ bs)) AreCut-comma (AreCut-parted (b ∷ bs) h.1))

-- ---- lines

-- the line of these words is cut into them
pub record IsCutLine (words : List (List ℕ)) : Type 0 where
  pub says : (rest : List ℕ) (tokens : List (List ℕ)) → AreTokens rest tokens → AreTokens (line_text words ++ rest) (words ++ tokens)

line_parts : (word rest : List ℕ) (words : List (List ℕ)) → line_text (word ∷ words) ++ rest ≡ word ++ 32 ∷ (concat words ++ 10 ∷ rest)
line_parts word rest words =
    append_assoc word (32 ∷ (concat words ++ 10 ∷ [])) rest ∙ ap (λ t. word ++ 32 ∷ t) (append_assoc (concat words) (10 ∷ []) rest)

pub is_cut_line : (word : List ℕ) (words : List (List ℕ)) → is_identifier word ≡ true → AreCut words → IsCutLine (word ∷ words)
is_cut_line word words named cut = record {
  says = λ rest tokens more.
      subst (λ text. AreTokens text ((word ∷ words) ++ tokens)) (sym (line_parts word rest words))
      (word_taken word (32 ∷ (concat words ++ 10 ∷ rest)) (longest_name word (concat words ++ 10 ∷ rest) 32 named refl)
      (gap_dropped (32 ∷ []) (concat words ++ 10 ∷ rest) refl (blank refl)
      (cut.says (10 ∷ rest) tokens (gap_dropped (10 ∷ []) rest refl (blank refl) more))));
}

-- the lines of statements are cut into their words
pub cut_statements : (statements : List Statement) → AllByRecursion (λ statement. IsCutLine (words_of statement)) statements
    → AreTokens (flat_map line_text (map words_of statements)) (flat_map words_of statements)
cut_statements [] h = nothing_taken
cut_statements (s ∷ ss) h = h.0.says (flat_map line_text (map words_of ss)) (flat_map words_of ss) (cut_statements ss h.1)

-- with the head before them
pub cut_file : (statements : List Statement) → AllByRecursion (λ statement. IsCutLine (words_of statement)) statements
    → AreTokens (flat_map line_text (head_words ∷ map words_of statements)) (head_words ++ flat_map words_of statements)
cut_file statements h =
    (is_cut_line (codes "OPENQASM") (codes "2.0" ∷ codes ";" ∷ []) refl AreCut-head).says
    (flat_map line_text (map words_of statements)) (flat_map words_of statements) (cut_statements statements h)
