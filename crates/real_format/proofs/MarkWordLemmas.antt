-- The marks of a word, read one after another.
use Rattle.std.proofs.Common.{◌≡◌, ℕ, ◌+◌, ◌<◌, ◌≤◌, if◌then◌else◌, eqb, List, [], ◌∷◌, ◌++◌, length, drop, get_or, Option, Some, None, Ok, Err, sym, ap, ◌∙◌}
use Rattle.std.proofs.lemmas.Bool.{eq-eqb}
use Rattle.std.proofs.lemmas.List.{drop_more, drop_all}
use Rattle.real_format.specs.declared.refusal.LineRefusal.TheVariants.{Form}
use Rattle.real_format.specs.inside.Reading.{or_form, single, marks_from, marks_of}

of_word : {M : Type 0} (f : ℕ → Option M) (n : ℕ) (words : List (List ℕ)) (word : List ℕ) → Some word ≡ single words → length word ≡ n
    → marks_of f n words ≡ marks_from f [] word
of_word f n words word one long =
    ap (λ o. or_form o (λ w. if eqb (length w) n then marks_from f [] w else Err Form)) (sym one)
    ∙ ap (λ t. if t then marks_from f [] word else Err Form) (eq-eqb (length word) n long)

at_byte : {M : Type 0} (f : ℕ → Option M) (word : List ℕ) (marks : List M) (k : ℕ) → k < length word
    → marks_from f marks (drop k word) ≡ or_form (f (get_or word k 0)) (λ mark. marks_from f (marks ++ mark ∷ []) (drop (k + 1) word))
at_byte f word marks k low = ap (marks_from f marks) (drop_more word k 0 low)

pub mark_read : {M : Type 0} (f : ℕ → Option M) (word : List ℕ) (marks more : List M) (k : ℕ) (mark : M) (found : Option M) → k < length word
    → found ≡ f (get_or word k 0) → found ≡ Some mark → more ≡ marks ++ mark ∷ [] → marks_from f marks (drop k word) ≡ marks_from f [] word
    → marks_from f more (drop (k + 1) word) ≡ marks_from f [] word
mark_read f word marks more k mark found low is some grown so_far =
    ap (λ ms. marks_from f ms (drop (k + 1) word)) grown
    ∙ sym (at_byte f word marks k low ∙ ap (λ o. or_form o (λ m. marks_from f (marks ++ m ∷ []) (drop (k + 1) word))) (sym is ∙ some)) ∙ so_far

pub no_mark : {M : Type 0} (f : ℕ → Option M) (n : ℕ) (words : List (List ℕ)) (word : List ℕ) (marks : List M) (k : ℕ) (found : Option M)
    → Some word ≡ single words → length word ≡ n → k < length word → found ≡ f (get_or word k 0) → found ≡ None
    → marks_from f marks (drop k word) ≡ marks_from f [] word → marks_of f n words ≡ Err Form
no_mark f n words word marks k found one long low is none so_far =
    of_word f n words word one long ∙ sym so_far ∙ at_byte f word marks k low
    ∙ ap (λ o. or_form o (λ m. marks_from f (marks ++ m ∷ []) (drop (k + 1) word))) (sym is ∙ none)

pub all_read : {M : Type 0} (f : ℕ → Option M) (n : ℕ) (words : List (List ℕ)) (word : List ℕ) (marks : List M) (k : ℕ) → Some word ≡ single words
    → length word ≡ n → length word ≤ k → marks_from f marks (drop k word) ≡ marks_from f [] word → marks_of f n words ≡ Ok marks
all_read f n words word marks k one long over so_far =
    of_word f n words word one long ∙ sym so_far ∙ ap (marks_from f marks) (drop_all k word over)
