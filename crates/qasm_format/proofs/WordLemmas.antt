-- The words of a compiled file: names of registers and decimal numbers.
use Rattle.std.proofs.Common.{◌≡◌, ℕ, zero, suc, ◌+◌, ◌<◌, ◌≤◌, ◌*◌, ◌%◌, ◌^◌, eqb, not, inl, inr, true, List, [], ◌∷◌, ◌++◌, get_or, refl, sym, ap, ◌∙◌, arith}
use Rattle.std.proofs.Common.{codes, eq-eqb}
use Rattle.std.specs.List.{list_all}
use Rattle.std.specs.Char.{is_ascii_digit}
use Rattle.std.specs.Fmt.{decimal}
use Rattle.std.proofs.lemmas.Bool.{false≢true, and_parts, and_from}
use Rattle.std.proofs.lemmas.Bool.Decides.{nat_tests}
use Rattle.std.proofs.lemmas.Fmt.{decimal_by_steps, decimal_is_IsNumeral, length-decimal-le}
use Rattle.std.proofs.lemmas.List.Folds.{list_all-append}
use Rattle.list_facts.specs.Lists.{IsAmong}
use Rattle.circuit_plans.specs.declared.roles.Role.{Role}
use Rattle.circuit_plans.specs.declared.roles.Role.TheVariants.{Input, Output, Work, Borrowed}
use Rattle.qasm_lexer.specs.Tokens.{is_identifier, is_number}
use Rattle.qasm_format.specs.Registers.{IsName, IsNumber, kept_words}
use Rattle.qasm_format.specs.declared.words.Use.TheVariants.{Flip}
use Rattle.qasm_format.specs.Stages.{IsUseWord}
use Rattle.qasm_format.specs.Written.{gate_word}
use Rattle.qasm_format.specs.Compiled.{register_name}

-- ---- numbers

digit_passes : (n : ℕ) → n < 10 → is_ascii_digit (48 + n) ≡ true
digit_passes n h = grind (arith, nat_tests)

more_digits : (ds : List ℕ) (d : ℕ) → is_number ds ≡ true → is_ascii_digit d ≡ true → is_number (ds ++ d ∷ []) ≡ true
more_digits [] d e digit = absurd (false≢true e)
more_digits (b ∷ bs) d e digit =
    let parts = and_parts (is_ascii_digit b) (list_all is_ascii_digit bs) e in
    and_from (is_ascii_digit b) (list_all is_ascii_digit (bs ++ d ∷ [])) parts.0 (list_all-append is_ascii_digit bs (d ∷ [])
    ∙ and_from (list_all is_ascii_digit bs) (list_all is_ascii_digit (d ∷ [])) parts.1 (and_from (is_ascii_digit d) true digit refl))

pub is_number-decimal : (n : ℕ) → n < 2 ^ 64 → is_number (decimal n) ≡ true
is_number-decimal =
    decimal_by_steps (λ n ds. is_number ds ≡ true)
    (λ n h. and_from (is_ascii_digit (48 + n)) true (digit_passes n h) refl)
    (λ n ds h p. more_digits ds (48 + n % 10) p (digit_passes (n % 10) (omega arith)))

pub IsNumber-decimal : (n : ℕ) → n ≤ 16384 → IsNumber (decimal n) n
IsNumber-decimal n h =
    let number = decimal_is_IsNumeral n (omega arith) in
    record { spelled = number.0; few = length-decimal-le 9 n (omega arith) (omega arith) (omega arith); value = number.1 }

-- ---- names

-- a word is none of those that have another byte at some place
apart : (f : List ℕ → ℕ) (word : List ℕ) (others : List (List ℕ)) → list_all (λ other. not (eqb (f word) (f other))) others ≡ true → ¬ IsAmong word others
apart f word [] e among = among
apart f word (other ∷ others) e (inl same) =
    let parts = and_parts (not (eqb (f word) (f other))) (list_all (λ o. not (eqb (f word) (f o))) others) e in
    false≢true (sym (ap not (eq-eqb (f word) (f other) (ap f same))) ∙ parts.0)
apart f word (other ∷ others) e (inr among) =
    apart f word others (and_parts (not (eqb (f word) (f other))) (list_all (λ o. not (eqb (f word) (f o))) others) e).1 among

pub IsName-register_name : (role : Role) → IsName (register_name role)
IsName-register_name Input =
    record { spelled = refl; begins = refl; few = omega arith; free = apart (λ w. get_or w 2 0) (codes "inp") kept_words refl }
IsName-register_name Output =
    record { spelled = refl; begins = refl; few = omega arith; free = apart (λ w. get_or w 3 0) (codes "outp") kept_words refl }
IsName-register_name Work =
    record { spelled = refl; begins = refl; few = omega arith; free = apart (λ w. get_or w 3 0) (codes "work") kept_words refl }
IsName-register_name Borrowed =
    record { spelled = refl; begins = refl; few = omega arith; free = apart (λ w. get_or w 3 0) (codes "dirty") kept_words refl }

pub IsName-q : IsName (codes "q")
IsName-q = record { spelled = refl; begins = refl; few = omega arith; free = apart (λ w. get_or w 0 0 + 256 * get_or w 1 0) (codes "q") kept_words refl }

-- ---- the words of gates

pub is_identifier-gate_word : (controls : ℕ) → is_identifier (gate_word controls) ≡ true
is_identifier-gate_word zero = refl
is_identifier-gate_word (suc zero) = refl
is_identifier-gate_word (suc (suc n)) = refl

pub known_word : (controls : ℕ) → controls ≤ 2 → IsUseWord (gate_word controls) true (Flip controls)
known_word zero h = inl (refl, refl, refl)
known_word (suc zero) h = inr (inl (refl, refl, refl))
known_word (suc (suc zero)) h = inr (inr (inr (refl, refl, refl)))
known_word (suc (suc (suc n))) h = absurd (omega arith)
