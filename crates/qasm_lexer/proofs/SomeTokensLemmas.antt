-- Each text is cut in some way: what stands at its front is a gap or a token.
use Rattle.std.proofs.Common.{◌≡◌, ℕ, zero, suc, ◌<◌, ◌≤◌, List, [], ◌∷◌, ◌++◌, length, take, drop, nat_eq, refl, sym, ap, ◌∙◌, inl, inr, arith}
use Rattle.std.specs.Prelude.{codes}
use Rattle.std.specs.Char.{is_ascii_alphabetic, is_ascii_digit}
use Rattle.std.specs.List.{prefix_len, starts_with}
use Rattle.std.proofs.lemmas.Bool.{cases_Bool}
use Rattle.std.proofs.lemmas.List.{take-append-drop, length-append}
use Rattle.text_places.specs.Bytes.{is_blank, is_name_byte}
use Rattle.text_places.specs.Gaps.{IsGap, HasNoGap}
use Rattle.text_places.proofs.ByteLemmas.{first_of}
use Rattle.text_places.proofs.GapLemmas.{in_line, some_gap, blank_at_front, comment_at_front, no_gap_at_front}
use Rattle.qasm_lexer.specs.Tokens.{IsNext, AreTokens, nothing_taken, gap_dropped, token_taken, EachTextHasTokens}
use Rattle.qasm_lexer.proofs.CutLemmas.{some_next}
use Rattle.qasm_lexer.proofs.LexingLemmas.{name_at_front, number_at_front, version_at_front, library_at_front, other_at_front}
use Rattle.qasm_lexer.proofs.MoveLemmas.{next_cut}

-- what stands at the front of a text: a gap or a token
data Front : List ℕ → Type 0 where
  gap_first : {text : List ℕ} (piece rest : List ℕ) → text ≡ piece ++ rest → IsGap piece rest → Front text
  token_first : {text : List ℕ} (word rest : List ℕ) → IsNext text word rest → Front text

token_of : (text : List ℕ) (n : ℕ) → IsNext text (take n text) (drop n text) → Front text
token_of text n next = token_first (take n text) (drop n text) next

token_front : (text : List ℕ) → 0 < length text → HasNoGap text → Front text
token_front text some no_gap = elim (cases_Bool (is_ascii_alphabetic (first_of text))) [
  | inl letter ↦ token_of text (prefix_len is_name_byte text) (name_at_front text _ some letter refl)
  | inr no_letter ↦ elim (cases_Bool (starts_with nat_eq text (codes "2.0"))) [
    | inl version ↦ token_of text 3 (version_at_front text (sym version))
    | inr other ↦ elim (cases_Bool (is_ascii_digit (first_of text))) [
      | inl digit ↦ token_of text (prefix_len is_ascii_digit text) (number_at_front text _ some digit other refl)
      | inr no_digit ↦ elim (cases_Bool (starts_with nat_eq text (codes "\"qelib1.inc\""))) [
        | inl library ↦ token_of text 12 (library_at_front text (sym library))
        | inr none ↦ token_of text 1 (other_at_front text some no_gap no_letter no_digit none)
      ]
    ]
  ]
]

front : (text : List ℕ) → 0 < length text → Front text
front text some = elim (cases_Bool (is_blank (first_of text))) [
  | inl blank ↦ gap_first (take 1 text) (drop 1 text) (sym (take-append-drop 1 text)) (blank_at_front text some blank)
  | inr solid ↦ elim (cases_Bool (starts_with nat_eq text (codes "//"))) [
    | inl slashes ↦ (let n = prefix_len in_line text in
        gap_first (take n text) (drop n text) (sym (take-append-drop n text)) (comment_at_front text n (sym slashes) refl))
    | inr none ↦ token_front text some (no_gap_at_front text solid none)
  ]
]

record HasTokens (text : List ℕ) : Type 0 where
  tokens : List (List ℕ)
  are : AreTokens text tokens

shorter : (piece rest text : List ℕ) (k : ℕ) → text ≡ piece ++ rest → 0 < length piece → length text ≤ suc k → length rest ≤ k
shorter piece rest text k cut some few =
    let whole = ap length cut ∙ length-append piece rest in
    omega arith

go_on : (k : ℕ) → ((text : List ℕ) → length text ≤ k → HasTokens text) → (text : List ℕ) → length text ≤ suc k → Front text → HasTokens text
go_on k rec text few (gap_first piece rest cut gap) =
    let left = rec rest (shorter piece rest text k cut (some_gap piece rest gap) few) in
    record { tokens = left.tokens; are = gap_dropped piece rest cut gap left.are }
go_on k rec text few (token_first word rest next) =
    let left = rec rest (shorter word rest text k (next_cut text word rest next) (some_next text word rest next) few) in
    record { tokens = word ∷ left.tokens; are = token_taken word rest next left.are }

has_tokens : (k : ℕ) (text : List ℕ) → length text ≤ k → HasTokens text
has_tokens k [] few = record { tokens = []; are = nothing_taken }
has_tokens zero (b ∷ bs) few = absurd (omega arith)
has_tokens (suc k) (b ∷ bs) few = go_on k (has_tokens k) (b ∷ bs) few (front (b ∷ bs) (omega arith))

pub some_tokens : EachTextHasTokens
some_tokens text = let all = has_tokens (length text) text (omega arith) in (all.tokens, all.are)
