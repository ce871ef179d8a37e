-- Declarations, as the reader takes them.
use Rattle.std.proofs.Common.{◌≡◌, ℕ, ◌<◌, ◌≤◌, Bool, true, false, not, ◌||◌, List, [], ◌∷◌, length, refl, sym, ap, ◌∙◌, inl, inr, arith}
use Rattle.std.specs.Prelude.{slice_index}
use Rattle.std.specs.List.{list_any}
use Rattle.std.specs.Str.{bytes_eq}
use Rattle.std.specs.Char.{is_ascii_lowercase}
use Rattle.std.proofs.lemmas.Bool.{false≢true, and_parts, and_from, not-true}
use Rattle.list_facts.specs.Lists.{IsAmong}
use Rattle.list_facts.proofs.AllLemmas.{AllByRecursion-weaker}
use Rattle.mct_circuit.specs.Gates.{GateView, lines_of, IsGateOn, AreGatesOn}
use Rattle.qasm_format.specs.declared.file.Register.{Register}
use Rattle.qasm_format.specs.declared.words.RegisterKind.{RegisterKind}
use Rattle.qasm_format.specs.declared.words.RegisterKind.TheVariants.{Qubits, Bits}
use Rattle.qasm_lexer.specs.Tokens.{is_identifier}
use Rattle.qasm_format.specs.Registers.{IsName, kept_words, lines_of_all}
use Rattle.qasm_format.specs.Stages.{kind_registers}
use Rattle.qasm_format.specs.inside.Tests.{is_kept, is_free}
use Rattle.qasm_format.proofs.DeclaredLemmas.{among_has}
use Rattle.qasm_format.proofs.ReadingLemmas.{other_word}
use Rattle.qasm_format.proofs.RegisterLemmas.{lines_of_all-append}

among_any : (names : List (List ℕ)) (name : List ℕ) → list_any (bytes_eq name) names ≡ false → ¬ IsAmong name names
among_any [] name e k = k
among_any (n ∷ ns) name e (inl same) = by (bytes_eq name n) refl
  where
    by : (t : Bool) → bytes_eq name n ≡ t → ⊥
    by true yes_it_is = false≢true (sym e ∙ ap (λ (t : Bool). t || list_any (bytes_eq name) ns) yes_it_is)
    by false other = other_word name n other same
among_any (n ∷ ns) name e (inr k) = by (bytes_eq name n) refl (λ rest. among_any ns name rest k)
  where
    by : (t : Bool) → bytes_eq name n ≡ t → (list_any (bytes_eq name) ns ≡ false → ⊥) → ⊥
    by true same more = false≢true (sym e ∙ ap (λ (t : Bool). t || list_any (bytes_eq name) ns) same)
    by false other more = more (sym (ap (λ (t : Bool). t || list_any (bytes_eq name) ns) other) ∙ e)

pub free_is_name : (word : List ℕ) → is_identifier word ≡ true → length word ≤ 64 → is_free word ≡ true → IsName word
free_is_name word spelled few e =
    let parts = and_parts (is_ascii_lowercase (slice_index word 0)) (not (is_kept word)) e in
    record {
      spelled = spelled;
      begins = parts.0;
      few = few;
      free = among_any kept_words word (not-true (is_kept word) parts.1);
    }

pub name_is_free : (word : List ℕ) → IsName word → is_free word ≡ true
name_is_free word h = and_from (is_ascii_lowercase (slice_index word 0)) (not (is_kept word)) h.begins (by (is_kept word) refl)
  where
    by : (t : Bool) → is_kept word ≡ t → not (is_kept word) ≡ true
    by true kept = absurd (h.free (among_has kept_words word kept))
    by false free = ap not free

-- ---- gates stay on the lines

gates_stay : (n m : ℕ) (gates : List GateView) → n ≤ m → AreGatesOn n gates → AreGatesOn m gates
gates_stay n m gates le on = AllByRecursion-weaker (IsGateOn n) (IsGateOn m) (λ gate h. record {
  different = h.different;
  in_range = AllByRecursion-weaker (λ line. line < n) (λ line. line < m) (λ line low. omega arith) (lines_of gate) h.in_range;
}) gates on

more_lines : (kind : RegisterKind) (name : List ℕ) (size : ℕ) (registers : List Register)
    → lines_of_all registers ≤ lines_of_all (kind_registers kind name size registers)
more_lines Qubits name size registers =
    let all = lines_of_all-append registers (record { name = name; size = size } ∷ []) in omega arith
more_lines Bits name size registers = omega arith

pub gates_stay_on : (kind : RegisterKind) (name : List ℕ) (size : ℕ) (registers : List Register) (gates : List GateView)
    → AreGatesOn (lines_of_all registers) gates
    → AreGatesOn (lines_of_all (kind_registers kind name size registers)) gates
gates_stay_on kind name size registers gates on = gates_stay _ _ gates (more_lines kind name size registers) on
