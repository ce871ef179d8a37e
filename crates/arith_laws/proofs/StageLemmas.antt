-- What is known in front of each place of a ripple, and the outputs.
use Rattle.std.proofs.Common.{◌≡◌, ℕ, zero, suc, ◌+◌, ◌<◌, ◌≤◌, Bool, List, [], ◌∷◌, ◌++◌, length, drop, Some, ap, sym, subst, ◌∙◌, arith, inl, inr}
use Rattle.std.specs.Prelude.{slice_get}
use Rattle.std.proofs.lemmas.List.{length-append}
use Rattle.std.proofs.lemmas.Option.{slice_get_within}
use Rattle.revc_base.specs.declared.place.Place.{Place}
use Rattle.revs_grammar.specs.Forms.{BodyTree, name_of}
use Rattle.revs_terms.specs.Trees.{Tree}
use Rattle.built_texts.specs.Meanings.{Meaning, Scope, of_bit, of_bits, named, meaning_of, IsRun, AreRuns, operand, RunsBody}
use Rattle.built_texts.specs.Ways.{shifted}
use Rattle.built_texts.proofs.RunLemmas.{run_name, run_index}
use Rattle.built_texts.proofs.PlaceLemmas.{lettered}
use Rattle.arith_laws.proofs.NameLemmas.{other_lettered, left_get, left_drop, got_more, past, nearest}
use Rattle.arith_laws.proofs.RippleReadingLemmas.{bit_at, output_terms}

pub bit_run : {d : ℕ} {sc : Scope} {text : List ℕ} {bs : List Bool} {x : Bool} (i : ℕ) (at dot digits : Place)
    → meaning_of text sc ≡ Some (of_bits bs) → slice_get bs i ≡ Some x → i ≤ 9999
    → IsRun (suc (suc d)) sc (bit_at text i at dot digits) (of_bit x) 2
bit_run {text = text} i at dot digits is get few = run_index i digits dot (run_name (name_of text at) is) get few

-- What is known in a scope stays known under the names of bits, which have this letter, and of carries.
pub record IsKept (letter : ℕ) (K : Scope → Type 0) : Type 1 where
  pub bits : (i : ℕ) (m : Meaning) (sc : Scope) → i ≤ 9999 → K sc → K (named (lettered letter i) m sc)
  pub carries : (i : ℕ) (m : Meaning) (sc : Scope) → i ≤ 9999 → K sc → K (named (lettered 99 i) m sc)
  pub apart : (k i : ℕ) (m : Meaning) (sc : Scope) → meaning_of (lettered letter k) (named (lettered 99 i) m sc) ≡ meaning_of (lettered letter k) sc

-- The bits of the places below i were made.
pub record Made (letter : ℕ) (K : Scope → Type 0) (i : ℕ) (made : List Bool) (sc : Scope) : Type 0 where
  pub known : K sc
  pub bits_are : (k : ℕ) (x : Bool) → slice_get made k ≡ Some x → meaning_of (lettered letter k) sc ≡ Some (of_bit x)
  pub count : length made ≡ i

-- In front of place i, into which this carry comes.
pub record Stage (letter : ℕ) (K : Scope → Type 0) (i : ℕ) (c : Bool) (made : List Bool) (sc : Scope) : Type 0 where
  pub below : Made letter K i made sc
  pub c_is : meaning_of (lettered 99 i) sc ≡ Some (of_bit c)

-- the scope behind place i
abbrev pub behind : ℕ → ℕ → Bool → Bool → Scope → Scope
behind letter i s c sc = named (lettered 99 (i + 1)) (of_bit c) (named (lettered letter i) (of_bit s) sc)

module _ (letter : ℕ) (K : Scope → Type 0) (kept : IsKept letter K) where
  pub stage_next : (i : ℕ) (s next : Bool) (made : List Bool) (sc : Scope) → i ≤ 999 → Made letter K i made sc
      → Stage letter K (i + 1) next (made ++ s ∷ []) (behind letter i s next sc)
  stage_next i s next made sc few now =
      let one = named (lettered letter i) (of_bit s) sc in
      record {
        below = record {
          known = kept.carries (i + 1) (of_bit next) one (omega arith) (kept.bits i (of_bit s) sc (omega arith) now.known);
          bits_are = λ k x is. elim (got_more made s k x is) [
            | inl there ↦
                let low : k < i = let l = slice_get_within made k x there in omega (arith, l, now.count) in
                kept.apart k (i + 1) (of_bit next) one
                ∙ past (lettered letter k) (lettered letter i) (of_bit s) sc (other_lettered letter k i low (omega arith)) (now.bits_are k x there)
            | inr last ↦
                let here : k ≡ i = last.0 ∙ now.count in
                kept.apart k (i + 1) (of_bit next) one
                ∙ ap (λ j. meaning_of (lettered letter j) one) here
                ∙ nearest (lettered letter i) (of_bit s) sc ∙ ap (λ y. Some (of_bit y)) last.1
          ];
          count = length-append made (s ∷ []) ∙ ap (λ n. n + 1) now.count;
        };
        c_is = nearest (lettered 99 (i + 1)) (of_bit next) one;
      }

  pub stage_same : {i j : ℕ} {c : Bool} {made others : List Bool} {sc : Scope} → i ≡ j → made ≡ others
      → Stage letter K i c made sc → Stage letter K j c others sc
  stage_same {sc = sc} here same now = record {
    below = record {
      known = now.below.known;
      bits_are = λ k x is. now.below.bits_are k x (ap (λ l. slice_get l k) same ∙ is);
      count = ap length (sym same) ∙ now.below.count ∙ here;
    };
    c_is = ap (λ n. meaning_of (lettered 99 n) sc) (sym here) ∙ now.c_is;
  }

pub within : {d : ℕ} {sc : Scope} {rest : BodyTree} {m : Meaning} {k n : ℕ} → RunsBody d sc rest.items rest.last m k → k ≡ n
    → RunsBody d sc rest.items rest.last m n
within {d} {sc} {rest} {m} runs same = subst (λ (n : ℕ). RunsBody d sc rest.items rest.last m n) same runs

-- the bits from i on, in front of what comes behind them
pub outputs_run : (letter d i count : ℕ) (q : ℕ → Place) (first : Tree) (others : List Tree) (bits : List Bool) (k : ℕ) (made xs : List Bool)
    (sc : Scope) → ((k : ℕ) (x : Bool) → slice_get made k ≡ Some x → meaning_of (lettered letter k) sc ≡ Some (of_bit x))
    → drop i made ≡ xs → length xs ≡ count → AreRuns (suc d) sc (first ∷ others) bits k
    → AreRuns (suc d) sc ((output_terms letter i count q (first, others)).0 ∷ (output_terms letter i count q (first, others)).1) (xs ++ bits) (count + k)
outputs_run letter d i zero q first others bits k made [] sc sums left size behind =
    let same : k ≡ 0 + k = omega arith in subst (λ (n : ℕ). AreRuns (suc d) sc (first ∷ others) bits n) same behind
outputs_run letter d i zero q first others bits k made (x ∷ xs) sc sums left size behind = absurd (omega arith)
outputs_run letter d i (suc count) q first others bits k made [] sc sums left size behind = absurd (omega arith)
outputs_run letter d i (suc count) q first others bits k made (x ∷ xs) sc sums left size behind =
    let size' : length xs ≡ count = omega arith in
    let same : 1 + (count + k) ≡ suc count + k = omega arith in
    let more = outputs_run letter d (i + 1) count (shifted 2 q) first others bits k made xs sc sums (left_drop made i x xs left) size' behind in
    let terms = output_terms letter i (suc count) q (first, others) in
    subst (λ (n : ℕ). AreRuns (suc d) sc (terms.0 ∷ terms.1) (x ∷ (xs ++ bits)) n) same
    (operand (run_name (name_of (lettered letter i) (q 0)) (sums i x (left_get made i x xs left))) more)
