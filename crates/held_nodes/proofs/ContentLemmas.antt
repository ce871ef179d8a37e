-- The content of the work lines, as gates are appended.
use Rattle.std.proofs.Common.{◌≡◌, ◌≢◌, ℕ, zero, suc, ◌+◌, ◌-◌, ◌<◌, Bool, true, false, not, ◌&&◌, eqb, List, [], ◌∷◌, ◌++◌, length, set, Option, Some, None}
use Rattle.std.proofs.Common.{refl, sym, ap, ◌∙◌, subst, inl, inr, arith, append_assoc}
use Rattle.std.specs.Bool.{xor}
use Rattle.std.proofs.lemmas.Bool.{cases_Bool, eqb-true, eqb-false, or_parts, true≢false}
use Rattle.std.proofs.lemmas.List.{get_or_append_left, get_or-append-add, get_or-set_same, get_or-set_other, length-append, length-set, length-replicate}
use Rattle.std.proofs.lemmas.List.{set-append_right, replicate-append-replicate}
use Rattle.std.proofs.lemmas.Option.{same_Some}
use Rattle.list_facts.specs.Bits.{bit_of, zeros}
use Rattle.list_facts.proofs.BitLemmas.{xor_same, xor_nothing}
use Rattle.sum_graph.specs.Graphs.{SumGraphView, node_value}
use Rattle.mct_circuit.specs.Gates.{GateView, AreGatesOn, line_map}
use Rattle.mct_circuit.proofs.MoreLinesLemmas.{more_lines}
use Rattle.mct_circuit.proofs.ReversalLemmas.{line_map-append}
use Rattle.held_nodes.specs.Held.{IsContent, held_line, is_taken}
use Rattle.sum_graph.specs.Graphs.{first_work}
use Rattle.held_nodes.proofs.LineLemmas.{AreOnDifferent, not_free, taken-put, taken-given, none_set}

-- ---- the lines of inputs, outputs and work

-- the bits of all lines
abbrev pub all_lines : List Bool → List Bool → List Bool → List Bool
all_lines input outputs content = input ++ (outputs ++ content)

pub length-all_lines : (input outputs content : List Bool) → length (all_lines input outputs content) ≡ length input + length outputs + length content
length-all_lines input outputs content =
    let all = length-append input (outputs ++ content) in
    let some = length-append outputs content in
    omega (arith, all, some)

pub input_bit : (input outputs content : List Bool) (i : ℕ) → i < length input → bit_of (all_lines input outputs content) i ≡ bit_of input i
input_bit input outputs content i low = get_or_append_left input (outputs ++ content) false i low

pub work_bit : (input outputs content : List Bool) (first line : ℕ) → first ≡ length input + length outputs
    → bit_of (all_lines input outputs content) (first + line) ≡ bit_of content line
work_bit input outputs content first line e =
    let place : first + line ≡ length input + (length outputs + line) = omega (arith, e) in
    ap (bit_of (all_lines input outputs content)) place
    ∙ get_or-append-add input (outputs ++ content) (length outputs + line) false
    ∙ get_or-append-add outputs content line false

pub set_work : (input outputs content : List Bool) (first line : ℕ) (bit : Bool) → first ≡ length input + length outputs
    → set (all_lines input outputs content) (first + line) bit ≡ all_lines input outputs (set content line bit)
set_work input outputs content first line bit e =
    let behind : first + line - length input ≡ length outputs + line = omega (arith, e) in
    let further : length outputs + line - length outputs ≡ line = omega arith in
    set-append_right input (outputs ++ content) (length input) (first + line) bit refl (omega (arith, e))
    ∙ ap (λ (bits : List Bool). input ++ bits)
    (ap (λ (place : ℕ). set (outputs ++ content) place bit) behind
    ∙ set-append_right outputs content (length outputs) (length outputs + line) bit refl (omega arith)
    ∙ ap (λ (place : ℕ). outputs ++ set content place bit) further)

-- ---- more work lines

bit_of-zeros : (n line : ℕ) → bit_of (zeros n) line ≡ false
bit_of-zeros zero line = refl
bit_of-zeros (suc n) zero = refl
bit_of-zeros (suc n) (suc line) = bit_of-zeros n line

padded_bit : (content : List Bool) (more line : ℕ) → bit_of (content ++ zeros more) line ≡ bit_of content line
padded_bit [] more line = bit_of-zeros more line
padded_bit (b ∷ bs) more zero = refl
padded_bit (b ∷ bs) more (suc line) = padded_bit bs more line

padded_lines : (input outputs some more : List Bool) → all_lines input outputs (some ++ more) ≡ all_lines input outputs some ++ more
padded_lines input outputs some more =
    ap (λ (bits : List Bool). input ++ bits) (sym (append_assoc outputs some more)) ∙ sym (append_assoc input (outputs ++ some) more)

-- more work lines hold 0
pub content_padded : (s : SumGraphView) (lines : List (Option ℕ)) (work more : ℕ) (gates : List GateView) (input content : List Bool)
    → length input ≡ s.inputs → AreGatesOn (first_work s + work) gates → IsContent s lines work gates input content
    → IsContent s lines (work + more) gates input (content ++ zeros more)
content_padded s lines work more gates input content size on is = record {
  long =
      (let all = length-append content (zeros more) in
      let some = length-replicate more false in
      omega (arith, all, some, is.long));
  held = λ node line own. padded_bit content more line ∙ is.held node line own;
  free = λ line free. padded_bit content more line ∙ is.free line free;
  mapped = λ outputs many.
      (let split : zeros (work + more) ≡ zeros work ++ zeros more = sym (replicate-append-replicate work more false) in
      let long : length (all_lines input outputs (zeros work)) ≡ first_work s + work =
      (let all = length-all_lines input outputs (zeros work) in let some = length-replicate work false in omega (arith, all, some, size, many)) in
      ap (λ (bits : List Bool). line_map gates (all_lines input outputs bits)) split
      ∙ ap (line_map gates) (padded_lines input outputs (zeros work) (zeros more))
      ∙ more_lines gates (all_lines input outputs (zeros work)) (zeros more) (subst (λ (n : ℕ). AreGatesOn n gates) (sym long) on)
      ∙ ap (λ (bits : List Bool). bits ++ zeros more) (is.mapped outputs many)
      ∙ sym (padded_lines input outputs content (zeros more)));
}

-- ---- gates that add a node's value to a work line

-- whatever the output lines hold, the gates set this work line to the exclusive or of its bit and the value
pub record AddsValue (s : SumGraphView) (more : List GateView) (line : ℕ) (input content : List Bool) (value : Bool) : Type 0 where
  pub adds : (outputs : List Bool) → length outputs ≡ length s.outputs
      → line_map more (all_lines input outputs content) ≡ all_lines input outputs (set content line (xor value (bit_of content line)))

mapped_on : (s : SumGraphView) (lines : List (Option ℕ)) (work : ℕ) (gates more : List GateView) (line : ℕ) (input content : List Bool) (value now : Bool)
    → IsContent s lines work gates input content → AddsValue s more line input content value → xor value (bit_of content line) ≡ now
    → (outputs : List Bool) → length outputs ≡ length s.outputs
    → line_map (gates ++ more) (all_lines input outputs (zeros work)) ≡ all_lines input outputs (set content line now)
mapped_on s lines work gates more line input content value now is adds e outputs many =
    line_map-append gates more (all_lines input outputs (zeros work))
    ∙ ap (line_map more) (is.mapped outputs many)
    ∙ adds.adds outputs many
    ∙ ap (λ bit. all_lines input outputs (set content line bit)) e

-- a node is put on a free line
pub content_put : (s : SumGraphView) (lines : List (Option ℕ)) (work : ℕ) (gates more : List GateView) (k line : ℕ) (input content : List Bool)
    → k < length lines → held_line lines k ≡ None → is_taken lines line ≡ false → line < work
    → IsContent s lines work gates input content → AddsValue s more line input content (node_value s input k)
    → IsContent s (set lines k (Some line)) work (gates ++ more) input (set content line (node_value s input k))
content_put s lines work gates more k line input content low none free inside is adds =
    let value = node_value s input k in
    let now = set content line value in
    record {
      long = length-set content line value ∙ is.long;
      held = λ node own held. elim (cases_Bool (eqb node k)) [
        | inl same ↦
            (let at : node ≡ k = eqb-true node k same in
            let here : held_line (set lines k (Some line)) node ≡ Some line =
            ap (held_line (set lines k (Some line))) at ∙ get_or-set_same lines k (Some line) None low in
            let line_is : own ≡ line = same_Some own line (sym held ∙ here) in
            ap (bit_of now) line_is
            ∙ get_or-set_same content line value false (omega (arith, inside, is.long))
            ∙ ap (node_value s input) (sym at))
        | inr other ↦
            (let before : held_line lines node ≡ Some own = sym (get_or-set_other lines k node (Some line) None (eqb-false node k other)) ∙ held in
            get_or-set_other content line own value false (not_free lines node own line before free)
            ∙ is.held node own before)
      ];
      free = λ other unheld.
          (let parts = or_parts (eqb line other) (is_taken lines other) (sym (taken-put lines k line other low none) ∙ unheld) in
          get_or-set_other content line other value false (λ same. eqb-false line other parts.0 (sym same))
          ∙ is.free other parts.1);
      mapped = mapped_on s lines work gates more line input content value value is adds
          (ap (xor value) (is.free line free) ∙ xor_nothing value);
    }

other_free : (a b : Bool) → (a && not b) ≡ false → b ≡ false → a ≡ false
other_free true b e f = absurd (true≢false (sym (ap not f) ∙ e))
other_free false b e f = refl

-- a held node is taken off its line
pub content_given : (s : SumGraphView) (lines : List (Option ℕ)) (work : ℕ) (gates more : List GateView) (k line : ℕ) (input content : List Bool)
    → AreOnDifferent lines → held_line lines k ≡ Some line → line < work
    → IsContent s lines work gates input content → AddsValue s more line input content (node_value s input k)
    → IsContent s (set lines k None) work (gates ++ more) input (set content line false)
content_given s lines work gates more k line input content different own inside is adds =
    let value = node_value s input k in
    let now = set content line false in
    record {
      long = length-set content line false ∙ is.long;
      held = λ node other held.
          (let apart : node ≢ k = λ same. none_set lines k other (subst (λ (n : ℕ). held_line (set lines k None) n ≡ Some other) same held) in
          let before : held_line lines node ≡ Some other = sym (get_or-set_other lines k node None None apart) ∙ held in
          let unlike : other ≢ line = λ same. apart (different node k line (before ∙ ap (λ (n : ℕ). Some n) same) own) in
          get_or-set_other content line other false false unlike ∙ is.held node other before);
      free = λ other unheld. elim (cases_Bool (eqb line other)) [
        | inl same ↦
            ap (bit_of now) (sym (eqb-true line other same)) ∙ get_or-set_same content line false false (omega (arith, inside, is.long))
        | inr unlike ↦
            get_or-set_other content line other false false (λ same. eqb-false line other unlike (sym same))
            ∙ is.free other (other_free (is_taken lines other) (eqb line other) (sym (taken-given lines k line other different own) ∙ unheld) unlike)
      ];
      mapped = mapped_on s lines work gates more line input content value false is adds
          (ap (xor value) (is.held k line own) ∙ xor_same value);
    }
