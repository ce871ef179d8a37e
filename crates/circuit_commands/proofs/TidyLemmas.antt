-- `tidy`: what is tidied from the split list of a text's circuit, and the file of it.
use Rattle.std.proofs.Common.{◌≡◌, ℕ, ◌+◌, ◌<◌, ◌≤◌, Bool, true, false, List, [], ◌∷◌, ◌++◌, length, refl, sym, ap, ◌∙◌, subst, arith}
use Rattle.std.proofs.lemmas.List.{length-append}
use Rattle.mct_circuit.specs.Gates.{AreGatesOn, AreNarrow, CircuitView, GateView, line_map}
use Rattle.circuit_plans.specs.declared.plan.TheConstants.{MOST_GATES, MOST_LINES}
use Rattle.real_format.specs.declared.file.Mark.{Mark}
use Rattle.real_format.specs.declared.file.Mark.TheVariants.{Free}
use Rattle.circuit_tidy.specs.Tidied.{IsTidied}
use Rattle.flip_orders.specs.Orders.{AreReordered}
use Rattle.flip_orders.proofs.ReorderingLemmas.{length-reordered}
use Rattle.revc_words.specs.declared.order.Aim.{Aim}
use Rattle.revc_words.specs.declared.order.Aim.TheVariants.{Gates, Depth, Order}
use Rattle.revc_words.specs.declared.order.Format.{Format}
use Rattle.command_answers.specs.Outcomes.{HasOneOutcome}
use Rattle.circuit_commands.specs.Circuits.{ReadCircuit, line_count, marked}
use Rattle.circuit_commands.specs.Convert.{DoesTheSame, added_lines, converted}
use Rattle.circuit_commands.specs.Outcomes.{ConvertedView, IsConversion}
use Rattle.circuit_commands.specs.Tidy.{AreMadeFor, AreTidiedInOrder, IsTidiedFor, most_gates, promise}
use Rattle.circuit_commands.specs.inside.Splitting.{IsRemade, SplitsText}
use Rattle.circuit_commands.proofs.ConvertLemmas.{conversion, converted_gates, split_outcome}

pub tidy_outcome : HasOneOutcome promise
tidy_outcome =
    split_outcome (λ order. most_gates order.aim) promise.Gives
    (λ order text written given. record {
      circuit = given.circuit;
      means = given.means;
      added = given.added;
      gates = given.made.before;
      split = given.made.split;
    })

-- ---- what is made of gates

-- what is made for any aim has the line map of the gates
pub same_made : (aim : Aim) (lines : ℕ) (before gates : List GateView) → AreMadeFor aim lines before gates
    → (bits : List Bool) → length bits ≡ lines → line_map gates bits ≡ line_map before bits
same_made Gates lines before gates is bits long = is.same bits long
same_made Depth lines before gates is bits long = is.order.same bits ∙ is.tidied.same bits long
same_made Order lines before gates is bits long = is.same bits

-- tidied first, and then in another order
pub tidied_then_reordered : (split between made : ConvertedView) → IsRemade (IsTidied (line_count split.circuit)) split between
    → IsRemade AreReordered between made → IsRemade (AreTidiedInOrder (line_count split.circuit)) split made
tidied_then_reordered split between made one other =
    record {
      gates = record { between = between.circuit.gates; tidied = one.gates; order = other.gates };
      are = other.are
          ∙ ap (λ (m : ConvertedView). let r : ConvertedView = record m { circuit = record m.circuit { gates = made.circuit.gates } } in r) one.are;
      writable = other.writable;
    }

-- a circuit with its gates in another order, on the lines of its marks
pub remade_in_order : (constants : List Mark) (garbage : List Bool) (added : Bool) (old new : List GateView) (circuit : CircuitView)
    → AreReordered old circuit.gates → circuit.gates ≡ new → circuit.lines ≡ length constants → AreNarrow new → AreGatesOn circuit.lines circuit.gates
    → length garbage ≡ length constants → added_lines added < length constants → length constants ≤ MOST_LINES → length old ≤ MOST_GATES
    → IsRemade AreReordered (record { circuit = marked constants garbage old; added = added })
    (record { circuit = marked constants garbage new; added = added })
remade_in_order constants garbage added old new circuit is same lines narrow placed long own few few_gates =
    let here = subst (AreReordered old) same is in
    record {
      gates = here;
      are = refl;
      writable = record {
        own = own;
        few = few;
        garbage = long;
        narrow = narrow;
        placed = subst (λ n. AreGatesOn n new) lines (subst (AreGatesOn circuit.lines) same placed);
        few_gates = (let e = length-reordered old new here in omega (arith, e, few_gates));
      };
    }

-- ---- what is tidied does what the circuit does

same_tidied : (circuit : ReadCircuit) (added : Bool) (before gates : List GateView) → DoesTheSame circuit added before
    → ((bits : List Bool) → length bits ≡ line_count circuit + added_lines added → line_map gates bits ≡ line_map before bits)
    → DoesTheSame circuit added gates
same_tidied circuit added before gates does same bits more long more_long =
    same (bits ++ more) (length-append bits more ∙ ap (λ n. n + length more) long ∙ ap (λ n. line_count circuit + n) more_long)
    ∙ does bits more long more_long

-- as many lines as the circuit has, and the one that was added
lines_converted : (circuit : ReadCircuit) (added : Bool) (gates : List GateView)
    → line_count (converted circuit added gates) ≡ line_count circuit + added_lines added
lines_converted circuit false gates = omega arith
lines_converted circuit true gates = length-append circuit.constants (Free ∷ [])

-- other gates with the marks of a circuit's lines
gates_replaced : (circuit : ReadCircuit) (added : Bool) (before gates : List GateView)
    → record (converted circuit added before) { gates = gates } ≡ converted circuit added gates
gates_replaced circuit false before gates = refl
gates_replaced circuit true before gates = refl

-- what is made of the split list of a text, with the marks of its lines
pub tidied_written : (aim : Aim) (from : Format) (text : List ℕ) (split made : ConvertedView) → SplitsText (most_gates aim) from text split
    → IsRemade (AreMadeFor aim (line_count split.circuit)) split made → IsConversion (IsTidiedFor aim) from text made
tidied_written aim from text split made s is =
    let source = s.circuit in
    let before = s.split.gates in
    let gates = made.circuit.gates in
    let are = s.split.placed.are in
    let added : split.added ≡ made.added = sym (ap (λ (m : ConvertedView). m.added) is.are) in
    let old : split.circuit.gates ≡ before = ap (λ (c : ReadCircuit). c.gates) are ∙ converted_gates source split.added before in
    let lines : line_count split.circuit ≡ line_count source + added_lines split.added = ap line_count are ∙ lines_converted source split.added before in
    let made_of : AreMadeFor aim (line_count source + added_lines split.added) before gates =
    subst (λ (gs : List GateView). AreMadeFor aim (line_count source + added_lines split.added) gs gates) old
    (subst (λ n. AreMadeFor aim n split.circuit.gates gates) lines is.gates)
    in
    let made_from : IsTidiedFor aim source split.added gates = record { before = before; split = s.split.split; made = made_of } in
    let same = same_tidied source split.added before gates s.split.placed.same
    (same_made aim (line_count source + added_lines split.added) before gates made_of) in
    conversion (IsTidiedFor aim) from text source gates made s.means (subst (λ (b : Bool). IsTidiedFor aim source b gates) added made_from)
    (record {
      are = ap (λ (m : ConvertedView). m.circuit) is.are ∙ ap (λ (c : ReadCircuit). let r : ReadCircuit = record c { gates = gates } in r) are
          ∙ gates_replaced source split.added before gates ∙ ap (λ (b : Bool). converted source b gates) added;
      writable = is.writable;
      same = subst (λ (b : Bool). DoesTheSame source b gates) added same;
    })

-- tidied gates in another order are made for a smaller depth
pub made_in_order : (split tidied made : ConvertedView) → IsRemade (IsTidied (line_count split.circuit)) split tidied
    → IsRemade AreReordered tidied made → IsRemade (AreMadeFor Depth (line_count split.circuit)) split made
made_in_order split tidied made first second = record {
  gates = record { between = tidied.circuit.gates; tidied = first.gates; order = second.gates };
  are = second.are ∙ ap (λ (t : ConvertedView). record t { circuit = record t.circuit { gates = made.circuit.gates } }) first.are;
  writable = second.writable;
}
