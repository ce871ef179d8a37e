-- The ends of the lines, where only inputs count that are looked at.
use Rattle.std.proofs.Common.{◌≡◌, ℕ, ◌+◌, ◌<◌, Bool, false, ◌&&◌, List, [], ◌∷◌, ◌++◌, length, map, take, get_or, refl, sym, ap, ap₂, ◌∙◌}
use Rattle.std.proofs.Common.{subst, arith, Result}
use Rattle.std.proofs.lemmas.List.{get_or_read, length-map, map-append, take_more}
use Rattle.list_facts.specs.Bits.{bit_of}
use Rattle.list_facts.proofs.AllLemmas.{AllByRecursion-append}
use Rattle.decision_diagram.specs.declared.node.DdFault.{DdFault}
use Rattle.decision_diagram.specs.Diagrams.{DiagramView, IsNumber, Triple, function_of}
use Rattle.decision_diagram.specs.Functions.{AreSame, Assignment, conjunction}
use Rattle.decision_diagram.specs.Growth.{Computes, KeepsNodes, StandsFor}
use Rattle.decision_diagram.proofs.GrowthLemmas.{KeepsNodes-trans, function-kept, stands-kept}
use Rattle.claim_check.specs.Settled.{settled_outputs}
use Rattle.mct_circuit.specs.Gates.{line_map}
use Rattle.circuit_verify.specs.Comparisons.{Comparison, input_bits, looked_on, start_on, wanted_on}
use Rattle.circuit_verify.specs.LineFunctions.{Looked, LookedWanted}
use Rattle.circuit_verify.specs.Verdicts.{IsComparable}
use Rattle.circuit_verify.specs.Compared.{ComparedView, IsReady, comparison}
use Rattle.circuit_verify.specs.inside.Numbers.{AreEnds, AreLineEnds, AreLookedEnds, AreNumbersOf, AreRestricted, GrowsBy, bits_in, bits_under}
use Rattle.circuit_verify.specs.inside.Numbers.{holder_function, looked_function, where_looked}
use Rattle.circuit_verify.proofs.AskLemmas.{IsAnswered, answered}
use Rattle.circuit_verify.proofs.NumberLemmas.{bit-at, bits-grown, known-at, known-grown, length-bits_in, length-numbers, numbers-grown}
use Rattle.circuit_verify.proofs.StepLemmas.{ends_many, length-ended, length-wanted, many_outputs}

-- ---- the bit that the input is looked at

-- the number of the premise's output
pub looked_stands : (v : ComparedView) → IsReady v → (nodes : List Triple) (outputs : List ℕ) (n : ℕ) → n ≡ get_or outputs 0 n
    → AreNumbersOf (comparison v) nodes outputs (λ b. settled_outputs v.premise (input_bits (comparison v) b))
    → StandsFor nodes n (looked_function (comparison v))
looked_stands v ready nodes outputs n read are =
    let q = comparison v in
    let inside : 0 < length outputs = omega (arith, many_outputs q v.premise nodes outputs are, ready.one_output) in
    let is : n ≡ get_or outputs 0 0 = get_or_read outputs 0 n inside read 0 in
    subst (λ (m : ℕ). StandsFor nodes m (looked_function q)) (sym is) (record {
      known = known-at nodes outputs 0 are.known inside;
      same = λ a. bit-at nodes outputs 0 a inside ∙ ap (λ (z : List Bool). bit_of z 0) (are.same a);
    })

-- ---- ends

-- the lines behind all gates, and as they should be
pub now_ends : (v : ComparedView) → IsReady v → (nodes : List Triple) (now want : List ℕ) → AreEnds (comparison v) nodes now want
    → AreLineEnds (comparison v) nodes now
now_ends v ready nodes now want ends = record {
  value = λ bits. line_map v.circuit.gates (start_on (comparison v) bits);
  are = ends.now_are;
  holder = Looked;
  held = λ line low. omega (arith, low, (ends_many v ready nodes now want ends).0);
  same = λ line bits. refl;
}

pub want_ends : (v : ComparedView) → IsReady v → (nodes : List Triple) (now want : List ℕ) → AreEnds (comparison v) nodes now want
    → AreLineEnds (comparison v) nodes want
want_ends v ready nodes now want ends = record {
  value = wanted_on (comparison v);
  are = ends.want_are;
  holder = LookedWanted;
  held = λ line low. omega (arith, low, (ends_many v ready nodes now want ends).1);
  same = λ line bits. refl;
}

pub ends_grown : (q : Comparison) (old new : DiagramView) (numbers : List ℕ) → KeepsNodes old new → AreLineEnds q old.nodes numbers
    → AreLineEnds q new.nodes numbers
ends_grown q old new numbers kept ends = record {
  value = ends.value;
  are = numbers-grown q old new kept numbers ends.value ends.are;
  holder = ends.holder;
  held = ends.held;
  same = ends.same;
}

-- one where the input is looked at is held
end_held : (q : Comparison) (nodes : List Triple) (numbers : List ℕ) (ends : AreLineEnds q nodes numbers) (line looked : ℕ) → line < length numbers
    → StandsFor nodes looked (looked_function q)
    → AreSame (conjunction (function_of nodes (get_or numbers line 0)) (function_of nodes looked)) (holder_function q (ends.holder line))
end_held q nodes numbers ends line looked low stands = λ a.
    ap₂ ◌&&◌ (bit-at nodes numbers line a low ∙ ap (λ (z : List Bool). bit_of z line) (ends.are.same a)) (stands.same a)
    ∙ sym (ends.same line (bits_in q a))

pub end_answered : (q : Comparison) → IsComparable q → (numbers : List ℕ) (line looked number : ℕ) (first old new : DiagramView) (r : Result ℕ DdFault)
    → AreLineEnds q first.nodes numbers → StandsFor first.nodes looked (looked_function q) → line < length numbers → number ≡ get_or numbers line 0
    → GrowsBy q first old → Computes (conjunction (function_of old.nodes number) (function_of old.nodes looked)) old new r
    → IsAnswered q (conjunction (function_of old.nodes number) (function_of old.nodes looked)) first new
unfolding ends_grown
end_answered q comparable numbers line looked number first old new r ends stands low read before made =
    let there = ends_grown q first old numbers before.kept ends in
    let same : AreSame (conjunction (function_of old.nodes number) (function_of old.nodes looked)) (holder_function q (ends.holder line)) =
    subst (λ (n : ℕ). AreSame (conjunction (function_of old.nodes n) (function_of old.nodes looked)) (holder_function q (ends.holder line))) (sym read)
    (end_held q old.nodes numbers there line looked low (stands-kept first old before.kept looked (looked_function q) stands)) in
    answered q (ends.holder line) (conjunction (function_of old.nodes number) (function_of old.nodes looked)) first old new r comparable
    (ends.held line low) same before made

-- ---- numbers where the input is looked at

pub restricted_none : (q : Comparison) (old new : List Triple) → AreRestricted q old new [] []
restricted_none q old new = record { known = tt; same = λ a. refl }

pub restricted_more : (q : Comparison) (first old new : DiagramView) (numbers restricted : List ℕ) (i looked number n : ℕ) → i < length numbers
    → number ≡ get_or numbers i 0 → AreLineEnds q first.nodes numbers → StandsFor first.nodes looked (looked_function q) → KeepsNodes first old
    → KeepsNodes old new → AreRestricted q first.nodes old.nodes (take i numbers) restricted
    → StandsFor new.nodes n (conjunction (function_of old.nodes number) (function_of old.nodes looked))
    → AreRestricted q first.nodes new.nodes (take (i + 1) numbers) (restricted ++ n ∷ [])
restricted_more q first old new numbers restricted i looked number n low read ends stands before kept are is = record {
  known = AllByRecursion-append (IsNumber new.nodes) restricted (n ∷ []) (known-grown old new kept restricted are.known) (is.known, tt);
  same = λ a.
      let f : Bool → Bool = where_looked q (bits_in q a) in
      let g : ℕ → Bool = λ m. function_of first.nodes m a in
      let m : ℕ = get_or numbers i 0 in
      let bit : function_of old.nodes number a ≡ g m =
      ap (λ (k : ℕ). function_of old.nodes k a) read ∙ function-kept first old before m a (known-at first.nodes numbers i ends.are.known low) in
      let seen : function_of old.nodes looked a ≡ looked_on q (bits_in q a) =
      (stands-kept first old before looked (looked_function q) stands).same a in
      let there : bits_under first.nodes (take (i + 1) numbers) a ≡ bits_under first.nodes (take i numbers) a ++ g m ∷ [] =
      ap (map g) (take_more numbers i 0 low) ∙ map-append g (take i numbers) (m ∷ []) in
      map-append (λ k. function_of new.nodes k a) restricted (n ∷ [])
      ∙ ap₂ ◌++◌ (bits-grown old new kept restricted are.known a ∙ are.same a) (ap (λ b. b ∷ []) (is.same a ∙ ap₂ ◌&&◌ bit seen))
      ∙ sym (ap (map f) there ∙ map-append f (bits_under first.nodes (take i numbers) a) (g m ∷ []));
}

pub numbers_restricted : (q : Comparison) (old new : List Triple) (numbers restricted : List ℕ) (value : List Bool → List Bool)
    → AreRestricted q old new numbers restricted → AreNumbersOf q old numbers value
    → AreNumbersOf q new restricted (λ bits. map (where_looked q bits) (value bits))
numbers_restricted q old new numbers restricted value is are = record {
  known = is.known;
  same = λ a. is.same a ∙ ap (map (where_looked q (bits_in q a))) (are.same a);
}

-- both ends, restricted one after the other
pub looked_ends : (q : Comparison) (begun first middle last : DiagramView) (now want seen sought : List ℕ) → KeepsNodes begun first
    → KeepsNodes first middle → KeepsNodes middle last → AreEnds q begun.nodes now want → AreRestricted q first.nodes middle.nodes now seen
    → AreRestricted q middle.nodes last.nodes want sought → AreLookedEnds q last.nodes seen sought
looked_ends q begun first middle last now want seen sought zero one two ends of_now of_want =
    let ended : List Bool → List Bool = λ bits. line_map q.circuit.gates (start_on q bits) in
    record {
      now_are = numbers-grown q middle last two seen (λ bits. map (where_looked q bits) (ended bits))
          (numbers_restricted q first.nodes middle.nodes now seen ended of_now (numbers-grown q begun first zero now ended ends.now_are));
      want_are = numbers_restricted q middle.nodes last.nodes want sought (wanted_on q) of_want
          (numbers-grown q begun middle (KeepsNodes-trans begun first middle zero one) want (wanted_on q) ends.want_are);
    }

-- how many there are
pub looked_many : (v : ComparedView) → IsReady v → (nodes : List Triple) (now want : List ℕ) → AreLookedEnds (comparison v) nodes now want
    → (length now ≡ v.circuit.lines) × (length want ≡ v.circuit.lines)
looked_many v ready nodes now want ends =
    let q = comparison v in
    let a : Assignment = λ i. false in
    let bits : List Bool = bits_in q a in (
      length-numbers q nodes now (λ b. map (where_looked q b) (line_map q.circuit.gates (start_on q b))) a ends.now_are
          ∙ length-map (line_map q.circuit.gates (start_on q bits)) (where_looked q bits) ∙ length-ended v ready bits (length-bits_in q a),
      length-numbers q nodes want (λ b. map (where_looked q b) (wanted_on q b)) a ends.want_are
          ∙ length-map (wanted_on q bits) (where_looked q bits) ∙ length-wanted v ready bits (length-bits_in q a),
    )
