-- What is asked of a diagram while a circuit is compared: the functions of what holds a bit, and nothing else.
use Rattle.std.proofs.Common.{◌≡◌, ℕ, ◌+◌, ◌-◌, ◌<◌, inl, inr, Bool, false, List, [], ◌++◌, length, take, drop, refl, sym, ap, subst, ◌∙◌}
use Rattle.std.proofs.Common.{arith, Result}
use Rattle.std.proofs.lemmas.Bool.{cases_lt}
use Rattle.std.proofs.lemmas.List.{get_or-append-add, get_or-drop, get_or-take, get_or_append_left, length-drop, length-replicate, length-take-le}
use Rattle.list_facts.specs.Bits.{bit_of, zeros}
use Rattle.decision_diagram.specs.declared.node.DdFault.{DdFault}
use Rattle.decision_diagram.specs.declared.node.DdFault.TheVariants.{Full, Memory}
use Rattle.decision_diagram.specs.Diagrams.{DiagramView, IsCanonical}
use Rattle.decision_diagram.specs.Functions.{AreSame, Function}
use Rattle.decision_diagram.specs.Growth.{Computes, MayRefuse}
use Rattle.decision_diagram.proofs.GrowthLemmas.{KeepsNodes-refl, KeepsNodes-trans}
use Rattle.decision_diagram.proofs.NamedLemmas.{HoldsNamed, NamesAllFrom, more_named, none_named, one_more}
use Rattle.decision_diagram.proofs.RestrictionLemmas.{ComesFrom-of_same}
use Rattle.claim_check.specs.Variables.{over}
use Rattle.claim_check.proofs.FunctionLemmas.{same_over, some_restriction, varies_not_steady}
use Rattle.circuit_verify.specs.Comparisons.{Comparison, borrowed_bits, inputs_in, order_in, output_bits, output_lines, output_variables, start_on}
use Rattle.circuit_verify.specs.Comparisons.{variables_behind, variables_in, work_lines}
use Rattle.circuit_verify.specs.LineFunctions.{Holder, Line, IsHolder, IsMember, IsSameFunction, LineFunction, held_bit, value_on}
use Rattle.circuit_verify.specs.Verdicts.{HasEnoughLines, IsComparable, IsVerifyFault, verify_fault}
use Rattle.circuit_verify.specs.inside.Numbers.{GrowsBy, HoldsLines, holder_function, line_function}
use Rattle.circuit_verify.proofs.HeldLemmas.{bit-held_by, few_variables, length-held_by}
use Rattle.circuit_verify.proofs.OrderLemmas.{ordered_in}

-- ---- members by name

named : (q : Comparison) (d : DiagramView) → HoldsLines q d → HoldsNamed (line_function q) (IsMember q) d
named q d holds = record {
  canonical = holds.canonical;
  members = λ n inner known.
      let node = holds.members n inner known in
      record { name = node.function; member = node.member; same = node.same };
}

from_named : (q : Comparison) (d : DiagramView) → d.vars ≡ variables_in q → HoldsNamed (line_function q) (IsMember q) d → HoldsLines q d
from_named q d vars holds = record {
  canonical = holds.canonical;
  vars = vars;
  members = λ n inner known.
      let node = holds.members n inner known in
      record { function = node.name; member = node.member; same = node.same };
}

-- what comes from what is held
names_all : (q : Comparison) (h : Holder) (f : Function) → IsHolder q h → AreSame f (holder_function q h)
    → NamesAllFrom (line_function q) (IsMember q) f
names_all q h f holder same = record {
  each = λ g comes varies.
      let is = some_restriction (ordered_in q) (held_bit q h) g (ComesFrom-of_same (holder_function q h) f g (λ a. sym (same a)) comes) in
      let name : LineFunction = record { of = h; fixed = is.fixed } in
      record {
        name = name;
        member = record { holder = holder; few = is.few; varies = varies_not_steady (ordered_in q) (value_on q name) g is.same varies };
        same = is.same;
      };
}

-- ---- what calls leave

-- a diagram with no inner node
pub begun : (q : Comparison) (d : DiagramView) → IsCanonical d → d.vars ≡ variables_in q → d.nodes ≡ [] → HoldsLines q d
begun q d canonical vars empty = from_named q d vars (none_named (line_function q) (IsMember q) d canonical empty)

pub grows-none : (q : Comparison) (d : DiagramView) → HoldsLines q d → GrowsBy q d d
grows-none q d holds = record { holds = holds; kept = KeepsNodes-refl d }

pub grows-further : (q : Comparison) (d e h : DiagramView) → GrowsBy q d e → GrowsBy q e h → GrowsBy q d h
grows-further q d e h first second = record { holds = second.holds; kept = KeepsNodes-trans d e h first.kept second.kept }

-- a call that was asked for the function of what holds a bit
pub asked : (q : Comparison) (h : Holder) (f : Function) (old new : DiagramView) (r : Result ℕ DdFault) → HoldsLines q old → IsHolder q h
    → AreSame f (holder_function q h) → Computes f old new r → GrowsBy q old new
asked q h f old new r holds holder same made = record {
  holds = from_named q new (made.kept.vars ∙ holds.vars)
      (more_named (line_function q) (IsMember q) f old new (named q old holds) (names_all q h f holder same) made.canonical made.kept made.added);
  kept = made.kept;
}

-- and one that was refused
pub refused : (q : Comparison) (h : Holder) (f : Function) (d : DiagramView) (limit : ℕ) → IsComparable q → HoldsLines q d → IsHolder q h
    → AreSame f (holder_function q h) → d.limit ≡ limit → (fault : DdFault) → MayRefuse f d fault → IsVerifyFault q limit (verify_fault fault)
refused q h f d limit comparable holds holder same is_limit (Full nodes) cause =
    let many = one_more (line_function q) (IsMember q) (IsSameFunction q) (λ one two. same_over (ordered_in q) (value_on q one) (value_on q two)) d
    (named q d holds) f (names_all q h f holder same) nodes cause in (
      comparable,
      record { members = many.members; are = many.are; apart = many.apart; many = many.many ∙ ap (λ l. l + 1) is_limit },
      cause.at_limit ∙ is_limit,
    )
refused q h f d limit comparable holds holder same is_limit (Memory _) cause = comparable

-- what a call that was asked for a function of what holds a bit leaves, and what its faults say
pub record IsAnswered (q : Comparison) (f : Function) (first new : DiagramView) : Type 0 where
  pub grows : GrowsBy q first new
  pub faults : (fault : DdFault) → MayRefuse f new fault → IsVerifyFault q new.limit (verify_fault fault)

pub answered : (q : Comparison) (h : Holder) (f : Function) (first old new : DiagramView) (r : Result ℕ DdFault) → IsComparable q → IsHolder q h
    → AreSame f (holder_function q h) → GrowsBy q first old → Computes f old new r → IsAnswered q f first new
answered q h f first old new r comparable holder same before made =
    let more = asked q h f old new r before.holds holder same made in
    record {
      grows = grows-further q first old new before more;
      faults = refused q h f new new.limit comparable more.holds holder same refl;
    }

-- ---- bits before the gates

-- what holds the bit of a variable
pub record IsHeldBit (q : Comparison) (i : ℕ) : Type 0 where
  pub holder : Holder
  pub is : IsHolder q holder
  pub same : AreSame (over (variables_in q) (order_in q) (λ bits. bit_of bits i)) (holder_function q holder)

behind_size : (q : Comparison) (bits : List Bool) → length bits ≡ variables_in q → length (drop (inputs_in q) bits) ≡ variables_behind q
behind_size q bits size = length-drop (inputs_in q) bits ∙ omega (arith, size)

-- an input line, an output line that has a variable, and a borrowed line
pub input_bit : (q : Comparison) (bits : List Bool) (i : ℕ) → length bits ≡ variables_in q → i < inputs_in q
    → bit_of (start_on q bits) i ≡ bit_of bits i
input_bit q bits i size low =
    let n : ℕ = inputs_in q in
    let front : length (take n bits) ≡ n = length-take-le n bits (omega (arith, size)) in
    get_or_append_left (take n bits) (output_bits q bits ++ (zeros (work_lines q) ++ borrowed_bits q bits)) false i (omega (arith, low, front))
    ∙ get_or-take n bits i false low

pub output_bit : (q : Comparison) (bits : List Bool) (k : ℕ) → length bits ≡ variables_in q → k < output_variables q.placing (output_lines q)
    → bit_of (start_on q bits) (inputs_in q + k) ≡ bit_of bits (inputs_in q + k)
output_bit q bits k size low =
    let n : ℕ = inputs_in q in
    let rest : List Bool = zeros (work_lines q) ++ borrowed_bits q bits in
    let front : length (take n bits) ≡ n = length-take-le n bits (omega (arith, size)) in
    ap (λ (m : ℕ). bit_of (start_on q bits) (m + k)) (sym front)
    ∙ get_or-append-add (take n bits) (output_bits q bits ++ rest) k false
    ∙ bit-held_by q.placing (output_lines q) q.borrow k (drop n bits) rest (behind_size q bits size) low
    ∙ get_or-drop n bits k false

pub borrowed_bit : (q : Comparison) (bits : List Bool) (k : ℕ) → length bits ≡ variables_in q
    → bit_of (start_on q bits) (inputs_in q + (output_lines q + (work_lines q + k)))
    ≡ bit_of bits (inputs_in q + (output_variables q.placing (output_lines q) + k))
borrowed_bit q bits k size =
    let n : ℕ = inputs_in q in
    let o : ℕ = output_lines q in
    let v : ℕ = output_variables q.placing (output_lines q) in
    let w : ℕ = work_lines q in
    let held : List Bool = output_bits q bits in
    let borrowed : List Bool = borrowed_bits q bits in
    let idle : List Bool = zeros w ++ borrowed in
    let front : length (take n bits) ≡ n = length-take-le n bits (omega (arith, size)) in
    let outputs : length held ≡ o = length-held_by q.placing o q.borrow (drop n bits) (behind_size q bits size) in
    let work : length (zeros w) ≡ w = length-replicate w false in
    ap (λ (m : ℕ). bit_of (start_on q bits) (m + (o + (w + k)))) (sym front)
    ∙ get_or-append-add (take n bits) (held ++ idle) (o + (w + k)) false
    ∙ ap (λ (m : ℕ). bit_of (held ++ idle) (m + (w + k))) (sym outputs)
    ∙ get_or-append-add held idle (w + k) false
    ∙ ap (λ (m : ℕ). bit_of idle (m + k)) (sym work)
    ∙ get_or-append-add (zeros w) borrowed k false
    ∙ get_or-drop v (drop n bits) k false
    ∙ get_or-drop n bits (v + k) false

input_held : (q : Comparison) → HasEnoughLines q → (i : ℕ) → i < inputs_in q → IsHeldBit q i
input_held q enough i low = record {
  holder = Line 0 i;
  is = (omega arith, omega (arith, low, enough));
  same = same_over (ordered_in q) (λ bits. bit_of bits i) (held_bit q (Line 0 i)) (λ bits size. sym (input_bit q bits i size low));
}

output_held : (q : Comparison) → HasEnoughLines q → (k : ℕ) → k < output_variables q.placing (output_lines q) → IsHeldBit q (inputs_in q + k)
output_held q enough k low =
    let few = few_variables q.placing (output_lines q) in
    let line : ℕ = inputs_in q + k in
    record {
      holder = Line 0 line;
      is = (omega arith, omega (arith, low, few, enough));
      same = same_over (ordered_in q) (λ bits. bit_of bits line) (held_bit q (Line 0 line)) (λ bits size. sym (output_bit q bits k size low));
    }

borrowed_held : (q : Comparison) → HasEnoughLines q → (k : ℕ) → k < q.borrow
    → IsHeldBit q (inputs_in q + (output_variables q.placing (output_lines q) + k))
borrowed_held q enough k low =
    let line : ℕ = inputs_in q + (output_lines q + (work_lines q + k)) in
    let place : ℕ = inputs_in q + (output_variables q.placing (output_lines q) + k) in
    record {
      holder = Line 0 line;
      is = (omega arith, omega (arith, low, enough));
      same = same_over (ordered_in q) (λ bits. bit_of bits place) (held_bit q (Line 0 line)) (λ bits size. sym (borrowed_bit q bits k size));
    }

pub held_bit_of : (q : Comparison) → HasEnoughLines q → (i : ℕ) → i < variables_in q → IsHeldBit q i
held_bit_of q enough i low =
    let n : ℕ = inputs_in q in
    let v : ℕ = output_variables q.placing (output_lines q) in
    elim (cases_lt i n) as (λ _. IsHeldBit q i) [
      | inl input ↦ input_held q enough i input
      | inr late ↦ elim (cases_lt i (n + v)) as (λ _. IsHeldBit q i) [
        | inl output ↦
            let is : n + (i - n) ≡ i = omega (arith, late) in
            subst (IsHeldBit q) is (output_held q enough (i - n) (omega (arith, late, output)))
        | inr borrowed ↦
            let is : n + (v + (i - (n + v))) ≡ i = omega (arith, borrowed) in
            subst (IsHeldBit q) is (borrowed_held q enough (i - (n + v)) (omega (arith, low, borrowed)))
      ]
    ]
