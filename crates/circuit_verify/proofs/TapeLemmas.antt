-- What is said of a program beside a circuit is said of one with the same steps and bits: of a tape where it is said of its settled
-- graph, and of a circuit with another limit of gates.
use Rattle.std.proofs.Common.{◌≡◌, ℕ, ◌<◌, ◌≤◌, ◌⊎◌, inl, inr, Bool, List, [], ◌∷◌, length, map, refl, sym, ap, ap₂, ◌∙◌, subst, arith}
use mathlib.Core.Path.{fun_ext}
use Rattle.std.specs.List.{AllByRecursion}
use Rattle.std.proofs.lemmas.Bool.{cases_lt}
use Rattle.std.proofs.lemmas.List.{length-map}
use Rattle.list_facts.specs.Lists.{AreApart}
use Rattle.list_facts.proofs.AllLemmas.{AllByRecursion-both, AllByRecursion-map, AllByRecursion-weaker}
use Rattle.revs_tape.specs.ClaimFunctions.{with_fixed}
use Rattle.revs_tape.specs.Measures.{outputs_of, writes_of}
use Rattle.revs_tape.specs.Tapes.{TapeView, outputs_on}
use Rattle.claim_check.specs.Measures.{node_function, write_function}
use Rattle.claim_check.specs.Settled.{SettledView, IsSettledOf, settled_outputs}
use Rattle.mct_circuit.specs.Gates.{GateView}
use Rattle.circuit_plans.specs.declared.roles.Placing.{Placing}
use Rattle.circuit_verify.specs.declared.fault.NotComparable.{NotComparable}
use Rattle.circuit_verify.specs.declared.fault.NotComparable.TheVariants.{Outputs, Lines, Gate}
use Rattle.circuit_verify.specs.declared.fault.VerifyFault.{VerifyFault}
use Rattle.circuit_verify.specs.declared.fault.VerifyFault.TheVariants as faults
use Rattle.circuit_verify.specs.Comparisons.{Comparison, beside, input_bits, order_in}
use Rattle.circuit_verify.specs.LineFunctions.{Assumed, Holder, HasMore, IsHolder, IsMember, IsSameFunction, Line, LineFunction, Looked, LookedWanted}
use Rattle.circuit_verify.specs.LineFunctions.{Step, Wanted, held_bit, value_on}
use Rattle.circuit_verify.specs.Verdicts.{DiffersFirst, IsComparable, IsNotComparable, IsVerified, IsVerifyFault, SaidOfTapes}

-- each step of one program is a step of the other
abbrev pub AreStepsOf : (steps others : ℕ) (step other : ℕ → List Bool → Bool) → Type 0
AreStepsOf steps others step other =
    (k : ℕ) → k < steps → (j : ℕ) × (j < others) × ((input : List Bool) → step k input ≡ other j input)

pick : (steps others : ℕ) (step other : ℕ → List Bool → Bool) → AreStepsOf steps others step other → (k : ℕ) → (k < steps) ⊎ (steps ≤ k) → ℕ
pick steps others step other made k (inl low) = (made k low).0
pick steps others step other made k (inr high) = 0

pick_is : (steps others : ℕ) (step other : ℕ → List Bool → Bool) (made : AreStepsOf steps others step other) (k : ℕ)
    (d : (k < steps) ⊎ (steps ≤ k)) → k < steps
    → (pick steps others step other made k d < others)
    × ((input : List Bool) → step k input ≡ other (pick steps others step other made k d) input)
unfolding pick
pick_is steps others step other made k (inl low) inside = ((made k low).1, (made k low).2)
pick_is steps others step other made k (inr high) inside = absurd (omega (arith, high, inside))

-- Two programs with the same parameters and outputs, where each step of one is a step of the other; two premises that say the same,
-- where each step of one is a step of the other; and two circuits that differ by their limits alone.
module _ (params : List ℕ) (steps others : ℕ) (step other : ℕ → List Bool → Bool) (outputs : ℕ) (value : List Bool → List Bool)
    (made : AreStepsOf steps others step other)
    (has its : List ℕ) (count total : ℕ) (own another_step : ℕ → List Bool → Bool) (few many : ℕ) (says : List Bool → List Bool)
    (assumed : AreStepsOf count total own another_step)
    (lines limit another : ℕ) (gates : List GateView) (placing : Placing) (borrow : ℕ) where
  abbrev one : Comparison
  one =
      beside (record { params = params; steps = steps; step = step; outputs = outputs; value = value })
      (record { params = has; steps = count; step = own; outputs = few; value = says })
      (record { lines = lines; limit = limit; gates = gates }) placing borrow

  abbrev two : Comparison
  two =
      beside (record { params = params; steps = others; step = other; outputs = outputs; value = value })
      (record { params = its; steps = total; step = another_step; outputs = many; value = says })
      (record { lines = lines; limit = another; gates = gates }) placing borrow

  -- ---- what holds a bit

  moved : Holder → Holder
  moved (Step k) = Step (pick steps others step other made k (cases_lt k steps))
  moved (Assumed k) = Assumed (pick count total own another_step assumed k (cases_lt k count))
  moved (Line passed line) = Line passed line
  moved (Wanted line) = Wanted line
  moved (Looked line) = Looked line
  moved (LookedWanted line) = LookedWanted line

  holder_moved : (h : Holder) → IsHolder one h → IsHolder two (moved h) × ((bits : List Bool) → held_bit one h bits ≡ held_bit two (moved h) bits)
  unfolding moved
  holder_moved (Step k) inside =
      let is = pick_is steps others step other made k (cases_lt k steps) inside in
      (is.0, λ bits. is.1 (input_bits one bits))
  holder_moved (Assumed k) inside =
      let is = pick_is count total own another_step assumed k (cases_lt k count) inside in
      (is.0, λ bits. is.1 (input_bits one bits))
  holder_moved (Line passed line) inside = (inside, λ bits. refl)
  holder_moved (Wanted line) inside = (inside, λ bits. refl)
  holder_moved (Looked line) inside = (inside, λ bits. refl)
  holder_moved (LookedWanted line) inside = (inside, λ bits. refl)

  -- ---- line functions

  moved_function : LineFunction → LineFunction
  moved_function f = record { of = moved f.of; fixed = f.fixed }

  value_moved : (f : LineFunction) → IsHolder one f.of → (bits : List Bool) → value_on one f bits ≡ value_on two (moved_function f) bits
  unfolding moved_function
  value_moved f holder bits = (holder_moved f.of holder).1 (with_fixed (order_in one) f.fixed bits)

  member_moved : (f : LineFunction) → IsMember one f → IsMember two (moved_function f)
  unfolding moved_function
  member_moved f member = record {
    holder = (holder_moved f.of member.holder).0;
    few = member.few;
    varies = λ constant. member.varies (λ x y x_bits y_bits.
        value_moved f member.holder x ∙ constant x y x_bits y_bits ∙ sym (value_moved f member.holder y));
  }

  apart_moved : (fs : List LineFunction) → AllByRecursion (IsMember one) fs → AreApart (IsSameFunction one) fs
      → AreApart (IsSameFunction two) (map moved_function fs)
  apart_moved [] members apart = tt
  apart_moved (f ∷ fs) members apart = (
    AllByRecursion-map (λ g. ¬ IsSameFunction two (moved_function f) g) moved_function fs
        (AllByRecursion-both (IsMember one) (λ g. ¬ IsSameFunction one f g) (λ g. ¬ IsSameFunction two (moved_function f) (moved_function g))
        (λ g member differ same. differ (λ bits size.
        value_moved f members.0.holder bits ∙ same bits size ∙ sym (value_moved g member.holder bits))) fs members.1 apart.0),
    apart_moved fs members.1 apart.1,
  )

  pub more_moved : (most : ℕ) → HasMore one most → HasMore two most
  more_moved most more = record {
    members = map moved_function more.members;
    are = AllByRecursion-map (IsMember two) moved_function more.members
        (AllByRecursion-weaker (IsMember one) (λ f. IsMember two (moved_function f)) member_moved more.members more.are);
    apart = apart_moved more.members more.are more.apart;
    many = length-map more.members moved_function ∙ more.many;
  }

  -- ---- verdicts

  pub comparable_moved : IsComparable one → IsComparable two
  comparable_moved is = record { outputs = is.outputs; lines = is.lines; narrow = is.narrow }

  pub differs_moved : (line : ℕ) (bits : List Bool) → DiffersFirst one line bits → DiffersFirst two line bits
  differs_moved line bits first = record {
    in_range = first.in_range;
    before = first.before;
    are_bits = first.are_bits;
    differs = first.differs;
    least = first.least;
  }

  pub verified_moved : IsVerified one → IsVerified two
  verified_moved is = record { comparable = comparable_moved is.comparable; agrees = is.agrees }

  pub not_comparable_moved : (why : NotComparable) → IsNotComparable one why → IsNotComparable two why
  not_comparable_moved (Outputs inputs few) is = is
  not_comparable_moved (Lines need) is = is
  not_comparable_moved (Gate gate) is = is

  pub fault_moved : (most : ℕ) (fault : VerifyFault) → IsVerifyFault one most fault → IsVerifyFault two most fault
  fault_moved most (faults.Diagram nodes) is = (comparable_moved is.0, more_moved most is.1, is.2)
  fault_moved most (faults.Differs line bits) is = (comparable_moved is.0, differs_moved line bits is.1)
  fault_moved most (faults.Memory _) is = comparable_moved is

-- ---- tapes

made_of : (t : TapeView) (s : SettledView) → IsSettledOf t s → AreStepsOf (length s.nodes) (writes_of t) (node_function s) (write_function t)
made_of t s is k low = let has = is.made k low in (has.write, has.known, has.same)

pub said_of_tapes : SaidOfTapes
said_of_tapes t a s g is its c placing borrow limit =
    let all : ℕ → (List Bool → List Bool) → (List Bool → List Bool) → Comparison = λ outputs value says.
    record {
      program = record { params = t.params; steps = length s.nodes; step = node_function s; outputs = outputs; value = value };
      premise = record { params = t.params; steps = length g.nodes; step = node_function g; outputs = length g.outputs; value = says };
      circuit = c;
      placing = placing;
      borrow = borrow;
    } in
    let there : all (length s.outputs) (settled_outputs s) (settled_outputs g) ≡ all (outputs_of t) (outputs_on t) (outputs_on a) =
    ap (λ (o : ℕ). all o (settled_outputs s) (settled_outputs g)) is.outputs
    ∙ ap₂ (λ (value says : List Bool → List Bool). all (outputs_of t) value says) (fun_ext is.values) (fun_ext its.values) in
    record {
      not_comparable = λ why said. not_comparable_moved t.params (length s.nodes) (writes_of t) (node_function s) (write_function t) (outputs_of t)
          (outputs_on t) (made_of t s is) t.params a.params (length g.nodes) (writes_of a) (node_function g) (write_function a) (length g.outputs)
          (outputs_of a) (outputs_on a) (made_of a g its) c.lines c.limit c.limit c.gates placing borrow why
          (subst (λ (q : Comparison). IsNotComparable q why) there said);
      comparable = λ said. comparable_moved t.params (length s.nodes) (writes_of t) (node_function s) (write_function t) (outputs_of t)
          (outputs_on t) (made_of t s is) t.params a.params (length g.nodes) (writes_of a) (node_function g) (write_function a) (length g.outputs)
          (outputs_of a) (outputs_on a) (made_of a g its) c.lines c.limit c.limit c.gates placing borrow
          (subst IsComparable there said);
      verified = λ said. verified_moved t.params (length s.nodes) (writes_of t) (node_function s) (write_function t) (outputs_of t)
          (outputs_on t) (made_of t s is) t.params a.params (length g.nodes) (writes_of a) (node_function g) (write_function a) (length g.outputs)
          (outputs_of a) (outputs_on a) (made_of a g its) c.lines c.limit c.limit c.gates placing borrow
          (subst IsVerified there said);
      refused = λ fault said. fault_moved t.params (length s.nodes) (writes_of t) (node_function s) (write_function t) (outputs_of t)
          (outputs_on t) (made_of t s is) t.params a.params (length g.nodes) (writes_of a) (node_function g) (write_function a) (length g.outputs)
          (outputs_of a) (outputs_on a) (made_of a g its) c.lines c.limit c.limit c.gates placing borrow limit fault
          (subst (λ (q : Comparison). IsVerifyFault q limit fault) there said);
    }
