-- A comparison ends in one way.
use Rattle.std.proofs.Common.{◌≡◌, ℕ, zero, suc, ◌+◌, ◌<◌, ◌≤◌, ◌⊎◌, inl, inr, Bool, true, false, List, [], ◌∷◌, length, take, drop, get_or, sym, ap, ◌∙◌}
use Rattle.std.proofs.Common.{◌++◌, append_assoc, subst, arith}
use Rattle.std.specs.List.{AllByRecursion}
use Rattle.std.proofs.lemmas.Bool.{cases_Bool, cases_lt}
use Rattle.std.proofs.lemmas.List.{length-drop, length-take-le}
use Rattle.list_facts.specs.Bits.{bit_of, zeros}
use Rattle.list_facts.proofs.CutLemmas.{cut_at}
use Rattle.list_facts.proofs.FirstLemmas.{none_without, one_without}
use Rattle.revs_tape.specs.VariableOrders.{IsBefore}
use Rattle.claim_check.proofs.VariableLemmas.{AreBits, Ordered, assignment_at, same_bits}
use Rattle.mct_circuit.specs.Gates.{CircuitView, IsNarrow}
use Rattle.circuit_plans.specs.declared.roles.Placing.{Placing}
use Rattle.circuit_plans.specs.declared.roles.Placing.TheVariants.{Added, InPlace}
use Rattle.circuit_plans.specs.Plans.{added}
use Rattle.circuit_verify.specs.Comparisons.{Comparison, Agrees, Specification, beside, held_by, inputs_in, output_variables, work_lines}
use Rattle.circuit_verify.specs.Verdicts.{ComparisonsEndInOneWay, DiffersFirst, FillsInputs}
use Rattle.circuit_verify.proofs.HeldLemmas.{held_may, length-held_by}
use Rattle.circuit_verify.proofs.OrderLemmas.{ordered_in}

-- ---- bits in an order

-- where two functions of numbers first differ
record IsApart (n : ℕ) (f g : ℕ → Bool) : Type 0 where
  at : ℕ
  inside : at < n
  same : (k : ℕ) → k < at → f k ≡ g k
  low : f at ≡ false
  high : g at ≡ true

apart_more : (n : ℕ) (f g : ℕ → Bool) → IsApart n f g → IsApart (suc n) f g
apart_more n f g a = record { at = a.at; inside = omega (arith, a.inside); same = a.same; low = a.low; high = a.high }

abbrev Compared : ℕ → (ℕ → Bool) → (ℕ → Bool) → Type 0
Compared n f g = ((k : ℕ) → k < n → f k ≡ g k) ⊎ (IsApart n f g ⊎ IsApart n g f)

same_more : (n : ℕ) (f g : ℕ → Bool) → ((k : ℕ) → k < n → f k ≡ g k) → f n ≡ g n → (k : ℕ) → k < suc n → f k ≡ g k
same_more n f g all here k low = elim (cases_lt k n) as (λ _. f k ≡ g k) [
  | inl less ↦ all k less
  | inr last ↦ let e : k ≡ n = omega (arith, low, last) in ap f e ∙ here ∙ sym (ap g e)
]

compared : (n : ℕ) (f g : ℕ → Bool) → Compared n f g
compared zero f g = inl (λ k low. absurd (omega (arith, low)))
compared (suc n) f g = elim (compared n f g) as (λ _. Compared (suc n) f g) [
  | inr differ ↦ elim differ as (λ _. Compared (suc n) f g) [
    | inl first ↦ inr (inl (apart_more n f g first))
    | inr second ↦ inr (inr (apart_more n g f second))
  ]
  | inl all ↦ elim (cases_Bool (f n)) as (λ _. Compared (suc n) f g) [
    | inl f_high ↦ elim (cases_Bool (g n)) as (λ _. Compared (suc n) f g) [
      | inl g_high ↦ inl (same_more n f g all (f_high ∙ sym g_high))
      | inr g_low ↦ inr (inr (record { at = n; inside = omega arith; same = λ k low. sym (all k low); low = g_low; high = f_high }))
    ]
    | inr f_low ↦ elim (cases_Bool (g n)) as (λ _. Compared (suc n) f g) [
      | inl g_high ↦ inr (inl (record { at = n; inside = omega arith; same = all; low = f_low; high = g_high }))
      | inr g_low ↦ inl (same_more n f g all (f_low ∙ sym g_low))
    ]
  ]
]

all_of_first : (P : ℕ → Type 0) (xs : List ℕ) (n : ℕ) → n ≤ length xs → ((k : ℕ) → k < n → P (get_or xs k 0)) → AllByRecursion P (take n xs)
all_of_first P xs zero most each = tt
all_of_first P [] (suc n) most each = absurd (omega (arith, most))
all_of_first P (x ∷ xs) (suc n) most each =
    (each 0 (omega arith), all_of_first P xs n (omega (arith, most)) (λ k low. each (suc k) (omega (arith, low))))

before_at : (v : Ordered) (one other : List Bool) → IsApart v.count (assignment_at v one) (assignment_at v other) → IsBefore v.order one other
before_at v one other apart =
    let inside : apart.at < length v.order = omega (arith, apart.inside, v.is.count) in
    record {
      before = take apart.at v.order;
      at = get_or v.order apart.at 0;
      behind = drop (suc apart.at) v.order;
      cut = cut_at v.order apart.at 0 inside;
      same = all_of_first (λ i. bit_of one i ≡ bit_of other i) v.order apart.at (omega (arith, inside)) apart.same;
      low = apart.low;
      high = apart.high;
    }

same_or_before : (v : Ordered) (one other : List Bool) → AreBits v one → AreBits v other
    → (one ≡ other) ⊎ (IsBefore v.order one other ⊎ IsBefore v.order other one)
same_or_before v one other size size2 =
    elim (compared v.count (assignment_at v one) (assignment_at v other))
    as (λ _. (one ≡ other) ⊎ (IsBefore v.order one other ⊎ IsBefore v.order other one)) [
      | inl all ↦ inl (same_bits v one other size size2 all)
      | inr differ ↦ elim differ as (λ _. (one ≡ other) ⊎ (IsBefore v.order one other ⊎ IsBefore v.order other one)) [
        | inl first ↦ inr (inl (before_at v one other first))
        | inr second ↦ inr (inr (before_at v other one second))
      ]
    ]

-- ---- where a circuit differs

none_by : (program premise : Specification) (circuit : CircuitView) (placing : Placing) (borrow line : ℕ) (bits : List Bool)
    → Agrees (beside program premise circuit placing borrow) → DiffersFirst (beside program premise circuit placing borrow) line bits → ⊥
none_by program premise circuit (Added start) borrow line bits agrees first =
    let q = beside program premise circuit (Added start) borrow in
    let n : ℕ = inputs_in q in
    let o : ℕ = program.outputs in
    let v : ℕ = output_variables (Added start) o in
    let behind : List Bool = drop n bits in
    let size : length behind ≡ v + borrow = length-drop n bits ∙ omega (arith, first.are_bits.0) in
    let held : List Bool = held_by (Added start) o behind in
    let rest : List Bool = zeros (work_lines q) ++ drop v behind in
    let adds = agrees.adds (take n bits) held (drop v behind) (length-take-le n bits (omega (arith, first.are_bits.0))) first.are_bits.1
    (length-held_by (Added start) o borrow behind size) (held_may start o behind) (length-drop v behind ∙ omega (arith, size)) in
    first.differs (ap (λ (z : List Bool). bit_of z line) (adds.mapped ∙ sym (append_assoc (take n bits) (added held (program.value (take n bits))) rest)))
none_by program premise circuit InPlace borrow line bits agrees first =
    let n : ℕ = inputs_in (beside program premise circuit InPlace borrow) in
    let behind : List Bool = drop n bits in
    let size : length behind ≡ borrow = length-drop n bits ∙ omega (arith, first.are_bits.0) in
    let replaces = agrees.replaces (take n bits) behind (length-take-le n bits (omega (arith, first.are_bits.0))) first.are_bits.1 size in
    first.differs (ap (λ (z : List Bool). bit_of z line) replaces.mapped)

none_differs : (q : Comparison) (line : ℕ) (bits : List Bool) → Agrees q → DiffersFirst q line bits → ⊥
none_differs q = none_by q.program q.premise q.circuit q.placing q.borrow

few_or_enough : (placing : Placing) (inputs outputs : ℕ) → placing ≡ InPlace → outputs < inputs → FillsInputs placing inputs outputs → ⊥
few_or_enough placing inputs outputs is few fills =
    let enough : inputs ≤ outputs = subst (λ (p : Placing). FillsInputs p inputs outputs) is fills in
    omega (arith, few, enough)

one_line : (q : Comparison) (line other : ℕ) (bits others : List Bool) → DiffersFirst q line bits → DiffersFirst q other others → line ≡ other
one_line q line other bits others first second =
    elim (cases_lt line other) as (λ _. line ≡ other) [
      | inl less ↦ absurd (first.differs (second.before line less bits first.are_bits))
      | inr most ↦ elim (cases_lt other line) as (λ _. line ≡ other) [
        | inl less ↦ absurd (second.differs (first.before other less others second.are_bits))
        | inr more ↦ omega (arith, most, more)
      ]
    ]

one_list : (q : Comparison) (line : ℕ) (bits others : List Bool) → DiffersFirst q line bits → DiffersFirst q line others → bits ≡ others
one_list q line bits others first second =
    elim (same_or_before (ordered_in q) bits others first.are_bits.0 second.are_bits.0) as (λ _. bits ≡ others) [
      | inl same ↦ same
      | inr differ ↦ elim differ as (λ _. bits ≡ others) [
        | inl before ↦ absurd (first.differs (second.least bits first.are_bits before))
        | inr behind ↦ absurd (second.differs (first.least others second.are_bits behind))
      ]
    ]

pub comparisons_end_in_one_way : ComparisonsEndInOneWay
comparisons_end_in_one_way q = record {
  few_or_enough = λ few enough. few_or_enough q.placing (inputs_in q) q.program.outputs few.0 few.1 enough;
  no_gate = λ gate narrow first. none_without IsNarrow q.circuit.gates gate narrow first;
  one_gate = λ gate other first second. one_without IsNarrow q.circuit.gates gate other first second;
  no_difference = none_differs q;
  one_difference = λ line other bits others first second.
      let same : line ≡ other = one_line q line other bits others first second in
      (same, one_list q line bits others first (subst (λ (l : ℕ). DiffersFirst q l others) (sym same) second));
}
