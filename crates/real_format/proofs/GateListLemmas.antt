-- Gates that are read, one after another.
use Rattle.std.proofs.Common.{◌≡◌, ℕ, ◌+◌, ◌≤◌, Bool, true, false, if◌then◌else◌, List, [], ◌∷◌, ◌++◌, length, take, drop}
use Rattle.std.proofs.Common.{Option, Some, None, Result, Ok, Err, OnOk, IfErr, refl, sym, ap, ◌∙◌, subst, arith, codes, eqb, length-append, Vec, Global}
use Rattle.std.specs.List.{AllByRecursion}
use Rattle.std.specs.Str.{bytes_eq}
use Rattle.std.proofs.lemmas.List.{take_all, drop_all, append-nil}
use Rattle.list_facts.proofs.AllLemmas.{AllByRecursion-weaker}
use Rattle.mct_circuit.specs.Gates.{GateView, CircuitView}
use Rattle.circuit_plans.specs.declared.plan.TheConstants.{MOST_GATES}
use Rattle.real_format.specs.declared.gate.Shape.{Shape}
use Rattle.real_format.specs.declared.refusal.LineRefusal.{LineRefusal}
use Rattle.real_format.specs.declared.refusal.LineRefusal.TheVariants.{Form, Limit, Memory}
use Rattle.real_format.specs.Real.{RealView, in_gates}
use Rattle.real_format.specs.inside.Reading.{and_then, or_form, shape_of, gate_of, more_gates, with_gate, add_gate, end_gates, gates_line, Refuses}
use Rattle.real_format.specs.inside.Stamps.{FitsNames}

-- ---- one more gate

pub memory_refuses : {A : Type 0} (said : Result A LineRefusal) (r : Result (Unit {0}) LineRefusal) → IfErr r (λ refusal. refusal ≡ Memory _)
    → IfErr r (Refuses said)
memory_refuses said (Ok u) is = tt
memory_refuses said (Err refusal) is = subst (Refuses said) (sym is) tt

-- ---- a circuit and its stamps

written_back : (n : ℕ) (xs ys : List ℕ) → length xs ≡ length ys → n ≡ length ys → take n (xs ++ drop (length xs) ys) ≡ xs
written_back n xs ys same is =
    ap (λ zs. take n (xs ++ zs)) (drop_all (length xs) ys (omega arith)) ∙ ap (take n) (append-nil xs) ∙ take_all n xs (omega arith)

pub fits_more : (names : List (List ℕ)) (before after : CircuitView) (stamps : Vec ℕ Global) (more : List ℕ) (stamp : ℕ) (gate : GateView)
    (r : Result (Unit {0}) LineRefusal) → FitsNames names before stamps.items → length more ≡ stamps.len → stamp ≡ length before.gates + 1
    → AllByRecursion (λ s. s ≤ stamp) more → OnOk r (after ≡ record before { gates = before.gates ++ gate ∷ [] })
    → OnOk r (FitsNames names after (take stamps.len (more ++ drop (length more) stamps.items)))
fits_more names before after stamps more stamp gate (Ok u) fits same is passed made =
    let grown : length after.gates ≡ length before.gates + 1 = ap (λ (c : CircuitView). length c.gates) made ∙ length-append before.gates (gate ∷ []) in
    let counted : stamps.len ≡ length stamps.items = omega (arith, stamps.ok.0) in
    subst (FitsNames names after) (sym (written_back stamps.len more stamps.items (same ∙ counted) counted)) (record {
      few = fits.few;
      lines = ap (λ (c : CircuitView). c.lines) made ∙ fits.lines;
      limit = ap (λ (c : CircuitView). c.limit) made ∙ fits.limit;
      room = same ∙ counted ∙ fits.room;
      passed = AllByRecursion-weaker (λ s. s ≤ stamp) (λ s. s ≤ length after.gates) (λ s h. omega arith) more passed;
    })
fits_more names before after stamps more stamp gate (Err e) fits same is passed made = tt

-- ---- a line of gates

add_gate-by : (file : RealView) (gates : List GateView) (shape : Shape) (words : List (List ℕ))
    → add_gate (record file { gates = gates }) shape words
    ≡ and_then (more_gates file.names gates shape words) (λ more. Ok (in_gates (record file { gates = more })))
add_gate-by file gates shape words = by (eqb (length gates) MOST_GATES) (gate_of file.names shape words)
  where
    by : (t : Bool) (r : Result GateView LineRefusal)
        → (if t then Err Limit else and_then r (λ gate. Ok (with_gate (record file { gates = gates }) gate)))
        ≡ and_then (if t then Err Limit else and_then r (λ gate. Ok (gates ++ gate ∷ []))) (λ more. Ok (in_gates (record file { gates = more })))
    by true r = refl
    by false (Ok gate) = refl
    by false (Err e) = refl

line_goes_on : (file : RealView) (line words : List (List ℕ)) (word other : List ℕ) → line ≡ word ∷ words → other ≡ codes ".end"
    → bytes_eq word other ≡ false → gates_line file line ≡ or_form (shape_of word) (λ shape. add_gate file shape words)
line_goes_on file line words word other parts same test =
    ap (gates_line file) parts ∙ ap (λ t. if t then end_gates file words else or_form (shape_of word) (λ shape. add_gate file shape words))
    (ap (bytes_eq word) (sym same) ∙ test)

pub no_gate : (file : RealView) (line words : List (List ℕ)) (word other : List ℕ) (shape : Option Shape) → line ≡ word ∷ words → other ≡ codes ".end"
    → bytes_eq word other ≡ false → shape ≡ shape_of word → shape ≡ None → gates_line file line ≡ Err Form
no_gate file line words word other shape parts same test is none =
    line_goes_on file line words word other parts same test ∙ ap (λ o. or_form o (λ s. add_gate file s words)) (sym is ∙ none)

line_is : (file : RealView) (old : List GateView) (shape : Shape) (words line : List (List ℕ)) (word other : List ℕ) → line ≡ word ∷ words
    → other ≡ codes ".end" → bytes_eq word other ≡ false → shape_of word ≡ Some shape
    → gates_line (record file { gates = old }) line
    ≡ and_then (more_gates file.names old shape words) (λ more. Ok (in_gates (record file { gates = more })))
line_is file old shape words line word other parts same test shaped =
    line_goes_on (record file { gates = old }) line words word other parts same test
    ∙ ap (λ o. or_form o (λ s. add_gate (record file { gates = old }) s words)) shaped ∙ add_gate-by file old shape words
