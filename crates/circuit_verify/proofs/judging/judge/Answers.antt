use Rattle.std.proofs.Common.{◌≡◌, ◌<◌, ℕ, List, get_or, length, sym, subst, ap, arith, ◌∙◌}
use Rattle.std.proofs.lemmas.List.{get_or_read, length-map}
use Rattle.decision_diagram.specs.Diagrams.{IsNumber, function_of}
use Rattle.decision_diagram.specs.Functions.{exclusive_or}
use Rattle.claim_check.specs.Settled.{settled_value}
use Rattle.circuit_verify.specs.Compared.{comparison}
use Rattle.circuit_verify.specs.inside.Numbers.{DifferAt, IsLeastApart}
use Rattle.circuit_verify.proofs.LookedLemmas.{looked_many}
use Rattle.circuit_verify.proofs.NumberLemmas.{known-at}
use Rattle.circuit_verify.proofs.VerdictLemmas.{agrees, differs}
use Rattle.circuit_verify.proofs.judging.judge.Goals as goal
use Rattle.circuit_verify.proofs.judging.judge.Goals.{After-variables, In-Some, After-index-2}

-- there are as many numbers as lines
sizes : (c : After-variables) → (length c.args.ends.now.now.items ≡ c.args.compared.now.circuit.lines)
    × (length c.args.ends.now.want.items ≡ length c.args.ends.now.now.items)
sizes c =
    let many = looked_many c.args.compared.now c.variables.ensures.ready c.args.diagram.now.nodes c.args.ends.now.now.items c.args.ends.now.want.items
    c.requires.ends in (many.0, many.1 ∙ sym many.0)

-- the line that was found
differ : (c : In-Some) → DifferAt c.args.ends.now.now.items c.args.ends.now.want.items c.in-Some.line
differ c =
    subst (λ (ns : List ℕ). DifferAt ns c.args.ends.now.want.items c.in-Some.line) c.deref.ensures.value
    (subst (λ (ns : List ℕ). DifferAt c.deref.result.now ns c.in-Some.line) c.deref-2.ensures.value c.in-Some.ensures)

low : (c : In-Some) → length c.args.ends.now.want.items ≡ length c.args.ends.now.now.items → c.in-Some.line < length c.args.ends.now.want.items
low c same = omega (arith, (differ c).inside, same)

-- its numbers
now_is : (c : After-index-2) → c.in-Some.line < length c.args.ends.now.now.items → c.index.result.now ≡ get_or c.args.ends.now.now.items c.in-Some.line 0
now_is c inside = get_or_read c.args.ends.now.now.items c.in-Some.line c.index.result.now inside c.index.ensures 0

want_is : (c : After-index-2) → c.in-Some.line < length c.args.ends.now.want.items → c.index-2.result.now ≡ get_or c.args.ends.now.want.items c.in-Some.line 0
want_is c inside = get_or_read c.args.ends.now.want.items c.in-Some.line c.index-2.result.now inside c.index-2.ensures 0

pub first_difference-requires-clause-size : goal.first_difference-requires-clause-size
first_difference-requires-clause-size c =
    let many = sizes (goal.at.first_difference-requires-clause-size c).After-variables in
    ap length c.deref-2.ensures.value ∙ many.1 ∙ sym (ap length c.deref.ensures.value)

pub first_difference-requires-clause-few : goal.first_difference-requires-clause-few
first_difference-requires-clause-few c =
    let many = sizes (goal.at.first_difference-requires-clause-few c).After-variables in
    omega (arith, ap length c.deref.ensures.value, many.0, c.variables.ensures.ready.few)

pub returns-in_default-clause-verified : goal.returns-in_default-clause-verified
returns-in_default-clause-verified c = record {
  comparable = c.variables.ensures.ready.comparable;
  agrees = agrees (comparison c.args.compared.now) c.args.diagram.now.nodes c.args.ends.now.now.items c.args.ends.now.want.items
      (λ input. length-map c.args.compared.now.graph.outputs (settled_value c.args.compared.now.graph input))
      c.variables.ensures.ready.comparable.outputs c.requires.ends (sym c.deref.ensures.value ∙ c.in_default.ensures ∙ c.deref-2.ensures.value);
}

pub index-requires-2 : goal.index-requires-2
index-requires-2 c =
    let at = goal.at.index-requires-2 c in omega (arith, low at.In-Some (sizes at.After-variables).1, c.args.ends.now.want.ok.0)

pub least_difference-requires-clause-right : goal.least_difference-requires-clause-right
least_difference-requires-clause-right c =
    let at = goal.at.least_difference-requires-clause-right c in
    let inside = low at.In-Some (sizes at.After-variables).1 in
    subst (IsNumber c.args.diagram.now.nodes) (sym (want_is at.After-index-2 inside))
    (known-at c.args.diagram.now.nodes c.args.ends.now.want.items c.in-Some.line c.requires.ends.want_are.known inside)

pub least_difference-requires-clause-apart : goal.least_difference-requires-clause-apart
least_difference-requires-clause-apart c = λ same.
    let at = goal.at.least_difference-requires-clause-apart c in
    let first = differ at.In-Some in
    first.differ (sym (now_is at.After-index-2 first.inside) ∙ same ∙ want_is at.After-index-2 (low at.In-Some (sizes at.After-variables).1))

pub returns-clause-refused : goal.returns-clause-refused
returns-clause-refused c =
    let at = goal.at.returns-clause-refused c in
    let q = comparison c.args.compared.now in
    let nodes = c.args.diagram.now.nodes in
    let now = c.args.ends.now.now.items in
    let want = c.args.ends.now.want.items in
    let ready = c.variables.ensures.ready in
    let same = (sizes at.After-variables).1 in
    let first = differ at.In-Some in
    let line = c.in-Some.line in
    let least : IsLeastApart (exclusive_or (function_of nodes (get_or now line 0)) (function_of nodes (get_or want line 0))) c.args.variables.now
    c.in_ok-bits.bits =
    subst (λ (n : ℕ). IsLeastApart (exclusive_or (function_of nodes n) (function_of nodes (get_or want line 0))) c.args.variables.now c.in_ok-bits.bits)
    (now_is at.After-index-2 first.inside)
    (subst (λ (n : ℕ). IsLeastApart (exclusive_or (function_of nodes c.index.result.now) (function_of nodes n)) c.args.variables.now c.in_ok-bits.bits)
    (want_is at.After-index-2 (low at.In-Some same)) c.in_ok-bits.ensures) in (
      ready.comparable,
      differs q nodes now want c.args.variables.now line c.in_ok-bits.bits ready.comparable.lines ready.gates c.requires.ends
          same first c.requires.variables least,
    )
