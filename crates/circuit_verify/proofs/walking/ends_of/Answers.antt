use Rattle.std.proofs.Common.{◌≡◌, ℕ, List, length, drop, sym, subst, ◌∙◌, arith}
use Rattle.std.proofs.lemmas.List.{take-append-le, take_all}
use Rattle.mct_circuit.specs.Gates.{line_map}
use Rattle.circuit_verify.specs.Comparisons.{start_on, wanted_on, wanted_ports}
use Rattle.circuit_verify.specs.Compared.{comparison}
use Rattle.circuit_verify.specs.inside.Numbers.{AreLaid, AreNumbersOf}
use Rattle.circuit_verify.proofs.AskLemmas.{grows-further}
use Rattle.circuit_verify.proofs.NumberLemmas.{numbers-grown}
use Rattle.circuit_verify.proofs.StepLemmas.{laid_first}
use Rattle.circuit_verify.proofs.walking.ends_of.Goals as goal
use Rattle.circuit_verify.proofs.walking.ends_of.Goals.{After-port_numbers}

of_bits : (c : After-port_numbers) → AreNumbersOf (comparison c.args.compared.now) c.port_numbers.new.diagram.nodes c.args.bits.now (λ b. b)
of_bits c =
    numbers-grown (comparison c.args.compared.now) c.args.diagram.now c.port_numbers.new.diagram c.port_numbers.ensures.grows.kept c.args.bits.now
    (λ b. b) c.requires.bits

pub laid-requires : goal.laid-requires
laid-requires c = of_bits (goal.at.laid-requires c).After-port_numbers

pub laid-requires-2 : goal.laid-requires-2
laid-requires-2 c = of_bits (goal.at.laid-requires-2 c).After-port_numbers

pub walk-requires-clause-start : goal.walk-requires-clause-start
walk-requires-clause-start c =
    let q = comparison c.args.compared.now in
    let nodes = c.port_numbers.new.diagram.nodes in
    let laid = subst (λ (ns : List ℕ). AreLaid q nodes ns c.in_ok-now.now.items) c.deref-2.ensures.value c.in_ok-now.ensures in
    subst (λ (ns : List ℕ). AreNumbersOf q nodes ns (start_on q)) (sym c.deref_mut.ensures.value)
    (laid_first q nodes _ c.in_ok-now.now.items laid c.in_ok-ports.ensures.first)

pub returns-in_err-walk-clause-grows : goal.returns-in_err-walk-clause-grows
returns-in_err-walk-clause-grows c =
    grows-further (comparison c.args.compared.now) c.args.diagram.now c.port_numbers.new.diagram c.walk.new.diagram
    c.port_numbers.ensures.grows c.walk.ensures.grows

pub returns-clause-grows : goal.returns-clause-grows
returns-clause-grows c =
    grows-further (comparison c.args.compared.now) c.args.diagram.now c.port_numbers.new.diagram c.walk.new.diagram
    c.port_numbers.ensures.grows c.walk.ensures.grows

pub returns-clause-ends : goal.returns-clause-ends
returns-clause-ends c =
    let v = c.args.compared.now in
    let q = comparison v in
    let nodes = c.port_numbers.new.diagram.nodes in
    let laid = subst (λ (ns : List ℕ). AreLaid q nodes ns c.in_ok-want.want.items) c.deref.ensures.value c.in_ok-want.ensures in
    let want : AreNumbersOf q nodes c.in_ok-want.want.items (wanted_on q) = laid.are (wanted_ports q) c.in_ok-ports.ensures.wanted in
    let count = c.in_ok-now.now.len in
    let lines = c.walk.new.lines in
    let size : count ≡ length lines = omega (arith, c.walk.auto.lines, c.deref_mut.ensures.len) in
    let whole = take-append-le count lines (drop (length lines) c.in_ok-now.now.items) (omega (arith, size))
    ∙ take_all count lines (omega (arith, size)) in
    record {
      now_are = subst (λ (ns : List ℕ). AreNumbersOf q c.walk.new.diagram.nodes ns (λ b. line_map q.circuit.gates (start_on q b))) (sym whole)
          c.in_ok-walk.ensures.ends;
      want_are = numbers-grown q c.port_numbers.new.diagram c.walk.new.diagram c.walk.ensures.grows.kept c.in_ok-want.want.items (wanted_on q) want;
    }
