use Rattle.std.proofs.Common.{ap}
use Rattle.qasm_format.specs.inside.Names.{DeclaredView}
use Rattle.qasm_format.specs.declared.words.RegisterKind.TheVariants.{Qubits, Bits}
use Rattle.qasm_format.proofs.DeclaredLemmas.{pushed}
use Rattle.qasm_format.proofs.names.Declared.push.Goals as goal

pub invariant_of-self-in-Qubits : goal.invariant_of-self-in-Qubits
invariant_of-self-in-Qubits c = (pushed c.args.kind Qubits c.self.inside.names c.put.new.names c.self.inside.spans.items c.put.new.spans.items
    c.args.self.now c.args.name.now c.self.inside.lines c.args.size c.in-Qubits.is c.self.invariant (ap (λ (v : DeclaredView). v.names) c.self.view_is)
    (ap (λ (v : DeclaredView). v.registers) c.self.view_is) c.requires.fresh c.requires.text c.requires.room
    c.in_ok-put-in-Qubits.ensures.names c.in_ok-put-in-Qubits.ensures.spans).sound

pub invariant_of-self-in-Continue-branch-2 : goal.invariant_of-self-in-Continue-branch-2
invariant_of-self-in-Continue-branch-2 c =
    (pushed c.args.kind Bits c.self.inside.names c.put-in-Bits.new.names c.self.inside.spans.items c.put-in-Bits.new.spans.items
    c.args.self.now c.args.name.now c.self.inside.lines c.args.size c.in-Bits.is c.self.invariant (ap (λ (v : DeclaredView). v.names) c.self.view_is)
    (ap (λ (v : DeclaredView). v.registers) c.self.view_is) c.requires.fresh c.requires.text c.requires.room
    c.in_ok-put-in-Bits.ensures.names c.in_ok-put-in-Bits.ensures.spans).sound

pub returns-in_ok-put-in-Qubits-clause-ok : goal.returns-in_ok-put-in-Qubits-clause-ok
returns-in_ok-put-in-Qubits-clause-ok c = (pushed c.args.kind Qubits c.self.inside.names c.put.new.names c.self.inside.spans.items c.put.new.spans.items
    c.args.self.now c.args.name.now c.self.inside.lines c.args.size c.in-Qubits.is c.self.invariant (ap (λ (v : DeclaredView). v.names) c.self.view_is)
    (ap (λ (v : DeclaredView). v.registers) c.self.view_is) c.requires.fresh c.requires.text c.requires.room
    c.in_ok-put-in-Qubits.ensures.names c.in_ok-put-in-Qubits.ensures.spans).seen

pub returns-in_ok-put-in-Bits-clause-ok : goal.returns-in_ok-put-in-Bits-clause-ok
returns-in_ok-put-in-Bits-clause-ok c =
    (pushed c.args.kind Bits c.self.inside.names c.put-in-Bits.new.names c.self.inside.spans.items c.put-in-Bits.new.spans.items
    c.args.self.now c.args.name.now c.self.inside.lines c.args.size c.in-Bits.is c.self.invariant (ap (λ (v : DeclaredView). v.names) c.self.view_is)
    (ap (λ (v : DeclaredView). v.registers) c.self.view_is) c.requires.fresh c.requires.text c.requires.room
    c.in_ok-put-in-Bits.ensures.names c.in_ok-put-in-Bits.ensures.spans).seen
