use Rattle.std.proofs.Common.{List, [], sym, subst, refl}
use Rattle.std.specs.List.{AllByRecursion}
use Rattle.qasm_format.specs.declared.spots.Spot.{Spot}
use Rattle.qasm_format.specs.declared.words.Use.TheVariants.{Flip}
use Rattle.qasm_format.specs.Stages.{wants_argument}
use Rattle.qasm_format.specs.Faults.{IsStop}
use Rattle.qasm_format.specs.inside.Says.{said_of, AddsGates, SpotBelow}
use Rattle.qasm_format.proofs.PassingLemmas.{ok_becomes}
use Rattle.revc_base.proofs.ResultLemmas.{passes_on}
use Rattle.qasm_format.proofs.ArgumentLemmas.{all_below_most, sound_after}
use Rattle.qasm_format.proofs.reader.read_gate.Goals as goal

pub returns-in_err-end-clause-err : goal.returns-in_err-end-clause-err
returns-in_err-end-clause-err c =
    passes_on (IsStop c.args.tokens.now (wants_argument (Flip c.args.controls) [] (said_of c.args.said.now))) c.from_residual.result
    c.from_residual.ensures.1 (c.in_err-end.ensures.err.says (said_of c.args.said.now) refl)

pub add_gates-requires-clause-below : goal.add_gates-requires-clause-below
add_gates-requires-clause-below c =
    subst (AllByRecursion (SpotBelow 16384)) (sym c.deref.ensures.value)
    (all_below_most _ _ c.in_ok-end.ensures.ok.few c.in_ok-end.ensures.ok.below)

pub returns-clause-ok : goal.returns-clause-ok
returns-clause-ok c =
    ok_becomes _ _ c.add_gates.result c.add_gates.ensures.ok
    (λ (adds : AddsGates c.deref.result.now c.args.said.now.gates.items c.add_gates.new.gates.items).
    c.in_ok-end.ensures.ok.ends (said_of c.args.said.now) c.add_gates.new.gates.items refl
    (subst (λ (ss : List Spot). AddsGates ss c.args.said.now.gates.items c.add_gates.new.gates.items) c.deref.ensures.value adds))

pub returns-clause-sound : goal.returns-clause-sound
returns-clause-sound c =
    ok_becomes _ _ c.add_gates.result c.add_gates.ensures.ok
    (λ (adds : AddsGates c.deref.result.now c.args.said.now.gates.items c.add_gates.new.gates.items).
    let both = sound_after _ c.args.said.now.gates.items c.add_gates.new.gates.items _ c.requires.sound.placed c.in_ok-end.ensures.ok.below
    (subst (λ (ss : List Spot). AddsGates ss c.args.said.now.gates.items c.add_gates.new.gates.items) c.deref.ensures.value adds) in
    record { placed = both.0; few = both.1 })
