use Rattle.std.proofs.Common.{ℕ, get_or, arith, sym, subst}
use Rattle.revs_tape.specs.declared.tape.Ref.{Ref}
use Rattle.revs_tape.specs.declared.tape.Ref.TheVariants as refs
use Rattle.decision_diagram.specs.Growth.{Computes}
use Rattle.claim_check.specs.inside.Slots.{IsRefOf}
use Rattle.claim_check.specs.inside.Tables.{function_at}
use Rattle.decision_diagram.proofs.GrowthLemmas.{computes_same}
use Rattle.claim_check.proofs.VariableLemmas.{ordered, variable_at}
use Rattle.claim_check.proofs.WriteLemmas.{function-Input}
use Rattle.claim_check.proofs.numbers.number_of.Goals as goal

pub input-requires : goal.input-requires
input-requires c =
    let t = c.args.tape.now in
    let i : ℕ = c.in-Input.i in
    let known : IsRefOf t (refs.Input i) = subst (λ (r : Ref). IsRefOf t r) c.in-Input.is c.requires.known in
    let there = variable_at (ordered t) (get_or c.args.variables.now i 0) i (c.requires.variables.at i known) in
    omega (arith, there.0, c.requires.vars)

pub returns-in-Input : goal.returns-in-Input
returns-in-Input c =
    let t = c.args.tape.now in
    let i : ℕ = c.in-Input.i in
    let k : ℕ = get_or c.args.variables.now i 0 in
    let known : IsRefOf t (refs.Input i) = subst (λ (r : Ref). IsRefOf t r) c.in-Input.is c.requires.known in
    let there = variable_at (ordered t) k i (c.requires.variables.at i known) in
    let own : Computes (function_at t (refs.Input i)) c.args.diagram.now c.input.new.self c.input.result =
    computes_same (function_at t (refs.Input i)) (λ a. a k) c.args.diagram.now c.input.new.self c.input.result
    (function-Input t i k there.0 there.1) c.input.ensures in
    subst (λ (r : Ref). Computes (function_at t r) c.args.diagram.now c.input.new.self c.input.result) (sym c.in-Input.is) own
