use Rattle.std.proofs.Common.{sym, subst}
use Rattle.held_nodes.specs.Held.{ForwardView}
use Rattle.held_nodes.specs.Moves.{CanClear}
use Rattle.held_nodes.proofs.ClearLemmas.{clear_held, clear_place, clear_roomy, clear_adds, clear_low, clear_fault}
use Rattle.held_nodes.proofs.StepLemmas.{Gives, given_target, given_out, given_kept, given_becomes}
use Rattle.held_nodes.proofs.forward.Forward.clear.Goals as goal
use Rattle.revc_base.proofs.ResultLemmas.{no_value, passes_on}

pub held_line-line-requires-clause-place : goal.held_line-line-requires-clause-place
held_line-line-requires-clause-place c = rw c.deref.ensures.value (clear_place _ _ _ _ c.self.view_is c.requires)

pub held_line-line-requires-clause-held : goal.held_line-line-requires-clause-held
held_line-line-requires-clause-held c = rw c.deref.ensures.value (clear_held _ _ _ _ c.self.view_is c.requires)

pub index_mut-requires : goal.index_mut-requires
index_mut-requires c = rw c.self.inside.lines.ok.0 (clear_place _ _ _ _ c.self.view_is c.requires)

pub append_cubes-requires-clause-target : goal.append_cubes-requires-clause-target
append_cubes-requires-clause-target c =
    let gives : Gives _ _ _ _ _ = record { kept = c.self.invariant; own = rw c.deref.ensures.value at c.held_line-line.ensures } in
    rw c.first_work-first.ensures.first (given_target _ _ _ _ _ gives)

pub append_cubes-requires-clause-apart : goal.append_cubes-requires-clause-apart
append_cubes-requires-clause-apart c = rw c.first_work-first.ensures.first (clear_low _ _ _
    (subst (λ (f : ForwardView). CanClear f c.args.node c.args.cubes.now) (sym c.self.view_is) c.requires))

pub returns-in_err-append_cubes : goal.returns-in_err-append_cubes
returns-in_err-append_cubes c =
    let gives : Gives _ _ _ _ _ = record { kept = c.self.invariant; own = rw c.deref.ensures.value at c.held_line-line.ensures } in
    let fault = rw c.first_work-first.ensures.first at c.in_err-append_cubes.ensures.refused in
    record {
      ok = no_value c.from_residual.result _ _ c.from_residual.ensures.1;
      keeps = no_value c.from_residual.result _ _ c.from_residual.ensures.1;
      refused = passes_on _ c.from_residual.result c.from_residual.ensures.1 (rw (← c.self.view_is) (clear_fault _ _ _ _ _ _ _ gives fault));
    }

pub give-requires : goal.give-requires
give-requires c =
    let gives : Gives _ _ _ _ _ = record { kept = c.self.invariant; own = rw c.deref.ensures.value at c.held_line-line.ensures } in
    given_out _ _ _ _ _ gives

pub invariant_of-self : goal.invariant_of-self
invariant_of-self c =
    let gives : Gives _ _ _ _ _ = record { kept = c.self.invariant; own = rw c.deref.ensures.value at c.held_line-line.ensures } in
    let can = (subst (λ (f : ForwardView). CanClear f c.args.node c.args.cubes.now) (sym c.self.view_is) c.requires) in
    let ok = rw c.first_work-first.ensures.first at c.in_ok-append_cubes.ensures.ok in
    let light = rw ok at c.in_ok-append_cubes.ensures.light in
    rw ok (given_kept _ _ _ _ _ gives _ _ c.give.ensures c.peak.ensures.lines light
    (clear_roomy _ _ _ _ _ _ gives can c.in_ok-append_cubes.ensures.cubes) (clear_adds _ _ _ _ _ _ gives can))

pub returns-clause-ok : goal.returns-clause-ok
returns-clause-ok c =
    let gives : Gives _ _ _ _ _ = record { kept = c.self.invariant; own = rw c.deref.ensures.value at c.held_line-line.ensures } in
    let ok = rw c.first_work-first.ensures.first at c.in_ok-append_cubes.ensures.ok in
    rw (ok, ← c.self.view_is) (record {
      line = c.held_line-line.result;
      is = gives.own;
      becomes = given_becomes _ _ _ _ _ gives _ _ c.give.ensures;
    })

pub returns-clause-keeps : goal.returns-clause-keeps
returns-clause-keeps c = (invariant_of-self c).forward
