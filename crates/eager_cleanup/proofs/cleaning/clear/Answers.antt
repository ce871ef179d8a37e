use Rattle.std.proofs.Common.{Some}
use Rattle.std.proofs.lemmas.Result.{IfErr-weaker}
use Rattle.held_nodes.specs.Held.{IsForward}
use Rattle.held_nodes.specs.Moves.{IsCleared, IsClearFault}
use Rattle.eager_cleanup.specs.inside.Sweeps.{IsCleaned, IsCleaningFault}
use Rattle.eager_cleanup.proofs.CleaningLemmas.{both_ok, can_clear, cleared, clear_fault}
use Rattle.eager_cleanup.proofs.cleaning.clear.Goals as goal

pub clear-requires : goal.clear-requires
clear-requires c =
    rw c.deref.ensures.value
    (can_clear c.args.graph.now c.args.forward c.args.k c.args.poly.now c.in_ok-cubes.cubes.items c.requires.graph c.requires.value c.requires.held
    c.in_ok-cubes.ensures.sum)

pub returns : goal.returns
returns c =
    let s = c.args.graph.now in
    let f = c.args.forward in
    let k = c.args.k in
    let p = c.args.poly.now in
    let cubes = c.in_ok-cubes.cubes.items in
    let sum = c.in_ok-cubes.ensures.sum in
    record {
      ok = both_ok c.clear.result (IsCleared f k cubes) IsForward (IsCleaned (Some p) f k)
          (λ next clear forward. cleared s f next k p cubes c.requires.graph c.requires.keeps forward c.requires.value sum clear)
          (rw c.deref.ensures.value at c.clear.ensures.ok) c.clear.ensures.keeps;
      refused = IfErr-weaker c.clear.result (IsClearFault f k cubes) (IsCleaningFault (Some p) f k)
          (λ fault is. clear_fault s f k p cubes fault c.requires.graph c.requires.keeps c.requires.held c.requires.value sum is)
          (rw c.deref.ensures.value at c.clear.ensures.refused);
    }
