use Rattle.std.proofs.Common.{◌-◌, refl, subst, arith}
use Rattle.std.specs.Prelude.{⊤}
use Rattle.circuit_tidy.specs.inside.Sweeping.{IsLastLike}
use Rattle.circuit_tidy.proofs.SweepLemmas.{leads_further, meets_there, stays_leads, takes_stays}
use Rattle.circuit_tidy.proofs.TidyLemmas.{at_some}
use Rattle.circuit_tidy.proofs.sweep.Sweep.cancel.Goals as goal

pub cancel_next-requires-clause-meets : goal.cancel_next-requires-clause-meets
cancel_next-requires-clause-meets c =
    meets_there c.args.self.now c.take.new.self c.index-flip.result.now _ c.args.next c.in-Some.place (omega arith) c.requires.next c.index-flip.ensures
    (subst (λ fs. IsLastLike fs c.index-flip.result.now c.in-Some.place) c.deref.ensures.value
    (at_some c.last_like.result c.in-Some.place ⊤ (IsLastLike c.deref.result.now c.index-flip.result.now) c.in-Some.is c.last_like.ensures))
    (c.if-not-is_free_of_next.ensures refl) c.in_ok-take.ensures

pub returns : goal.returns
returns c =
    leads_further c.args.self.now c.take.new.self c.cancel_next.new.self
    (stays_leads c.args.self.now c.take.new.self (takes_stays (c.args.next - c.args.self.now.at) c.args.self.now c.take.new.self (let low = c.requires.next in
    omega arith) c.in_ok-take.ensures)) c.cancel_next.ensures
