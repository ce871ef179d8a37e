-- What a sink in memory promises, behind a call that did not fail.
use Rattle.std.proofs.Common.{◌≡◌, ℕ, ◌++◌, List, true, false, refl, sym, subst, arith, length-append}
use Rattle.revc_io.specs.Held.{HandedOn, Took}
use Rattle.revc_io.specs.Memory.{CallsView, FailsNoMore, SinkView, counted, held_by}

still_none : (calls : CallsView) → FailsNoMore calls → FailsNoMore (counted calls)
still_none calls none = record { each = λ number later in_range. none.each number (omega (arith, later, in_range)) in_range }

-- a front of a piece was taken
pub written : (old new : SinkView) (front : List ℕ) → new ≡ record old { held = old.held ++ front; flushed = false; calls = counted old.calls }
    → Took (held_by old) (held_by new) front
written old new front after =
    subst (λ (sink : SinkView). Took (held_by old) (held_by sink) front) (sym after) (record {
      grown = refl;
      lasts = λ more promised. record { room = omega (arith, promised.room, length-append old.held front); calm = still_none old.calls promised.calm };
    })

-- nothing was held back
pub flushed : (old new : SinkView) → new ≡ record old { flushed = true; calls = counted old.calls } → HandedOn (held_by old) (held_by new)
flushed old new after =
    subst (λ (sink : SinkView). HandedOn (held_by old) (held_by sink)) (sym after) (record {
      kept = refl;
      lasts = λ more promised. record { room = promised.room; calm = still_none old.calls promised.calm };
      flushed = refl;
    })
