-- Where the reading of a whole text stops.
use Rattle.std.proofs.Common.{ℕ, ◌<◌, List, ◌++◌, length, Some, None, subst, arith, ap, length-append}
use Rattle.std.specs.Prelude.{Option, IfSome}
use Rattle.std.specs.Io.KnownBytes.{Consumes}
use Rattle.std.proofs.KnownBytes.{Consumes-trans}
use Rattle.revc_io.specs.Reading.{TakenAt, StopsAt}
use Rattle.revc_io.specs.declared.reading.ReadFault.{ReadFault}

-- the rest is as long as what was taken, or longer
long : (old new : Option (List ℕ)) (taken : List ℕ) (limit : ℕ) → Consumes old new taken → limit < length taken → IfSome old (λ rest. limit < length rest)
long None new taken limit took more = tt
long (Some rest) None taken limit took more = absurd took
long (Some rest) (Some left) taken limit took more = omega (arith, ap length took, length-append taken left)

-- behind all that was read, more was taken
pub stops : (old mid new : Option (List ℕ)) (limit : ℕ) (fault : ReadFault) (all more : List ℕ) → Consumes old mid all → Consumes mid new more
    → TakenAt fault limit (length (all ++ more)) → StopsAt old new limit fault
stops old mid new limit fault all more took took_more at =
    let whole = Consumes-trans old mid new all more took took_more in
    record {
      taken = (all ++ more, whole, at);
      too_long = λ is. let passed = subst (λ f. TakenAt f limit (length (all ++ more))) is at in long old new (all ++ more) limit whole (omega (arith, passed));
    }
