-- Why a circuit that can be compared is not verified, by the way in which it was asked.
use Rattle.std.specs.Prelude.{◌≡◌, ℕ}
use Rattle.circuit_verify.specs.Compared.{ComparedView, comparison}
use Rattle.circuit_verify.specs.Verdicts.{IsVerifyFault}
use Rattle.revc_words.specs.declared.order.Way.{Way}
use Rattle.revc_words.specs.declared.order.Way.TheVariants as ways
use Rattle.sum_verify.specs.Faults.{IsSumsFault}
use Rattle.sum_verify.specs.declared.fault.SumsFault.TheVariants as sums
use Rattle.verify_command.specs.declared.ways.Unverified.{Unverified}
use Rattle.verify_command.specs.declared.ways.Unverified.TheVariants.{Diagrams, Sums, Both}

-- by diagrams alone only for a fault of diagrams; by sums alone only for one of sums; by both for
-- want of memory of sums, or where they left this very comparison unsettled for a fault of diagrams
abbrev pub IsUnverified : Way → ComparedView → ℕ → Unverified → Type 0
IsUnverified ways.Diagrams v nodes (Diagrams fault) = IsVerifyFault (comparison v) nodes fault
IsUnverified ways.Sums v nodes (Sums fault) = IsSumsFault v fault
IsUnverified ways.Both v nodes (Sums (sums.Memory _)) = IsSumsFault v (sums.Memory _)
IsUnverified ways.Both v nodes (Both left fault) =
    (left ≡ v) × IsVerifyFault (comparison v) nodes fault
IsUnverified way v nodes why = ⊥
