-- The fault of claims that are looked at on some inputs alone.
use Rattle.claim_check.specs.declared.fault.ClaimFault.{ClaimFault}
use Rattle.claim_check.specs.declared.fault.ClaimFault.TheVariants as claims
use Rattle.claim_assumptions.specs.declared.fault.AssumptionFault.{AssumptionFault}
use Rattle.claim_assumptions.specs.declared.fault.AssumptionFault.TheVariants as faults

abbrev pub fault_behind : ClaimFault → AssumptionFault
fault_behind (claims.Broken claim input) = faults.Broken claim input
fault_behind (claims.Diagram claim nodes) = faults.Diagram claim nodes
fault_behind (claims.Memory _) = faults.Memory _
