-- Why a circuit that can be compared is not verified.
use Rattle.product_sums.specs.declared.fault.ProductsFault.{ProductsFault}
use Rattle.product_sums.specs.declared.fault.ProductsFault.TheVariants as products
use Rattle.sum_verify.specs.declared.fault.FormsFault.{FormsFault}
use Rattle.sum_verify.specs.declared.fault.FormsFault.TheVariants as faults

-- a table that is at its limits leaves the circuit unsettled
abbrev pub forms_fault : ProductsFault → FormsFault
forms_fault products.Limit = faults.Unsettled
forms_fault (products.Memory _) = faults.Memory _
