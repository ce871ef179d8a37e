-- The word for each cause of a stuck run.
use Rattle.std.specs.Prelude.{ℕ, List, codes}
use Rattle.revs_terms.specs.declared.cause.Cause.{Cause}
use Rattle.revs_terms.specs.declared.cause.Cause.TheVariants as causes

abbrev pub cause_word : Cause → List ℕ
cause_word causes.NotBit = codes "NotBit"
cause_word causes.NotRegister = codes "NotRegister"
cause_word causes.NotFunction = codes "NotFunction"
cause_word causes.Index = codes "Index"
cause_word causes.Slice = codes "Slice"
cause_word causes.Rotate = codes "Rotate"
cause_word causes.Length = codes "Length"
cause_word causes.Gone = codes "Gone"
cause_word causes.NoOutput = codes "NoOutput"
cause_word causes.Depth = codes "Depth"
cause_word causes.Work = codes "Work"
cause_word causes.Writes = codes "Writes"
cause_word causes.Claims = codes "Claims"
cause_word causes.Outputs = codes "Outputs"
cause_word causes.Range = codes "Range"
cause_word causes.NotNumber = codes "NotNumber"
