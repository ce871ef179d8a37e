use Rattle.std.proofs.Common.{rules}
use Rattle.std.proofs.lemmas.Option.{slice_get_past, slice_get_read}
use Rattle.array_shapes.proofs.shapes.index.Goals as goal

pub returns : goal.returns
returns c = search (rules, slice_get_past, slice_get_read)
