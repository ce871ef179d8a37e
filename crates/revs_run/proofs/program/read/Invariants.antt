use Rattle.std.proofs.Common.{drop}
use Rattle.revs_terms.specs.Terms.{place_of}
use Rattle.revs_terms.specs.Trees.{tree_of}
use Rattle.revs_run.proofs.EndLemmas.{InReads}
use Rattle.revs_run.proofs.program.read.Given as goal

abbrev pub invariant-loop-location : goal.invariant-loop-location
invariant-loop-location l = InReads l.machine (place_of (tree_of l.body)) l.made.items (drop l.location-index l.locations) l.locations
