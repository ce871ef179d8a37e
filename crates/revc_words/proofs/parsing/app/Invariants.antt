use Rattle.clap.specs.Words.{app_of}
use Rattle.revc_words.proofs.LoopLemmas.{IsBuilding}
use Rattle.revc_words.proofs.parsing.app.Given as goal

abbrev pub invariant-loop-name : goal.invariant-loop-name
invariant-loop-name l = IsBuilding l.fn.command (app_of l.app) l.names l.name-index
