use Rattle.std.proofs.Common.{rules, take}
use Rattle.revc_io.proofs.MemoryLemmas.{written}
use Rattle.revc_io.proofs.memory_sink.MemorySinkSink.write.Goals as goal

pub returns-clause-bytes : goal.returns-clause-bytes
returns-clause-bytes c = written c.args.self.now _ (take c.min-count.result c.args.piece.now) (search rules)
