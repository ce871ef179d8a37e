use Rattle.std.proofs.Common.{rules}
use Rattle.revc_io.proofs.MemoryLemmas.{flushed}
use Rattle.revc_io.proofs.memory_sink.MemorySinkSink.flush.Goals as goal

pub returns-clause-bytes : goal.returns-clause-bytes
returns-clause-bytes c = flushed c.args.self.now _ (search rules)
