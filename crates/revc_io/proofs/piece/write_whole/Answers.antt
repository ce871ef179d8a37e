use Rattle.revc_io.proofs.PassingLemmas.{whole_gathered, finish_call}
use Rattle.revc_io.proofs.piece.write_whole.Goals as goal

pub returns-clause-bytes : goal.returns-clause-bytes
returns-clause-bytes g c =
    let put = rw c.new-buffer.ensures at c.in_ok-put.ensures.bytes in
    finish_call _ _ c.finish.ensures.bytes (whole_gathered put)
