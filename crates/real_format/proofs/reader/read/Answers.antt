use Rattle.real_format.specs.Faults.{IsRealFault}
use Rattle.revc_base.proofs.ResultLemmas.{passes_on}
use Rattle.real_format.proofs.ReadLemmas.{header_refused, file_refused, file_read}
use Rattle.real_format.proofs.reader.read.Goals as goal

pub returns-in_err-begun-clause-err : goal.returns-in_err-begun-clause-err
returns-in_err-begun-clause-err c =
    passes_on (IsRealFault c.args.bytes.now) c.from_residual.result c.from_residual.ensures.1
    (header_refused _ c.args.bytes.now c.new-lines.result c.new-lines.ensures c.in_err-begun.ensures.err)

pub returns-clause-ok : goal.returns-clause-ok
returns-clause-ok c =
    file_read c.args.bytes.now c.new-lines.result c.read_header.new.lines c.in_ok-begun.begun c.read_file.result c.new-lines.ensures
    c.in_ok-begun.ensures.ok c.read_file.ensures.ok

pub returns-clause-err : goal.returns-clause-err
returns-clause-err c =
    file_refused c.args.bytes.now c.new-lines.result c.read_header.new.lines c.in_ok-begun.begun c.read_file.result c.new-lines.ensures
    c.in_ok-begun.ensures.ok c.read_file.ensures.err
