use Rattle.qasm_format.proofs.writer.HeaderPiece.put.Goals as goal

pub returns-in-ByRole-clause-bytes : goal.returns-in-ByRole-clause-bytes
returns-in-ByRole-clause-bytes g c =
    let put = rw (c.register_of-inputs.ensures, c.register_of-outputs.ensures, c.register_of-work.ensures, c.register_of-borrowed.ensures)
    at c.put.ensures.bytes in
    rw c.in-ByRole.is put

pub returns-in-ByNumber-clause-bytes : goal.returns-in-ByNumber-clause-bytes
returns-in-ByNumber-clause-bytes g c =
    let put = rw (c.kept_lines.ensures, c.added_lines.ensures) at c.put-in-ByNumber.ensures.bytes in
    rw c.in-ByNumber.is put
