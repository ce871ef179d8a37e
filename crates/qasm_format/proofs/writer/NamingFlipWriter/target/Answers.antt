use Rattle.std.specs.Prelude.{codes}
use Rattle.qasm_format.specs.inside.Naming.{place_by}
use Rattle.qasm_format.proofs.TextLemmas.{place_is}
use Rattle.qasm_format.proofs.writer.NamingFlipWriter.target.Goals as goal

pub returns-clause-bytes : goal.returns-clause-bytes
returns-clause-bytes c =
    place_is (place_by c.args.self c.args.line) _ _ _ (codes ";\n") c.place.ensures.front c.place.ensures.digits c.place.ensures.back
