use Rattle.format_parts.proofs.CompiledLemmas.{laid_has}
use Rattle.real_format.specs.Compiled.{MeansCompiled, compiled_text}
use Rattle.real_format.proofs.MeaningLemmas.{compiled_has_meaning}
use Rattle.real_format.proofs.writer.write.Goals as goal

pub returns-clause-meaning : goal.returns-clause-meaning
returns-clause-meaning g c =
    laid_has (λ roles gates. MeansCompiled (compiled_text roles gates) roles gates) compiled_has_meaning c.args.laid.now _
    c.circuit-circuit.ensures.lines c.circuit-circuit.ensures.circuit c.lines.ensures.gates c.circuit-circuit.ensures.narrow
    c.requires.some c.requires.few c.requires.few_gates
