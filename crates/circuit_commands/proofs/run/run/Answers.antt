use Rattle.std.specs.List.{flat_map}
use Rattle.revc_words.specs.Words.{words_of}
use Rattle.command_answers.specs.Lines.{bits_text}
use Rattle.circuit_commands.proofs.RunLemmas.{run_of, run_stops}
use Rattle.circuit_commands.proofs.run.run.Goals as goal

pub returns-clause-ok : goal.returns-clause-ok
returns-clause-ok c =
    run_of c.args.from (words_of c.args.words.now) c.args.text.now c.in_ok-source.source (λ lines. flat_map bits_text lines.items) c.run_source.result
    c.in_ok-source.ensures.ok c.run_source.ensures.fit c.run_source.ensures.ok

pub returns-clause-err : goal.returns-clause-err
returns-clause-err c =
    run_stops c.args.from (words_of c.args.words.now) c.args.text.now c.in_ok-source.source c.run_source.result c.in_ok-source.ensures.ok
    c.run_source.ensures.err
