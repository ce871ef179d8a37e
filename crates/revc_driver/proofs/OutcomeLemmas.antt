-- Each command has one outcome.
use Rattle.command_answers.specs.Outcomes.{HasOneOutcome}
use Rattle.circuit_commands.proofs.CircuitLemmas.{run_outcome, stat_outcome}
use Rattle.circuit_commands.proofs.ConvertLemmas.{convert_outcome}
use Rattle.circuit_commands.proofs.TidyLemmas.{tidy_outcome}
use Rattle.program_commands.proofs.AndsLemmas as ands
use Rattle.program_commands.proofs.ArithOutcomeLemmas as arith
use Rattle.program_commands.proofs.BenchLemmas.{bench_outcome, gen_outcome}
use Rattle.program_commands.proofs.PlacedLemmas as compile
use Rattle.program_texts.proofs.CheckLemmas as check
use Rattle.program_texts.proofs.EvalLemmas as eval
use Rattle.revc_driver.specs.Commands.{promise_of}
use Rattle.revc_words.specs.declared.commands.Command.{Command}
use Rattle.revc_words.specs.declared.commands.Command.TheVariants as commands
use Rattle.verify_command.proofs.OutcomeLemmas as verify

pub outcome_of : (command : Command) → HasOneOutcome (promise_of command)
outcome_of commands.Compile = compile.one_outcome
outcome_of commands.Check = check.one_outcome
outcome_of commands.Ands = ands.one_outcome
outcome_of commands.Eval = eval.one_outcome
outcome_of commands.Stat = stat_outcome
outcome_of commands.Run = run_outcome
outcome_of commands.Convert = convert_outcome
outcome_of commands.Tidy = tidy_outcome
outcome_of commands.Gen = gen_outcome
outcome_of commands.Bench = bench_outcome
outcome_of commands.Verify = verify.one_outcome
outcome_of commands.Arith = arith.one_outcome
