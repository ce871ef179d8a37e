use Rattle.program_commands.proofs.generate.program.Goals as goal

pub text-requires-clause-factor : goal.text-requires-clause-factor
text-requires-clause-factor c = λ e. absurd cc

pub returns : goal.returns
returns c = c.text.ensures.bytes
