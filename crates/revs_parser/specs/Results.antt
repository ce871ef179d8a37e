-- What a parser answers.
use Rattle.std.specs.Prelude.{List, Result, IsOk, IsErrOf, ◌⊎◌}
use Rattle.revs_lexer.specs.declared.token.Token.{Token}
use Rattle.revs_terms.specs.declared.program.Program.{Program}
use Rattle.revs_grammar.specs.Answers.{IsInputs}
use Rattle.revs_grammar.specs.Faults.{IsSyntax, IsNesting, Verdict, within_limits, syntax, nesting, inputs}
use Rattle.revs_parser.specs.declared.program.ParseFault.{ParseFault}
use Rattle.revs_parser.specs.declared.program.ParseFault.TheVariants as faults

-- The answer of a list of tokens with this verdict, where there is memory.
abbrev pub Answers : Verdict → Result Program ParseFault → Type 0
Answers within_limits result = IsOk result
Answers (syntax number at) result = IsErrOf result (faults.Syntax number at)
Answers (nesting at) result = IsErrOf result (faults.Nesting at)
Answers (inputs at) result = IsErrOf result (faults.Inputs at)

-- The answer of a list of tokens with this verdict.
abbrev pub IsAnswer : Verdict → Result Program ParseFault → Type 0
IsAnswer verdict result = IsErrOf result (faults.Memory _) ⊎ Answers verdict result

-- The tokens are refused for this fault rightly.
abbrev pub IsRefused : List Token → ParseFault → Type 0
IsRefused tokens (faults.Syntax number at) = IsSyntax tokens number at
IsRefused tokens (faults.Nesting at) = IsNesting tokens at
IsRefused tokens (faults.Inputs at) = ⊥
IsRefused tokens (faults.Memory _) = Unit {0}

-- The tokens are refused for this fault rightly, which may be the parameters'.
abbrev pub IsRefusedFor : List Token → ParseFault → Type 0
IsRefusedFor tokens (faults.Syntax number at) = IsSyntax tokens number at
IsRefusedFor tokens (faults.Nesting at) = IsNesting tokens at
IsRefusedFor tokens (faults.Inputs at) = IsInputs tokens at
IsRefusedFor tokens (faults.Memory _) = Unit {0}
