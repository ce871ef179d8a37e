use Rattle.revs_lexer.specs.declared.token.Tok.TheVariants as toks
use Rattle.revs_lexer.specs.declared.token.Token.{Token}
use Rattle.revs_parser.proofs.ProgramLemmas.{left_within, left_says}
use Rattle.revs_parser.proofs.program.refusal.Goals as goal

pub place-requires : goal.place-requires
place-requires c = let left = rw c.in-Syntax.is at c.requires.refused in rw c.len.ensures (left_within left)

pub place-requires-in-Nesting : goal.place-requires-in-Nesting
place-requires-in-Nesting c = let left = rw c.in-Nesting.is at c.requires.refused in rw c.len-in-Nesting.ensures (left_within left)

pub returns-in-Syntax-clause-refused : goal.returns-in-Syntax-clause-refused
returns-in-Syntax-clause-refused c = let left = rw c.in-Syntax.is at c.requires.refused in
    let named : Token = record { tok = toks.End; at = c.place.result } in
    rw (c.place.ensures named, c.len.ensures) (left_says left named)

pub returns-in-Nesting-clause-refused : goal.returns-in-Nesting-clause-refused
returns-in-Nesting-clause-refused c = let left = rw c.in-Nesting.is at c.requires.refused in
    let named : Token = record { tok = toks.End; at = c.place-in-Nesting.result } in
    rw (c.place-in-Nesting.ensures named, c.len-in-Nesting.ensures) (left_says left named)
