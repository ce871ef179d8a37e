-- What a token is, from its kind.
use Rattle.std.specs.Prelude.{ℕ, List}
use Rattle.revs_lexer.specs.declared.token.Kind.{Kind}
use Rattle.revs_lexer.specs.declared.token.Kind.TheVariants as kinds
use Rattle.revs_lexer.specs.declared.token.Tok.{Tok}
use Rattle.revs_lexer.specs.declared.token.Tok.TheVariants as toks

-- what a token of this kind is, whose bytes are these if it is a name
abbrev pub tok_of : Kind → List ℕ → Tok
tok_of (kinds.Name length start) bytes = toks.Name bytes
tok_of (kinds.Number n) bytes = toks.Number n
tok_of (kinds.Word w) bytes = toks.Word w
tok_of (kinds.Sign s) bytes = toks.Sign s
tok_of kinds.End bytes = toks.End
