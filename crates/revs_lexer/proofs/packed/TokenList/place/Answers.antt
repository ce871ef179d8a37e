use Rattle.revs_lexer.proofs.RestLemmas.{placed}
use Rattle.revs_lexer.proofs.packed.TokenList.place.Goals as goal

pub returns : goal.returns
returns c = λ other. placed c.self.inside.text.now c.self.inside.packed.items c.args.self.now c.args.number c.index.result.now other c.self.view_is c.requires
    c.index.ensures
