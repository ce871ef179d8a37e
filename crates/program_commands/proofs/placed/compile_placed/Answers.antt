use Rattle.revc_words.specs.Words.{order_of}
use Rattle.program_commands.proofs.PlacedLemmas.{given, not_given_beside, not_given_in_place}
use Rattle.program_commands.proofs.placed.compile_placed.Goals as goal

pub returns-in-Added-clause-ok : goal.returns-in-Added-clause-ok
returns-in-Added-clause-ok c = given (order_of c.args.order.now) c.args.text.now _ c.compile.result c.in-Added.is c.compile.ensures.ok

pub returns-in-Added-clause-err : goal.returns-in-Added-clause-err
returns-in-Added-clause-err c = not_given_beside (order_of c.args.order.now) c.args.text.now _ c.compile.result c.in-Added.is c.compile.ensures.err

pub returns-in-InPlace-clause-ok : goal.returns-in-InPlace-clause-ok
returns-in-InPlace-clause-ok c =
    given (order_of c.args.order.now) c.args.text.now _ c.compile_in_place.result c.in-InPlace.is c.compile_in_place.ensures.ok

pub returns-in-InPlace-clause-err : goal.returns-in-InPlace-clause-err
returns-in-InPlace-clause-err c =
    not_given_in_place (order_of c.args.order.now) c.args.text.now c.compile_in_place.result c.in-InPlace.is c.compile_in_place.ensures.err
