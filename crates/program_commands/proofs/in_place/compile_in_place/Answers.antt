use Rattle.revc_base.proofs.ResultLemmas.{passes_on}
use Rattle.std.proofs.lemmas.Result.{IfErr-weaker, IfOk-weaker}
use Rattle.revc_words.specs.Words.{order_of}
use Rattle.program_commands.specs.inside.InPlace.{IsInPlaceFault}
use Rattle.program_commands.proofs.InPlaceLemmas.{claims_stop, placed_file, placed_writable, text_stops}
use Rattle.program_commands.proofs.in_place.compile_in_place.Goals as goal

pub returns-in_err-tape-clause-err : goal.returns-in_err-tape-clause-err
returns-in_err-tape-clause-err c =
    passes_on (IsInPlaceFault (order_of c.args.order.now) c.args.text.now) c.from_residual.result c.from_residual.ensures.1
    (text_stops (order_of c.args.order.now) c.args.text.now c.in_err-tape.field-0.0 c.in_err-tape.ensures.err)

pub returns-in_err-graph-clause-err : goal.returns-in_err-graph-clause-err
returns-in_err-graph-clause-err c =
    passes_on (IsInPlaceFault (order_of c.args.order.now) c.args.text.now) c.from_residual-in_err-graph.result c.from_residual-in_err-graph.ensures.1
    (claims_stop (order_of c.args.order.now) c.args.text.now c.in_err-graph.field-0.0
    (c.in_err-graph.ensures.err.of_text c.args.text.now c.in_ok-tape.ensures.left))

pub returns : goal.returns
returns c =
    let order = order_of c.args.order.now in
    let text = c.args.text.now in
    let tape = c.in_ok-tape.tape in
    let left = c.in_ok-tape.ensures.left in
    record {
      ok = IfOk-weaker c.place.result _ _ (λ laid placed. placed_file order text tape laid c.requires.limits (placed.of_text text left)) c.place.ensures.ok;
      writable = IfOk-weaker c.place.result _ _ (λ laid placed. placed_writable order text tape laid c.requires.limits (placed.of_text text left))
          c.place.ensures.ok;
      err = IfErr-weaker c.place.result _ _ (λ fault h. h.of_text text left) c.place.ensures.err;
    }
