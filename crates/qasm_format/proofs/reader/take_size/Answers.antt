use Rattle.std.proofs.Common.{subst, arith}
use Rattle.qasm_format.specs.declared.file.QasmFault.TheVariants.{Token, Limit}
use Rattle.qasm_format.specs.inside.Says.{StopsAtSize, TakesNumber}
use Rattle.revc_base.proofs.ResultLemmas.{passes_on}
use Rattle.qasm_format.proofs.ReadingLemmas.{reads_then, stops_later}
use Rattle.qasm_format.proofs.StageLemmas.{fault_at_size, zero_at_size, size_stops, full_stops, sized}
use Rattle.qasm_format.proofs.reader.take_size.Goals as goal

pub returns-in_err-take_word-clause-err : goal.returns-in_err-take_word-clause-err
returns-in_err-take_word-clause-err c =
    passes_on (StopsAtSize c.args.tokens.now c.args.kind c.args.lines) c.from_residual.result c.from_residual.ensures.1
    (record { says = λ name said same. c.in_err-take_word.ensures.err.says _ })

pub returns-in_err-size-clause-err : goal.returns-in_err-size-clause-err
returns-in_err-size-clause-err c =
    passes_on (StopsAtSize c.args.tokens.now c.args.kind c.args.lines) c.from_residual-in_err-size.result c.from_residual-in_err-size.ensures.1
    (size_stops _ _ _ c.args.kind c.args.lines c.in_ok-take_word.ensures.ok
    (λ name said same. fault_at_size _ _ c.args.kind name said c.in_err-size.ensures.err))

pub returns-then-size-eq0-clause-err : goal.returns-then-size-eq0-clause-err
returns-then-size-eq0-clause-err c =
    let zero = subst (λ n. TakesNumber c.take_word.new.tokens c.take_number.new.tokens n c.in_ok-size.at) c.if-size-eq0.true c.in_ok-size.ensures.ok in
    size_stops _ _ (Token c.in_ok-size.at) c.args.kind c.args.lines c.in_ok-take_word.ensures.ok (λ name said same. zero_at_size c.args.kind name said zero)

pub returns-then-is_full-clause-err : goal.returns-then-is_full-clause-err
returns-then-is_full-clause-err c =
    size_stops _ _ (Limit c.in_ok-size.at) c.args.kind c.args.lines c.in_ok-take_word.ensures.ok (λ name said same. full_stops _ _ c.in_ok-size.at c.args.kind
    c.in_ok-size.size c.args.lines name said same c.in_ok-size.ensures.ok (omega arith) (c.is_full.ensures.full c.if-is_full.true))

pub returns-in_err-take_words-clause-err : goal.returns-in_err-take_words-clause-err
returns-in_err-take_words-clause-err c =
    passes_on (StopsAtSize c.args.tokens.now c.args.kind c.args.lines) c.from_residual-in_err-take_words.result c.from_residual-in_err-take_words.ensures.1
    (size_stops _ _ _ c.args.kind c.args.lines c.in_ok-take_word.ensures.ok (λ name said same. stops_later _ (sized _ _ c.in_ok-size.at c.args.kind
    c.in_ok-size.size c.args.lines name said same c.in_ok-size.ensures.ok (omega arith) (c.is_full.ensures.room c.if-is_full.false))
    (c.in_err-take_words.ensures.err.says _)))

pub returns-clause-ok : goal.returns-clause-ok
returns-clause-ok c = record {
  some = omega arith;
  room = c.is_full.ensures.room c.if-is_full.false;
  says = λ name said same. reads_then (c.in_ok-take_word.ensures.ok.says _) (reads_then (sized _ _ c.in_ok-size.at c.args.kind
      c.in_ok-size.size c.args.lines name said same c.in_ok-size.ensures.ok (omega arith) (c.is_full.ensures.room c.if-is_full.false))
      (c.in_ok-take_words.ensures.ok.says _));
}
