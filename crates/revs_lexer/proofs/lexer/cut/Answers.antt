use Rattle.std.proofs.Common.{length, drop, sym, ap, ◌∙◌, subst, arith, []}
use Rattle.std.proofs.lemmas.Bool.{eqb-true}
use Rattle.std.proofs.lemmas.List.{nil_from_length, drop-drop}
use Rattle.revs_lexer.specs.inside.Packed.{tokens_of}
use Rattle.revs_lexer.proofs.CutLemmas.{Underway, underway_past, underway_at_end, underway_at_refusal, closed_at_end}
use Rattle.revs_lexer.proofs.PackedLemmas.{ends_packed, within-push}
use Rattle.revs_lexer.proofs.LineLemmas.{piece_line}
use Rattle.revs_lexer.proofs.lexer.cut.Goals as goal
use Rattle.revs_lexer.proofs.lexer.cut.Goals.{After-new}
use Rattle.revc_base.proofs.ResultLemmas.{passes_on}

-- the piece at the front is refused, and so the text is
pub returns-in_err-len-clause-refused : goal.returns-in_err-len-clause-refused
returns-in_err-len-clause-refused c =
    passes_on _ c.from_residual.result c.from_residual.ensures.1
    (λ own. underway_at_refusal c.args.text.now _ c.loop-rest.at c.loop-rest.rest.now c.in_err-len.field-0.0
    c.loop-rest.invariant.underway (c.in_err-len.ensures.refused own))

pub loop-rest-preserved : goal.loop-rest-preserved
loop-rest-preserved c =
    let parts = c.split_at.ensures in
    let taken = c.in_ok-len.ensures.taken.in_whole c.args.text.now c.loop-rest.invariant.end in
    record {
      underway = rw (c.place_behind-at.ensures.place, parts.front, parts.back)
          (underway_past c.args.text.now _ _ c.loop-rest.at c.loop-rest.rest.now c.in_ok-len.len
          c.loop-rest.invariant.underway taken.takes);
      within = taken.within c.loop-rest.invariant.within;
      end = sym (drop-drop c.in_ok-len.len c.loop-rest.start c.args.text.now) ∙ ap (drop c.in_ok-len.len) c.loop-rest.invariant.end ∙ sym parts.back;
      passed = omega (arith, parts.back_len, c.loop-rest.invariant.passed);
      line = c.place_behind-at.ensures.line;
      column = c.place_behind-at.ensures.column;
      room = omega (arith, c.place_behind-at.ensures.room, parts.front_len, parts.back_len, c.loop-rest.invariant.room);
    }

-- nothing is left
ended : (c : After-new) → Underway c.args.text.now (tokens_of c.args.text.now c.loop-rest.packed.items) c.loop-rest.at []
ended c =
    let none = nil_from_length c.loop-rest.rest.now (eqb-true (length c.loop-rest.rest.now) 0 (sym c.is_empty.ensures ∙ c.loop-rest-test.false)) in
    subst (Underway c.args.text.now (tokens_of c.args.text.now c.loop-rest.packed.items) c.loop-rest.at) none c.loop-rest.invariant.underway

pub returns-clause-tokens : goal.returns-clause-tokens
returns-clause-tokens c =
    let ts = tokens_of c.args.text.now c.loop-rest.packed.items in (
      ts,
      underway_at_end c.args.text.now ts c.loop-rest.at (ended c),
      c.new.ensures ∙ ends_packed c.args.text.now c.loop-rest.at c.loop-rest.packed.items _ c.in_ok-push.ensures.items ∙ closed_at_end c.args.text.now ts
          c.loop-rest.at (ended c),
    )

pub new-requires : goal.new-requires
new-requires c = rw c.in_ok-push.ensures.items (within-push c.args.text.now c.loop-rest.packed.items _ c.loop-rest.invariant.within tt)

pub place_behind-at-requires-clause-one_line : goal.place_behind-at-requires-clause-one_line
place_behind-at-requires-clause-one_line c =
    let taken = c.in_ok-len.ensures.taken.in_whole c.args.text.now c.loop-rest.invariant.end in
    rw c.split_at.ensures.front (piece_line c.loop-rest.at c.loop-rest.rest.now c.in_ok-len.len _ _ taken.takes)
