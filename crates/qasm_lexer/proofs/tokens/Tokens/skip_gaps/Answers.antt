use Rattle.std.proofs.Common.{List, ℕ, ap, subst, arith}
use Rattle.qasm_lexer.specs.Tokens.{Left}
use Rattle.qasm_lexer.proofs.MoveLemmas.{IsGapLen, moves_none, moves_then, gap_moved}
use Rattle.qasm_lexer.proofs.tokens.Tokens.skip_gaps.Goals as goal

pub loop-len-init : goal.loop-len-init
loop-len-init c =
    let found : IsGapLen c.self.inside.rest.now c.gap_len-len.result =
    record { within = c.gap_len-len.ensures.in_range; found = c.gap_len-len.ensures.found; none = c.gap_len-len.ensures.none } in
    record {
      moves = moves_none c.args.self.now;
      gap = subst (λ (bytes : List ℕ). IsGapLen bytes c.gap_len-len.result) (ap (λ (v : Left). v.bytes) c.self.view_is) found;
    }

pub loop-len-preserved : goal.loop-len-preserved
loop-len-preserved c =
    let found : IsGapLen c.self-in-loop-len.inside.rest.now c.gap_len-len-in-loop-len.result = record {
      within = c.gap_len-len-in-loop-len.ensures.in_range;
      found = c.gap_len-len-in-loop-len.ensures.found;
      none = c.gap_len-len-in-loop-len.ensures.none;
    } in
    record {
      moves = moves_then c.loop-len.invariant.moves (gap_moved c.loop-len.self c.take.new.self c.loop-len.len c.take.ensures.rest c.take.ensures.place
          (c.loop-len.invariant.gap.found (omega arith)));
      gap = subst (λ (bytes : List ℕ). IsGapLen bytes c.gap_len-len-in-loop-len.result) (ap (λ (v : Left). v.bytes) c.self-in-loop-len.view_is) found;
    }
