use Rattle.std.proofs.Common.{◌≡◌, ◌∙◌, ap, map, take, subst, sym, arith}
use Rattle.std.specs.List.{AllByRecursion}
use Rattle.circuit_tidy.specs.Blocks.{addition_of, cx}
use Rattle.circuit_tidy.specs.Elimination.{eliminated}
use Rattle.circuit_tidy.specs.inside.BitRows.{IsCxOn}
use Rattle.circuit_tidy.proofs.BlockLemmas.{no_cx_passed, block_on, block_longer, block_passed, cut_of}
use Rattle.circuit_tidy.proofs.blocks.front_of.Goals as goal
use Rattle.circuit_tidy.proofs.blocks.front_of.Goals.{After-len}

shorter_is : (c : After-len) → c.in_ok-shorter.shorter.items
    ≡ map cx (eliminated c.in_ok-block.block.lines.items (map addition_of (take c.in_ok-block.block.length c.args.flips.now)))
shorter_is c =
    c.in_ok-shorter.ensures ∙ ap (λ l. map cx (eliminated l (map addition_of c.split_at.result.0.now))) c.deref.ensures.value
    ∙ ap (λ b. map cx (eliminated c.in_ok-block.block.lines.items (map addition_of b))) c.split_at.ensures.front

pub returns-then-not-is_cx : goal.returns-then-not-is_cx
returns-then-not-is_cx c = record {
  some = omega arith;
  within = c.requires;
  answer = no_cx_passed c.args.flips.now _ c.requires (sym c.if-not-is_cx.ensures);
}

pub elimination-requires-clause-block : goal.elimination-requires-clause-block
elimination-requires-clause-block c =
    let block = c.in_ok-block.ensures in
    subst (λ l. AllByRecursion (IsCxOn l) c.split_at.result.0.now) (sym c.deref.ensures.value)
    (subst (AllByRecursion (IsCxOn c.in_ok-block.block.lines.items)) (sym c.split_at.ensures.front)
    (block_on _ c.in_ok-block.block.lines.items block.cxs block.touched))

pub returns-then-len-length : goal.returns-then-len-length
returns-then-len-length c =
    let block = c.in_ok-block.ensures in
    let less = c.if-len-length.true in let size = c.len.ensures in let ok = c.in_ok-shorter.shorter.ok.0 in record {
      some = block.some;
      within = block.within;
      answer = block_longer c.args.flips.now c.in_ok-block.block.length c.in_ok-block.block.lines.items c.in_ok-shorter.shorter.items
          (cut_of c.args.flips.now c.in_ok-block.block block) (shorter_is (goal.at.returns-then-len-length c).After-len) (omega arith);
    }

pub returns : goal.returns
returns c = record {
  some = c.in_ok-block.ensures.some;
  within = c.in_ok-block.ensures.within;
  answer = block_passed c.args.flips.now c.in_ok-block.block.length c.in_ok-block.block.lines.items c.in_ok-shorter.shorter.items
      (cut_of c.args.flips.now c.in_ok-block.block c.in_ok-block.ensures) (shorter_is (goal.at.returns c).After-len)
      (omega (arith, c.if-len-length.false, c.len.ensures, c.in_ok-shorter.shorter.ok.0));
}
