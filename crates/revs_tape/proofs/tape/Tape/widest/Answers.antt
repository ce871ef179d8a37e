use Rattle.std.proofs.Common.{rules, ◌≡◌, ◌<◌, ◌+◌, ◌-◌, suc, List, [], Bool, false, ◌∷◌, ◌++◌, length, take, drop, slice_index_or, subst, sym, arith}
use Rattle.std.proofs.lemmas.Grind.{common_steps}
use Rattle.revs_tape.specs.declared.tape.Entry.TheVariants as entries
use Rattle.revs_tape.proofs.WidthLemmas.{IsCounted, counted_begin, counted_again, counted_end, cut_where, written_back}
use Rattle.revs_tape.proofs.tape.Tape.widest.Goals as goal

pub loop-is_needed-init : goal.loop-is_needed-init
loop-is_needed-init c = rw c.requires.set (counted_begin c.args.self.now c.args.marks.now.items c.requires.marks)

pub loop-is_needed-preserved : goal.loop-is_needed-preserved
loop-is_needed-preserved c =
    let t = c.args.self.now in
    let front = c.pop.new.self.items in
    let more = c.mark_operands-live.new.marks in
    let cut : c.loop-is_needed.marks.items ≡ front ++ c.in-Some.is_needed ∷ [] = c.in-Some.ensures.items in
    let size : length c.loop-is_needed.marks.items ≡ suc (length front) = grind (arith, common_steps, cut) in
    let inside : length front < length t.entries = omega (arith, size, c.loop-is_needed.invariant.short) in
    let place : c.len.result ≡ length front = search rules in
    let whole : take c.pop.new.self.len (more ++ drop (length more) front) ≡ more =
    written_back more (drop (length more) front) c.pop.new.self.len (search rules) in
    let next = cut_where t.entries c.entries.result.now (length front) c.len.result (entries.Const false) (search rules) place inside in
    subst (λ (z : List Bool). IsCounted t z (c.loop-is_needed.live - c.from-live.result + c.mark_operands-live.result) c.max-width.result) (sym whole)
    (counted_again t c.loop-is_needed.marks.items front c.deref_mut.result.now more c.in-Some.is_needed
    (slice_index_or c.entries.result.now c.len.result (entries.Const false))
    c.loop-is_needed.live c.loop-is_needed.width c.from-live.result c.mark_operands-live.result c.max-width.result
    c.loop-is_needed.invariant cut c.deref_mut.ensures.value c.mark_operands-live.ensures.marks c.mark_operands-live.ensures.added
    next (search rules) c.max-width.ensures)

pub returns : goal.returns
returns c =
    let t = c.args.self.now in
    let none : c.loop-is_needed.marks.items ≡ [] = search rules in
    counted_end t c.loop-is_needed.live c.loop-is_needed.width
    (subst (λ (z : List Bool). IsCounted t z c.loop-is_needed.live c.loop-is_needed.width) none c.loop-is_needed.invariant)
