use Rattle.std.proofs.Common.{Bool, sym, ap, ◌∙◌}
use Rattle.std.proofs.lemmas.Bool.{false≢true, true≢false}
use Rattle.list_facts.specs.Bits.{bit_of}
use Rattle.bennett_pebbling.specs.inside.Marks.{differ}
use Rattle.bennett_pebbling.proofs.needs.is_held_so.Goals as goal

pub returns-then-differ-clause-held : goal.returns-then-differ-clause-held
returns-then-differ-clause-held c = λ e. absurd (true≢false (sym e))

pub returns-then-differ-clause-differ : goal.returns-then-differ-clause-differ
returns-then-differ-clause-differ c = λ e held.
    false≢true (sym (held.each c.loop-k.k c.loop-k-test.true)
    ∙ ap (λ (h : Bool). differ h (bit_of c.args.wanted.now c.loop-k.k)) (sym c.held.ensures.held) ∙ sym c.differ.ensures ∙ c.if-differ.true)
