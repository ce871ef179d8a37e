use Rattle.std.proofs.Common.{Bool, List, ℕ, [], ◌∷◌, ◌++◌, ◌∙◌, ap, arith, refl}
use Rattle.std.proofs.lemmas.List.{drop_more}
use Rattle.real_format.specs.declared.file.Mark.TheVariants.{Free}
use Rattle.command_answers.specs.BitWords.{bits_of}
use Rattle.circuit_commands.specs.Run.{started}
use Rattle.circuit_commands.proofs.RunLemmas.{stepped, starts_more, starts_all, step_below}
use Rattle.circuit_commands.proofs.run.start.Goals as goal

pub loop-mark-init : goal.loop-mark-init
loop-mark-init c = (rw c.new-lines.ensures.items refl, omega arith)

pub overflow_add-next : goal.overflow_add-next
overflow_add-next c =
    let low = c.loop-mark.invariant.1 in
    let step = step_below c.from-next.result _ c.from-next.ensures in
    omega arith

pub loop-mark-preserved : goal.loop-mark-preserved
loop-mark-preserved c =
    let low = c.loop-mark.invariant.1 in
    let step = step_below c.from-next.result _ c.from-next.ensures in (
      starts_more c.args.marks.now (bits_of c.as_bytes-digits.result.now) _ c.loop-mark.lines.items c.loop-mark.mark-index c.loop-mark.next _ _
          (drop_more c.args.marks.now c.loop-mark.mark-index Free c.loop-mark-test.true) c.loop-mark.invariant.0
          (◌∙◌ {A = List Bool} c.in_ok-push.ensures.items (ap (λ (bit : Bool). c.loop-mark.lines.items ++ bit ∷ []) c.first_bit.ensures))
          (stepped _ (bits_of c.as_bytes-digits.result.now) c.loop-mark.next c.from-next.result _ c.from-next.ensures c.is_free.ensures),
      omega arith,
    )

pub returns : goal.returns
returns c =
    starts_all c.args.marks.now (bits_of c.as_bytes-digits.result.now) c.loop-mark.lines.items c.loop-mark.mark-index c.loop-mark.next c.loop-mark-test.false
    c.loop-mark.invariant.0
    ∙ ap (λ (word : List ℕ). started c.args.marks.now (bits_of word)) c.as_bytes-digits.ensures.value
