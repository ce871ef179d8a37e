use Rattle.std.proofs.Common.{◌≡◌, ◌+◌, ◌∙◌, ◌∷◌, [], ap, length, length-append, arith, Bool, ℕ}
use Rattle.list_facts.specs.Bits.{bit_of}
use Rattle.held_nodes.specs.Held.{is_held}
use Rattle.bennett_pebbling.specs.inside.Marks.{differ}
use Rattle.bennett_pebbling.proofs.NeedLemmas.{marks_more}
use Rattle.bennett_pebbling.proofs.needs.differing.Goals as goal

pub loop-k-preserved : goal.loop-k-preserved
loop-k-preserved c =
    let wanted = c.args.wanted.now in let k = c.loop-k.k in
    let long : length c.push.new.self.items ≡ k + 1 =
    omega (arith, ap length c.in_ok-push.ensures.items, length-append c.loop-k.marks.items (c.differ.result ∷ []), c.loop-k.invariant.count) in
    record {
      count = long;
      marked =
          marks_more c.loop-k.marks.items c.push.new.self.items k c.differ.result
          (λ (j : ℕ). differ (is_held c.args.forward.now.lines (c.args.lo + j)) (bit_of wanted j)) c.loop-k.invariant.count c.in_ok-push.ensures.items
          (c.differ.ensures ∙ ap (λ (held : Bool). differ held (bit_of wanted k)) c.held.ensures.held) c.loop-k.invariant.marked;
    }

pub returns : goal.returns
returns c =
    let whole : c.loop-k.k ≡ length c.args.wanted.now = omega (arith, c.loop-k-test.false, c.loop-k.auto.k-end) in
    record { count = c.loop-k.invariant.count ∙ whole; marked = λ j low. c.loop-k.invariant.marked j (omega (arith, low, whole)) }
