-- A block as a range.
use Rattle.std.proofs.Common.{◌≡◌, ℕ, ◌+◌, ◌≤◌, Bool, true, false, List, length, refl, sym, arith}
use Rattle.std.proofs.lemmas.Bool.{false≢true}
use Rattle.list_facts.specs.Bits.{bit_of}
use Rattle.circuit_plans.specs.declared.plan.PlanFault.{PlanFault}
use Rattle.held_nodes.specs.Held.{ForwardView, is_held}
use Rattle.bennett_pebbling.specs.inside.Changes.{IsChanged, IsChangeFault, IsRisen, IsRiseFault, IsThrifty}
use Rattle.bennett_pebbling.specs.inside.Costs.{Allows, IsCovered, IsMove, IsShort, block_room, block_toggles, counted, reach_of, toggles_at}
use Rattle.bennett_pebbling.specs.inside.Marks.{AreHeld, differ}
use Rattle.bennett_pebbling.proofs.CostLemmas.{room_at-larger, toggles_at-larger}
use Rattle.bennett_pebbling.proofs.MoveLemmas.{move-weaker, no_move, short-weaker}

differ_none : (a b : Bool) → differ a b ≡ false → a ≡ b
differ_none true true e = refl
differ_none true false e = absurd (false≢true (sym e))
differ_none false true e = absurd (false≢true (sym e))
differ_none false false e = refl

-- nothing is to be changed
pub unchanged : (f : ForwardView) (block lo : ℕ) (wanted : List Bool) → AreHeld f.lines lo wanted → IsChanged f block lo wanted f
unchanged f block lo wanted held = record {
  exactly = record {
    inside = λ k low. differ_none (is_held f.lines (lo + k)) (bit_of wanted k) (held.each k low);
    outside = λ k out. refl;
  };
  thrifty = record {
    graph = refl;
    budget = refl;
    move = λ level width allowed c a. no_move f (reach_of f block level width allowed) (toggles_at block level);
  };
}

-- a range within one block costs no more than blocks may
block_costs : (f : ForwardView) (block count level width : ℕ) (allowed : ℕ → Bool) → 1 ≤ block → count ≤ block
    → (counted allowed (length f.graph.nodes) + block_room count (length f.graph.nodes) ≤ reach_of f block level width allowed)
    × (block_toggles count ≤ toggles_at block level)
block_costs f block count level width allowed some within =
    let n = length f.graph.nodes in
    (omega (arith, room_at-larger count block n width level some within), toggles_at-larger count block level some within)

within_blocks : (f : ForwardView) (block lo : ℕ) (wanted : List Bool) (Costs : ℕ → ℕ → Type 0)
    → ((reach more toggles larger : ℕ) → reach ≤ more → toggles ≤ larger → Costs reach toggles → Costs more larger) → 1 ≤ block → length wanted ≤ block
    → ((level width : ℕ) (allowed : ℕ → Bool) → IsCovered f.graph (length wanted) (length wanted) level width → Allows f lo wanted allowed
    → Costs (reach_of f (length wanted) level width allowed) (toggles_at (length wanted) level))
    → (level width : ℕ) (allowed : ℕ → Bool) → IsCovered f.graph block (length wanted) level width → Allows f lo wanted allowed
    → Costs (reach_of f block level width allowed) (toggles_at block level)
within_blocks f block lo wanted Costs weaker some within all level width allowed c a =
    let n = length f.graph.nodes in
    let costs = block_costs f block (length wanted) level width allowed some within in
    weaker (counted allowed n + block_room (length wanted) n) (reach_of f block level width allowed) (block_toggles (length wanted))
    (toggles_at block level) costs.0 costs.1 (all 0 width allowed (record { cuts = c.cuts; enough = omega arith }) a)

thrifty_block : (f next : ForwardView) (block lo : ℕ) (wanted : List Bool) → 1 ≤ block → length wanted ≤ block
    → IsThrifty f (length wanted) lo wanted next → IsThrifty f block lo wanted next
thrifty_block f next block lo wanted some within t = record {
  graph = t.graph;
  budget = t.budget;
  move = within_blocks f block lo wanted (λ reach toggles. IsMove f reach toggles next)
      (λ reach more toggles larger. move-weaker f next reach more toggles larger) some within t.move;
}

module _ {f : ForwardView} {block lo : ℕ} {wanted : List Bool} (some : 1 ≤ block) (within : length wanted ≤ block) where
  pub changed_block : (next : ForwardView) → IsChanged f (length wanted) lo wanted next → IsChanged f block lo wanted next
  changed_block next t = record { exactly = t.exactly; thrifty = thrifty_block f next block lo wanted some within t.thrifty }

  pub short_block : (e : PlanFault) → IsChangeFault f (length wanted) lo wanted e → IsChangeFault f block lo wanted e
  short_block e t = record {
    need = t.need;
    short = within_blocks f block lo wanted (λ reach toggles. IsShort f reach toggles e)
        (λ reach more toggles larger. short-weaker f reach more toggles larger e) some within t.short;
  }

  pub risen_block : (next : ForwardView) → IsRisen f (length wanted) lo wanted next → IsRisen f block lo wanted next
  risen_block next t = record {
    inside = t.inside;
    outside = t.outside;
    thrifty = thrifty_block f next block lo wanted some within t.thrifty;
    plain = λ low. t.plain (omega arith);
  }

  pub rise_short_block : (e : PlanFault) → IsRiseFault f (length wanted) lo wanted e → IsRiseFault f block lo wanted e
  rise_short_block e t = record { change = short_block e t.change; plain = λ low. t.plain (omega arith) }
