use Rattle.std.proofs.Common.{◌∙◌, ◌-◌, sym, ap, take}
use Rattle.std.specs.Vec.{vec_len}
use Rattle.std.proofs.lemmas.Bool.{eqb-true}
use Rattle.std.proofs.lemmas.List.{nil_from_length}
use Rattle.flip_lists.proofs.IndexLemmas.{finds_there, finds_none, passes_last, some_left}
use Rattle.flip_lists.proofs.index.behind_last.Goals as goal

pub returns-then-is_some : goal.returns-then-is_some
returns-then-is_some c =
    finds_there c.args.slots.now c.args.places.now.items c.emptied.places.items c.len.result c.index-place.result.now (c.len.ensures ∙ c.emptied.places.ok.0)
    (some_left (vec_len c.emptied.places) c.len.result c.is_empty.result c.is_empty.ensures c.emptied-test.true c.len.ensures) c.index-place.ensures
    c.if-is_some.ensures c.emptied.invariant.1

pub emptied-preserved : goal.emptied-preserved
emptied-preserved c =
    passes_last c.args.slots.now c.args.places.now.items c.emptied.places.items c.pop.new.self.items c.len.result c.index-place.result.now
    (c.len.ensures ∙ c.emptied.places.ok.0)
    (some_left (vec_len c.emptied.places) c.len.result c.is_empty.result c.is_empty.ensures c.emptied-test.true c.len.ensures) c.index-place.ensures
    c.if-is_some.ensures (c.pop.ensures.rest ∙ ap (λ n. take (n - 1) c.emptied.places.items) (sym c.len.ensures)) c.emptied.invariant.0 c.emptied.invariant.1

pub returns : goal.returns
returns c =
    finds_none c.args.slots.now c.args.places.now.items c.emptied.places.items
    (nil_from_length c.emptied.places.items (sym c.emptied.places.ok.0 ∙ eqb-true (vec_len c.emptied.places) 0 (sym c.is_empty.ensures ∙ c.emptied-test.false)))
    c.emptied.invariant.1
