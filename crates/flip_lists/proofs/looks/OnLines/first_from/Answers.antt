use Rattle.std.proofs.Common.{rules, ◌≡◌, ◌∙◌, ltb, slice_get, sym, ap, subst, length, ◌<◌, get_or}
use Rattle.std.proofs.lemmas.Bool.{ltb-true}
use Rattle.std.proofs.lemmas.List.Sorted.{IsPartitionPoint-from_clause}
use Rattle.std.specs.List.Sorted.{IsNonDecreasing}
use Rattle.flip_lists.specs.Looks.{first_from, line_places}
use Rattle.flip_lists.proofs.IndexLemmas.{places_at-read}
use Rattle.flip_lists.proofs.OnLineLemmas.{copied_at, first_at, rising_parted}
use Rattle.flip_lists.proofs.looks.OnLines.first_from.Goals as goal

pub returns : goal.returns
returns c = λ rises.
    let from = c.args.from in
    let line = c.args.line in
    let xs = c.as_slice.result.now in
    let within : line < length c.deref.result.now = ltb-true line (length c.deref.result.now) (sym c.in_ok-places.ensures.lookup.0) in
    let read = c.in_ok-places.ensures.lookup.1 in
    let same : line_places c.args.self.now line ≡ xs =
    places_at-read c.args.self.now.places.items line c.in_ok-places.places.now (subst (λ vs. line < length vs) c.deref.ensures.value within)
    (subst (λ vs. c.in_ok-places.places.now ≡ get_or vs line c.in_ok-places.places.now) c.deref.ensures.value read) ∙ sym c.as_slice.ensures.value in
    let point =
    IsPartitionPoint-from_clause (λ y. ltb y from) xs _ c.partition_point-before.ensures.partitioned (rising_parted from xs (subst IsNonDecreasing same rises))
    (λ a r q k. search rules) in
    let got : c.copied.result ≡ slice_get xs c.partition_point-before.result =
    c.copied.ensures ∙ copied_at c.deref-2.result.now c.partition_point-before.result c.get-2.result c.get-2.ensures.lookup.0 c.get-2.ensures.lookup.1
    ∙ ap (λ ys. slice_get ys c.partition_point-before.result) (c.deref-2.ensures.value ∙ sym c.as_slice.ensures.value) in
    got ∙ first_at from xs c.partition_point-before.result c.partition_point-before.ensures.bound point ∙ ap (first_from from) (sym same)
