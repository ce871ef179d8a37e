-- The ANDs of a graph are ANDs of its tape.
use Rattle.std.proofs.Common.{ℕ, ◌+◌, ◌≤◌, Bool, true, false, ◌&&◌, inl, inr, List, [], ◌∷◌, arith}
use Rattle.std.specs.Bool.{xor}
use Rattle.std.specs.List.{sum_by}
use Rattle.std.proofs.lemmas.List.Sums.{sum_by-append, sum_by-cons}
use Rattle.std.proofs.lemmas.Bool.{cases_Bool}
use Rattle.revs_tape.specs.declared.tape.Entry.{Entry}
use Rattle.revs_tape.specs.declared.tape.Entry.TheVariants as entries
use Rattle.revs_tape.specs.Measures as writes
use Rattle.revs_tape.specs.Tapes.{TapeView}
use Rattle.dependency_graph.specs.declared.fold.Reduct.{Reduct}
use Rattle.dependency_graph.specs.declared.fold.Reduct.TheVariants.{Known, New}
use Rattle.dependency_graph.specs.declared.node.Base.{Base}
use Rattle.dependency_graph.specs.declared.node.Node.{Node}
use Rattle.dependency_graph.specs.declared.node.Node.TheVariants.{Xor, And}
use Rattle.dependency_graph.specs.declared.node.Sig.{Sig}
use Rattle.dependency_graph.specs.declared.node.Sig.TheVariants.{Const, Is}
use Rattle.dependency_graph.specs.Graphs.{and_count, ands_in, sig_of}
use Rattle.dependency_graph.specs.Folds.{FoldView, is_same, and_constant, folded_pair, xor_constant}
use Rattle.dependency_graph.specs.Folds.{folded, with_folded, with_write, folded_by, nothing_folded, graph_of}

-- ---- one write

-- the ANDs that come with what a write was folded to
abbrev new_ands : Reduct → ℕ
new_ands (Known sig) = 0
new_ands (New node) = and_count node

-- no more than come with a constant and a base, and than a node is
pair_ands : (most : ℕ) (bits : Bool → Bool → Bool) (mixed : Bool → Base → Reduct) (twice : Base → Sig) (node : Base → Base → Node)
    → ((bit : Bool) (base : Base) → new_ands (mixed bit base) ≤ most) → ((a b : Base) → and_count (node a b) ≤ most)
    → (a b : Sig) → new_ands (folded_pair bits mixed twice node a b) ≤ most
pair_ands most bits mixed twice node few one (Const a) (Const b) = omega arith
pair_ands most bits mixed twice node few one (Const bit) (Is base) = few bit base
pair_ands most bits mixed twice node few one (Is base) (Const bit) = few bit base
pair_ands most bits mixed twice node few one (Is a) (Is b) = elim (cases_Bool (is_same a b)) [
  | inl e ↦ rw e (omega arith)
  | inr e ↦ rw e (one a b)
]

xor_has_none : (bit : Bool) (base : Base) → new_ands (xor_constant bit base) ≤ 0
xor_has_none true base = omega arith
xor_has_none false base = omega arith

and_has_none : (bit : Bool) (base : Base) → new_ands (and_constant bit base) ≤ 1
and_has_none true base = omega arith
and_has_none false base = omega arith

folded_ands : (sigs : List Sig) (e : Entry) → new_ands (folded sigs e) ≤ writes.and_count e
folded_ands sigs (entries.Const bit) = omega arith
folded_ands sigs (entries.Xor a b) =
    pair_ands 0 xor xor_constant (λ base. Const false) Xor xor_has_none (λ a b. omega arith) (sig_of sigs a) (sig_of sigs b)
folded_ands sigs (entries.And a b) =
    pair_ands 1 ◌&&◌ and_constant Is And and_has_none (λ a b. omega arith) (sig_of sigs a) (sig_of sigs b)

-- ---- all writes

ands_with : (f : FoldView) (x : Reduct) → ands_in (with_folded f x).nodes ≤ ands_in f.nodes + new_ands x
ands_with f (Known sig) = omega arith
ands_with f (New node) = omega (arith, sum_by-append and_count f.nodes (node ∷ []), sum_by-cons and_count node [])

ands_by : (f : FoldView) (es : List Entry) → ands_in (folded_by f es).nodes ≤ ands_in f.nodes + sum_by writes.and_count es
ands_by f [] = omega arith
ands_by f (e ∷ es) =
    omega (arith, ands_by (with_write f e) es, ands_with f (folded f.sigs e), folded_ands f.sigs e, sum_by-cons writes.and_count e es)

pub graph_ands : (t : TapeView) → ands_in (graph_of t).nodes ≤ writes.ands_of t
graph_ands t = omega (arith, ands_by nothing_folded t.entries)
