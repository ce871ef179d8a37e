-- The kept part of a tape's graph is a settled graph of the tape.
use Rattle.std.proofs.Common.{◌≡◌, ◌≢◌, ℕ, suc, ◌+◌, ◌<◌, ◌≤◌, ◌==◌, Bool, true, false, cond, inl, inr, List, [], ◌∷◌, length, map, filter}
use Rattle.std.proofs.Common.{get_or, refl, sym, ap, ◌∙◌, subst, arith}
use Rattle.std.specs.List.{AllByRecursion, flat_map}
use Rattle.std.proofs.lemmas.Bool.{eqb-true, eq-eqb}
use Rattle.std.proofs.lemmas.List.{length-map}
use Rattle.list_facts.specs.Bits.{bit_of}
use Rattle.list_facts.specs.Lists.{IsAmong, AreDifferent, below}
use Rattle.list_facts.proofs.AllLemmas.{AllByRecursion-at, AllByRecursion-both, AllByRecursion-map, AllByRecursion-weaker}
use Rattle.list_facts.proofs.AmongLemmas.{all_from_among}
use Rattle.list_facts.proofs.OrderLemmas.{AreDifferent-rising, below_bound}
use Rattle.revs_tape.specs.declared.limits.TheConstants.{MOST_INPUTS, MOST_OUTPUTS}
use Rattle.revs_tape.specs.declared.tape.Ref.{Ref}
use Rattle.revs_tape.specs.declared.tape.Ref.TheVariants as refs
use Rattle.revs_tape.specs.Measures.{writes_of}
use Rattle.revs_tape.specs.Tapes.{TapeView, bit_on}
use Rattle.dependency_graph.specs.declared.node.Base.TheVariants as bases
use Rattle.dependency_graph.specs.declared.node.Sig.{Sig}
use Rattle.dependency_graph.specs.declared.node.Sig.TheVariants.{Const, Is}
use Rattle.dependency_graph.specs.Graphs.{GraphView, IsGraph, IsGraphOf, IsKnownSig, base_of, nodes_among, sig_of, value_on}
use Rattle.dependency_graph.proofs.CutLemmas.{filter_among}
use Rattle.dependency_graph.proofs.ReachLemmas.{one_number}
use Rattle.dependency_graph.proofs.UseLemmas.{filter_passes, IsRising-below}
use Rattle.list_facts.proofs.OrderLemmas.{IsRising-filter}
use Rattle.claim_check.specs.Settled.{IsSettled, IsSettledOf, settled_value}
use Rattle.claim_check.specs.Kept.{kept_part, rank, renumbered_sig}
use Rattle.claim_check.specs.Measures.{HaveOwnWrites}
use Rattle.claim_check.proofs.RankLemmas.{at_rank, rank_of, rank_within}
use Rattle.claim_check.proofs.KeptLemmas.{AreKept, IsClosed, base_known, kept_bases, nodes_known, sig_value}
use Rattle.claim_check.proofs.UsedLemmas.{each_is_used, length-part}

-- ---- outputs

abbrev pub IsKeptSig : (ℕ → Bool) → Sig → Type 0
IsKeptSig kept sig = AreKept kept (nodes_among (base_of sig))

kept_sigs : (kept : ℕ → Bool) (sigs : List Sig) → AreKept kept (nodes_among (flat_map base_of sigs)) → AllByRecursion (IsKeptSig kept) sigs
kept_sigs kept [] all = tt
kept_sigs kept (Const bit ∷ sigs) all = (tt, kept_sigs kept sigs all)
kept_sigs kept (Is (bases.Input i) ∷ sigs) all = (tt, kept_sigs kept sigs all)
kept_sigs kept (Is (bases.Node k) ∷ sigs) all = ((all.0, tt), kept_sigs kept sigs all.1)

sig_known : (kept : ℕ → Bool) (n k : ℕ) (sig : Sig) → IsKnownSig n k sig → IsKeptSig kept sig
    → IsKnownSig n (rank kept k) (renumbered_sig (rank kept) sig)
sig_known kept n k (Const bit) known is = tt
sig_known kept n k (Is base) known is = base_known kept n k base known (kept_bases kept (base ∷ []) is).0

sigs_known : (kept : ℕ → Bool) (n k : ℕ) (sigs : List Sig) → AllByRecursion (IsKnownSig n k) sigs → AllByRecursion (IsKeptSig kept) sigs
    → AllByRecursion (IsKnownSig n (rank kept k)) (map (renumbered_sig (rank kept)) sigs)
sigs_known kept n k [] known is = tt
sigs_known kept n k (sig ∷ sigs) known is = (sig_known kept n k sig known.0 is.0, sigs_known kept n k sigs known.1 is.1)

-- ---- it is a settled graph

pub part_is_settled : (g : GraphView) (kept : ℕ → Bool) → IsGraph g → IsClosed g kept → g.inputs ≤ MOST_INPUTS → length g.outputs ≤ MOST_OUTPUTS
    → IsSettled (kept_part g kept)
part_is_settled g kept is closed few_inputs few_outputs =
    let n = length g.nodes in
    let size = length-part g kept in
    record {
      nodes = nodes_known kept g.inputs 0 g.nodes is.nodes closed.nodes;
      outputs = subst (λ (z : ℕ). AllByRecursion (IsKnownSig g.inputs z) (kept_part g kept).outputs) (sym size)
          (sigs_known kept g.inputs n g.outputs is.outputs (kept_sigs kept g.outputs closed.outputs));
      used = each_is_used g kept is closed;
      few_inputs = few_inputs;
      few_outputs = omega (arith, few_outputs, length-map g.outputs (renumbered_sig (rank kept)));
      few_nodes = omega (arith, size, rank_within kept n, is.few, is.few_writes);
    }

-- ---- values

kept_value : (g : GraphView) (kept : ℕ → Bool) (input : List Bool) (sig : Sig) → IsGraph g → IsClosed g kept
    → IsKnownSig g.inputs (length g.nodes) sig → IsKeptSig kept sig
    → settled_value (kept_part g kept) input (renumbered_sig (rank kept) sig) ≡ value_on g (bit_of input) sig
kept_value g kept input sig is closed known also = sig_value g kept (bit_of input) sig is.nodes closed.nodes known also

kept_values : (g : GraphView) (kept : ℕ → Bool) (input : List Bool) (sigs : List Sig) → IsGraph g → IsClosed g kept
    → AllByRecursion (IsKnownSig g.inputs (length g.nodes)) sigs → AllByRecursion (IsKeptSig kept) sigs
    → map (settled_value (kept_part g kept) input) (map (renumbered_sig (rank kept)) sigs) ≡ map (value_on g (bit_of input)) sigs
kept_values g kept input [] is closed known also = refl
kept_values g kept input (sig ∷ sigs) is closed known also =
    ap (λ (b : Bool). b ∷ map (settled_value (kept_part g kept) input) (map (renumbered_sig (rank kept)) sigs))
    (kept_value g kept input sig is closed known.0 also.0)
    ∙ ap (λ (z : List Bool). value_on g (bit_of input) sig ∷ z) (kept_values g kept input sigs is closed known.1 also.1)

tape_values : (t : TapeView) (g : GraphView) (input : List Bool) (outs : List Ref) → IsGraphOf t g
    → map (value_on g (bit_of input)) (map (sig_of g.sigs) outs) ≡ map (bit_on t input) outs
tape_values t g input [] of = refl
tape_values t g input (ref ∷ outs) of =
    ap (λ (b : Bool). b ∷ map (value_on g (bit_of input)) (map (sig_of g.sigs) outs)) (of.values input ref)
    ∙ ap (λ (z : List Bool). bit_on t input ref ∷ z) (tape_values t g input outs of)

-- ---- the write of a node

is_node : ℕ → Sig → Bool
is_node k (Const bit) = false
is_node k (Is (bases.Input i)) = false
is_node k (Is (bases.Node j)) = j == k

-- the first write that became node k
place_of : List Sig → ℕ → ℕ
place_of [] k = 0
place_of (sig ∷ sigs) k = cond (is_node k sig) 0 (suc (place_of sigs k))

node_is : (k : ℕ) (sig : Sig) → is_node k sig ≡ true → sig ≡ Is (bases.Node k)
unfolding is_node
node_is k (Const bit) is = cc
node_is k (Is (bases.Input i)) is = cc
node_is k (Is (bases.Node j)) is = ap (λ (z : ℕ). Is (bases.Node z)) (eqb-true j k is)

one_node : (k : ℕ) → is_node k (Is (bases.Node k)) ≡ true
unfolding is_node
one_node k = eq-eqb k k refl

record IsPlace (sigs : List Sig) (k place : ℕ) : Type 0 where
  low : place + 1 ≤ length sigs
  is : get_or sigs place (Const false) ≡ Is (bases.Node k)

placed_step : (sig : Sig) (sigs : List Sig) (k : ℕ) (b : Bool) → is_node k sig ≡ b → (IsAmong (Is (bases.Node k)) sigs → IsPlace sigs k (place_of sigs k))
    → IsAmong (Is (bases.Node k)) (sig ∷ sigs) → IsPlace (sig ∷ sigs) k (cond b 0 (suc (place_of sigs k)))
placed_step sig sigs k true e later among = record { low = omega arith; is = node_is k sig e }
placed_step sig sigs k false e later among = elim among as (λ _. IsPlace (sig ∷ sigs) k (suc (place_of sigs k))) [
  | inl same ↦ absurd (let clash : true ≡ false = sym (one_node k) ∙ ap (is_node k) same ∙ e in cc)
  | inr there ↦ let found = later there in record { low = omega (arith, found.low); is = found.is }
]

placed : (sigs : List Sig) (k : ℕ) → IsAmong (Is (bases.Node k)) sigs → IsPlace sigs k (place_of sigs k)
unfolding place_of
placed [] k among = absurd among
placed (sig ∷ sigs) k among = placed_step sig sigs k (is_node k sig) refl (λ there. placed sigs k there) among

one_place : (sigs : List Sig) (j k : ℕ) → IsPlace sigs j (place_of sigs j) → IsPlace sigs k (place_of sigs k) → place_of sigs j ≡ place_of sigs k → j ≡ k
one_place sigs j k at there same =
    one_number j k (sym at.is ∙ ap (λ (z : ℕ). get_or sigs z (Const false)) same ∙ there.is)

different_map : (f : ℕ → ℕ) (xs : List ℕ) (P : ℕ → Type 0) → ((x y : ℕ) → P x → P y → f x ≡ f y → x ≡ y) → AllByRecursion P xs → AreDifferent xs
    → AreDifferent (map f xs)
different_map f [] P one all d = tt
different_map f (x ∷ xs) P one all d = (
  AllByRecursion-map (λ y. f x ≢ y) f xs
      (AllByRecursion-both (λ y. x ≢ y) P (λ y. f x ≢ f y) (λ y ne p e. ne (one x y all.0 p e)) xs d.0 all.1),
  different_map f xs P one all.1 d.1,
)

-- ---- the nodes of the kept part

module _ (t : TapeView) (g : GraphView) (kept : ℕ → Bool) (of : IsGraphOf t g) (is : IsGraph g) (closed : IsClosed g kept) where
  write_value : (k : ℕ) → k + 1 ≤ length g.nodes → kept k ≡ true → (input : List Bool)
      → settled_value (kept_part g kept) input (Is (bases.Node (rank kept k))) ≡ bit_on t input (refs.Write (place_of g.sigs k))
  write_value k low are input =
      let place = placed g.sigs k (is.made k (omega (arith, low))) in
      kept_value g kept input (Is (bases.Node k)) is closed (omega (arith, low)) (are, tt)
      ∙ ap (value_on g (bit_of input)) (sym place.is)
      ∙ of.values input (refs.Write (place_of g.sigs k))

  abbrev writes_kept : List ℕ
  writes_kept = map (place_of g.sigs) (filter kept (below (length g.nodes)))

  write_of_number : (number : ℕ) → number < length (kept_part g kept).nodes → (input : List Bool)
      → settled_value (kept_part g kept) input (Is (bases.Node number)) ≡ bit_on t input (refs.Write (get_or writes_kept number 0))
  write_of_number number low input =
      let found = rank_of kept (length g.nodes) number (omega (arith, low, length-part g kept)) in
      ap (λ (z : ℕ). settled_value (kept_part g kept) input (Is (bases.Node z))) (sym found.is)
      ∙ write_value found.at found.below found.are_kept input
      ∙ ap (λ (z : ℕ). bit_on t input (refs.Write z))
      (sym (at_rank kept (place_of g.sigs) (length g.nodes) found.at 0 found.are_kept (omega (arith, found.below))))
      ∙ ap (λ (z : ℕ). bit_on t input (refs.Write (get_or writes_kept z 0))) found.is

  numbers_kept : AllByRecursion (λ k. (k + 1 ≤ length g.nodes) × (kept k ≡ true)) (filter kept (below (length g.nodes)))
  numbers_kept =
      let n = length g.nodes in
      all_from_among (λ k. (k + 1 ≤ n) × (kept k ≡ true)) (filter kept (below n))
      (λ k among. (omega (arith, below_bound n k (filter_among kept k (below n) among)), filter_passes kept k (below n) among))

  pub own_writes : HaveOwnWrites t (kept_part g kept)
  own_writes =
      let n = length g.nodes in
      let numbers = filter kept (below n) in
      let place = place_of g.sigs in
      let size : length writes_kept ≡ rank kept n = length-map numbers place in
      let made_at : (k : ℕ) → k + 1 ≤ n → IsPlace g.sigs k (place k) = λ k low. placed g.sigs k (is.made k (omega (arith, low))) in
      record {
        writes = writes_kept;
        one_each = omega (arith, size, length-part g kept);
        different = different_map place numbers (λ k. k + 1 ≤ n)
            (λ j k low high same. one_place g.sigs j k (made_at j low) (made_at k high) same)
            (AllByRecursion-weaker (λ k. (k + 1 ≤ n) × (kept k ≡ true)) (λ k. k + 1 ≤ n) (λ k both. both.0) numbers numbers_kept)
            (AreDifferent-rising numbers (IsRising-filter kept (below n) (IsRising-below n)));
        known = AllByRecursion-map (λ write. write < writes_of t) place numbers
            (AllByRecursion-weaker (λ k. (k + 1 ≤ n) × (kept k ≡ true)) (λ k. place k < writes_of t)
            (λ k both. omega (arith, (made_at k both.0).low, of.writes)) numbers numbers_kept);
        same = write_of_number;
      }

  pub part_is_of : IsSettledOf t (kept_part g kept)
  part_is_of =
      let own = own_writes in
      record {
        inputs = of.inputs;
        outputs = length-map g.outputs (renumbered_sig (rank kept)) ∙ ap length of.outputs ∙ length-map t.outputs (sig_of g.sigs);
        values = λ input.
            kept_values g kept input g.outputs is closed is.outputs (kept_sigs kept g.outputs closed.outputs)
            ∙ ap (map (value_on g (bit_of input))) of.outputs
            ∙ tape_values t g input t.outputs of;
        made = λ k low. record {
          write = get_or own.writes k 0;
          known = AllByRecursion-at (λ write. write < writes_of t) own.writes k 0 own.known (omega (arith, low, own.one_each));
          same = own.same k low;
        };
        few = omega (arith, length-part g kept, rank_within kept (length g.nodes), is.few, of.writes);
      }
