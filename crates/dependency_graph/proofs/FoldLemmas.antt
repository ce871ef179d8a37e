-- What a fold keeps: operands are earlier and different, and each node is what a write became.
use Rattle.std.proofs.Common.{◌≡◌, ◌≢◌, ℕ, zero, suc, ◌+◌, ◌<◌, ◌≤◌, Bool, true, false, ◌&&◌}
use Rattle.std.proofs.Common.{inl, inr, List, [], ◌∷◌, ◌++◌, length, map, get_or, refl, sym, ap, subst}
use Rattle.std.proofs.Common.{◌∙◌, arith, length-append}
use Rattle.std.specs.Bool.{xor}
use Rattle.std.specs.List.{AllByRecursion}
use Rattle.std.proofs.lemmas.Bool.{cases_Bool, cases_eq, eq-eqb, eqb-true}
use Rattle.list_facts.specs.Lists.{IsAmong}
use Rattle.list_facts.proofs.AllLemmas.{AllByRecursion-weaker, AllByRecursion-push, AllByRecursion-map, AllFrom-push}
use Rattle.list_facts.proofs.AmongLemmas.{among_left, among_right}
use Rattle.revs_tape.specs.declared.tape.Ref.{Ref}
use Rattle.revs_tape.specs.declared.tape.Ref.TheVariants as refs
use Rattle.revs_tape.specs.declared.tape.Entry.{Entry}
use Rattle.revs_tape.specs.declared.tape.Entry.TheVariants as entries
use Rattle.revs_tape.specs.Measures.{inputs_of}
use Rattle.revs_tape.specs.Tapes.{TapeView, IsTape, IsKnown, IsKnownEntry, AreKnown}
use Rattle.dependency_graph.specs.declared.fold.Reduct.{Reduct}
use Rattle.dependency_graph.specs.declared.fold.Reduct.TheVariants.{Known, New}
use Rattle.dependency_graph.specs.declared.node.Base.{Base}
use Rattle.dependency_graph.specs.declared.node.Base.TheVariants as bases
use Rattle.dependency_graph.specs.declared.node.Node.{Node}
use Rattle.dependency_graph.specs.declared.node.Node.TheVariants.{Xor, And}
use Rattle.dependency_graph.specs.declared.node.Sig.{Sig}
use Rattle.dependency_graph.specs.declared.node.Sig.TheVariants.{Const, Is}
use Rattle.dependency_graph.specs.Graphs.{IsGraph, IsKnownBase, IsKnownSig, IsKnownNode, AreKnownNodes, sig_of}
use Rattle.dependency_graph.specs.Folds.{FoldView, and_constant, is_same, folded_pair, xor_constant}
use Rattle.dependency_graph.specs.Folds.{folded, with_folded, with_write, folded_by, nothing_folded, graph_of}

-- ---- two bases

pub same_itself : (a : Base) → is_same a a ≡ true
same_itself (bases.Input i) = eq-eqb i i refl
same_itself (bases.Node i) = eq-eqb i i refl

pub same_bases : (a b : Base) → is_same a b ≡ true → a ≡ b
same_bases (bases.Input i) (bases.Input j) e = let one : i ≡ j = eqb-true i j e in ap bases.Input one
same_bases (bases.Input i) (bases.Node j) e = cc
same_bases (bases.Node i) (bases.Input j) e = cc
same_bases (bases.Node i) (bases.Node j) e = let one : i ≡ j = eqb-true i j e in ap bases.Node one

pub other_bases : (a b : Base) → is_same a b ≡ false → a ≢ b
other_bases a b e one =
    let clash : true ≡ false = sym (same_itself a) ∙ subst (λ (z : Base). is_same a z ≡ false) (sym one) e in cc

-- ---- known bases

base_later : (n k l : ℕ) (base : Base) → k ≤ l → IsKnownBase n k base → IsKnownBase n l base
base_later n k l (bases.Input i) le known = known
base_later n k l (bases.Node j) le known = omega (arith, le, known)

pub sig_later : (n k l : ℕ) (sig : Sig) → k ≤ l → IsKnownSig n k sig → IsKnownSig n l sig
sig_later n k l (Const bit) le known = tt
sig_later n k l (Is base) le known = base_later n k l base le known

at_or : (P : Sig → Type 0) (xs : List Sig) (i : ℕ) (d : Sig) → AllByRecursion P xs → P d → P (get_or xs i d)
at_or P [] i d all default = default
at_or P (x ∷ xs) zero d all default = all.0
at_or P (x ∷ xs) (suc i) d all default = at_or P xs i d all.1 default

pub sig_known : (n k m : ℕ) (writes : List Sig) (ref : Ref) → AllByRecursion (IsKnownSig n k) writes → IsKnown n m ref → IsKnownSig n k (sig_of writes ref)
sig_known n k m writes (refs.Input i) all known = known
sig_known n k m writes (refs.Write j) all known = at_or (IsKnownSig n k) writes j (Const false) all tt

-- ---- one write

-- a known sig, or a node of known operands
abbrev IsKnownFolded : ℕ → ℕ → Reduct → Type 0
IsKnownFolded n k (Known sig) = IsKnownSig n k sig
IsKnownFolded n k (New node) = IsKnownNode n k node

pair_known : (n k : ℕ) (bits : Bool → Bool → Bool) (mixed : Bool → Base → Reduct) (twice : Base → Sig) (node : Base → Base → Node)
    → ((bit : Bool) (base : Base) → IsKnownBase n k base → IsKnownFolded n k (mixed bit base))
    → ((base : Base) → IsKnownBase n k base → IsKnownSig n k (twice base))
    → ((a b : Base) → IsKnownBase n k a × IsKnownBase n k b × (a ≢ b) → IsKnownNode n k (node a b))
    → (a b : Sig) → IsKnownSig n k a → IsKnownSig n k b → IsKnownFolded n k (folded_pair bits mixed twice node a b)
pair_known n k bits mixed twice node with_constant itself other (Const a) (Const b) p q = tt
pair_known n k bits mixed twice node with_constant itself other (Const bit) (Is base) p q = with_constant bit base q
pair_known n k bits mixed twice node with_constant itself other (Is base) (Const bit) p q = with_constant bit base p
pair_known n k bits mixed twice node with_constant itself other (Is a) (Is b) p q = elim (cases_Bool (is_same a b)) [
  | inl e ↦ rw e (itself a p)
  | inr e ↦ rw e (other a b (p, q, other_bases a b e))
]

xor_constant_known : (n k : ℕ) (bit : Bool) (base : Base) → IsKnownBase n k base → IsKnownFolded n k (xor_constant bit base)
xor_constant_known n k true base p = p
xor_constant_known n k false base p = p

and_constant_known : (n k : ℕ) (bit : Bool) (base : Base) → IsKnownBase n k base → IsKnownFolded n k (and_constant bit base)
and_constant_known n k true base p = p
and_constant_known n k false base p = tt

folded_known : (n k m : ℕ) (writes : List Sig) (e : Entry) → AllByRecursion (IsKnownSig n k) writes → IsKnownEntry n m e
    → IsKnownFolded n k (folded writes e)
folded_known n k m writes (entries.Const bit) all known = tt
folded_known n k m writes (entries.Xor a b) all known =
    pair_known n k xor xor_constant (λ base. Const false) Xor (xor_constant_known n k) (λ base p. tt) (λ a b known. known) (sig_of writes a) (sig_of writes b)
    (sig_known n k m writes a all known.0) (sig_known n k m writes b all known.1)
folded_known n k m writes (entries.And a b) all known =
    pair_known n k ◌&&◌ and_constant Is And (and_constant_known n k) (λ base p. p) (λ a b known. known) (sig_of writes a) (sig_of writes b)
    (sig_known n k m writes a all known.0) (sig_known n k m writes b all known.1)

-- ---- all writes

-- what a fold over n inputs keeps
pub record IsFolded (n : ℕ) (f : FoldView) : Type 0 where
  pub nodes : AreKnownNodes n 0 f.nodes
  pub sigs : AllByRecursion (IsKnownSig n (length f.nodes)) f.sigs
  pub made : (k : ℕ) → k < length f.nodes → IsAmong (Is (bases.Node k)) f.sigs
  pub few : length f.nodes ≤ length f.sigs

pub folded_is : (n : ℕ) (f : FoldView) (x : Reduct) → IsFolded n f → IsKnownFolded n (length f.nodes) x → IsFolded n (with_folded f x)
folded_is n f (Known sig) is known = record {
  nodes = is.nodes;
  sigs = AllByRecursion-push (IsKnownSig n (length f.nodes)) f.sigs sig is.sigs known;
  made = λ k low. among_left (Is (bases.Node k)) f.sigs (sig ∷ []) (is.made k low);
  few = omega (arith, is.few, length-append f.sigs (sig ∷ []));
}
folded_is n f (New node) is known =
    let last : Sig = Is (bases.Node (length f.nodes)) in
    let more : length (f.nodes ++ node ∷ []) ≡ length f.nodes + 1 = length-append f.nodes (node ∷ []) in
    record {
      nodes = AllFrom-push (IsKnownNode n) 0 f.nodes node is.nodes (subst (λ (z : ℕ). IsKnownNode n z node) (omega arith) known);
      sigs = AllByRecursion-push (IsKnownSig n (length (f.nodes ++ node ∷ []))) f.sigs last
          (AllByRecursion-weaker (IsKnownSig n (length f.nodes)) (IsKnownSig n (length (f.nodes ++ node ∷ [])))
          (λ s k. sig_later n (length f.nodes) (length (f.nodes ++ node ∷ [])) s (omega (arith, more)) k) f.sigs is.sigs)
          (omega (arith, more));
      made = λ k low. elim (cases_eq k (length f.nodes)) as (λ _. IsAmong (Is (bases.Node k)) (f.sigs ++ last ∷ [])) [
        | inl e ↦ among_right (Is (bases.Node k)) f.sigs (last ∷ []) (inl (ap (λ (z : ℕ). Is (bases.Node z)) e))
        | inr ne ↦ among_left (Is (bases.Node k)) f.sigs (last ∷ [])
            (is.made k (let other : k ≢ length f.nodes = ne in omega (arith, low, more)))
      ];
      few = omega (arith, is.few, more, length-append f.sigs (last ∷ []));
    }

pub write_is : (n m : ℕ) (f : FoldView) (e : Entry) → IsFolded n f → IsKnownEntry n m e → IsFolded n (with_write f e)
write_is n m f e is known = folded_is n f (folded f.sigs e) is (folded_known n (length f.nodes) m f.sigs e is.sigs known)

pub all_is : (n m : ℕ) (f : FoldView) (es : List Entry) → IsFolded n f → AreKnown n m es → IsFolded n (folded_by f es)
all_is n m f [] is known = is
all_is n m f (e ∷ es) is known = all_is n (m + 1) (with_write f e) es (write_is n m f e is known.0) known.1

pub nothing_is : (n : ℕ) → IsFolded n nothing_folded
nothing_is n = record { nodes = tt; sigs = tt; made = λ k low. absurd (omega (arith, low)); few = omega arith }

-- ---- lengths

length-folded : (f : FoldView) (x : Reduct) → length (with_folded f x).sigs ≡ length f.sigs + 1
length-folded f (Known sig) = length-append f.sigs (sig ∷ [])
length-folded f (New node) = length-append f.sigs (Is (bases.Node (length f.nodes)) ∷ [])

pub length-write : (f : FoldView) (e : Entry) → length (with_write f e).sigs ≡ length f.sigs + 1
length-write f e = length-folded f (folded f.sigs e)

pub length-all : (f : FoldView) (es : List Entry) → length (folded_by f es).sigs ≡ length f.sigs + length es
length-all f [] = omega arith
length-all f (e ∷ es) = length-all (with_write f e) es ∙ omega (arith, length-write f e)

length-nodes_folded : (f : FoldView) (x : Reduct) → length (with_folded f x).nodes ≤ length f.nodes + 1
length-nodes_folded f (Known sig) = omega arith
length-nodes_folded f (New node) = omega (arith, length-append f.nodes (node ∷ []))

pub nodes_grow : (f : FoldView) (e : Entry) → length (with_write f e).nodes ≤ length f.nodes + 1
nodes_grow f e = length-nodes_folded f (folded f.sigs e)

-- ---- the graph of a tape

pub tape_folded : (t : TapeView) → IsTape t → IsFolded (inputs_of t) (folded_by nothing_folded t.entries)
tape_folded t is = all_is (inputs_of t) 0 nothing_folded t.entries (nothing_is (inputs_of t)) is.known

pub graph_is : (t : TapeView) → IsTape t → IsGraph (graph_of t)
graph_is t is =
    let all = folded_by nothing_folded t.entries in
    let whole = tape_folded t is in
    record {
      nodes = whole.nodes;
      sigs = whole.sigs;
      outputs = AllByRecursion-map (IsKnownSig (inputs_of t) (length all.nodes)) (sig_of all.sigs) t.outputs
          (AllByRecursion-weaker (IsKnown (inputs_of t) (length t.entries)) (λ ref. IsKnownSig (inputs_of t) (length all.nodes) (sig_of all.sigs ref))
          (λ ref known. sig_known (inputs_of t) (length all.nodes) (length t.entries) all.sigs ref whole.sigs known) t.outputs is.outputs);
      made = whole.made;
      few = whole.few;
      few_writes = omega (arith, length-all nothing_folded t.entries, is.few_entries);
    }

-- the same, of the parts that the code has
pub parts_are : (t : TapeView) (inputs : ℕ) (f : FoldView) (outputs : List Sig) → IsTape t → inputs ≡ inputs_of t
    → f ≡ folded_by nothing_folded t.entries → outputs ≡ map (sig_of f.sigs) t.outputs
    → IsGraph (record { inputs = inputs; nodes = f.nodes; sigs = f.sigs; outputs = outputs })
parts_are t inputs f outputs is count all found =
    rw (count, found) (subst (λ (z : FoldView).
    IsGraph (record { inputs = inputs_of t; nodes = z.nodes; sigs = z.sigs; outputs = map (sig_of z.sigs) t.outputs }))
    (sym all) (graph_is t is))
