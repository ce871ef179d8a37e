-- How a graph comes from a tape: each write is folded by its own operands alone.
use Rattle.std.specs.Prelude.{◌==◌, Bool, true, false, cond, ◌&&◌, List, [], ◌∷◌, ◌++◌, length, map}
use Rattle.std.specs.Bool.{xor}
use Rattle.revs_tape.specs.declared.tape.Entry.{Entry}
use Rattle.revs_tape.specs.declared.tape.Entry.TheVariants as entries
use Rattle.revs_tape.specs.Measures.{inputs_of}
use Rattle.revs_tape.specs.Tapes.{TapeView}
use Rattle.dependency_graph.specs.declared.fold.Reduct.{Reduct}
use Rattle.dependency_graph.specs.declared.fold.Reduct.TheVariants.{Known, New}
use Rattle.dependency_graph.specs.declared.node.Base.{Base}
use Rattle.dependency_graph.specs.declared.node.Base.TheVariants as bases
use Rattle.dependency_graph.specs.declared.node.Node.{Node}
use Rattle.dependency_graph.specs.declared.node.Node.TheVariants.{Not, Xor, And}
use Rattle.dependency_graph.specs.declared.node.Sig.{Sig}
use Rattle.dependency_graph.specs.declared.node.Sig.TheVariants.{Const, Is}
use Rattle.dependency_graph.specs.Graphs.{GraphView, sig_of}

-- ---- one write

-- whether two bases are one
abbrev pub is_same : Base → Base → Bool
is_same (bases.Input i) (bases.Input j) = i == j
is_same (bases.Input i) (bases.Node j) = false
is_same (bases.Node i) (bases.Input j) = false
is_same (bases.Node i) (bases.Node j) = i == j

-- false and a base give the base, true and a base its negation
abbrev pub xor_constant : Bool → Base → Reduct
xor_constant false base = Known (Is base)
xor_constant true base = New (Not base)

-- What two things are folded to by an operation on bits: two constants to one, a constant and a
-- base as is told, a base with itself to a known thing, and two other bases to a node.
abbrev pub folded_pair : (Bool → Bool → Bool) → (Bool → Base → Reduct) → (Base → Sig)
    → (Base → Base → Node) → Sig → Sig → Reduct
folded_pair bits mixed twice node (Const a) (Const b) = Known (Const (bits a b))
folded_pair bits mixed twice node (Const bit) (Is base) = mixed bit base
folded_pair bits mixed twice node (Is base) (Const bit) = mixed bit base
folded_pair bits mixed twice node (Is a) (Is b) =
    cond (is_same a b) (Known (twice a)) (New (node a b))

-- a base with itself gives false
abbrev pub xor_of : Sig → Sig → Reduct
xor_of a b = folded_pair xor xor_constant (λ base. Const false) Xor a b

-- false and a base give false, true and a base give the base
abbrev pub and_constant : Bool → Base → Reduct
and_constant false base = Known (Const false)
and_constant true base = Known (Is base)

-- a base with itself gives the base
abbrev pub and_of : Sig → Sig → Reduct
and_of a b = folded_pair ◌&&◌ and_constant Is And a b

-- what a write is folded to, with what the earlier writes became
abbrev pub folded : List Sig → Entry → Reduct
folded writes (entries.Const bit) = Known (Const bit)
folded writes (entries.Xor a b) = xor_of (sig_of writes a) (sig_of writes b)
folded writes (entries.And a b) = and_of (sig_of writes a) (sig_of writes b)

-- ---- all writes

-- the nodes so far, and what each write so far became
pub record FoldView : Type 0 where
  pub nodes : List Node
  pub sigs : List Sig

abbrev pub nothing_folded : FoldView
nothing_folded = record { nodes = []; sigs = [] }

-- with one more write, which became this; a new node has the next number
abbrev pub with_folded : FoldView → Reduct → FoldView
with_folded f (Known sig) = record { nodes = f.nodes; sigs = f.sigs ++ sig ∷ [] }
with_folded f (New node) = record {
  nodes = f.nodes ++ node ∷ [];
  sigs = f.sigs ++ Is (bases.Node (length f.nodes)) ∷ [];
}

abbrev pub with_write : FoldView → Entry → FoldView
with_write f entry = with_folded f (folded f.sigs entry)

-- with these writes, one after another
abbrev pub folded_by : FoldView → List Entry → FoldView
folded_by f [] = f
folded_by f (entry ∷ rest) = folded_by (with_write f entry) rest

-- the graph of a tape
abbrev pub graph_of : TapeView → GraphView
graph_of t = let all = folded_by nothing_folded t.entries in record {
  inputs = inputs_of t;
  nodes = all.nodes;
  sigs = all.sigs;
  outputs = map (sig_of all.sigs) t.outputs;
}
