-- A node is reached through writes that became it: back from where it stands, through aliases, to an earlier place.
use Rattle.std.proofs.Common.{◌≡◌, ℕ, zero, suc, ◌+◌, ◌<◌, false, ◌⊎◌, inl, inr, List, [], ◌∷◌, ◌++◌, length, map}
use Rattle.std.proofs.Common.{refl, sym, ap, ◌∙◌, subst, arith, length-append}
use Rattle.std.proofs.lemmas.Bool.{cases_lt}
use Rattle.std.proofs.lemmas.List.{append-nil, append_assoc, get_or_past}
use Rattle.list_facts.specs.Lists.{IsAmong, AnyByRecursion}
use Rattle.list_facts.proofs.AmongLemmas.{among_append, among_image}
use Rattle.revs_tape.specs.declared.tape.Ref.{Ref}
use Rattle.revs_tape.specs.declared.tape.Ref.TheVariants as refs
use Rattle.revs_tape.specs.declared.tape.Entry.{Entry}
use Rattle.revs_tape.specs.Tapes.{TapeView, IsTape}
use Rattle.revs_tape.specs.Tapes as tape
use Rattle.dependency_graph.specs.declared.fold.Reduct.{Reduct}
use Rattle.dependency_graph.specs.declared.fold.Reduct.TheVariants.{Known, New}
use Rattle.dependency_graph.specs.declared.node.Base.TheVariants as bases
use Rattle.dependency_graph.specs.declared.node.Node.{Node}
use Rattle.dependency_graph.specs.declared.node.Sig.{Sig}
use Rattle.dependency_graph.specs.declared.node.Sig.TheVariants.{Const, Is}
use Rattle.dependency_graph.specs.Graphs.{operands, sig_of}
use Rattle.dependency_graph.specs.Folds.{FoldView, folded, with_folded, with_write, folded_by}
use Rattle.dependency_graph.proofs.OriginLemmas.{ComesFrom, folded_comes, no_node}

-- ---- writes that are read

-- write i is an operand of one of these
abbrev pub IsRead : List Entry → ℕ → Type 0
IsRead es i = AnyByRecursion (λ (e : Entry). IsAmong (refs.Write i) (tape.operands e)) es

read_left : (es fs : List Entry) (i : ℕ) → IsRead es i → IsRead (es ++ fs) i
read_left [] fs i is = absurd is
read_left (e ∷ es) fs i is = elim is as (λ _. IsRead ((e ∷ es) ++ fs) i) [ inl here ↦ inl here | inr later ↦ inr (read_left es fs i later) ]

read_last : (es : List Entry) (e : Entry) (i : ℕ) → IsAmong (refs.Write i) (tape.operands e) → IsRead (es ++ e ∷ []) i
read_last [] e i is = inl is
read_last (f ∷ es) e i is = inr (read_last es e i is)

-- ---- from a place on

-- a write of the front that became node k
pub record IsFound (front : FoldView) (k at : ℕ) : Type 0 where
  pub inside : at < length front.sigs
  pub is : sig_of front.sigs (refs.Write at) ≡ Is (bases.Node k)

-- a write of the front that became node k, and is read by these writes
pub record IsNeeded (front : FoldView) (mid : List Entry) (k : ℕ) : Type 0 where
  pub at : ℕ
  pub found : IsFound front k at
  pub read : IsRead mid at

-- the same, or it is the reference itself
pub record IsReached (front : FoldView) (mid : List Entry) (ref : Ref) (k : ℕ) : Type 0 where
  pub at : ℕ
  pub found : IsFound front k at
  pub used : (ref ≡ refs.Write at) ⊎ IsRead mid at

-- After these writes behind the front: each node of the front is reached from where it stands, and is needed where a newer node has it.
pub record IsAhead (front : FoldView) (mid : List Entry) (now : FoldView) : Type 0 where
  pub newer : List Node
  pub nodes : now.nodes ≡ front.nodes ++ newer
  pub reached : (ref : Ref) (k : ℕ) → k < length front.nodes → sig_of now.sigs ref ≡ Is (bases.Node k) → IsReached front mid ref k
  pub needed : (node : Node) → IsAmong node newer → (k : ℕ) → k < length front.nodes → IsAmong (bases.Node k) (operands node) → IsNeeded front mid k

-- ---- the front itself

number_of : Sig → ℕ
number_of (Const bit) = 0
number_of (Is (bases.Input i)) = 0
number_of (Is (bases.Node k)) = k

pub one_number : (k l : ℕ) → Is (bases.Node k) ≡ Is (bases.Node l) → k ≡ l
unfolding number_of
one_number k l e = ap number_of e

no_input : (i k : ℕ) (P : Type 0) → Is (bases.Input i) ≡ Is (bases.Node k) → P
no_input i k P e = absurd (let clash : Is (bases.Input i) ≡ Is (bases.Node k) = e in cc)

reached_itself : (front : FoldView) (ref : Ref) (k : ℕ) → sig_of front.sigs ref ≡ Is (bases.Node k) → IsReached front [] ref k
reached_itself front (refs.Input i) k e = no_input i k (IsReached front [] (refs.Input i) k) e
reached_itself front (refs.Write i) k e = elim (cases_lt i (length front.sigs)) as (λ _. IsReached front [] (refs.Write i) k) [
  | inl low ↦ record { at = i; found = record { inside = low; is = e }; used = inl refl }
  | inr high ↦ no_node false k (IsReached front [] (refs.Write i) k) (sym (get_or_past front.sigs i (Const false) high) ∙ e)
]

pub ahead_begin : (front : FoldView) → IsAhead front [] front
ahead_begin front = record {
  newer = [];
  nodes = sym (append-nil front.nodes);
  reached = λ ref k low e. reached_itself front ref k e;
  needed = λ node among k low has. absurd among;
}

-- ---- one write more

keep : (front : FoldView) (mid : List Entry) (e : Entry) (ref : Ref) (k : ℕ) → IsReached front mid ref k → IsReached front (mid ++ e ∷ []) ref k
keep front mid e ref k is = record {
  at = is.at;
  found = is.found;
  used = elim is.used as (λ _. (ref ≡ refs.Write is.at) ⊎ IsRead (mid ++ e ∷ []) is.at) [
    | inl same ↦ inl same
    | inr read ↦ inr (read_left mid (e ∷ []) is.at read)
  ];
}

keep_needed : (front : FoldView) (mid : List Entry) (e : Entry) (k : ℕ) → IsNeeded front mid k → IsNeeded front (mid ++ e ∷ []) k
keep_needed front mid e k is = record { at = is.at; found = is.found; read = read_left mid (e ∷ []) is.at is.read }

as_reached : (front : FoldView) (mid : List Entry) (ref : Ref) (k : ℕ) → IsNeeded front mid k → IsReached front mid ref k
as_reached front mid ref k is = record { at = is.at; found = is.found; used = inr is.read }

-- what comes from an operand of a write makes its node needed
through : (front : FoldView) (mid : List Entry) (now : FoldView) (e : Entry) (sig : Sig) (k : ℕ) → IsAhead front mid now
    → k < length front.nodes → sig ≡ Is (bases.Node k) → IsAmong sig (map (sig_of now.sigs) (tape.operands e)) → IsNeeded front (mid ++ e ∷ []) k
through front mid now e sig k is low same comes =
    let from = among_image (sig_of now.sigs) sig (tape.operands e) comes in
    let ref : Ref = from.0 in
    let there = is.reached ref k low (sym from.2 ∙ same) in
    record {
      at = there.at;
      found = there.found;
      read = elim there.used as (λ _. IsRead (mid ++ e ∷ []) there.at) [
        | inl one ↦ read_last mid e there.at (subst (λ (z : Ref). IsAmong z (tape.operands e)) one from.1)
        | inr read ↦ read_left mid (e ∷ []) there.at read
      ];
    }

new_at : (writes : List Sig) (s : Sig) (i : ℕ)
    → (sig_of (writes ++ s ∷ []) (refs.Write i) ≡ sig_of writes (refs.Write i)) ⊎ (sig_of (writes ++ s ∷ []) (refs.Write i) ≡ s)
new_at [] s zero = inr refl
new_at [] s (suc i) = inl refl
new_at (w ∷ writes) s zero = inl refl
new_at (w ∷ writes) s (suc i) = new_at writes s i

-- where what a write became is reached if it is a node of the front
reached_next : (front : FoldView) (mid : List Entry) (now : FoldView) (e : Entry) (s : Sig) → IsAhead front mid now
    → ((k : ℕ) → k < length front.nodes → s ≡ Is (bases.Node k) → IsNeeded front (mid ++ e ∷ []) k)
    → (ref : Ref) (k : ℕ) → k < length front.nodes → sig_of (now.sigs ++ s ∷ []) ref ≡ Is (bases.Node k) → IsReached front (mid ++ e ∷ []) ref k
reached_next front mid now e s is new (refs.Input i) k low same = no_input i k (IsReached front (mid ++ e ∷ []) (refs.Input i) k) same
reached_next front mid now e s is new (refs.Write i) k low same =
    elim (new_at now.sigs s i) as (λ _. IsReached front (mid ++ e ∷ []) (refs.Write i) k) [
      | inl old ↦ keep front mid e (refs.Write i) k (is.reached (refs.Write i) k low (sym old ∙ same))
      | inr here ↦ as_reached front (mid ++ e ∷ []) (refs.Write i) k (new k low (sym here ∙ same))
    ]

ahead_folded : (front : FoldView) (mid : List Entry) (now : FoldView) (e : Entry) (x : Reduct) → IsAhead front mid now
    → ComesFrom now.sigs (tape.operands e) x → IsAhead front (mid ++ e ∷ []) (with_folded now x)
ahead_folded front mid now e (Known sig) is comes = record {
  newer = is.newer;
  nodes = is.nodes;
  reached = reached_next front mid now e sig is (λ k low same. through front mid now e sig k is low same (comes k same));
  needed = λ node among k low has. keep_needed front mid e k (is.needed node among k low has);
}
ahead_folded front mid now e (New node) is comes =
    let last : Sig = Is (bases.Node (length now.nodes)) in
    let more : length now.nodes ≡ length front.nodes + length is.newer = ap length is.nodes ∙ length-append front.nodes is.newer in
    record {
      newer = is.newer ++ node ∷ [];
      nodes = ap (λ (z : List Node). z ++ node ∷ []) is.nodes ∙ append_assoc front.nodes is.newer (node ∷ []);
      reached = reached_next front mid now e last is
          (λ k low same. absurd (omega (arith, low, more, one_number (length now.nodes) k same)));
      needed = λ other among k low has. elim (among_append other is.newer (node ∷ []) among) as (λ _. IsNeeded front (mid ++ e ∷ []) k) [
        | inl early ↦ keep_needed front mid e k (is.needed other early k low has)
        | inr here ↦ elim here as (λ _. IsNeeded front (mid ++ e ∷ []) k) [
          | inl one ↦ through front mid now e (Is (bases.Node k)) k is low refl
              (comes (bases.Node k) (subst (λ (z : Node). IsAmong (bases.Node k) (operands z)) one has))
          | inr none ↦ absurd none
        ]
      ];
    }

pub ahead_all : (front : FoldView) (whole mid : List Entry) (now : FoldView) (es : List Entry) → whole ≡ mid ++ es → IsAhead front mid now
    → IsAhead front whole (folded_by now es)
ahead_all front whole mid now [] cut is =
    subst (λ (z : List Entry). IsAhead front z now) (sym (append-nil mid) ∙ sym cut) is
ahead_all front whole mid now (e ∷ es) cut is =
    ahead_all front whole (mid ++ e ∷ []) (with_write now e) es (cut ∙ sym (append_assoc mid (e ∷ []) es))
    (ahead_folded front mid now e (folded now.sigs e) is (folded_comes now.sigs e))
