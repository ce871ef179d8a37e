-- The inner nodes of a diagram as the functions on which the first claims rest.
use Rattle.std.proofs.Common.{◌≡◌, ℕ, ◌+◌, ◌≤◌, List, [], sym, ◌∙◌, arith}
use Rattle.list_facts.proofs.AllLemmas.{AllByRecursion-weaker}
use Rattle.revs_tape.specs.declared.tape.Ref.{Ref}
use Rattle.revs_tape.specs.ClaimFunctions.{IsBase, IsMember, IsSameFunction, Restriction, HasAtMost, HasMore, value_on}
use Rattle.revs_tape.specs.Measures.{inputs_of}
use Rattle.revs_tape.specs.Tapes.{TapeView, bit_on}
use Rattle.decision_diagram.specs.Diagrams.{DiagramView, Triple, IsCanonical, function_of}
use Rattle.decision_diagram.specs.Functions.{Function, AreSame}
use Rattle.decision_diagram.specs.Growth.{KeepsNodes, AddsOnlyFrom, IsFullFor}
use Rattle.decision_diagram.proofs.NamedLemmas as diagrams
use Rattle.decision_diagram.proofs.NamedLemmas.{HoldsNamed, NamesAllFrom, more_named, none_named, one_more}
use Rattle.decision_diagram.proofs.RestrictionLemmas.{ComesFrom-of_same, holds_all}
use Rattle.claim_check.specs.inside.Tables.{function_at, restricted_at, IsNumbered, HoldsOnlyMembers, HoldsAllBases}
use Rattle.claim_check.proofs.BaseLemmas.{base_more}
use Rattle.claim_check.proofs.FunctionLemmas.{not_steady_varies, restriction_comes, same_on_bits, same_over, some_restriction, varies_not_steady}
use Rattle.claim_check.proofs.VariableLemmas.{ordered}

-- ---- more claims

pub member_more : (t : TapeView) (c d : ℕ) (r : Restriction) → c ≤ d → IsMember t c r → IsMember t d r
member_more t c d r le member = record { base = base_more t c d r.of le member.base; few = member.few; varies = member.varies }

pub more_claims : (t : TapeView) (c : ℕ) (d : DiagramView) → HoldsOnlyMembers t c d → HoldsOnlyMembers t (c + 1) d
more_claims t c d holds = record {
  canonical = holds.canonical;
  vars = holds.vars;
  members = λ n inner known.
      let node = holds.members n inner known in
      record { restriction = node.restriction; member = member_more t c (c + 1) node.restriction (omega arith) node.member; same = node.same };
}

pub HasMore-more : (t : TapeView) (c d limit : ℕ) → c ≤ d → HasMore t c limit → HasMore t d limit
HasMore-more t c d limit le more = record {
  members = more.members;
  are = AllByRecursion-weaker (IsMember t c) (IsMember t d) (λ r member. member_more t c d r le member) more.members more.are;
  apart = more.apart;
  many = more.many;
}

-- ---- members by name

named : (t : TapeView) (c : ℕ) (d : DiagramView) → HoldsOnlyMembers t c d → HoldsNamed (restricted_at t) (IsMember t c) d
named t c d holds = record {
  canonical = holds.canonical;
  members = λ n inner known.
      let node = holds.members n inner known in
      record { name = node.restriction; member = node.member; same = node.same };
}

from_named : (t : TapeView) (c : ℕ) (d : DiagramView) → d.vars ≡ inputs_of t → HoldsNamed (restricted_at t) (IsMember t c) d
    → HoldsOnlyMembers t c d
from_named t c d vars holds = record {
  canonical = holds.canonical;
  vars = vars;
  members = λ n inner known.
      let node = holds.members n inner known in
      record { restriction = node.name; member = node.member; same = node.same };
}

-- what comes from the function of a reference
names_all : (t : TapeView) (c : ℕ) (ref : Ref) (f : Function) → IsBase t c ref → AreSame f (function_at t ref)
    → NamesAllFrom (restricted_at t) (IsMember t c) f
names_all t c ref f base same = record {
  each = λ g comes varies.
      let is = some_restriction (ordered t) (λ bits. bit_on t bits ref) g (ComesFrom-of_same (function_at t ref) f g (λ a. sym (same a)) comes) in
      let r : Restriction = record { of = ref; fixed = is.fixed } in
      record {
        name = r;
        member = record { base = base; few = is.few; varies = varies_not_steady (ordered t) (value_on t r) g is.same varies };
        same = is.same;
      };
}

same_back : (t : TapeView) (r s : Restriction) → IsSameFunction t r s → AreSame (restricted_at t r) (restricted_at t s)
same_back t r s = same_over (ordered t) (value_on t r) (value_on t s)

same_forth : (t : TapeView) (r s : Restriction) → AreSame (restricted_at t r) (restricted_at t s) → IsSameFunction t r s
same_forth t r s = same_on_bits (ordered t) (value_on t r) (value_on t s)

-- ---- what calls leave

-- a diagram with no inner node
pub begun : (t : TapeView) (c : ℕ) (d : DiagramView) → IsCanonical d → d.vars ≡ inputs_of t → d.nodes ≡ [] → HoldsOnlyMembers t c d
begun t c d canonical vars empty = from_named t c d vars (none_named (restricted_at t) (IsMember t c) d canonical empty)

-- a call that was asked for the function of a reference
pub added : (t : TapeView) (c : ℕ) (ref : Ref) (f : Function) (old new : DiagramView) → HoldsOnlyMembers t c old → IsBase t c ref
    → AreSame f (function_at t ref) → IsCanonical new → KeepsNodes old new → AddsOnlyFrom f old.nodes new.nodes → HoldsOnlyMembers t c new
added t c ref f old new holds base same canonical kept from =
    from_named t c new (kept.vars ∙ holds.vars)
    (more_named (restricted_at t) (IsMember t c) f old new (named t c old holds) (names_all t c ref f base same) canonical kept from)

-- before the first claim none needs a number
pub no_bases : (t : TapeView) (nodes : List Triple) → HoldsAllBases t 0 nodes
no_bases t nodes = record { numbered = λ ref base. absurd base }

-- ---- how many functions

pub at_most : (t : TapeView) (c limit : ℕ) (d : DiagramView) → HoldsOnlyMembers t c d → HoldsAllBases t c d.nodes → d.limit ≡ limit
    → HasAtMost t c limit
at_most t c limit d holds bases is_limit =
    let most = diagrams.at_most (restricted_at t) (IsMember t c) (IsSameFunction t) (same_back t) (same_forth t) d (named t c d holds)
    (λ r member.
    let base : IsNumbered t d.nodes r.of = bases.numbered r.of member.base in
    let comes = ComesFrom-of_same (function_of d.nodes base.number) (function_at t r.of) (restricted_at t r) base.stands.same
    (restriction_comes (ordered t) (λ bits. bit_on t bits r.of) r.fixed) in
    holds_all d.vars d.nodes holds.canonical.ordered base.number base.stands.known (restricted_at t r) comes
    (not_steady_varies (ordered t) (value_on t r) member.varies)) in
    record { listed = most.listed; few = omega (arith, most.few, is_limit); all = most.all }

pub passes : (t : TapeView) (c : ℕ) (ref : Ref) (f : Function) (d : DiagramView) (count : ℕ) → HoldsOnlyMembers t c d → IsBase t c ref
    → AreSame f (function_at t ref) → IsFullFor f d count → HasMore t c d.limit
passes t c ref f d count holds base same full =
    let many = one_more (restricted_at t) (IsMember t c) (IsSameFunction t) (same_back t) d (named t c d holds) f (names_all t c ref f base same)
    count full in
    record { members = many.members; are = many.are; apart = many.apart; many = many.many }
