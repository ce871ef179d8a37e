-- The run of each form of term, by what its parts mean.
use Rattle.std.specs.Prelude.{◌≡◌, ℕ, suc, ◌+◌, ◌-◌, ◌<◌, ◌≤◌, Bool, ◌&&◌, Some, List, [], ◌∷◌, ◌++◌, length, take, drop, slice_get}
use Rattle.std.specs.Bool.{xor}
use Rattle.revc_base.specs.declared.place.Place.{Place}
use Rattle.revs_terms.specs.declared.limits.TheConstants.{MOST_PLACES, MOST_NUMBER}
use Rattle.revs_terms.specs.declared.term.Name.{Name}
use Rattle.revs_terms.specs.declared.term.Part.TheVariants as part
use Rattle.revs_terms.specs.declared.term.Step.{Step}
use Rattle.revs_terms.specs.declared.term.Unit.TheVariants as units
use Rattle.revs_terms.specs.Scopes.{scoped, nearer, scoped_tree}
use Rattle.revs_terms.specs.Trees.{Tree, ItemTree, trees, item_trees, used, bool, reg, block, function, parts, apply, append, ands, xors}
use Rattle.revs_terms.specs.Numbers.{plus}
use Rattle.built_texts.specs.Meanings.{Meaning, Scope, of_bit, of_bits, of_function, names_in, meaning_of, IsRun, AreRuns, chained, Applies, RunsBody}

-- a number as parts have it: one step of digits
abbrev pub num : ℕ → Place → List Step
num i at = plus (units.Digits i at) ∷ []

-- Each form of term runs one deeper than its parts. It counts its entry, the work and the writes of
-- its parts, and what it makes.
pub record FormsRun : Type 0 where
  pub name : (d : ℕ) (sc : Scope) (m : Meaning) (n : Name) → meaning_of n.text sc ≡ Some m
      → IsRun (suc d) sc (used n) m 1
  pub constant : (d : ℕ) (sc : Scope) (b : Bool) (at : Place)
      → IsRun (suc d) sc (bool b at) (of_bit b) 2
  pub index : (d k : ℕ) (sc : Scope) (t : Tree) (bs : List Bool) (b : Bool) (i : ℕ) (at dot : Place)
      → IsRun d sc t (of_bits bs) k → slice_get bs i ≡ Some b → i ≤ MOST_NUMBER
      → IsRun (suc d) sc (parts t (part.Index (num i at) dot ∷ [])) (of_bit b) (1 + k)
  pub slice : (d k : ℕ) (sc : Scope) (t : Tree) (bs : List Bool) (i j : ℕ) (at to dot : Place)
      → IsRun d sc t (of_bits bs) k → i ≤ j → j < length bs → j ≤ MOST_NUMBER
      → IsRun (suc d) sc (parts t (part.Slice (num i at) (num j to) dot ∷ []))
      (of_bits (take (j + 1 - i) (drop i bs))) (1 + k + length (take (j + 1 - i) (drop i bs)))
  pub xor_chain : (d j k : ℕ) (sc : Scope) (t : Tree) (ts : List Tree) (b : Bool) (bs : List Bool)
      → IsRun d sc t (of_bit b) j → AreRuns d sc ts bs k
      → IsRun (suc d) sc (xors (trees (t ∷ ts))) (of_bit (chained xor b bs))
      (1 + (j + k + length bs))
  pub and_chain : (d j k : ℕ) (sc : Scope) (t : Tree) (ts : List Tree) (b : Bool) (bs : List Bool)
      → IsRun d sc t (of_bit b) j → AreRuns d sc ts bs k
      → IsRun (suc d) sc (ands (trees (t ∷ ts))) (of_bit (chained ◌&&◌ b bs))
      (1 + (j + k + length bs))
  pub function_of : (d : ℕ) (sc : Scope) (names : List Name) (body inner : Tree) (at : Place)
      → scoped_tree (nearer names (names_in sc)) body ≡ scoped inner
      → IsRun (suc d) sc (function names body at) (of_function names body sc) 1
  pub applied : (d j k : ℕ) (sc : Scope) (head : Tree) (m r : Meaning) (ts : List Tree)
      → IsRun d sc head m j → Applies d sc m ts r k
      → IsRun (suc d) sc (apply head (trees ts)) r (1 + (j + k))
  pub registered : (d k : ℕ) (sc : Scope) (ts : List Tree) (bs : List Bool) (at : Place)
      → AreRuns d sc ts bs k → length bs ≤ MOST_PLACES
      → IsRun (suc d) sc (reg (trees ts) at) (of_bits bs) (1 + (k + length bs))
  pub appended : (d j k : ℕ) (sc : Scope) (t u : Tree) (bs cs : List Bool) (at : Place)
      → IsRun d sc t (of_bits bs) j → IsRun d sc u (of_bits cs) k → length (bs ++ cs) ≤ MOST_PLACES
      → IsRun (suc d) sc (append t u at) (of_bits (bs ++ cs)) (1 + (j + k + length (bs ++ cs)))
  pub in_block : (d k : ℕ) (sc : Scope) (is : List ItemTree) (last : Tree) (m : Meaning)
      (at : Place)
      → RunsBody d sc is last m k → IsRun (suc d) sc (block (item_trees is) last at) m (1 + k)
