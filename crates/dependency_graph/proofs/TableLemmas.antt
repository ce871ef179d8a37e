-- The table of last uses holds them.
use Rattle.std.proofs.Common.{◌≡◌, ℕ, zero, suc, ◌+◌, ◌<◌, ◌≤◌, ◌==◌, Bool, true, false, cond}
use Rattle.std.proofs.Common.{◌||◌, inl, inr, List, [], ◌∷◌, ◌++◌, length, map, set, get_or, drop, filter}
use Rattle.std.proofs.Common.{refl, sym, ap, ◌∙◌, arith, length-append}
use Rattle.std.specs.List.{flat_map}
use Rattle.std.proofs.lemmas.Grind.{common_steps}
use Rattle.std.proofs.lemmas.Bool.{cases_lt}
use Rattle.std.proofs.lemmas.List.{append_assoc, drop_more, map_push, length-map, get_or_append_left, get_or_push}
use Rattle.list_facts.specs.Lists.{below}
use Rattle.list_facts.proofs.OrderLemmas.{length-below}
use Rattle.revs_tape.specs.Cuts.{is_in, is_needed}
use Rattle.dependency_graph.specs.declared.node.Base.{Base}
use Rattle.dependency_graph.specs.declared.node.Base.TheVariants as bases
use Rattle.dependency_graph.specs.declared.node.Node.{Node}
use Rattle.dependency_graph.specs.Graphs.{GraphView, itself, node_of, nodes_among, operands, steps_by, steps_of, output_nodes}
use Rattle.dependency_graph.specs.Uses.{last_use, last_uses_by, with_use, with_uses}
use Rattle.dependency_graph.specs.inside.Tables.{with_steps}
use Rattle.dependency_graph.proofs.UseLemmas.{last_before, last_more, filter_push, later_needed, needed_later}

-- ---- lists of numbers below a bound

pub below_next : (n : ℕ) → below (n + 1) ≡ below n ++ n ∷ []
below_next n = ap below (let one : n + 1 ≡ suc n = omega arith in one)

pub map_same : (f g : ℕ → ℕ) (xs : List ℕ) → ((i : ℕ) → f i ≡ g i) → map f xs ≡ map g xs
map_same f g [] e = refl
map_same f g (x ∷ xs) e = ap (λ (b : ℕ). b ∷ map f xs) (e x) ∙ ap (λ (z : List ℕ). g x ∷ z) (map_same f g xs e)

pub map_itself : (xs : List ℕ) → map (λ (i : ℕ). i) xs ≡ xs
map_itself [] = refl
map_itself (x ∷ xs) = ap (λ (z : List ℕ). x ∷ z) (map_itself xs)

length-map_below : (f : ℕ → ℕ) (n : ℕ) → length (map f (below n)) ≡ n
length-map_below f n = length-map (below n) f ∙ length-below n

pub at_below : (f : ℕ → ℕ) (n i d : ℕ) → i < n → get_or (map f (below n)) i d ≡ f i
at_below f zero i d low = absurd (omega (arith, low))
at_below f (suc n) i d low =
    ap (λ (z : List ℕ). get_or z i d) (map_push f (below n) n)
    ∙ elim (cases_lt i n) as (λ _. get_or (map f (below n) ++ f n ∷ []) i d ≡ f i) [
      | inl less ↦ get_or_append_left (map f (below n)) (f n ∷ []) d i (omega (arith, length-map_below f n, less)) ∙ at_below f n i d less
      | inr more ↦ let same : n ≡ i = omega (arith, low, more) in
          get_or_push (map f (below n)) (f n) d i (length-map_below f n ∙ same) ∙ ap f same
    ]

set_push : (xs : List ℕ) (x at k : ℕ) → set (xs ++ x ∷ []) k at ≡ set xs k at ++ cond (k == length xs) at x ∷ []
set_push [] x at zero = refl
set_push [] x at (suc k) = let past : (suc k == 0) ≡ false = grind (arith, common_steps) in rw past refl
set_push (y ∷ ys) x at zero = let past : (0 == suc (length ys)) ≡ false = grind (arith, common_steps) in rw past refl
set_push (y ∷ ys) x at (suc k) =
    let past : (suc k == suc (length ys)) ≡ (k == length ys) = grind (arith, common_steps) in
    rw past (ap (λ (z : List ℕ). y ∷ z) (set_push ys x at k))

-- ---- uses

or_none : (a : Bool) → (a || false) ≡ a
or_none true = refl
or_none false = refl

cond_or : (a b : Bool) (x y : ℕ) → cond b x (cond (a || false) x y) ≡ cond (a || b) x y
cond_or true true x y = refl
cond_or true false x y = refl
cond_or false true x y = refl
cond_or false false x y = refl

node_used : (f : ℕ → ℕ) (n k at : ℕ) → set (map f (below n)) k at ≡ map (λ i. cond ((k == i) || false) at (f i)) (below n)
node_used f zero k at = refl
node_used f (suc n) k at =
    let now : ℕ → ℕ = λ i. cond ((k == i) || false) at (f i) in
    ap (λ (z : List ℕ). set z k at) (map_push f (below n) n)
    ∙ set_push (map f (below n)) (f n) at k
    ∙ ap (λ (z : ℕ). set (map f (below n)) k at ++ cond (k == z) at (f n) ∷ []) (length-map_below f n)
    ∙ ap (λ (b : Bool). set (map f (below n)) k at ++ cond b at (f n) ∷ []) (sym (or_none (k == n)))
    ∙ ap (λ (z : List ℕ). z ++ now n ∷ []) (node_used f n k at)
    ∙ sym (map_push now (below n) n)

-- with a use of a base, and then of others
pub then_used : (f : ℕ → ℕ) (n : ℕ) (base : Base) (others : List ℕ) (at : ℕ) (rest : List ℕ → List ℕ)
    → ((g : ℕ → ℕ) → rest (map g (below n)) ≡ map (λ i. cond (is_in others i) at (g i)) (below n))
    → rest (with_use (map f (below n)) base at) ≡ map (λ i. cond (is_in (node_of base ++ others) i) at (f i)) (below n)
then_used f n (bases.Input i) others at rest each = each f
then_used f n (bases.Node k) others at rest each =
    ap rest (node_used f n k at)
    ∙ each (λ i. cond ((k == i) || false) at (f i))
    ∙ map_same (λ i. cond (is_in others i) at (cond ((k == i) || false) at (f i))) (λ i. cond ((k == i) || is_in others i) at (f i)) (below n)
    (λ i. cond_or (k == i) (is_in others i) at (f i))

pub bases_used : (f : ℕ → ℕ) (n : ℕ) (bs : List Base) (at : ℕ)
    → with_uses (map f (below n)) bs at ≡ map (λ i. cond (is_in (nodes_among bs) i) at (f i)) (below n)
bases_used f n [] at = refl
bases_used f n (b ∷ bs) at = then_used f n b (nodes_among bs) at (λ (z : List ℕ). with_uses z bs at) (λ g. bases_used g n bs at)

-- ---- uses of bases, one list behind another

pub uses-append : (table : List ℕ) (some more : List Base) (at : ℕ) → with_uses table (some ++ more) at ≡ with_uses (with_uses table some at) more at
uses-append table [] more at = refl
uses-append table (b ∷ bs) more at = uses-append (with_use table b at) bs more at

pub used_then : (table first all : List ℕ) (some more : List Base) (at : ℕ) → first ≡ with_uses table some at → all ≡ with_uses first more at
    → all ≡ with_uses table (some ++ more) at
used_then table first all some more at e f = f ∙ ap (λ (z : List ℕ). with_uses z more at) e ∙ sym (uses-append table some more at)

-- bases are made of themselves
pub made_of_itself : (bs : List Base) → flat_map itself bs ≡ bs
made_of_itself [] = refl
made_of_itself (b ∷ bs) = ap (λ (z : List Base). b ∷ z) (made_of_itself bs)

-- one of several that are made of bases
pub one_more : {A : Type 0} (parts : A → List Base) (table next : List ℕ) (xs : List A) (i at : ℕ) (x : A) (final : List ℕ) → i < length xs
    → x ≡ get_or xs i x → next ≡ with_uses table (parts x) at → with_uses table (flat_map parts (drop i xs)) at ≡ final
    → with_uses next (flat_map parts (drop (i + 1) xs)) at ≡ final
one_more parts table next xs i at x final low is e before =
    let rest = flat_map parts (drop (i + 1) xs) in
    ap (λ (z : List ℕ). with_uses z rest at) e
    ∙ sym (uses-append table (parts x) rest at)
    ∙ ap (λ y. with_uses table (parts y ++ rest) at) is
    ∙ sym (ap (λ ys. with_uses table (flat_map parts ys) at) (drop_more xs i x low))
    ∙ before

-- ---- steps, each of some bases

module _ {A : Type 0} (parts : A → List Base) where
  abbrev pub nodes_in : A → List ℕ
  nodes_in x = nodes_among (parts x)

  pub nodes_at : (front : List A) (x : A) (behind : List A) → get_or (map nodes_in (front ++ x ∷ behind)) (length front) [] ≡ nodes_in x
  nodes_at [] x behind = refl
  nodes_at (y ∷ front) x behind = nodes_at front x behind

  pub steps_used : (all front xs : List A) (n j : ℕ) → all ≡ front ++ xs → length front ≡ j
      → with_steps parts (map (last_before (map nodes_in all) j) (below n)) j xs ≡ map (last_before (map nodes_in all) (length all)) (below n)
  steps_used all front [] n j cut size =
      let whole : j ≡ length all = sym (ap length cut ∙ length-append front [] ∙ omega (arith, size)) in
      ap (λ (z : ℕ). map (last_before (map nodes_in all) z) (below n)) whole
  steps_used all front (x ∷ xs) n j cut size =
      let steps = map nodes_in all in
      let here : get_or steps j [] ≡ nodes_in x =
      ap (λ (z : List A). get_or (map nodes_in z) j []) cut
      ∙ ap (λ (z : ℕ). get_or (map nodes_in (front ++ x ∷ xs)) z []) (sym size)
      ∙ nodes_at front x xs in
      let next : suc j ≡ j + 1 = omega arith in
      let more : (i : ℕ) → cond (is_in (nodes_in x) i) j (last_before steps j i) ≡ last_before steps (j + 1) i = λ i.
      ap (λ (z : List ℕ). cond (is_in z i) j (last_before steps j i)) (sym here)
      ∙ sym (last_more steps j i)
      ∙ ap (λ (z : ℕ). last_before steps z i) next in
      ap (λ (z : List ℕ). with_steps parts z (j + 1) xs) (bases_used (last_before steps j) n (parts x) j
      ∙ map_same (λ i. cond (is_in (nodes_in x) i) j (last_before steps j i)) (last_before steps (j + 1)) (below n) more)
      ∙ steps_used all (front ++ x ∷ []) xs n (j + 1) (cut ∙ sym (append_assoc front (x ∷ []) xs)) (length-append front (x ∷ []) ∙ omega (arith, size))

abbrev pub step_of : Node → List ℕ
step_of node = nodes_in operands node

pub step_at : (front : List Node) (x : Node) (behind : List Node) → get_or (map step_of (front ++ x ∷ behind)) (length front) [] ≡ step_of x
step_at front x behind = nodes_at operands front x behind

-- ---- the whole table

pub table_is : {A B : Type 0} (parts : A → List Base) (ends : B → List Base) (nodes : List A) (outputs : List B)
    → with_uses (with_steps parts (below (length nodes)) 0 nodes) (flat_map ends outputs) (length nodes) ≡ last_uses_by parts ends nodes outputs
table_is parts ends nodes outputs =
    let n = length nodes in
    let steps = map (nodes_in parts) nodes in
    let size : length steps ≡ n = length-map nodes (nodes_in parts) in
    ap (λ (z : List ℕ). with_uses (with_steps parts z 0 nodes) (flat_map ends outputs) n) (sym (map_itself (below n)))
    ∙ ap (λ (z : List ℕ). with_uses z (flat_map ends outputs) n) (steps_used parts nodes [] nodes n 0 refl refl)
    ∙ bases_used (last_before steps n) n (flat_map ends outputs) n
    ∙ ap (λ (z : ℕ). map (λ i. cond (is_in (nodes_among (flat_map ends outputs)) i) z (last_before steps z i)) (below n)) (sym size)

-- a table of last uses has a place for each node, with its last use
module _ {A B : Type 0} (parts : A → List Base) (ends : B → List Base) (nodes : List A) (outputs : List B) {table : List ℕ} {n : ℕ}
    (is : table ≡ last_uses_by parts ends nodes outputs) (low : n < length nodes) where
  pub use_inside : n < length table
  use_inside =
      let last = last_use (steps_by parts nodes) (nodes_among (flat_map ends outputs)) in
      omega (arith, low, ap length is, length-map_below last (length nodes))

  pub use_told : {found : ℕ} (d : ℕ) → found ≡ get_or table n d → found ≡ last_use (steps_by parts nodes) (nodes_among (flat_map ends outputs)) n
  use_told d read =
      let last = last_use (steps_by parts nodes) (nodes_among (flat_map ends outputs)) in
      read ∙ ap (λ (uses : List ℕ). get_or uses n d) is ∙ at_below last (length nodes) n d low

-- ---- cuts

pub length-steps_of : (g : GraphView) → length (steps_of g) ≡ length g.nodes
length-steps_of g = length-map g.nodes step_of

pub cut_with : (g : GraphView) (n j : ℕ) → n < j → j ≤ last_use (steps_of g) (output_nodes g) n
    → filter (is_needed (steps_of g) (output_nodes g) j) (below (n + 1))
    ≡ filter (is_needed (steps_of g) (output_nodes g) j) (below n) ++ n ∷ []
cut_with g n j low later =
    let test : ℕ → Bool = is_needed (steps_of g) (output_nodes g) j in
    let is : test n ≡ true = later_needed (steps_of g) (output_nodes g) n j low later in
    ap (filter test) (below_next n) ∙ filter_push test (below n) n ∙ rw is refl

false_else : (b : Bool) → (b ≡ true → ⊥) → b ≡ false
false_else true not = absurd (not refl)
false_else false not = refl

pub cut_without : (g : GraphView) (n j : ℕ) → j ≤ length g.nodes → last_use (steps_of g) (output_nodes g) n < j
    → filter (is_needed (steps_of g) (output_nodes g) j) (below (n + 1))
    ≡ filter (is_needed (steps_of g) (output_nodes g) j) (below n)
cut_without g n j inside early =
    let test : ℕ → Bool = is_needed (steps_of g) (output_nodes g) j in
    let is : test n ≡ false = false_else (test n) (λ needed. absurd (omega (
      arith,
      early,
      needed_later (steps_of g) (output_nodes g) n j (omega (arith, inside, length-steps_of g)) needed,
    ))) in
    ap (filter test) (below_next n) ∙ filter_push test (below n) n ∙ rw is refl
