-- The lines of held nodes, and the heap that hands them out.
use Rattle.std.proofs.Common.{◌≡◌, ◌≢◌, ℕ, zero, suc, ◌+◌, ◌<◌, Bool, true, false, not, ◌&&◌, ◌||◌, cond, eqb, List, [], ◌∷◌, length, set, Option, Some, None}
use Rattle.std.proofs.Common.{is_some, refl, sym, ap, ◌∙◌, subst, inl, inr, arith}
use Rattle.std.specs.List.{AllByRecursion}
use Rattle.std.proofs.lemmas.Bool.{cases_Bool, true≢false, both_ways, eqb-true, eqb-false, eq-eqb, ne_eqb, and_parts}
use Rattle.std.proofs.lemmas.List.{get_or-set_other}
use Rattle.std.proofs.lemmas.List.Sums.{sum_by-set}
use Rattle.std.proofs.lemmas.Option.{none-some, same_Some}
use Rattle.list_facts.specs.Lists.{IsRising}
use Rattle.list_facts.proofs.AllLemmas.{AllByRecursion-weaker}
use Rattle.held_nodes.specs.inside.Lines as heaps
use Rattle.held_nodes.specs.inside.Lines.{HeapView, IsLineHeap, contains, with_line, without_line, with_taken}
use Rattle.held_nodes.proofs.OutLineLemmas.{length-with_line, length-filter_all, contains-with_line, contains-without_line}
use Rattle.held_nodes.specs.Held.{IsLeastFree, held_line, held_count, is_line, is_taken}
use Rattle.held_nodes.specs.inside.Kept.{AreOut}

-- different nodes are held on different lines
abbrev pub AreOnDifferent : List (Option ℕ) → Type 0
AreOnDifferent lines = (j k line : ℕ) → held_line lines j ≡ Some line → held_line lines k ≡ Some line → j ≡ k

-- ---- which lines are taken

-- a held node's line is taken
pub held_taken : (lines : List (Option ℕ)) (k line : ℕ) → held_line lines k ≡ Some line → is_taken lines line ≡ true
held_taken [] k line is = absurd (none-some line is)
held_taken (x ∷ xs) zero line is = rw (is, eq-eqb line line refl) refl
held_taken (x ∷ xs) (suc k) line is = elim (cases_Bool (is_line line x)) [
  | inl e ↦ rw e refl
  | inr e ↦ rw e (held_taken xs k line is)
]

pub record IsHolder (lines : List (Option ℕ)) (line : ℕ) : Type 0 where
  pub node : ℕ
  pub is : held_line lines node ≡ Some line

holder_first : (x : Option ℕ) (xs : List (Option ℕ)) (line : ℕ) → is_line line x ≡ true → IsHolder (x ∷ xs) line
holder_first None xs line e = absurd (true≢false (sym e))
holder_first (Some own) xs line e = record { node = 0; is = ap (λ (n : ℕ). Some n) (eqb-true own line e) }

-- a line that is taken is that of a held node
pub taken_held : (lines : List (Option ℕ)) (line : ℕ) → is_taken lines line ≡ true → IsHolder lines line
taken_held [] line e = absurd (true≢false (sym e))
taken_held (x ∷ xs) line e = elim (cases_Bool (is_line line x)) [
  | inl here ↦ holder_first x xs line here
  | inr other ↦ (let rest = taken_held xs line (rw other at e) in record { node = suc rest.node; is = rest.is })
]

-- the line of a held node is not one that is free
pub not_free : (lines : List (Option ℕ)) (k own line : ℕ) → held_line lines k ≡ Some own → is_taken lines line ≡ false → own ≢ line
not_free lines k own line is free same = both_ways (is_taken lines line) free (held_taken lines k line (is ∙ ap (λ (n : ℕ). Some n) same))

-- ---- one more, one less

pub held_within : (lines : List (Option ℕ)) (k line : ℕ) → held_line lines k ≡ Some line → k < length lines
held_within [] k line is = absurd (none-some line is)
held_within (x ∷ xs) zero line is = omega arith
held_within (x ∷ xs) (suc k) line is = omega (arith, held_within xs k line is)

or_swap : (a b c : Bool) → (a || (b || c)) ≡ (b || (a || c))
or_swap true true c = refl
or_swap true false c = refl
or_swap false b c = refl

-- a node that was not held takes a line
pub taken-put : (lines : List (Option ℕ)) (k line other : ℕ) → k < length lines → held_line lines k ≡ None
    → is_taken (set lines k (Some line)) other ≡ (eqb line other || is_taken lines other)
taken-put [] k line other low none = absurd (omega (arith, low))
taken-put (x ∷ xs) zero line other low none = rw none refl
taken-put (x ∷ xs) (suc k) line other low none =
    ap (λ b. is_line other x || b) (taken-put xs k line other (omega (arith, low)) none) ∙ or_swap (is_line other x) (eqb line other) (is_taken xs other)

same_bits : (a b : Bool) → (a ≡ true → b ≡ true) → (b ≡ true → a ≡ true) → a ≡ b
same_bits true true f g = refl
same_bits true false f g = sym (f refl)
same_bits false true f g = g refl
same_bits false false f g = refl

-- a node that is not held has no line
pub none_set : (lines : List (Option ℕ)) (k line : ℕ) → held_line (set lines k None) k ≡ Some line → ⊥
none_set [] k line is = none-some line is
none_set (x ∷ xs) zero line is = none-some line is
none_set (x ∷ xs) (suc k) line is = none_set xs k line is

-- a held node gives its line back
pub taken-given : (lines : List (Option ℕ)) (k own other : ℕ) → AreOnDifferent lines → held_line lines k ≡ Some own
    → is_taken (set lines k None) other ≡ (is_taken lines other && not (eqb own other))
taken-given lines k own other different is =
    same_bits (is_taken (set lines k None) other) (is_taken lines other && not (eqb own other)) forth back
  where
    forth : is_taken (set lines k None) other ≡ true → (is_taken lines other && not (eqb own other)) ≡ true
    forth e =
        let holder = taken_held (set lines k None) other e in
        let apart : holder.node ≢ k = λ same. none_set lines k other (subst (λ (n : ℕ). held_line (set lines k None) n ≡ Some other) same holder.is) in
        let before : held_line lines holder.node ≡ Some other = sym (get_or-set_other lines k holder.node None None apart) ∙ holder.is in
        let unlike : own ≢ other = λ same. apart (different holder.node k other before (is ∙ ap (λ (n : ℕ). Some n) same)) in
        rw (held_taken lines holder.node other before, ne_eqb own other unlike) refl

    back : (is_taken lines other && not (eqb own other)) ≡ true → is_taken (set lines k None) other ≡ true
    back e =
        let parts = and_parts (is_taken lines other) (not (eqb own other)) e in
        let holder = taken_held lines other parts.0 in
        let unlike : eqb own other ≡ false = elim (cases_Bool (eqb own other)) [ inl t ↦ absurd (true≢false (sym (rw t at parts.1))) | inr f ↦ f ] in
        let apart : holder.node ≢ k =
        λ same. eqb-false own other unlike (same_Some own other (sym is ∙ sym (ap (held_line lines) same) ∙ holder.is)) in
        held_taken (set lines k None) holder.node other (get_or-set_other lines k holder.node None None apart ∙ holder.is)

-- ---- how many are held

abbrev one_if_held : Option ℕ → ℕ
one_if_held x = cond (is_some x) 1 0

pub count-put : (lines : List (Option ℕ)) (k line : ℕ) → k < length lines → held_line lines k ≡ None
    → held_count (set lines k (Some line)) ≡ held_count lines + 1
count-put lines k line low none =
    let all = sum_by-set one_if_held lines k (Some line) None low in
    let was : one_if_held (held_line lines k) ≡ 0 = ap one_if_held none in
    omega (arith, all, was)

pub count-given : (lines : List (Option ℕ)) (k own : ℕ) → held_line lines k ≡ Some own → held_count (set lines k None) + 1 ≡ held_count lines
count-given lines k own is =
    let all = sum_by-set one_if_held lines k None None (held_within lines k own is) in
    let was : one_if_held (held_line lines k) ≡ 1 = ap one_if_held is in
    omega (arith, all, was)

-- ---- the heap

pass_above : (line : ℕ) (xs : List ℕ) → AllByRecursion (λ x. line < x) xs → AllByRecursion (λ x. not (eqb x line) ≡ true) xs
pass_above line xs above =
    AllByRecursion-weaker (λ x. line < x) (λ x. not (eqb x line) ≡ true) (λ x lt. ap not (ne_eqb x line (λ same. absurd (omega (arith, lt, same))))) xs above

-- a rising list has one line less without one of its lines
pub length-without_line : (xs : List ℕ) (line : ℕ) → IsRising xs → contains xs line ≡ true → length (without_line xs line) + 1 ≡ length xs
length-without_line [] line up e = absurd (true≢false (sym e))
length-without_line (x ∷ xs) line up e = elim (cases_Bool (eqb x line)) [
  | inl here ↦
      (let above : AllByRecursion (λ y. line < y) xs = subst (λ (n : ℕ). AllByRecursion (λ y. n < y) xs) (eqb-true x line here) up.0 in
      let all = length-filter_all (λ y. not (eqb y line)) xs (pass_above line xs above) in
      rw here (omega (arith, all)))
  | inr other ↦ (let rest = length-without_line xs line up.1 (rw other at e) in rw other (omega (arith, rest)))
]

-- the least free line of the heap is that of the held nodes
pub least_free : (lines : List (Option ℕ)) (heap : HeapView) (line : ℕ) → AreOut lines heap → heaps.IsLeastFree heap line → IsLeastFree lines line
least_free lines heap line out least = record {
  free = sym (out.out line) ∙ least.free;
  least = λ lesser low. sym (out.out lesser) ∙ least.least lesser low;
}

-- the lines that are out, one by one
out_by : (lines : List (Option ℕ)) (new : HeapView) (outs : List ℕ) → IsLineHeap new → new.out ≡ outs
    → ((line : ℕ) → contains outs line ≡ is_taken lines line) → length outs ≡ held_count lines → AreOut lines new
out_by lines new outs is same each count = record {
  is_heap = is;
  out = λ line. ap (λ (xs : List ℕ). contains xs line) same ∙ each line;
  count = ap (λ (xs : List ℕ). length xs) same ∙ count;
}

pub out-taken : (lines : List (Option ℕ)) (old new : HeapView) (k line : ℕ) → AreOut lines old → IsLineHeap new → new ≡ with_taken old line
    → k < length lines → held_line lines k ≡ None → AreOut (set lines k (Some line)) new
out-taken lines old new k line out is e low none =
    let long : length (with_line old.out line) ≡ suc (length old.out) = length-with_line old.out line in
    out_by (set lines k (Some line)) new (with_line old.out line) is (ap (λ (h : HeapView). h.out) e)
    (λ other. contains-with_line old.out line other
    ∙ ap (λ b. eqb line other || b) (out.out other)
    ∙ sym (taken-put lines k line other low none))
    (omega (arith, long, out.count, count-put lines k line low none))

pub out-given : (lines : List (Option ℕ)) (old new : HeapView) (k own : ℕ) → AreOut lines old → IsLineHeap new
    → new ≡ record old { out = without_line old.out own }
    → AreOnDifferent lines → held_line lines k ≡ Some own → AreOut (set lines k None) new
out-given lines old new k own out is e different held =
    let here : contains old.out own ≡ true = out.out own ∙ held_taken lines k own held in
    let long : length (without_line old.out own) + 1 ≡ length old.out = length-without_line old.out own out.is_heap.rising here in
    out_by (set lines k None) new (without_line old.out own) is (ap (λ (h : HeapView). h.out) e)
    (λ other. contains-without_line old.out own other
    ∙ ap (λ b. b && not (eqb own other)) (out.out other)
    ∙ sym (taken-given lines k own other different held))
    (omega (arith, long, out.count, count-given lines k own held))
