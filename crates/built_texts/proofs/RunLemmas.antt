-- The run of each form of term, by what its parts mean.
use Rattle.std.proofs.Common.{◌≡◌, ℕ, zero, suc, ◌+◌, ◌-◌, ◌≤◌, ◌<◌, leb, Bool, true, false}
use Rattle.std.proofs.Common.{not, ◌&&◌, List, [], ◌∷◌, ◌++◌, length, take, drop, Option, Some, None}
use Rattle.std.proofs.Common.{refl, ap, sym, ◌∙◌, subst, arith, inl, inr}
use Rattle.std.specs.Prelude.{slice_get, ℤ, pos, ◌+ℤ◌, bytes_eq, position}
use Rattle.std.specs.Bool.{xor}
use Rattle.std.specs.List.{position_or_len}
use Rattle.std.proofs.Math.IntN.{+ℤ_idl}
use Rattle.std.proofs.lemmas.Bool.{le-leb, and_from, cond-true, cond-false, cases_Bool}
use Rattle.std.proofs.lemmas.List.{length-append}
use Rattle.revc_base.specs.declared.place.Place.{Place}
use Rattle.revs_tape.specs.declared.tape.Ref.{Ref}
use Rattle.revs_tape.specs.declared.tape.Entry.{Entry}
use Rattle.revs_tape.specs.declared.tape.Entry.TheVariants as entries
use Rattle.revs_terms.specs.declared.cause.Cause.TheVariants as causes
use Rattle.revs_terms.specs.declared.term.Name.{Name}
use Rattle.revs_terms.specs.declared.term.Part.TheVariants as part
use Rattle.revs_terms.specs.Trees.{Tree, Trees, ItemTree, ItemTrees, trees, list_of, item_trees, items_of, used}
use Rattle.revs_terms.specs.Trees.{bool, reg, block, function, parts, apply, append, ands}
use Rattle.revs_terms.specs.Trees.{xors, nil, cons, bind, no_items, item}
use Rattle.revs_terms.specs.Terms.{place_of}
use Rattle.revs_terms.specs.Running.{Value, unit, bit, register, number, closure, Environment, nothing}
use Rattle.revs_terms.specs.Running.{bound, value_at, bound_length, Stamped, State, Outcome, went, after}
use Rattle.revs_terms.specs.Running.{given, element, number_of, worked, registered, as_bit, as_register}
use Rattle.revs_terms.specs.Running.{bit_of, bits_of, parts_of, items_run, block_of, apply_to}
use Rattle.revs_terms.specs.Running.{apply_all, chain_of, chain, written, run_of, places, appended}
use Rattle.revs_terms.specs.Runs.{real_bits}
use Rattle.revs_terms.specs.Scopes.{Scoped, unbound, scoped, and_then, nearer, scoped_tree, scoped_trees, scoped_items}
use Rattle.revs_grammar.specs.Forms.{Numeral}
use Rattle.revs_terms.specs.Numbers.{plus}
use Rattle.revs_grammar.specs.Productions.{digits_of}
use Rattle.built_texts.specs.Forms.{num}
use Rattle.built_texts.specs.Meanings.{Meaning, Scope, of_bit, of_bits, of_function, no_names, named}
use Rattle.built_texts.specs.Meanings.{names_in, meaning_of, length_of, Holds, AreHeld, Agrees, AgreesIn}
use Rattle.built_texts.specs.Meanings.{HasRoom, Grew, Goes, Means, IsRun, AreRuns, no_operands, operand, chained, Applies, all_taken, takes, takes_last}
use Rattle.built_texts.specs.Meanings.{RunsBody, last_is, let_is}
use Rattle.built_texts.proofs.MeaningLemmas.{goes_on, next, where_so, such, stays, further, room}
use Rattle.built_texts.proofs.MeaningLemmas.{less_room, holds_on, held_on, agrees_on, scope_on, length-held}
use Rattle.built_texts.proofs.MeaningLemmas.{length-agrees, works, writes, reads, enters}

-- ---- scopes

pub so_far : {A C : Type 0} {x : Scoped A} {a : A} (f : A → Scoped C) → x ≡ scoped a → and_then x f ≡ f a
so_far f e = ap (λ x. and_then x f) e

-- where a name is found, and what it means there
record IsFound (text : List ℕ) (sc : Scope) (m : Meaning) : Type 0 where
  low : position_or_len (bytes_eq text) (names_in sc) < length (names_in sc)
  means : (store : List (Option (Stamped Bool))) (env : Environment) → AgreesIn store sc env
      → Agrees store m (value_at env (position_or_len (bytes_eq text) (names_in sc)))

-- the first place, and the places behind it
first_place : (p : List ℕ → Bool) (x : List ℕ) (xs : List (List ℕ)) → p x ≡ true → position_or_len p (x ∷ xs) ≡ 0
first_place p x xs e = cond-false (not (p x)) (1 + position_or_len p xs) 0 (ap not e)

later_place : (p : List ℕ → Bool) (x : List ℕ) (xs : List (List ℕ)) → p x ≡ false → position_or_len p (x ∷ xs) ≡ suc (position_or_len p xs)
later_place p x xs e =
    let more : 1 + position_or_len p xs ≡ suc (position_or_len p xs) = omega arith in
    cond-true (not (p x)) (1 + position_or_len p xs) 0 (ap not e) ∙ more

found : (text : List ℕ) (sc : Scope) (m : Meaning) → meaning_of text sc ≡ Some m → IsFound text sc m
found text no_names m e = cc
found text (named name n sc) m e = elim (cases_Bool (bytes_eq text name)) [
  | inl here ↦
      let at = first_place (bytes_eq text) name (names_in sc) here in
      let same : Some n ≡ Some m = sym (cond-true (bytes_eq text name) (Some n) (meaning_of text sc) here) ∙ e in
      let this : n ≡ m = cc in
      record { low = omega arith; means = λ store env h. nearest store env at this h }
  | inr there ↦
      let at = later_place (bytes_eq text) name (names_in sc) there in
      let rest = found text sc m (sym (cond-false (bytes_eq text name) (Some n) (meaning_of text sc) there) ∙ e) in
      record { low = let l = rest.low in omega arith; means = λ store env h. behind store env at rest h }
]
  where
    nearest : (store : List (Option (Stamped Bool))) (env : Environment) → position_or_len (bytes_eq text) (name ∷ names_in sc) ≡ 0 → n ≡ m
        → AgreesIn store (named name n sc) env → Agrees store m (value_at env (position_or_len (bytes_eq text) (name ∷ names_in sc)))
    nearest store nothing at this h = absurd h
    nearest store (bound v env) at this h =
        subst (λ (k : ℕ). Agrees store m (value_at (bound v env) k)) (sym at) (subst (λ (z : Meaning). Agrees store z v) this h.0)

    behind : (store : List (Option (Stamped Bool))) (env : Environment)
        → position_or_len (bytes_eq text) (name ∷ names_in sc) ≡ suc (position_or_len (bytes_eq text) (names_in sc)) → IsFound text sc m
        → AgreesIn store (named name n sc) env → Agrees store m (value_at env (position_or_len (bytes_eq text) (name ∷ names_in sc)))
    behind store nothing at rest h = absurd h
    behind store (bound v env) at rest h =
        subst (λ (k : ℕ). Agrees store m (value_at (bound v env) k)) (sym at) (rest.means store env h.1)

found_position : (p : List ℕ → Bool) (xs : List (List ℕ)) → position_or_len p xs < length xs → position p xs ≡ Some (position_or_len p xs)
found_position p xs low = cond-true (leb (suc (position_or_len p xs)) (length xs)) _ _ (le-leb (suc (position_or_len p xs)) (length xs) (omega arith))

-- ---- a larger bound

pub run_within : {d j k : ℕ} {sc : Scope} {t : Tree} {m : Meaning} → IsRun d sc t m j → j ≤ k → IsRun d sc t m k
run_within r le = record {
  tree = r.tree;
  scoped_as = r.scoped_as;
  goes = λ env s h space. such (r.goes env s h (less_room space le)) (λ v u g. record { agrees = g.agrees; grew = further g.grew (stays u) (omega arith) });
}

-- ---- names and constants

pub run_name : {d : ℕ} {sc : Scope} {m : Meaning} (name : Name) → meaning_of name.text sc ≡ Some m → IsRun (suc d) sc (used name) m 1
run_name {d} {sc} {m} name e =
    let f = found name.text sc m e in
    let back = position_or_len (bytes_eq name.text) (names_in sc) in
    record {
      tree = used (record name { back = back });
      scoped_as = ap (λ (o : Option ℕ). and_then (elim o [ None ↦ unbound name.at | Some back ↦ scoped (record name { back = back }) ]) (λ n. scoped (used n)))
          (found_position (bytes_eq name.text) (names_in sc) f.low);
      goes = λ env s h space. enters d env (used (record name { back = back })) s 0 space (λ u g r.
          goes_on (value_at env back) u (record { agrees = f.means u.store env (scope_on g sc env h); grew = further g (stays u) (omega arith) }));
    }

pub run_constant : {d : ℕ} {sc : Scope} (b : Bool) (at : Place) → IsRun (suc d) sc (bool b at) (of_bit b) 2
run_constant {d} {sc} b at = record {
  tree = bool b at;
  scoped_as = refl;
  goes = λ env s h space. enters d env (bool b at) s 1 space (λ u g r.
      next (λ l v. went (bit l) v) (writes (entries.Const b) b at u r (omega arith))
      (λ l v held. goes_on (bit l) v (record { agrees = held.0; grew = further g held.1 (omega arith) })));
}

-- ---- parts

got_held : (store : List (Option (Stamped Bool))) (bs : List Bool) (ls : List ℕ) (i : ℕ) (b : Bool) → AreHeld store bs ls → slice_get bs i ≡ Some b
    → (l : ℕ) × (slice_get ls i ≡ Some l) × Holds store b l
got_held store [] ls i b h e = cc
got_held store (c ∷ bs) [] i b h e = absurd h
got_held store (c ∷ bs) (l ∷ ls) zero b h e = let same : c ≡ b = cc in (l, refl, subst (λ (z : Bool). Holds store z l) same h.0)
got_held store (c ∷ bs) (l ∷ ls) (suc i) b h e = got_held store bs ls i b h.1 e

-- a number of one part
number_is : (env : Environment) (n : Numeral) (s : State Bool) → n.value ≤ 9999
    → Goes (λ k u. (k ≡ pos n.value) × (s ≡ u)) (number_of real_bits env (plus (digits_of n) ∷ []) s)
number_is env n s le =
    let same : pos 0 +ℤ pos n.value ≡ pos n.value = +ℤ_idl (pos n.value) in
    next (λ k u. went k u)
    (where_so {P = λ k u. (k ≡ pos n.value) × (s ≡ u)} (leb (0 + n.value) 9999) causes.Range n.at (le-leb (0 + n.value) 9999 (omega arith))
    (goes_on (pos (0 + n.value)) s (same, refl)))
    (λ k u h. goes_on k u h)

element_is : (ls : List ℕ) (k : ℤ) (i l : ℕ) (at : Place) (s : State Bool) → k ≡ pos i → slice_get ls i ≡ Some l
    → Goes (λ m u. (m ≡ l) × (s ≡ u)) (given {B = Bool} (element ls k) causes.Index at s)
element_is ls k i l at s e f = record {
  answer = l;
  state = s;
  is = ap (λ (k : ℤ). given {B = Bool} (element ls k) causes.Index at s) e ∙ ap (λ (o : Option ℕ). given {B = Bool} o causes.Index at s) f;
  holds = (refl, refl);
}

-- a value that is a register
register_is : {P : Value → State Bool → Type 0} (at : Place) (bs : List Bool) (v : Value) (s : State Bool)
    (next_step : List ℕ → State Bool → Outcome Bool Value) → Agrees s.store (of_bits bs) v
    → ((ls : List ℕ) → AreHeld s.store bs ls → Goes P (next_step ls s)) → Goes P (after (as_register real_bits at v s) next_step)
register_is at bs (register ls) s k h f = f ls h
register_is at bs unit s k h f = absurd h
register_is at bs (bit l) s k h f = absurd h
register_is at bs (number n) s k h f = absurd h
register_is at bs (closure names body env) s k h f = absurd h

pub run_index : {d k : ℕ} {sc : Scope} {t : Tree} {bs : List Bool} {b : Bool} (i : ℕ) (at dot : Place) → IsRun d sc t (of_bits bs) k
    → slice_get bs i ≡ Some b → i ≤ 9999 → IsRun (suc d) sc (parts t (part.Index (num i at) dot ∷ [])) (of_bit b) (1 + k)
run_index {d} {k} {sc} {t} {bs} {b} i at dot r e le = record {
  tree = parts r.tree (part.Index (num i at) dot ∷ []);
  scoped_as = so_far (λ u. scoped (parts u (part.Index (num i at) dot ∷ []))) r.scoped_as;
  goes = λ env s h space. enters d env (parts r.tree (part.Index (num i at) dot ∷ [])) s k space (λ u g left.
      next (λ v w. parts_of real_bits env (place_of r.tree) (part.Index (num i at) dot ∷ []) v w) (r.goes env u (scope_on g sc env h) left)
      (λ v w m. last env s u w v g m));
}
  where
    last : (env : Environment) (s u w : State Bool) (v : Value) → Grew s u 1 → Means u (of_bits bs) k v w
        → Goes (Means s (of_bit b) (1 + k)) (parts_of real_bits env (place_of r.tree) (part.Index (num i at) dot ∷ []) v w)
    last env s u w v g m =
        next (λ v w. went v w)
        (register_is {P = Means s (of_bit b) (1 + k)} dot bs v w _ m.agrees (λ ls held.
        next _ (number_is env (record { value = i; at = at }) w le) (λ n x is.
        next _ (element_is ls n i (got_held w.store bs ls i b held e).0 dot x is.0 (got_held w.store bs ls i b held e).1) (λ l y at_l.
        goes_on (bit l) y (record {
          agrees = subst (λ (z : ℕ). Holds y.store b z) (sym at_l.0)
              (subst (λ (z : State Bool). Holds z.store b (got_held w.store bs ls i b held e).0) (is.1 ∙ at_l.1) (got_held w.store bs ls i b held e).2);
          grew = subst (λ (z : State Bool). Grew s z (1 + k)) (is.1 ∙ at_l.1) (further g m.grew (omega arith));
        })))))
        (λ v w h. goes_on v w h)

held_drop : (store : List (Option (Stamped Bool))) (i : ℕ) (bs : List Bool) (ls : List ℕ) → AreHeld store bs ls → AreHeld store (drop i bs) (drop i ls)
held_drop store zero bs ls h = h
held_drop store (suc i) [] [] h = tt
held_drop store (suc i) [] (l ∷ ls) h = absurd h
held_drop store (suc i) (b ∷ bs) [] h = absurd h
held_drop store (suc i) (b ∷ bs) (l ∷ ls) h = held_drop store i bs ls h.1

held_take : (store : List (Option (Stamped Bool))) (n : ℕ) (bs : List Bool) (ls : List ℕ) → AreHeld store bs ls → AreHeld store (take n bs) (take n ls)
held_take store zero bs ls h = tt
held_take store (suc n) [] [] h = tt
held_take store (suc n) [] (l ∷ ls) h = absurd h
held_take store (suc n) (b ∷ bs) [] h = absurd h
held_take store (suc n) (b ∷ bs) (l ∷ ls) h = (h.0, held_take store n bs ls h.1)

pub held_append : (store : List (Option (Stamped Bool))) (bs cs : List Bool) (ls ms : List ℕ) → AreHeld store bs ls → AreHeld store cs ms
    → AreHeld store (bs ++ cs) (ls ++ ms)
held_append store [] cs [] ms h g = g
held_append store [] cs (l ∷ ls) ms h g = absurd h
held_append store (b ∷ bs) cs [] ms h g = absurd h
held_append store (b ∷ bs) cs (l ∷ ls) ms h g = (h.0, held_append store bs cs ls ms h.1 g)

places_are : (ls : List ℕ) (k n : ℤ) (i j : ℕ) (at : Place) (s : State Bool) → k ≡ pos i → n ≡ pos j → i ≤ j → j < length ls
    → Goes (λ m u. (m ≡ take (j + 1 - i) (drop i ls)) × (s ≡ u)) (given {B = Bool} (places ls k n) causes.Slice at s)
places_are ls k n i j at s e f le low = record {
  answer = take (j + 1 - i) (drop i ls);
  state = s;
  is = ap (λ (k : ℤ). given {B = Bool} (places ls k n) causes.Slice at s) e
      ∙ ap (λ (n : ℤ). given {B = Bool} (places ls (pos i) n) causes.Slice at s) f
      ∙ ap (λ (o : Option (List ℕ)). given {B = Bool} o causes.Slice at s)
      (cond-true (leb i j && leb (j + 1) (length ls)) (Some (take (j + 1 - i) (drop i ls))) None
      (and_from (leb i j) (leb (j + 1) (length ls)) (le-leb i j le) (le-leb (j + 1) (length ls) (omega arith))));
  holds = (refl, refl);
}

-- a register is made, which counts its length
registers : (bs : List Bool) (ls : List ℕ) (at : Place) (s : State Bool) {n : ℕ} → AreHeld s.store bs ls → HasRoom s n → length bs ≤ n
    → Goes (Means s (of_bits bs) (length bs)) (registered real_bits ls at s)
registers bs ls at s {n} held r le =
    let same = length-held s.store bs ls held in
    next (λ _ u. went (register ls) u) (works (length ls) at s r (omega arith))
    (λ _ u g. goes_on (register ls) u (record { agrees = held_on g bs ls held; grew = further g (stays u) (omega arith) }))

pub run_slice : {d k : ℕ} {sc : Scope} {t : Tree} {bs : List Bool} (i j : ℕ) (at to dot : Place) → IsRun d sc t (of_bits bs) k → i ≤ j → j < length bs
    → j ≤ 9999
    → IsRun (suc d) sc (parts t (part.Slice (num i at) (num j to) dot ∷ [])) (of_bits (take (j + 1 - i) (drop i bs)))
    (1 + k + length (take (j + 1 - i) (drop i bs)))
run_slice {d} {k} {sc} {t} {bs} i j at to dot r le low few = record {
  tree = parts r.tree (part.Slice (num i at) (num j to) dot ∷ []);
  scoped_as = so_far (λ u. scoped (parts u (part.Slice (num i at) (num j to) dot ∷ []))) r.scoped_as;
  goes = λ env s h space. enters d env (parts r.tree (part.Slice (num i at) (num j to) dot ∷ [])) s (k + length (take (j + 1 - i) (drop i bs)))
      (less_room space (omega arith)) (λ u g left.
      next (λ v w. parts_of real_bits env (place_of r.tree) (part.Slice (num i at) (num j to) dot ∷ []) v w)
      (r.goes env u (scope_on g sc env h) (less_room left (omega arith)))
      (λ v w m. last env s u w v g m (room left m.grew (omega arith))));
}
  where
    last : (env : Environment) (s u w : State Bool) (v : Value) → Grew s u 1 → Means u (of_bits bs) k v w
        → HasRoom w (length (take (j + 1 - i) (drop i bs)))
        → Goes (Means s (of_bits (take (j + 1 - i) (drop i bs))) (1 + k + length (take (j + 1 - i) (drop i bs))))
        (parts_of real_bits env (place_of r.tree) (part.Slice (num i at) (num j to) dot ∷ []) v w)
    last env s u w v g m space =
        let cut = take (j + 1 - i) (drop i bs) in
        next (λ v w. went v w)
        (register_is {P = Means s (of_bits cut) (1 + k + length cut)} dot bs v w _ m.agrees (λ ls held.
        next _ (number_is env (record { value = i; at = at }) w (omega arith)) (λ a x is.
        next _ (number_is env (record { value = j; at = to }) x few) (λ b y js.
        next _ (places_are ls a b i j dot y is.0 js.0 le (let same = length-held w.store bs ls held in omega arith)) (λ some z cuts.
        let same : w ≡ z = is.1 ∙ js.1 ∙ cuts.1 in
        let of_cut : AreHeld w.store cut some = subst (AreHeld w.store cut) (sym cuts.0)
        (held_take w.store (j + 1 - i) (drop i bs) (drop i ls) (held_drop w.store i bs ls held)) in
        such (registers cut some (place_of r.tree) z (subst (λ (q : State Bool). AreHeld q.store cut some) same of_cut)
        (subst (λ (q : State Bool). HasRoom q (length cut)) same space) (omega arith))
        (λ value end means. record {
          agrees = means.agrees;
          grew = further (subst (λ (q : State Bool). Grew s q (1 + k)) same (further g m.grew (omega arith))) means.grew (omega arith);
        }))))))
        (λ v w h. goes_on v w h)

-- ---- operands

bit_runs : {d k : ℕ} {sc : Scope} {t : Tree} {b : Bool} (r : IsRun d sc t (of_bit b) k) (env : Environment) (s : State Bool) → AgreesIn s.store sc env
    → HasRoom s k → Goes (λ l u. Holds u.store b l × Grew s u k) (bit_of real_bits (run_of real_bits d) env r.tree s)
bit_runs {d} {k} {sc} {t} {b} r env s h space =
    next (λ v u. as_bit real_bits (place_of r.tree) v u) (r.goes env s h space) (λ v u m. held_bit v u m.agrees m.grew)
  where
    held_bit : (v : Value) (u : State Bool) → Agrees u.store (of_bit b) v → Grew s u k
        → Goes (λ l u. Holds u.store b l × Grew s u k) (as_bit real_bits (place_of r.tree) v u)
    held_bit (bit l) u h g = goes_on l u (h, g)
    held_bit unit u h g = absurd h
    held_bit (register ls) u h g = absurd h
    held_bit (number n) u h g = absurd h
    held_bit (closure names body env) u h g = absurd h

-- the operands with their names bound
abbrev pub bound_trees : {d : ℕ} {sc : Scope} {k : ℕ} {ts : List Tree} {bs : List Bool} → AreRuns d sc ts bs k → Trees
bound_trees no_operands = nil
bound_trees (operand r rs) = cons r.tree (bound_trees rs)

scoped_operands : {d : ℕ} {sc : Scope} {k : ℕ} {ts : List Tree} {bs : List Bool} (rs : AreRuns d sc ts bs k)
    → scoped_trees (names_in sc) (trees ts) ≡ scoped (bound_trees rs)
scoped_operands no_operands = refl
scoped_operands {sc = sc} (operand {t = t} {ts = ts} r rs) =
    so_far (λ u. and_then (scoped_trees (names_in sc) (trees ts)) (λ us. scoped (cons u us))) r.scoped_as
    ∙ so_far (λ us. scoped (cons r.tree us)) (scoped_operands rs)

bits_run : {d : ℕ} {sc : Scope} {k : ℕ} {ts : List Tree} {bs : List Bool} (rs : AreRuns d sc ts bs k) (env : Environment) (s : State Bool)
    → AgreesIn s.store sc env → HasRoom s k
    → Goes (λ ls u. AreHeld u.store bs ls × Grew s u k) (bits_of real_bits (run_of real_bits d) env (list_of (bound_trees rs)) s)
bits_run no_operands env s h space = goes_on [] s (tt, stays s)
bits_run {d} {sc} (operand {b = b} {bs = bs} {j = i} {k = l} r rs) env s h space =
    next _ (bit_runs r env s h (less_room space (omega arith))) (λ first u g.
    next _ (bits_run rs env u (scope_on g.1 sc env h) (room space g.1 (omega arith))) (λ more v f.
    goes_on (first ∷ more) v ((holds_on f.1 b first g.0, f.0), further g.1 f.1 (omega arith))))

-- ---- chains

chains : {d : ℕ} {sc : Scope} {k : ℕ} {ts : List Tree} {bs : List Bool} (entry : Ref → Ref → Entry) (op : Bool → Bool → Bool) (at : Place)
    (rs : AreRuns d sc ts bs k) (env : Environment) (s : State Bool) (b : Bool) (l : ℕ) → Holds s.store b l → AgreesIn s.store sc env
    → HasRoom s (k + length bs)
    → Goes (Means s (of_bit (chained op b bs)) (k + length bs))
    (chain_of real_bits (run_of real_bits d) entry op env at l (list_of (bound_trees rs)) s)
chains entry op at no_operands env s b l holds h space = goes_on (bit l) s (record { agrees = holds; grew = stays s })
chains {d} {sc} entry op at (operand {b = c} {bs = cs} {j = j} {k = k} r rs) env s b l holds h space =
    next _ (bit_runs r env s h (less_room space (omega arith))) (λ other u g.
    next _ (reads b l at u (holds_on g.1 b l holds)) (λ x v xs.
    next _ (reads c other (place_of r.tree) v (subst (λ (q : State Bool). Holds q.store c other) xs.1 g.0)) (λ y w ys.
    written_next (λ z a made. chains entry op at rs env z a made) other u v w x y g xs ys)))
  where
    written_next : ((z : State Bool) (a : Bool) (made : ℕ) → Holds z.store a made → AgreesIn z.store sc env → HasRoom z (k + length cs)
        → Goes (Means z (of_bit (chained op a cs)) (k + length cs))
        (chain_of real_bits (run_of real_bits d) entry op env at made (list_of (bound_trees rs)) z))
        → (other : ℕ) (u v w : State Bool) (x y : Stamped Bool) → Holds u.store c other × Grew s u j → (x.bit ≡ b) × (u ≡ v)
        → (y.bit ≡ c) × (v ≡ w)
        → Goes (Means s (of_bit (chained op (op b c) cs)) (j + k + suc (length cs)))
        (after (written real_bits (entry x.stamp y.stamp) (op x.bit y.bit) (place_of r.tree) w)
        (λ made z. chain_of real_bits (run_of real_bits d) entry op env at made (list_of (bound_trees rs)) z))
    written_next rec other u v w x y g xs ys =
        let grew : Grew s w j = subst (λ (q : State Bool). Grew s q j) (xs.1 ∙ ys.1) g.1 in
        next _ (writes (entry x.stamp y.stamp) (op x.bit y.bit) (place_of r.tree) w (room {k = 1 + (k + length cs)} space grew (omega arith)) (omega arith))
        (λ made z m.
        let all : Grew s z (j + 1) = further grew m.1 (omega arith) in
        let is : op x.bit y.bit ≡ op b c = ap (λ (a : Bool). op a y.bit) xs.0 ∙ ap (op b) ys.0 in
        such (rec z (op b c) made (subst (λ (q : Bool). Holds z.store q made) is m.0) (scope_on all sc env h)
        (room space all (omega arith)))
        (λ value end means. record { agrees = means.agrees; grew = further all means.grew (omega arith) }))

chain_goes : {d j k : ℕ} {sc : Scope} {t : Tree} {ts : List Tree} {b : Bool} {bs : List Bool} (entry : Ref → Ref → Entry) (op : Bool → Bool → Bool)
    (r : IsRun d sc t (of_bit b) j) (rs : AreRuns d sc ts bs k) (env : Environment) (s : State Bool) → AgreesIn s.store sc env
    → HasRoom s (j + k + length bs)
    → Goes (Means s (of_bit (chained op b bs)) (j + k + length bs))
    (chain real_bits (run_of real_bits d) entry op env (list_of (cons r.tree (bound_trees rs))) s)
chain_goes {d} {j} {k} {sc} {bs = bs} entry op r rs env s h space =
    next _ (bit_runs r env s h (less_room space (omega arith))) (λ l u g.
    such (chains entry op (place_of r.tree) rs env u _ l g.0 (scope_on g.1 sc env h) (room space g.1 (omega arith)))
    (λ value end means. record { agrees = means.agrees; grew = further g.1 means.grew (omega arith) }))

-- the trees of a chain, with their names bound
scoped_chain : {d j k : ℕ} {sc : Scope} {t : Tree} {ts : List Tree} {b : Bool} {bs : List Bool} (r : IsRun d sc t (of_bit b) j) (rs : AreRuns d sc ts bs k)
    → scoped_trees (names_in sc) (cons t (trees ts)) ≡ scoped (cons r.tree (bound_trees rs))
scoped_chain r rs = scoped_operands (operand r rs)

pub run_xor : {d j k : ℕ} {sc : Scope} {t : Tree} {ts : List Tree} {b : Bool} {bs : List Bool} → IsRun d sc t (of_bit b) j → AreRuns d sc ts bs k
    → IsRun (suc d) sc (xors (trees (t ∷ ts))) (of_bit (chained xor b bs)) (1 + (j + k + length bs))
run_xor {d} {j} {k} {sc} {bs = bs} r rs = record {
  tree = xors (cons r.tree (bound_trees rs));
  scoped_as = so_far (λ us. scoped (xors us)) (scoped_chain r rs);
  goes = λ env s h space. enters d env (xors (cons r.tree (bound_trees rs))) s (j + k + length bs) space (λ u g left.
      such (chain_goes entries.Xor xor r rs env u (scope_on g sc env h) left)
      (λ value end means. record { agrees = means.agrees; grew = further g means.grew (omega arith) }));
}

pub run_and : {d j k : ℕ} {sc : Scope} {t : Tree} {ts : List Tree} {b : Bool} {bs : List Bool} → IsRun d sc t (of_bit b) j → AreRuns d sc ts bs k
    → IsRun (suc d) sc (ands (trees (t ∷ ts))) (of_bit (chained ◌&&◌ b bs)) (1 + (j + k + length bs))
run_and {d} {j} {k} {sc} {bs = bs} r rs = record {
  tree = ands (cons r.tree (bound_trees rs));
  scoped_as = so_far (λ us. scoped (ands us)) (scoped_chain r rs);
  goes = λ env s h space. enters d env (ands (cons r.tree (bound_trees rs))) s (j + k + length bs) space (λ u g left.
      such (chain_goes entries.And ◌&&◌ r rs env u (scope_on g sc env h) left)
      (λ value end means. record { agrees = means.agrees; grew = further g means.grew (omega arith) }));
}

-- ---- registers

pub run_reg : {d k : ℕ} {sc : Scope} {ts : List Tree} {bs : List Bool} (at : Place) → AreRuns d sc ts bs k → length bs ≤ 4096
    → IsRun (suc d) sc (reg (trees ts) at) (of_bits bs) (1 + (k + length bs))
run_reg {d} {k} {sc} {ts} {bs} at rs le = record {
  tree = reg (bound_trees rs) at;
  scoped_as = so_far (λ us. scoped (reg us at)) (scoped_operands rs);
  goes = λ env s h space. enters d env (reg (bound_trees rs) at) s (k + length bs) space (λ u g left.
      next _ (bits_run rs env u (scope_on g sc env h) (less_room left (omega arith))) (λ ls v held.
      let same = length-held v.store bs ls held.0 in
      where_so (leb (length ls) 4096) causes.Length at (le-leb (length ls) 4096 (omega arith))
      (such (registers bs ls at v held.0 (room {k = length bs} left held.1 (omega arith)) (omega arith))
      (λ value end means. let both : Grew s v (1 + k) = further g held.1 (omega arith) in
      record { agrees = means.agrees; grew = further both means.grew (omega arith) }))));
}

pub run_append : {d j k : ℕ} {sc : Scope} {t u : Tree} {bs cs : List Bool} (at : Place) → IsRun d sc t (of_bits bs) j → IsRun d sc u (of_bits cs) k
    → length (bs ++ cs) ≤ 4096 → IsRun (suc d) sc (append t u at) (of_bits (bs ++ cs)) (1 + (j + k + length (bs ++ cs)))
run_append {d} {j} {k} {sc} {t} {u} {bs} {cs} at r q le = record {
  tree = append r.tree q.tree at;
  scoped_as = so_far (λ c. and_then (scoped_tree (names_in sc) u) (λ d. scoped (append c d at))) r.scoped_as
      ∙ so_far (λ d. scoped (append r.tree d at)) q.scoped_as;
  goes = λ env s h space. enters d env (append r.tree q.tree at) s (j + k + length (bs ++ cs)) space (λ w g left.
      next _ (r.goes env w (scope_on g sc env h) (less_room left (omega arith))) (λ x y m.
      next _ (q.goes env y (scope_on m.grew sc env (scope_on g sc env h)) (room left m.grew (omega arith))) (λ z v n.
      let two : Grew w v (j + k) = further m.grew n.grew (omega arith) in
      both env s w y v x z g m n (room left two (omega arith)))));
}
  where
    both : (env : Environment) (s w y v : State Bool) (x z : Value) → Grew s w 1 → Means w (of_bits bs) j x y → Means y (of_bits cs) k z v
        → HasRoom v (length (bs ++ cs))
        → Goes (Means s (of_bits (bs ++ cs)) (1 + (j + k + length (bs ++ cs)))) (appended real_bits (place_of r.tree) (place_of q.tree) at x z v)
    both env s w y v x z g m n space =
        register_is (place_of r.tree) bs x v _ (agrees_on n.grew (of_bits bs) x m.agrees) (λ ls held.
        register_is (place_of q.tree) cs z v _ n.agrees (λ ms held_too.
        let all = held_append v.store bs cs ls ms held held_too in
        let same = length-held v.store (bs ++ cs) (ls ++ ms) all in
        let two = length-append ls ms in
        where_so (leb (length ls + length ms) 4096) causes.Length at (le-leb (length ls + length ms) 4096 (omega arith))
        (such (registers (bs ++ cs) (ls ++ ms) at v all space (omega arith))
        (λ value end means.
        let first : Grew s y (1 + j) = further g m.grew (omega arith) in
        let two : Grew s v (1 + j + k) = further first n.grew (omega arith) in
        record { agrees = means.agrees; grew = further two means.grew (omega arith) }))))

-- ---- functions

pub run_function : {d : ℕ} {sc : Scope} (names : List Name) (body inner : Tree) (at : Place)
    → scoped_tree (nearer names (names_in sc)) body ≡ scoped inner → IsRun (suc d) sc (function names body at) (of_function names body sc) 1
run_function {d} {sc} names body inner at e = record {
  tree = function names inner at;
  scoped_as = so_far (λ b. scoped (function names b at)) e;
  goes = λ env s h space. enters d env (function names inner at) s 0 space (λ u g r.
      goes_on (closure names inner env) u (record { agrees = (refl, e, scope_on g sc env h); grew = further g (stays u) (omega arith) }));
}

-- the arguments with their names bound
abbrev pub bound_arguments : {d : ℕ} {sc : Scope} {m : Meaning} {ts : List Tree} {r : Meaning} {k : ℕ} → Applies d sc m ts r k → Trees
bound_arguments all_taken = nil
bound_arguments (takes a rest) = cons a.tree (bound_arguments rest)
bound_arguments (takes_last a body rest) = cons a.tree (bound_arguments rest)

scoped_arguments : {d : ℕ} {sc : Scope} {m : Meaning} {ts : List Tree} {r : Meaning} {k : ℕ} (h : Applies d sc m ts r k)
    → scoped_trees (names_in sc) (trees ts) ≡ scoped (bound_arguments h)
scoped_arguments all_taken = refl
scoped_arguments {sc = sc} (takes {t = t} {ts = ts} a rest) =
    so_far (λ u. and_then (scoped_trees (names_in sc) (trees ts)) (λ us. scoped (cons u us))) a.scoped_as
    ∙ so_far (λ us. scoped (cons a.tree us)) (scoped_arguments rest)
scoped_arguments {sc = sc} (takes_last {t = t} {ts = ts} a body rest) =
    so_far (λ u. and_then (scoped_trees (names_in sc) (trees ts)) (λ us. scoped (cons u us))) a.scoped_as
    ∙ so_far (λ us. scoped (cons a.tree us)) (scoped_arguments rest)

pub same_scoped : {A : Type 0} {a b : A} → scoped a ≡ scoped b → a ≡ b
same_scoped e = cc

-- a function that is applied to a value
module _ (d : ℕ) (own : Scope) (body : Tree) where
  -- one of several names is taken
  takes_one : (n more : Name) (ns : List Name) (a : Meaning) (f v : Value) (at : Place) (s : State Bool) {k : ℕ}
      → Agrees s.store (of_function (n ∷ more ∷ ns) body own) f → Agrees s.store a v → HasRoom s k → length_of a ≤ k
      → Goes (Means s (of_function (more ∷ ns) body (named n.text a own)) (length_of a)) (apply_to real_bits (run_of real_bits d) at f v s)
  takes_one n more ns a (closure others inner env) v at s {k} h g space le =
      let same = length-agrees s.store a v g in
      subst (λ (z : List Name). Goes (Means s (of_function (more ∷ ns) body (named n.text a own)) (length_of a))
      (apply_to real_bits (run_of real_bits d) at (closure z inner env) v s)) h.0
      (next (λ _ u. went (closure (more ∷ ns) inner (bound v env)) u) (works (bound_length v) at s space (omega arith))
      (λ _ u grew. goes_on (closure (more ∷ ns) inner (bound v env)) u (record {
        agrees = (refl, h.1, (agrees_on grew a v g, scope_on grew own env h.2));
        grew = further grew (stays u) (omega arith);
      })))
  takes_one n more ns a unit v at s h g space le = absurd h
  takes_one n more ns a (bit l) v at s h g space le = absurd h
  takes_one n more ns a (register ls) v at s h g space le = absurd h
  takes_one n more ns a (number i) v at s h g space le = absurd h

  -- the last name is taken, and the body is run
  takes_all : (n : Name) (a m : Meaning) (l : ℕ) (f v : Value) (at : Place) (s : State Bool) → IsRun d (named n.text a own) body m l
      → Agrees s.store (of_function (n ∷ []) body own) f → Agrees s.store a v → HasRoom s (length_of a + l)
      → Goes (Means s m (length_of a + l)) (apply_to real_bits (run_of real_bits d) at f v s)
  takes_all n a m l (closure others inner env) v at s r h g space =
      let same = length-agrees s.store a v g in
      let tree : r.tree ≡ inner = same_scoped (sym r.scoped_as ∙ h.1) in
      subst (λ (z : List Name). Goes (Means s m (length_of a + l)) (apply_to real_bits (run_of real_bits d) at (closure z inner env) v s)) h.0
      (next (λ _ u. run_of real_bits d (bound v env) inner u) (works (bound_length v) at s space (omega arith)) (λ _ u grew.
      subst (λ (z : Tree). Goes (Means s m (length_of a + l)) (run_of real_bits d (bound v env) z u)) tree
      (such (r.goes (bound v env) u (agrees_on grew a v g, scope_on grew own env h.2) (room space grew (omega arith)))
      (λ value end means. record { agrees = means.agrees; grew = further grew means.grew (omega arith) }))))
  takes_all n a m l unit v at s r h g space = absurd h
  takes_all n a m l (bit o) v at s r h g space = absurd h
  takes_all n a m l (register ls) v at s r h g space = absurd h
  takes_all n a m l (number i) v at s r h g space = absurd h

applies : {d : ℕ} {sc : Scope} {m : Meaning} {ts : List Tree} {r : Meaning} {k : ℕ} (h : Applies d sc m ts r k) (env : Environment) (f : Value)
    (s : State Bool) → AgreesIn s.store sc env → Agrees s.store m f → HasRoom s k
    → Goes (Means s r k) (apply_all real_bits (run_of real_bits d) env (list_of (bound_arguments h)) f s)
applies all_taken env f s h g space = goes_on f s (record { agrees = g; grew = stays s })
applies {d} {sc} (takes {body = body} {n = n} {next = more} {ns = ns} {own = own} {a = a} {j = j} t rest) env f s h g space =
    next _ (t.goes env s h (less_room space (omega arith))) (λ v u m.
    next _ (takes_one d own body n more ns a f v (place_of t.tree) u (agrees_on m.grew (of_function (n ∷ more ∷ ns) body own) f g) m.agrees
    (room {k = length_of a} space m.grew (omega arith)) (omega arith)) (λ x w q.
    let all : Grew s w (j + length_of a) = further m.grew q.grew (omega arith) in
    such (applies rest env x w (scope_on all sc env h) q.agrees (room space all (omega arith)))
    (λ value end means. record { agrees = means.agrees; grew = further all means.grew (omega arith) })))
applies {d} {sc} (takes_last {body = body} {n = n} {own = own} {a = a} {m = m} {j = j} {l = l} t inner rest) env f s h g space =
    next _ (t.goes env s h (less_room space (omega arith))) (λ v u q.
    next _ (takes_all d own body n a m l f v (place_of t.tree) u inner (agrees_on q.grew (of_function (n ∷ []) body own) f g) q.agrees
    (room space q.grew (omega arith))) (λ x w p.
    let all : Grew s w (j + (length_of a + l)) = further q.grew p.grew (omega arith) in
    such (applies rest env x w (scope_on all sc env h) p.agrees (room space all (omega arith)))
    (λ value end means. record { agrees = means.agrees; grew = further all means.grew (omega arith) })))

pub run_apply : {d j k : ℕ} {sc : Scope} {head : Tree} {m r : Meaning} {ts : List Tree} → IsRun d sc head m j → Applies d sc m ts r k
    → IsRun (suc d) sc (apply head (trees ts)) r (1 + (j + k))
run_apply {d} {j} {k} {sc} {head} {m} {r} {ts} f h = record {
  tree = apply f.tree (bound_arguments h);
  scoped_as = so_far (λ t. and_then (scoped_trees (names_in sc) (trees ts)) (λ us. scoped (apply t us))) f.scoped_as
      ∙ so_far (λ us. scoped (apply f.tree us)) (scoped_arguments h);
  goes = λ env s agree space. enters d env (apply f.tree (bound_arguments h)) s (j + k) space (λ u g left.
      next _ (f.goes env u (scope_on g sc env agree) (less_room left (omega arith))) (λ v w p.
      let all : Grew s w (1 + j) = further g p.grew (omega arith) in
      such (applies h env v w (scope_on all sc env agree) p.agrees (room left p.grew (omega arith)))
      (λ value end means. record { agrees = means.agrees; grew = further all means.grew (omega arith) })));
}

-- ---- blocks

-- the items and the last expression with their names bound
abbrev pub bound_items : {d : ℕ} {sc : Scope} {is : List ItemTree} {last : Tree} {m : Meaning} {k : ℕ} → RunsBody d sc is last m k → ItemTrees
bound_items (last_is r) = no_items
bound_items (let_is {name = name} r rest) = item (bind name r.tree) (bound_items rest)

abbrev pub bound_last : {d : ℕ} {sc : Scope} {is : List ItemTree} {last : Tree} {m : Meaning} {k : ℕ} → RunsBody d sc is last m k → Tree
bound_last (last_is r) = r.tree
bound_last (let_is r rest) = bound_last rest

-- the names behind the items
abbrev names_behind : {d : ℕ} {sc : Scope} {is : List ItemTree} {last : Tree} {m : Meaning} {k : ℕ} → RunsBody d sc is last m k → List (List ℕ)
names_behind {sc = sc} (last_is r) = names_in sc
names_behind (let_is r rest) = names_behind rest

scoped_body : {d : ℕ} {sc : Scope} {is : List ItemTree} {last : Tree} {m : Meaning} {k : ℕ} (b : RunsBody d sc is last m k)
    → (scoped_items (names_in sc) (item_trees is) ≡ scoped (bound_items b, names_behind b)) × (scoped_tree (names_behind b) last ≡ scoped (bound_last b))
scoped_body (last_is r) = (refl, r.scoped_as)
scoped_body {sc = sc} (let_is {name = name} {items = items} r rest) =
    let h = scoped_body rest in (
      so_far (λ v. and_then (scoped_items (name.text ∷ names_in sc) (item_trees items)) (λ r. scoped (item (bind name v) r.0, r.1))) r.scoped_as
          ∙ so_far (λ q. scoped (item (bind name r.tree) q.0, q.1)) h.0,
      h.1,
    )

-- an item in front of a body: its value, the work of its binding, and then the body
item_goes : (d k n : ℕ) (m : Meaning) (r : Tree) (name : Name) (items : List ItemTree) (last : Tree) (env : Environment) (s : State Bool)
    (P : Value → State Bool → Type 0) → Goes P (run_of real_bits d env r s)
    → ((v : Value) (u : State Bool) → P v u → Goes (λ _ w. Grew u w n) (worked real_bits (bound_length v) (place_of r) u))
    → ((v : Value) (u w : State Bool) → P v u → Grew u w n → Goes (Means s m k) (block_of real_bits (run_of real_bits d) (bound v env) items last w))
    → Goes (Means s m k) (block_of real_bits (run_of real_bits d) env (bind name r ∷ items) last s)
item_goes d k n m r name items last env s P h f g =
    let w = f h.answer h.state h.holds in
    let o = g h.answer h.state w.state h.holds w.holds in
    record {
      answer = o.answer;
      state = o.state;
      is = ap (λ x. after (after x bound_and_on) behind) h.is ∙ ap (λ x. after (after x (λ _ u. items_run real_bits (run_of real_bits d)
          (bound h.answer env) items u)) behind) w.is ∙ o.is;
      holds = o.holds;
    }
  where
    behind : Environment → State Bool → Outcome Bool Value
    behind e u = run_of real_bits d e last u

    bound_and_on : Value → State Bool → Outcome Bool Environment
    bound_and_on v u = after (worked real_bits (bound_length v) (place_of r) u) (λ _ u. items_run real_bits (run_of real_bits d) (bound v env) items u)

body_goes : {d : ℕ} {sc : Scope} {is : List ItemTree} {last : Tree} {m : Meaning} {k : ℕ} (b : RunsBody d sc is last m k) (env : Environment)
    (s : State Bool) → AgreesIn s.store sc env → HasRoom s k
    → Goes (Means s m k) (block_of real_bits (run_of real_bits d) env (items_of (bound_items b)) (bound_last b) s)
body_goes (last_is r) env s h space = r.goes env s h space
body_goes {d} {sc} (let_is {name = name} {a = a} {m = m} {j = j} {k = k} r rest) env s h space =
    item_goes d (j + length_of a + k) (length_of a) m r.tree name (items_of (bound_items rest)) (bound_last rest) env s (Means s a j)
    (r.goes env s h (less_room space (omega arith)))
    (λ v u q. let same = length-agrees u.store a v q.agrees in
    such (works (bound_length v) (place_of r.tree) u (room {k = length_of a} space q.grew (omega arith)) (omega arith))
    (λ _ w g. subst (Grew u w) same g))
    (λ v u w q g.
    let all : Grew s w (j + length_of a) = further q.grew g (omega arith) in
    such (body_goes rest (bound v env) w (agrees_on g a v q.agrees, scope_on all sc env h) (room space all (omega arith)))
    (λ value end means. record { agrees = means.agrees; grew = further all means.grew (omega arith) }))

pub run_block : {d k : ℕ} {sc : Scope} {is : List ItemTree} {last : Tree} {m : Meaning} (at : Place) → RunsBody d sc is last m k
    → IsRun (suc d) sc (block (item_trees is) last at) m (1 + k)
run_block {d} {k} {sc} {is} {last} {m} at b = record {
  tree = block (bound_items b) (bound_last b) at;
  scoped_as = so_far (λ r. and_then (scoped_tree r.1 last) (λ l. scoped (block r.0 l at))) (scoped_body b).0
      ∙ so_far (λ l. scoped (block (bound_items b) l at)) (scoped_body b).1;
  goes = λ env s h space. enters d env (block (bound_items b) (bound_last b) at) s k space (λ u g left.
      such (body_goes b env u (scope_on g sc env h) left)
      (λ value end means. record { agrees = means.agrees; grew = further g means.grew (omega arith) }));
}
