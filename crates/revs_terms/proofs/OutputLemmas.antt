-- The registers of a run have a place at least, so a program has an output.
use Rattle.std.proofs.Common.{◌≡◌, ℕ, zero, suc, ◌+◌, ◌-◌, ◌≤◌, leb, Bool, true, false, ◌&&◌, List, [], ◌∷◌, ◌++◌, length, take, drop, sum, refl, ap, subst}
use Rattle.std.proofs.Common.{arith}
use Rattle.std.specs.Prelude.{Option, Some, None, IfSome, ⊤, ℤ, pos, negsuc, ◌+ℤ◌, if◌then◌else◌}
use Rattle.std.specs.List.{AllByRecursion, list_all}
use Rattle.std.proofs.lemmas.Bool.{leb-true}
use Rattle.std.proofs.lemmas.List.{length-append, length-take, length-drop}
use Rattle.revc_base.specs.declared.place.Place.{Place}
use Rattle.revs_tape.specs.declared.tape.Ref.{Ref}
use Rattle.revs_tape.specs.declared.tape.Entry.{Entry}
use Rattle.revs_tape.specs.declared.tape.Kind.{Kind}
use Rattle.revs_tape.specs.declared.tape.Kind.TheVariants as kinds
use Rattle.revs_terms.specs.declared.program.Param.{Param}
use Rattle.revs_terms.specs.declared.term.Part.{Part}
use Rattle.revs_terms.specs.declared.term.Part.TheVariants as part
use Rattle.revs_terms.specs.Programs.{width_of, widths_of}
use Rattle.revs_terms.specs.Trees.{Tree, Trees, ItemTree, ItemTrees, list_of, items_of, used, bool, reg, block, function, parts, apply, append, rotate, clean}
use Rattle.revs_terms.specs.Trees.{assert, ands, xors, assign, loop, nil, cons, bind, run, no_items, item}
use Rattle.revs_terms.specs.Terms.{place_of, has_one, parts_are_formed, is_formed, are_formed, item_is_formed, items_are_formed}
use Rattle.revs_terms.specs.Running.{Value, unit, bit, register, number, closure, Environment, nothing, bound, value_at, bound_length, Bits, Stamped, State}
use Rattle.revs_terms.specs.Running.{Outcome, stuck, went, after, provided, given, turns, element}
use Rattle.revs_terms.specs.Running.{places, turned, worked, registered, written, read, as_register}
use Rattle.revs_terms.specs.Running.{number_of, bit_of, bits_of, part_of, parts_of, items_run, turn_of, turns_of, apply_to, apply_all, claimed, chain_of}
use Rattle.revs_terms.specs.Running.{chain, term_of, run_of}
use Rattle.revs_terms.specs.Runs.{start, from, param_value, params_in, locations_of, read_all, no_bits, nothings, run_without_bits, HasOutputs}
use Rattle.std.proofs.lemmas.Bool.{and_parts}
use Rattle.revs_terms.specs.declared.cause.Cause.{Cause}
use Rattle.revs_terms.specs.declared.cause.Cause.TheVariants as causes

-- A register has a place, and a function has a formed body and values of this sort.
abbrev mutual
  pub IsFull : Value → Type 0
  IsFull unit = ⊤
  IsFull (bit location) = ⊤
  IsFull (register locations) = 1 ≤ length locations
  IsFull (number k) = ⊤
  IsFull (closure names body env) = (is_formed body ≡ true) × AreFull env

  pub AreFull : Environment → Type 0
  AreFull nothing = ⊤
  AreFull (bound value env) = IsFull value × AreFull env

full_at : (env : Environment) (back : ℕ) → AreFull env → IsFull (value_at env back)
full_at nothing back h = tt
full_at (bound value env) zero h = h.0
full_at (bound value env) (suc back) h = full_at env back h.1

-- ---- formed terms, as lists

abbrev AreFormed : List Tree → Type 0
AreFormed us = AllByRecursion (λ u. is_formed u ≡ true) us

formed_list : (us : Trees) → are_formed us ≡ true → AreFormed (list_of us)
formed_list nil e = tt
formed_list (cons u us) e = let h = and_parts (is_formed u) (are_formed us) e in (h.0, formed_list us h.1)

abbrev AreFormedItems : List ItemTree → Type 0
AreFormedItems items = AllByRecursion (λ i. item_is_formed i ≡ true) items

formed_items : (items : ItemTrees) → items_are_formed items ≡ true → AreFormedItems (items_of items)
formed_items no_items e = tt
formed_items (item i items) e = let h = and_parts (item_is_formed i) (items_are_formed items) e in (h.0, formed_items items h.1)

some_length : {A : Type 0} (xs : List A) → has_one xs ≡ true → 1 ≤ length xs
some_length [] e = cc
some_length (x ∷ xs) e = omega arith

-- ---- what an option holds, by the test that decides it

by_test : {A : Type 0} (P : A → Type 0) (a : A) (b : Bool) → (b ≡ true → P a) → IfSome (if b then Some a else None) P
by_test P a true f = f refl
by_test P a false f = tt

-- ---- what an outcome gives

module _ {B : Type 0} where
  abbrev Given : {A : Type 0} → (A → Type 0) → Outcome B A → Type 0
  Given P (stuck why at) = ⊤
  Given P (went a s) = P a

  -- The answer is so, where the run goes on.
  pub record Gives {A : Type 0} (P : A → Type 0) (o : Outcome B A) : Type 0 where
    pub given : Given P o

  nothing_given : {A : Type 0} {P : A → Type 0} (why : Cause) (at : Place) → Gives P (stuck why at)
  nothing_given why at = record { given = tt }

  some_given : {A : Type 0} {P : A → Type 0} (a : A) (s : State B) → P a → Gives P (went a s)
  some_given a s h = record { given = h }

  any : {A : Type 0} (o : Outcome B A) → Gives (λ _. ⊤) o
  any (stuck why at) = record { given = tt }
  any (went a s) = record { given = tt }

  next : {A C : Type 0} {P : A → Type 0} {Q : C → Type 0} {o : Outcome B A} {k : A → State B → Outcome B C}
      → Gives P o → ((a : A) (s : State B) → P a → Gives Q (k a s)) → Gives Q (after o k)
  next {P = P} {Q} {o} {k} h f = by_case P Q o k h f
    where
      by_case : {A C : Type 0} (P : A → Type 0) (Q : C → Type 0) (o : Outcome B A) (k : A → State B → Outcome B C)
          → Gives P o → ((a : A) (s : State B) → P a → Gives Q (k a s)) → Gives Q (after o k)
      by_case P Q (stuck why at) k h f = record { given = tt }
      by_case P Q (went a s) k h f = f a s h.given

  where_so : {A : Type 0} {P : A → Type 0} {o : Outcome B A} (b : Bool) (why : Cause) (at : Place) → (b ≡ true → Gives P o) → Gives P (provided b why at o)
  where_so true why at f = f refl
  where_so false why at f = record { given = tt }

module _ {B : Type 0} (bits : Bits B) where
  full_register : (locations : List ℕ) (at : Place) (s : State B) → 1 ≤ length locations → Gives IsFull (registered bits locations at s)
  full_register locations at s h = next (any (worked bits (length locations) at s)) (λ _ s _. some_given (register locations) s h)

  register_of_full : (at : Place) (value : Value) (s : State B) → IsFull value → Gives (λ r. 1 ≤ length r) (as_register bits at value s)
  register_of_full at unit s h = nothing_given _ at
  register_of_full at (bit location) s h = nothing_given _ at
  register_of_full at (register locations) s h = some_given locations s h
  register_of_full at (number k) s h = nothing_given _ at
  register_of_full at (closure names body env) s h = nothing_given _ at

  given_if : {A : Type 0} (P : A → Type 0) (x : Option A) (why : Cause) (at : Place) (s : State B) → IfSome x P → Gives P (given x why at s)
  given_if P None why at s h = nothing_given why at
  given_if P (Some a) why at s h = some_given a s h

  some_places : (r : List ℕ) (first last : ℤ) → IfSome (places r first last) (λ q. 1 ≤ length q)
  some_places r (pos i) (pos j) = by_test _ _ (leb i j && leb (j + 1) (length r)) (λ fits. some_between (and_parts (leb i j) (leb (j + 1) (length r)) fits))
    where
      some_between : (leb i j ≡ true) × (leb (j + 1) (length r) ≡ true) → 1 ≤ length (take (j + 1 - i) (drop i r))
      some_between h =
          let low = leb-true i j h.0 in let high = leb-true (j + 1) (length r) h.1 in
          omega (arith, length-take (j + 1 - i) (drop i r), length-drop i r)
  some_places r (pos i) (negsuc j) = tt
  some_places r (negsuc i) (pos j) = tt
  some_places r (negsuc i) (negsuc j) = tt

  some_turned : (r : List ℕ) (k : ℤ) → IfSome (turned r k) (λ q. 1 ≤ length q)
  some_turned r (pos i) = by_test _ _ (leb (i + 1) (length r)) (λ fits. let h = leb-true (i + 1) (length r) fits in omega
      (arith, length-append (drop i r) (take i r), length-drop i r))
  some_turned r (negsuc i) = tt

  full_part : (env : Environment) (whole : Place) (p : Part) (value : Value) (s : State B) → Gives IsFull (part_of bits env whole p value s)
  full_part env whole (part.Index i at) value s =
      next (any (as_register bits at value s)) (λ r s _. next (any (number_of bits env i s)) (λ k s _.
      next (any (given (element r k) causes.Index at s)) (λ location s _. some_given (bit location) s tt)))
  full_part env whole (part.Slice i j at) value s =
      next (any (as_register bits at value s)) (λ r s _. next (any (number_of bits env i s)) (λ first s _.
      next (any (number_of bits env j s)) (λ last s _.
      next (given_if (λ q. 1 ≤ length q) (places r first last) causes.Slice at s (some_places r first last))
      (λ some s h. full_register some whole s h))))

  full_parts : (env : Environment) (whole : Place) (ps : List Part) (value : Value) (s : State B) → IsFull value
      → Gives IsFull (parts_of bits env whole ps value s)
  full_parts env whole [] value s h = some_given value s h
  full_parts env whole (p ∷ ps) value s h = next (full_part env whole p value s) (λ value s h. full_parts env whole ps value s h)

  module _ (deeper : Environment → Tree → State B → Outcome B Value)
      (full_deeper : (env : Environment) (u : Tree) (s : State B) → AreFull env → is_formed u ≡ true → Gives IsFull (deeper env u s)) where
    same_count : (env : Environment) (us : List Tree) (s : State B) → Gives (λ ls. length ls ≡ length us) (bits_of bits deeper env us s)
    same_count env [] s = some_given [] s refl
    same_count env (u ∷ us) s =
        next (any (bit_of bits deeper env u s)) (λ first s _. next (same_count env us s) (λ more s h. some_given (first ∷ more) s (ap suc h)))

    full_items : (env : Environment) (items : List ItemTree) (s : State B) → AreFull env → AreFormedItems items
        → Gives AreFull (items_run bits deeper env items s)
    full_items env [] s full formed = some_given env s full
    full_items env (bind name u ∷ items) s full formed =
        next (full_deeper env u s full formed.0) (λ value s h. next (any (worked bits (bound_length value) (place_of u) s)) (λ _ s _.
        full_items (bound value env) items s (h, full) formed.1))
    full_items env (run u ∷ items) s full formed = next (any (deeper env u s)) (λ _ s _. full_items env items s full formed.1)

    full_turns : (env : Environment) (items : List ItemTree) (at : Place) (k : ℤ) (count : ℕ) (s : State B)
        → Gives IsFull (turns_of bits deeper env items at k count s)
    full_turns env items at k zero s = some_given unit s tt
    full_turns env items at k (suc more) s = next (any (turn_of bits deeper env items at k s)) (λ _ s _. full_turns env items at (k +ℤ pos 1) more s)

    full_apply : (at : Place) (head argument : Value) (s : State B) → IsFull head → IsFull argument → Gives IsFull (apply_to bits deeper at head argument s)
    full_apply at unit argument s h full = nothing_given _ at
    full_apply at (bit location) argument s h full = nothing_given _ at
    full_apply at (register locations) argument s h full = nothing_given _ at
    full_apply at (number k) argument s h full = nothing_given _ at
    full_apply at (closure [] body env) argument s h full = nothing_given _ at
    full_apply at (closure (name ∷ []) body env) argument s h full =
        next (any (worked bits (bound_length argument) at s)) (λ _ s _. full_deeper (bound argument env) body s (full, h.1) h.0)
    full_apply at (closure (name ∷ more ∷ names) body env) argument s h full =
        next (any (worked bits (bound_length argument) at s)) (λ _ s _. some_given (closure (more ∷ names) body (bound argument env)) s (h.0, (full, h.1)))

    full_apply_all : (env : Environment) (us : List Tree) (head : Value) (s : State B) → AreFull env → AreFormed us → IsFull head
        → Gives IsFull (apply_all bits deeper env us head s)
    full_apply_all env [] head s full formed h = some_given head s h
    full_apply_all env (u ∷ us) head s full formed h =
        next (full_deeper env u s full formed.0)
        (λ argument s g. next (full_apply (place_of u) head argument s h g) (λ head s h. full_apply_all env us head s full formed.1 h))

    full_claim : (kind : Kind) (env : Environment) (u : Tree) (at : Place) (s : State B) → Gives IsFull (claimed bits deeper kind env u at s)
    full_claim kind env u at s =
        next (any (bit_of bits deeper env u s)) (λ location s _. next (any (read bits location (place_of u) s)) (λ held s _.
        where_so (leb (length s.claims + 1) 4096) causes.Claims at (λ fits. record { given = tt })))

    full_chain_of : (entry : Ref → Ref → Entry) (op : B → B → B) (env : Environment) (first : Place) (so_far : ℕ) (us : List Tree) (s : State B)
        → Gives IsFull (chain_of bits deeper entry op env first so_far us s)
    full_chain_of entry op env first so_far [] s = some_given (bit so_far) s tt
    full_chain_of entry op env first so_far (u ∷ us) s =
        next (any (bit_of bits deeper env u s)) (λ more s _. next (any (read bits so_far first s))
        (λ a s _. next (any (read bits more (place_of u) s)) (λ b s _.
        next (any (written bits (entry a.stamp b.stamp) (op a.bit b.bit) (place_of u) s)) (λ made s _. full_chain_of entry op env first made us s))))

    full_chain : (entry : Ref → Ref → Entry) (op : B → B → B) (env : Environment) (us : List Tree) (s : State B)
        → Gives IsFull (chain bits deeper entry op env us s)
    full_chain entry op env [] s = some_given unit s tt
    full_chain entry op env (u ∷ us) s = next (any (bit_of bits deeper env u s)) (λ first s _. full_chain_of entry op env (place_of u) first us s)

    full_term : (env : Environment) (u : Tree) (s : State B) → AreFull env → is_formed u ≡ true → Gives IsFull (term_of bits deeper env u s)
    full_term env (used name) s full e = some_given (value_at env name.back) s (full_at env name.back full)
    full_term env (bool b at) s full e = next (any (written bits _ (bits.constant b) at s)) (λ made s _. some_given (bit made) s tt)
    full_term env (reg us at) s full e =
        let some = some_length (list_of us) (and_parts (has_one (list_of us)) (are_formed us) e).0 in
        next (same_count env (list_of us) s) (λ locations s count. where_so (leb (length locations) 4096) _ at
        (λ fits. full_register locations at s (omega arith)))
    full_term env (block items last at) s full e =
        let h = and_parts (items_are_formed items) (is_formed last) e in
        next (full_items env (items_of items) s full (formed_items items h.0)) (λ inner s g. full_deeper inner last s g h.1)
    full_term env (function names body at) s full e = some_given (closure names body env) s ((and_parts (has_one names) (is_formed body) e).1, full)
    full_term env (parts base ps) s full e =
        next (full_deeper env base s full (and_parts (has_one ps && parts_are_formed ps) (is_formed base) e).1)
        (λ value s h. full_parts env (place_of base) ps value s h)
    full_term env (apply head us) s full e =
        let h = and_parts (is_formed head) (has_one (list_of us) && are_formed us) e in
        let rest = and_parts (has_one (list_of us)) (are_formed us) h.1 in
        next (full_deeper env head s full h.0) (λ value s g. full_apply_all env (list_of us) value s full (formed_list us rest.1) g)
    full_term env (append u v at) s full e =
        let h = and_parts (is_formed u) (is_formed v) e in
        next (full_deeper env u s full h.0) (λ x s left. next (any (deeper env v s)) (λ y s _.
        next (register_of_full (place_of u) x s left) (λ r s some. next (any (as_register bits (place_of v) y s)) (λ q s _.
        where_so (leb (length r + length q) 4096) _ at (λ fits. full_register (r ++ q) at s (omega (arith, length-append r q)))))))
    full_term env (rotate i u at) s full e =
        next (any (number_of bits env i s)) (λ k s _. next (any (deeper env u s)) (λ x s _.
        next (any (as_register bits (place_of u) x s)) (λ r s _.
        next (given_if (λ q. 1 ≤ length q) (turned r k) causes.Rotate at s (some_turned r k)) (λ all s h. full_register all at s h))))
    full_term env (clean u at) s full e = full_claim kinds.Clean env u at s
    full_term env (assert u at) s full e = full_claim kinds.Assert env u at s
    full_term env (ands us) s full e = full_chain _ bits.and env (list_of us) s
    full_term env (xors us) s full e = full_chain _ bits.xor env (list_of us) s
    full_term env (assign left right) s full e =
        next (any (bit_of bits deeper env left s)) (λ to s _. next (any (bit_of bits deeper env right s)) (λ from s _.
        next (any (read bits to (place_of left) s)) (λ _ s _. next (any (read bits from (place_of right) s)) (λ b s _. some_given unit _ tt))))
    full_term env (loop name a b items at) s full e =
        next (any (number_of bits env a s)) (λ first s _. next (any (number_of bits env b s)) (λ last s _.
        full_turns env (items_of items) at first (turns first last) s))

  full_run : (left : ℕ) (env : Environment) (u : Tree) (s : State B) → AreFull env → is_formed u ≡ true → Gives IsFull (run_of bits left env u s)
  full_run zero env u s full e = nothing_given _ (place_of u)
  full_run (suc left) env u s full e = next (any (worked bits 1 (place_of u) s)) (λ _ s _. full_term (run_of bits left) (full_run left) env u s full e)

  -- ---- the outputs

  some_locations : (at : Place) (value : Value) (s : State B) → IsFull value → Gives (λ ls. 1 ≤ length ls) (locations_of at value s)
  some_locations at unit s h = nothing_given _ at
  some_locations at (bit location) s h = some_given (location ∷ []) s (omega arith)
  some_locations at (register locations) s h = where_so (leb (length locations) 1024) _ at (λ fits. some_given locations s h)
  some_locations at (number k) s h = nothing_given _ at
  some_locations at (closure names body env) s h = nothing_given _ at

  same_outputs : (at : Place) (ls : List ℕ) (s : State B) → Gives (λ os. length os ≡ length ls) (read_all bits at ls s)
  same_outputs at [] s = some_given [] s refl
  same_outputs at (l ∷ ls) s = next (any (read bits l at s)) (λ first s _. next (same_outputs at ls s) (λ more s h. some_given (first ∷ more) s (ap suc h)))

  some_outputs : (left : ℕ) (env : Environment) (body : Tree) (s : State B) → AreFull env → is_formed body ≡ true
      → Gives (λ os. 1 ≤ length os) (after (run_of bits left env body s)
      (λ value s. after (locations_of (place_of body) value s) (read_all bits (place_of body))))
  some_outputs left env body s full e =
      next (full_run left env body s full e) (λ value s h. next (some_locations (place_of body) value s h) (λ ls s some.
      more_outputs (read_all bits (place_of body) ls s) ls some (same_outputs (place_of body) ls s)))
    where
      more_outputs : (o : Outcome B (List (Stamped B))) (ls : List ℕ) → 1 ≤ length ls → Gives (λ os. length os ≡ length ls) o → Gives (λ os. 1 ≤ length os) o
      more_outputs (stuck why at) ls some h = record { given = tt }
      more_outputs (went os s) ls some h = let same = h.given in record { given = omega arith }

-- ---- the parameters

length-from : (first count : ℕ) → length (from first count) ≡ count
length-from first zero = refl
length-from first (suc count) = ap suc (length-from (first + 1) count)

full_param : (first : ℕ) (width : Option ℕ) → leb 1 (width_of width) ≡ true → IsFull (param_value first width)
full_param first None e = tt
full_param first (Some width) e = let h = leb-true 1 width e in omega (arith, length-from first width)

full_params : (first : ℕ) (params : List Param) (env : Environment) → list_all (λ width. leb 1 width) (widths_of params) ≡ true → AreFull env
    → AreFull (params_in first params env)
full_params first [] env e full = full
full_params first (p ∷ ps) env e full =
    let h = and_parts (leb 1 (width_of p.width)) (list_all (λ width. leb 1 width) (widths_of ps)) e in
    full_params (first + width_of p.width) ps (bound (param_value first p.width) env) h.1 (full_param first p.width h.0, full)

pub has_outputs : HasOutputs
has_outputs params body outputs s ps formed e =
    let full : AreFull (params_in 0 params nothing) = full_params 0 params nothing ps.bits tt in
    let gives : Gives (λ os. 1 ≤ length os) (run_without_bits params body) = some_outputs no_bits 400 (params_in 0 params nothing) body
    (start (nothings (sum (widths_of params)))) full formed in
    (subst (λ o. Gives (λ os. 1 ≤ length os) o) e gives).given
