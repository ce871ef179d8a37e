-- The work on a list of flips: its steps keep the line map, and its end is tidy.
use Rattle.std.proofs.Common.{◌≡◌, ℕ, ◌<◌, ◌≤◌, Bool, true, false, eqb, Option, Some, None, List, [], ◌∷◌, ◌++◌, length, map}
use Rattle.std.proofs.Common.{reverse}
use Rattle.std.proofs.Common.{refl, sym, ap, ◌∙◌, subst, arith}
use Rattle.std.specs.List.{AllByRecursion, list_any}
use Rattle.std.proofs.lemmas.Bool.{and_parts, and_from, or_left, or_right, false≢true, eq-eqb}
use Rattle.std.proofs.lemmas.List.{length-reverse, length-append, length-map, map-append}
use Rattle.list_facts.specs.Lists.{below}
use Rattle.list_facts.proofs.AllLemmas.{AllByRecursion-append, AllByRecursion-reverse}
use Rattle.list_facts.proofs.OrderLemmas.{IsRising-filter}
use Rattle.std.specs.Option.{MatchOption}
use Rattle.mct_circuit.specs.Gates.{GateView, AreGatesOn, IsGateOn, line_map}
use Rattle.mct_circuit.specs.Sizes.{has_line}
use Rattle.mct_circuit.proofs.ReversalLemmas.{length-line_map, line_map-append}
use Rattle.flip_lists.specs.declared.flip.Controls.{Controls}
use Rattle.flip_lists.specs.declared.flip.Controls.TheVariants.{Zero, One, Two}
use Rattle.flip_lists.specs.declared.flip.Flip.{Flip}
use Rattle.circuit_tidy.specs.Blocks.{IsBlock, addition_of, cx, elimination_of, one_line, touched}
use Rattle.circuit_tidy.specs.Elimination.{eliminated}
use Rattle.flip_lists.specs.Flips.{AreFlipsOn, controls_of, gate_of, gates_of, is_cx, is_one, lines_in, touches}
use Rattle.circuit_tidy.specs.Pairs.{HasPair}
use Rattle.circuit_tidy.specs.Tidied.{IsTidied}
use Rattle.flip_lists.specs.Settling.{with_flips}
use Rattle.circuit_tidy.specs.inside.Walking.{AreShort}
use Rattle.circuit_tidy.specs.inside.Work.{Follows, GoesOn, IsDone}
use Rattle.circuit_tidy.proofs.BlockLemmas.{below_rises, has_line-below, any_low}
use Rattle.circuit_tidy.proofs.EliminationLemmas.{AreLines, IsWithin, eliminated_replaces, gates_on, has_line-filter}
use Rattle.flip_lists.proofs.GateLemmas.{gates_are_on}
use Rattle.flip_lists.proofs.IndexLemmas.{lines_of_flip}
use Rattle.flip_lists.proofs.SettlingLemmas.{run-reverse, run-with_flips, length-with_flips, on-with_flips, settled-with_flips}
use Rattle.circuit_tidy.proofs.PairLemmas.{settled_has_no_pair}

-- ---- one after another

pub follows_further : (n : ℕ) (old mid new : List Flip) → Follows n old mid → Follows n mid new → Follows n old new
follows_further n old mid new these this = record {
  on = this.on;
  few = let one = these.few in let two = this.few in omega arith;
  same = λ bits long. this.same bits long ∙ these.same bits long;
}

-- ---- the pass

pub settled_follows : (n : ℕ) (flips : List Flip) → AreFlipsOn n flips → Follows n flips (reverse (with_flips flips []))
settled_follows n flips on = record {
  on = AllByRecursion-reverse (λ f. IsGateOn n (gate_of f)) (with_flips flips []) (on-with_flips n flips [] on tt);
  few = omega (arith, length-reverse (with_flips flips []), length-with_flips flips []);
  same = λ bits long.
      run-reverse (with_flips flips []) bits ∙ run-with_flips flips [] bits (subst (λ m. AreFlipsOn m flips) (sym long) on) tt;
}

-- ---- a block replaced

map_append : (these those : List Flip) (bits : List Bool) → line_map (gates_of (these ++ those)) bits ≡ line_map (gates_of those) (line_map
    (gates_of these) bits)
map_append these those bits = ap (λ gs. line_map gs bits) (map-append gate_of these those) ∙ line_map-append (gates_of these) (gates_of those) bits

pub replaced_follows : (n : ℕ) (front block shorter behind : List Flip) → AreFlipsOn n (front ++ (block ++ behind)) → AreFlipsOn n shorter
    → length shorter ≤ length block
    → ((bits : List Bool) → length bits ≡ n → line_map (gates_of shorter) bits ≡ line_map (gates_of block) bits)
    → Follows n (front ++ (block ++ behind)) (front ++ (shorter ++ behind))
replaced_follows n front block shorter behind on on_shorter less same =
    let P : Flip → Type 0 = λ f. IsGateOn n (gate_of f) in
    let on_front = all_left P front (block ++ behind) on in
    let on_rest = all_right P front (block ++ behind) on in
    let on_behind = all_right P block behind on_rest in
    record {
      on = AllByRecursion-append P front (shorter ++ behind) on_front (AllByRecursion-append P shorter behind on_shorter on_behind);
      few = omega (
        arith,
        length-append front (shorter ++ behind),
        length-append shorter behind,
        length-append front
            (block ++ behind),
        length-append block behind,
        less,
      );
      same = λ bits long.
          let now = line_map (gates_of front) bits in
          let long_now : length now ≡ n = length-line_map (gates_of front) bits (subst (λ m. AreGatesOn m (gates_of front)) (sym long)
          (gates_are_on n front on_front)) ∙ long in
          map_append front (shorter ++ behind) bits ∙ map_append shorter behind now ∙ ap (line_map (gates_of behind)) (same now long_now)
          ∙ sym (map_append front (block ++ behind) bits ∙ map_append block behind now);
    }
  where
    all_left : (P : Flip → Type 0) (xs ys : List Flip) → AllByRecursion P (xs ++ ys) → AllByRecursion P xs
    all_left P [] ys all = tt
    all_left P (x ∷ xs) ys all = (all.0, all_left P xs ys all.1)

    all_right : (P : Flip → Type 0) (xs ys : List Flip) → AllByRecursion P (xs ++ ys) → AllByRecursion P ys
    all_right P [] ys all = all
    all_right P (x ∷ xs) ys all = all_right P xs ys all.1

-- ---- the elimination of a block

cx_again : (flip : Flip) → is_cx flip ≡ true → cx (addition_of flip) ≡ flip
cx_again flip is = by flip.controls is
  where
    by : (c : Controls) → is_one c ≡ true
        → (let f : Flip = record { controls = One (one_line c); target = flip.target } in f) ≡ record { controls = c; target = flip.target }
    by Zero e = absurd (false≢true e)
    by (One a) e = refl
    by (Two a b) e = absurd (false≢true e)

cxs_again : (block : List Flip) → AllByRecursion (λ flip. is_cx flip ≡ true) block → map cx (map addition_of block) ≡ block
cxs_again [] cxs = refl
cxs_again (f ∷ fs) cxs = let here = cx_again f cxs.0 in let rest = cxs_again fs cxs.1 in cc

in_touched : (n x : ℕ) (flips : List Flip) → AreFlipsOn n flips → list_any (touches x) flips ≡ true → has_line x (touched n flips) ≡ true
in_touched n x flips on any =
    has_line-filter x (λ l. list_any (touches l) flips) (below n)
    ∙ and_from (has_line x (below n)) (list_any (touches x) flips) (has_line-below n x (any_low n x flips on any)) any

touched_lines : (n : ℕ) (flips : List Flip) → AreFlipsOn n flips → AreLines n (touched n flips)
touched_lines n flips on = record {
  rising = IsRising-filter (λ l. list_any (touches l) flips) (below n) (below_rises n);
  low = λ x has. any_low n x flips on
      (and_parts (has_line x (below n)) (list_any (touches x) flips) (sym (has_line-filter x (λ l. list_any (touches l) flips) (below n)) ∙ has)).1;
}

touches_from : (flip : Flip) → is_cx flip ≡ true → has_line (one_line flip.controls) (controls_of flip) ≡ true
touches_from flip is = by flip.controls is
  where
    by : (c : Controls) → is_one c ≡ true → has_line (one_line c) (lines_in c) ≡ true
    by Zero e = absurd (false≢true e)
    by (One a) e = or_left (eqb a a) false (eq-eqb a a refl)
    by (Two a b) e = absurd (false≢true e)

additions_within : (n : ℕ) (lines : List ℕ) (flips : List Flip) → AreFlipsOn n flips → AllByRecursion (λ flip. is_cx flip ≡ true) flips
    → ((x : ℕ) → list_any (touches x) flips ≡ true → has_line x lines ≡ true) → AllByRecursion (IsWithin n lines lines) (map addition_of flips)
additions_within n lines [] on cxs all = tt
additions_within n lines (f ∷ fs) on cxs all =
    let has = lines_of_flip n f on.0 in
    let from = touches_from f cxs.0 in
    let at_from : touches (one_line f.controls) f ≡ true = or_right (eqb (one_line f.controls) f.target) (has_line (one_line f.controls)
    (controls_of f)) from in
    let at_onto : touches f.target f ≡ true = or_left (eqb f.target f.target) (has_line f.target (controls_of f)) (eq-eqb f.target f.target refl) in (
      record {
        is = record {
          from = low_from f cxs.0 has.low;
          onto = has.target;
          differ = λ e. both (has_line f.target (controls_of f)) has.apart (subst (λ l. has_line l (controls_of f) ≡ true) e from);
        };
        from = all (one_line f.controls) (or_left (touches (one_line f.controls) f) (list_any (touches (one_line f.controls)) fs) at_from);
        onto = all f.target (or_left (touches f.target f) (list_any (touches f.target) fs) at_onto);
      },
      additions_within n lines fs on.1 cxs.1 (λ x any. all x (or_right (touches x f) (list_any (touches x) fs) any)),
    )
  where
    both : (b : Bool) → b ≡ false → b ≡ true → ⊥
    both b lacks has = false≢true (sym lacks ∙ has)

    by : (c : Controls) → is_one c ≡ true → AllByRecursion (λ l. l < n) (lines_in c) → one_line c < n
    by Zero e low = absurd (false≢true e)
    by (One a) e low = low.0
    by (Two a b) e low = absurd (false≢true e)

    low_from : (f : Flip) → is_cx f ≡ true → AllByRecursion (λ l. l < n) (controls_of f) → one_line f.controls < n
    low_from f is low = by f.controls is low

pub record IsReplacement (n : ℕ) (block shorter : List Flip) : Type 0 where
  pub on : AreFlipsOn n shorter
  pub same : (bits : List Bool) → length bits ≡ n → line_map (gates_of shorter) bits ≡ line_map (gates_of block) bits

pub elimination_replaces : (n : ℕ) (block : List Flip) → AreFlipsOn n block → IsBlock n block → IsReplacement n block (elimination_of n block)
elimination_replaces n block on is =
    let does = eliminated_replaces n (touched n block) (map addition_of block) (touched_lines n block on)
    (additions_within n (touched n block) block on is.cxs (λ x any. in_touched n x block on any)) in
    record {
      on = gates_on n (eliminated (touched n block) (map addition_of block)) does.all;
      same = λ bits long. does.same bits long ∙ ap (λ fs. line_map (gates_of fs) bits) (cxs_again block is.cxs);
    }

-- ---- the whole work

pub turn_goes_on : (n : ℕ) (start flips settled now : List Flip) → Follows n start flips → settled ≡ reverse (with_flips flips []) → GoesOn n settled now
    → Follows n start now
turn_goes_on n start flips settled now so_far is goes =
    follows_further n start settled now (follows_further n start flips settled so_far (subst (Follows n flips) (sym is)
    (settled_follows n flips so_far.on))) goes.follows

pub turn_less : (n : ℕ) (flips settled now : List Flip) → AreFlipsOn n flips → settled ≡ reverse (with_flips flips []) → GoesOn n settled now
    → length now < length flips
turn_less n flips settled now on is goes =
    let few = (settled_follows n flips on).few in let less = goes.less in omega (arith, ap length is, few, less)

pub work_done : (n : ℕ) (start flips settled : List Flip) → Follows n start flips → settled ≡ reverse (with_flips flips []) → AreShort settled
    → IsDone n start settled
work_done n start flips settled so_far is short =
    let follows = subst (Follows n flips) (sym is) (settled_follows n flips so_far.on) in
    let found = short.blocks n follows.on in
    record {
      follows = follows_further n start flips settled so_far follows;
      tidy = record {
        no_pair = subst (λ l. ¬ HasPair l) (sym is) (settled_has_no_pair (with_flips flips []) (settled-with_flips flips [] tt));
        blocks = found.blocks;
        are = found.are;
        short = found.short;
      };
    }

-- ---- the gates that are left

-- there is room for as many flips as there are gates
pub few_done : (n limit : ℕ) (old : List GateView) (flips done : List Flip) → gates_of flips ≡ old → limit ≡ length old → IsDone n flips done
    → length done ≤ limit
few_done n limit old flips done are size is =
    let few = is.follows.few in
    let long : length flips ≡ length old = sym (length-map flips gate_of) ∙ ap length are in
    omega (arith, few, long, size)

pub tidied_from : (n : ℕ) (old : List GateView) (flips done : List Flip) (gates : List GateView) → gates_of flips ≡ old → IsDone n flips done
    → gates ≡ gates_of done → IsTidied n old gates
tidied_from n old flips done gates are is same =
    let few = is.follows.few in
    let long : length flips ≡ length old = sym (length-map flips gate_of) ∙ ap length are in
    record {
      flips = done;
      are = same;
      tidy = is.tidy;
      few = omega (arith, ap length same, length-map done gate_of, few, long);
      same = λ bits size_of. ap (λ gs. line_map gs bits) same ∙ is.follows.same bits size_of ∙ ap (λ gs. line_map gs bits) are;
    }

-- ---- what a look answers

pub at_none : {A : Type 0} (o : Option A) (P : Type 0) (Q : A → Type 0) → o ≡ None → MatchOption o P Q → P
at_none o P Q e match = subst (λ p. MatchOption p P Q) e match

pub at_some : {A : Type 0} (o : Option A) (x : A) (P : Type 0) (Q : A → Type 0) → o ≡ Some x → MatchOption o P Q → Q x
at_some o x P Q e match = subst (λ p. MatchOption p P Q) e match

pub settled_on : (n : ℕ) (flips settled : List Flip) → AreFlipsOn n flips → settled ≡ reverse (with_flips flips []) → AreFlipsOn n settled
settled_on n flips settled on is = subst (AreFlipsOn n) (sym is) (settled_follows n flips on).on
