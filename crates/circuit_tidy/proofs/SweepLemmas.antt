-- The steps of a sweep keep the line map, and make the flips no more.
use Rattle.std.proofs.Common.{◌≡◌, ℕ, ◌+◌, ◌-◌, ◌<◌, ◌≤◌, Bool, true, List, [], ◌∷◌, ◌++◌, length, take, drop, get_or}
use Rattle.std.proofs.Common.{refl, sym, ap, ◌∙◌, subst, arith}
use Rattle.std.specs.List.{AllByRecursion, remove}
use Rattle.std.proofs.lemmas.List.{append_assoc, append-nil, drop-drop, drop_all, drop_more, length-append, length-take-le, take-append-drop}
use Rattle.list_facts.proofs.AllLemmas.{AllByRecursion-append, AllByRecursion-left, AllByRecursion-right, AllByRecursion-take}
use Rattle.mct_circuit.specs.Gates.{IsGateOn, line_map}
use Rattle.flip_lists.specs.declared.flip.Flip.{Flip}
use Rattle.circuit_tidy.specs.declared.sweep.Sweep.{Sweep}
use Rattle.flip_lists.specs.Flips.{AreFlipsOn, are_alike, are_free, gate_of, gates_of}
use Rattle.circuit_tidy.specs.inside.Sweeping.{contents, IsBegun, IsLastLike, Leads, LeadsOn, MeetsNext, Replaces, Stays, Takes}
use Rattle.circuit_tidy.specs.inside.Walking.{IsLonger}
use Rattle.circuit_tidy.specs.inside.Work.{Follows, GoesOn, IsSwept}
use Rattle.flip_lists.proofs.FlipLemmas.{after, alike_flips_undo, free_flips_commute}
use Rattle.circuit_tidy.proofs.TidyLemmas.{elimination_replaces, follows_further, replaced_follows}

-- ---- a pair goes out

-- a flip behind others that are free of it may as well come before them
moved : (flip : Flip) (between : List Flip) (bits : List Bool) → AllByRecursion (λ one. are_free flip one ≡ true) between
    → line_map (gates_of (between ++ flip ∷ [])) bits ≡ line_map (gates_of between) (after flip bits)
moved flip [] bits free = refl
moved flip (x ∷ xs) bits free = moved flip xs (after x bits) free.1 ∙ ap (line_map (gates_of xs)) (free_flips_commute flip x bits free.0)

pub pair_goes_out : (n : ℕ) (before between behind : List Flip) (other flip : Flip) → are_alike flip other ≡ true
    → AllByRecursion (λ one. are_free flip one ≡ true) between → AreFlipsOn n (before ++ ((other ∷ (between ++ flip ∷ [])) ++ behind))
    → Follows n (before ++ ((other ∷ (between ++ flip ∷ [])) ++ behind)) (before ++ (between ++ behind))
pair_goes_out n before between behind other flip alike free on =
    let P : Flip → Type 0 = λ f. IsGateOn n (gate_of f) in
    let on_rest = AllByRecursion-right P before ((other ∷ (between ++ flip ∷ [])) ++ behind) on in
    let on_pair = AllByRecursion-left P (other ∷ (between ++ flip ∷ [])) behind on_rest in
    replaced_follows n before (other ∷ (between ++ flip ∷ [])) between behind on (AllByRecursion-left P between (flip ∷ []) on_pair.1)
    (omega (arith, length-append between (flip ∷ [])))
    (λ bits long. sym (moved flip between (after other bits) free
    ∙ ap (line_map (gates_of between)) (alike_flips_undo flip other bits alike (subst (λ m. IsGateOn m (gate_of other)) (sym long) on_pair.0))))

removed : (before behind : List Flip) (other : Flip) → remove (before ++ other ∷ behind) (length before) ≡ before ++ behind
removed [] behind other = refl
removed (x ∷ xs) behind other = ap (λ l. x ∷ l) (removed xs behind other)

-- ---- steps one after another

pub stays_leads : (old new : Sweep) → Stays old new → Leads old new
stays_leads old new stays = record {
  within = stays.within;
  long = stays.long;
  follows = λ n on. subst (Follows n (contents old)) (sym stays.same) (record { on = on; few = omega arith; same = λ bits long. refl });
}

pub leads_further : (old mid new : Sweep) → Leads old mid → Leads mid new → Leads old new
leads_further old mid new these this = record {
  within = this.within;
  long = this.long ∙ these.long;
  follows = λ n on. let first = these.follows n on in
      follows_further n (contents old) (contents mid) (contents new) first (this.follows n first.on);
}

pub leads_on_further : (old mid new : Sweep) → LeadsOn old mid → Leads mid new → LeadsOn old new
leads_on_further old mid new these this = record {
  within = this.within;
  long = this.long ∙ these.long;
  goes_on = λ n on.
      let first = these.goes_on n on in
      let next = this.follows n first.follows.on in
      let less = first.less in
      let few = next.few in
      record { follows = follows_further n (contents old) (contents mid) (contents new) first.follows next; less = omega (arith, less, few) };
}

pub leads_from_on : (old new : Sweep) → LeadsOn old new → Leads old new
leads_from_on old new goes = record { within = goes.within; long = goes.long; follows = λ n on. (goes.goes_on n on).follows }

-- ---- each step

pub takes_stays : (count : ℕ) (old new : Sweep) → old.at + count ≤ length old.flips.items → Takes count old new → Stays old new
takes_stays count old new fits takes =
    let rest = drop old.at old.flips.items in
    record {
      within = omega (arith, fits, takes.at, ap length takes.flips);
      long = ap length takes.flips;
      same =
          ap (λ l. l ++ drop new.at new.flips.items) takes.done
          ∙ ap (λ l. (old.done.items ++ take count rest) ++ l) (ap (drop new.at) takes.flips ∙ ap (λ k. drop k old.flips.items) takes.at
          ∙ sym (drop-drop count old.at old.flips.items))
          ∙ append_assoc old.done.items (take count rest) (drop count rest) ∙ ap (λ l. old.done.items ++ l) (take-append-drop count rest);
    }

-- a flip like this one stays the last where free ones come behind
pub like_behind_more : (flips more now : List Flip) (flip : Flip) (place : ℕ) → IsLastLike flips flip place
    → AllByRecursion (λ one. are_free flip one ≡ true) more → now ≡ flips ++ more → IsLastLike now flip place
like_behind_more flips more now flip place like free is = record {
  before = like.before;
  other = like.other;
  behind = like.behind ++ more;
  cut = is ∙ ap (λ l. l ++ more) like.cut ∙ append_assoc like.before (like.other ∷ like.behind) more;
  at = like.at;
  alike = like.alike;
  free = AllByRecursion-append (λ one. are_free flip one ≡ true) like.behind more like.free free;
}

pub last_found : (flips : List Flip) (flip d : Flip) (left : ℕ) → 0 < left → left ≤ length flips → are_alike flip (get_or flips (left - 1) d) ≡ true
    → AllByRecursion (λ one. are_free flip one ≡ true) (drop left flips) → IsLastLike flips flip (left - 1)
last_found flips flip d left some within alike free =
    let place = left - 1 in
    let next : place + 1 ≡ left = omega (arith, some) in
    record {
      before = take place flips;
      other = get_or flips place d;
      behind = drop left flips;
      cut = sym (take-append-drop place flips) ∙ ap (λ l. take place flips ++ l) (drop_more flips place d (omega (arith, some, within))
          ∙ ap (λ k. get_or flips place d ∷ drop k flips) next);
      at = sym (length-take-le place flips (omega (arith, some, within)));
      alike = alike;
      free = free;
    }

pub free_more : (flips : List Flip) (flip d : Flip) (left : ℕ) → 0 < left → left ≤ length flips → are_free flip (get_or flips (left - 1) d) ≡ true
    → AllByRecursion (λ one. are_free flip one ≡ true) (drop left flips) → AllByRecursion (λ one. are_free flip one ≡ true) (drop (left - 1) flips)
free_more flips flip d left some within here free =
    let next : left - 1 + 1 ≡ left = omega (arith, some) in
    subst (AllByRecursion (λ one. are_free flip one ≡ true)) (sym (drop_more flips (left - 1) d (omega (arith, some, within))
    ∙ ap (λ k. get_or flips (left - 1) d ∷ drop k flips) next)) (here, free)

pub cancels_leads : (old new : Sweep) (place : ℕ) → old.at < length old.flips.items → MeetsNext old place → new.done.items ≡ remove old.done.items place
    → new.flips.items ≡ old.flips.items → new.at ≡ old.at + 1 → Leads old new
cancels_leads old new place low meets done flips at =
    let like = meets.like in
    let left : drop new.at new.flips.items ≡ meets.rest =
    ap (drop new.at) flips ∙ ap (λ k. drop k old.flips.items) at ∙ sym (drop-drop 1 old.at old.flips.items) ∙ ap (drop 1) meets.next in
    let was : contents old ≡ like.before ++ ((like.other ∷ (like.behind ++ meets.flip ∷ [])) ++ meets.rest) =
    ap (λ l. l ++ drop old.at old.flips.items) like.cut ∙ ap (λ l. (like.before ++ like.other ∷ like.behind) ++ l) meets.next
    ∙ regroup like.before (like.other ∷ []) like.behind (meets.flip ∷ []) meets.rest in
    let is : contents new ≡ like.before ++ (like.behind ++ meets.rest) =
    ap (λ l. l ++ drop new.at new.flips.items) (done ∙ ap (remove old.done.items) like.at ∙ ap (λ l. remove l (length like.before)) like.cut
    ∙ removed like.before like.behind like.other) ∙ ap (λ l. (like.before ++ like.behind) ++ l) left
    ∙ append_assoc like.before like.behind meets.rest in
    record {
      within = omega (arith, low, at, ap length flips);
      long = ap length flips;
      follows = λ n on. subst (Follows n (contents old)) (sym is) (subst (λ l. Follows n l (like.before ++ (like.behind ++ meets.rest))) (sym was)
          (pair_goes_out n like.before like.behind meets.rest like.other meets.flip like.alike like.free (subst (AreFlipsOn n) was on)));
    }
  where
    regroup : (a b c d e : List Flip) → (a ++ (b ++ c)) ++ (d ++ e) ≡ a ++ ((b ++ (c ++ d)) ++ e)
    regroup a b c d e = simp append_assoc

-- the flip at a place is the next one once those before it are walked over
pub meets_there : (old mid : Sweep) (flip d : Flip) (next place : ℕ) → old.at ≤ next → next < length old.flips.items → flip ≡ get_or old.flips.items next d
    → IsLastLike old.done.items flip place
    → AllByRecursion (λ one. are_free flip one ≡ true) (take (next - old.at) (drop old.at old.flips.items)) → Takes (next - old.at) old mid
    → MeetsNext mid place
meets_there old mid flip d next place le low is like free takes =
    let there : mid.at ≡ next = omega (arith, takes.at, le) in
    record {
      flip = flip;
      rest = drop (next + 1) old.flips.items;
      next = ap (drop mid.at) takes.flips ∙ ap (λ k. drop k old.flips.items) there ∙ drop_more old.flips.items next d low
          ∙ ap (λ f. f ∷ drop (next + 1) old.flips.items) (sym is);
      like = like_behind_more old.done.items (take (next - old.at) (drop old.at old.flips.items)) mid.done.items flip place like free takes.done;
    }

-- ---- a block gives way

all_right : (n : ℕ) (xs ys : List Flip) → AreFlipsOn n (xs ++ ys) → AreFlipsOn n ys
all_right n xs ys on = AllByRecursion-right (λ f. IsGateOn n (gate_of f)) xs ys on

way_given : (n : ℕ) (done rest shorter : List Flip) (count : ℕ) → IsLonger (take count rest) shorter → AreFlipsOn n (done ++ rest)
    → GoesOn n (done ++ rest) (done ++ (shorter ++ drop count rest))
way_given n done rest shorter count longer on =
    let block = take count rest in
    let whole : done ++ (block ++ drop count rest) ≡ done ++ rest = ap (λ l. done ++ l) (take-append-drop count rest) in
    let on_block : AreFlipsOn n block = AllByRecursion-take (λ f. IsGateOn n (gate_of f)) count rest (all_right n done rest on) in
    let says = longer.is n on_block in
    let does = elimination_replaces n block on_block says.0 in
    let few = longer.few in
    record {
      follows = subst (λ l. Follows n l (done ++ (shorter ++ drop count rest))) whole
          (replaced_follows n done block shorter (drop count rest) (subst (AreFlipsOn n) (sym whole) on) (subst (AreFlipsOn n) (sym says.1) does.on)
          (omega (arith, few)) (λ bits long. ap (λ fs. line_map (gates_of fs) bits) says.1 ∙ does.same bits long));
      less = omega (
        arith,
        length-append done (shorter ++ drop count rest),
        length-append shorter (drop count rest),
        sym (ap length whole),
        length-append done (block ++ drop count rest),
        length-append block (drop count rest),
        few,
      );
    }

pub replaced_leads : (old new : Sweep) (count : ℕ) (shorter : List Flip) → old.at + count ≤ length old.flips.items
    → IsLonger (take count (drop old.at old.flips.items)) shorter → Replaces count shorter old new → LeadsOn old new
replaced_leads old new count shorter fits longer puts =
    let rest = drop old.at old.flips.items in
    let is : contents new ≡ old.done.items ++ (shorter ++ drop count rest) =
    ap (λ l. l ++ drop new.at new.flips.items) puts.done
    ∙ ap (λ l. (old.done.items ++ shorter) ++ l) (ap (drop new.at) puts.flips ∙ ap (λ k. drop k old.flips.items) puts.at
    ∙ sym (drop-drop count old.at old.flips.items))
    ∙ append_assoc old.done.items shorter (drop count rest) in
    record {
      within = omega (arith, fits, puts.at, ap length puts.flips);
      long = ap length puts.flips;
      goes_on = λ n on. subst (GoesOn n (contents old)) (sym is) (way_given n old.done.items rest shorter count longer on);
    }

-- ---- the whole sweep

pub same_contents : (flips : List Flip) (old new : Sweep) → IsBegun flips old → Stays old new → contents new ≡ flips
same_contents flips old new begun stays =
    stays.same ∙ ap (λ l. l ++ drop old.at old.flips.items) begun.none ∙ ap (drop old.at) begun.all ∙ ap (λ k. drop k flips) begun.start

pub swept_first : (flips : List Flip) (old new : Sweep) → contents old ≡ flips → LeadsOn old new → IsSwept flips (contents new)
swept_first flips old new is goes = record {
  goes_on = λ n on. subst (λ l. GoesOn n l (contents new)) is (goes.goes_on n (subst (AreFlipsOn n) (sym is) on));
}

pub swept_further : (flips : List Flip) (old new : Sweep) → IsSwept flips (contents old) → Leads old new → IsSwept flips (contents new)
swept_further flips old new swept leads = record {
  goes_on = λ n on.
      let first = swept.goes_on n on in
      let next = leads.follows n first.follows.on in
      let less = first.less in
      let few = next.few in
      record { follows = follows_further n flips (contents old) (contents new) first.follows next; less = omega (arith, less, few) };
}

pub swept_at_last : (flips : List Flip) (old new : Sweep) (count : ℕ) → old.at + count ≡ length old.flips.items → IsSwept flips (contents old)
    → Takes count old new → IsSwept flips new.done.items
swept_at_last flips old new count all swept takes =
    let stays = takes_stays count old new (omega (arith, all)) takes in
    let past : length new.flips.items ≤ new.at = omega (arith, all, takes.at, ap length takes.flips) in
    subst (IsSwept flips) (sym stays.same ∙ ap (λ l. new.done.items ++ l) (drop_all new.at new.flips.items past) ∙ append-nil new.done.items) swept
