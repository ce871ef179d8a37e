-- One pass, which puts each flip once, leaves a settled list and keeps the line map.
use Rattle.std.proofs.Common.{◌≡◌, ◌≢◌, ℕ, ◌+◌, ◌≤◌, Bool, true, false, cond, Option, Some, None, List, [], ◌∷◌, length, reverse, refl, sym, ap, ◌∙◌}
use Rattle.std.proofs.Common.{subst, inl, inr}
use Rattle.std.proofs.Common.{arith}
use Rattle.std.specs.List.{AllByRecursion}
use Rattle.std.proofs.lemmas.Bool.{cases_Bool}
use Rattle.std.proofs.lemmas.List.{reverse-append, map-append}
use Rattle.mct_circuit.specs.Gates.{IsGateOn, line_map}
use Rattle.mct_circuit.proofs.ReversalLemmas.{line_map-append, length-after_gate}
use Rattle.flip_lists.specs.declared.flip.Flip.{Flip}
use Rattle.flip_lists.specs.Flips.{gate_of, gates_of, are_alike, are_free}
use Rattle.flip_lists.specs.Settling.{onto, without, or_with, with_flip, with_flips, IsSettled}
use Rattle.flip_lists.proofs.FlipLemmas.{after, free_swap, free_of_alike, free_flips_commute, alike_flips_undo}

-- ---- one step back

-- what a flip does at an earlier one
pub data At (flip last : Flip) : Type 0 where
  meets : are_alike flip last ≡ true → At flip last
  passes : are_alike flip last ≡ false → are_free flip last ≡ true → At flip last
  stops : are_alike flip last ≡ false → are_free flip last ≡ false → At flip last

pub at : (flip last : Flip) → At flip last
at flip last = elim (cases_Bool (are_alike flip last)) [
  | inl alike ↦ meets alike
  | inr other ↦ elim (cases_Bool (are_free flip last)) [ inl free ↦ passes other free | inr blocked ↦ stops other blocked ]
]

pub without-meets : (flip last : Flip) (earlier : List Flip) → are_alike flip last ≡ true → without flip (last ∷ earlier) ≡ Some earlier
without-meets flip last earlier alike =
    ap (λ b. cond b (Some earlier) (cond (are_free flip last) (onto last (without flip earlier)) None)) alike

pub without-passes : (flip last : Flip) (earlier : List Flip) → are_alike flip last ≡ false → are_free flip last ≡ true
    → without flip (last ∷ earlier) ≡ onto last (without flip earlier)
without-passes flip last earlier other free =
    ap (λ b. cond b (Some earlier) (cond (are_free flip last) (onto last (without flip earlier)) None)) other
    ∙ ap (λ b. cond b (onto last (without flip earlier)) None) free

pub without-stops : (flip last : Flip) (earlier : List Flip) → are_alike flip last ≡ false → are_free flip last ≡ false
    → without flip (last ∷ earlier) ≡ None
without-stops flip last earlier other blocked =
    ap (λ b. cond b (Some earlier) (cond (are_free flip last) (onto last (without flip earlier)) None)) other
    ∙ ap (λ b. cond b (onto last (without flip earlier)) None) blocked

pub some_is_some : {A : Type 0} (x : A) → None ≢ Some x
some_is_some x e = cc

pub onto_none : (flip : Flip) (o : Option (List Flip)) → onto flip o ≡ None → o ≡ None
onto_none flip None e = refl
onto_none flip (Some l) e = cc

record IsOnto (flip : Flip) (o : Option (List Flip)) (m : List Flip) : Type 0 where
  rest : List Flip
  is : o ≡ Some rest
  same : flip ∷ rest ≡ m

onto_some : (flip : Flip) (o : Option (List Flip)) (m : List Flip) → onto flip o ≡ Some m → IsOnto flip o m
onto_some flip None m e = absurd (some_is_some m e)
onto_some flip (Some l) m e = record { rest = l; is = refl; same = cc }

-- ---- taking a flip out

-- an induction on what is taken out: P holds where the flip meets one like it, and is kept by each that it passes
taken_out : (flip : Flip) (P : List Flip → List Flip → Type 0)
    → ((last : Flip) (earlier : List Flip) → are_alike flip last ≡ true → P (last ∷ earlier) earlier)
    → ((last : Flip) (earlier left : List Flip) → are_free flip last ≡ true → without flip earlier ≡ Some left → P earlier left
    → P (last ∷ earlier) (last ∷ left))
    → (l m : List Flip) → without flip l ≡ Some m → P l m
taken_out flip P met passed [] m e = absurd (some_is_some m e)
taken_out flip P met passed (last ∷ earlier) m e = by (at flip last) (taken_out flip P met passed earlier)
  where
    by : At flip last → ((left : List Flip) → without flip earlier ≡ Some left → P earlier left) → P (last ∷ earlier) m
    by (meets alike) rest =
        let same : earlier ≡ m = let e2 = sym (without-meets flip last earlier alike) ∙ e in cc in
        subst (P (last ∷ earlier)) same (met last earlier alike)
    by (passes other free) rest =
        let found = onto_some last (without flip earlier) m (sym (without-passes flip last earlier other free) ∙ e) in
        subst (P (last ∷ earlier)) found.same (passed last earlier found.rest free found.is (rest found.rest found.is))
    by (stops other blocked) rest = absurd (some_is_some m (sym (without-stops flip last earlier other blocked) ∙ e))

pub length-without : (flip : Flip) (l m : List Flip) → without flip l ≡ Some m → length l ≡ length m + 1
length-without flip = taken_out flip (λ l m. length l ≡ length m + 1) (λ last earlier alike. omega arith)
    (λ last earlier left free is shorter. omega (arith, shorter))

pub all-without : (P : Flip → Type 0) (flip : Flip) (l m : List Flip) → without flip l ≡ Some m → AllByRecursion P l → AllByRecursion P m
all-without P flip = taken_out flip (λ l m. AllByRecursion P l → AllByRecursion P m) (λ last earlier alike all. all.1)
    (λ last earlier left free is kept all. (all.0, kept all.1))

-- ---- what the flips do, the latest first

abbrev pub run : List Flip → List Bool → List Bool
run [] bits = bits
run (last ∷ earlier) bits = after last (run earlier bits)

abbrev pub AreOn : ℕ → List Flip → Type 0
AreOn n flips = AllByRecursion (λ flip. IsGateOn n (gate_of flip)) flips

pub length-run : (flips : List Flip) (bits : List Bool) → AreOn (length bits) flips → length (run flips bits) ≡ length bits
length-run [] bits on = refl
length-run (last ∷ earlier) bits on =
    let before = length-run earlier bits on.1 in
    length-after_gate (gate_of last) (run earlier bits) (subst (λ n. IsGateOn n (gate_of last)) (sym before) on.0) ∙ before

pub run-reverse : (flips : List Flip) (bits : List Bool) → line_map (gates_of (reverse flips)) bits ≡ run flips bits
run-reverse [] bits = refl
run-reverse (last ∷ earlier) bits =
    ap (λ fs. line_map (gates_of fs) bits) (reverse-append (last ∷ []) earlier)
    ∙ ap (λ gs. line_map gs bits) (map-append gate_of (reverse earlier) (last ∷ []))
    ∙ line_map-append (gates_of (reverse earlier)) (gate_of last ∷ []) bits ∙ ap (after last) (run-reverse earlier bits)

run-without : (flip : Flip) (bits : List Bool) (l m : List Flip) → without flip l ≡ Some m → AreOn (length bits) l → run m bits ≡ after flip (run l bits)
run-without flip bits = taken_out flip (λ l m. AreOn (length bits) l → run m bits ≡ after flip (run l bits))
    (λ last earlier alike on. sym (alike_flips_undo flip last (run earlier bits) alike
    (subst (λ n. IsGateOn n (gate_of last)) (sym (length-run earlier bits on.1)) on.0)))
    (λ last earlier left free is same on. ap (after last) (same on.1) ∙ sym (free_flips_commute flip last (run earlier bits) free))

-- ---- putting a flip in

-- what holds of both outcomes of a put
put : (flip : Flip) (earlier : List Flip) (P : List Flip → Type 0) → (without flip earlier ≡ None → P (flip ∷ earlier))
    → ((left : List Flip) → without flip earlier ≡ Some left → P left) → P (with_flip flip earlier)
put flip earlier P stays goes = by (without flip earlier) stays goes
  where
    by : (o : Option (List Flip)) → (o ≡ None → P (flip ∷ earlier)) → ((left : List Flip) → o ≡ Some left → P left) → P (or_with flip earlier o)
    by None stays goes = stays refl
    by (Some left) stays goes = goes left refl

pub length-with_flip : (flip : Flip) (earlier : List Flip) → length (with_flip flip earlier) ≤ length earlier + 1
length-with_flip flip earlier =
    put flip earlier (λ l. length l ≤ length earlier + 1) (λ none. omega arith) (λ left is. omega (arith, length-without flip earlier left is))

pub all-with_flip : (P : Flip → Type 0) (flip : Flip) (earlier : List Flip) → P flip → AllByRecursion P earlier → AllByRecursion P (with_flip flip earlier)
all-with_flip P flip earlier here all =
    put flip earlier (AllByRecursion P) (λ none. (here, all)) (λ left is. all-without P flip earlier left is all)

pub run-with_flip : (flip : Flip) (earlier : List Flip) (bits : List Bool) → AreOn (length bits) earlier
    → run (with_flip flip earlier) bits ≡ after flip (run earlier bits)
run-with_flip flip earlier bits on =
    put flip earlier (λ l. run l bits ≡ after flip (run earlier bits)) (λ none. refl) (λ left is. run-without flip bits earlier left is on)

-- ---- no flip goes out with an earlier one

-- taking flips out frees no pair
still_stopped : (flip other : Flip) → are_free flip other ≡ true → (l m : List Flip) → without flip l ≡ Some m → without other l ≡ None → without other m ≡ None
still_stopped flip other apart = taken_out flip (λ l m. without other l ≡ None → without other m ≡ None)
    (λ last earlier alike none. behind last earlier (free_of_alike other flip last alike (free_swap flip other apart)) (at other last) none)
    (λ last earlier left free is kept none. further last earlier left (at other last) kept none)
  where
    behind : (last : Flip) (earlier : List Flip) → are_free other last ≡ true → At other last → without other (last ∷ earlier) ≡ None
        → without other earlier ≡ None
    behind last earlier free (meets alike) none = absurd (some_is_some earlier (sym none ∙ without-meets other last earlier alike))
    behind last earlier free (passes differ now) none = onto_none last (without other earlier) (sym (without-passes other last earlier differ now) ∙ none)
    behind last earlier free (stops differ blocked) none = let clash : true ≡ false = sym free ∙ blocked in cc

    further : (last : Flip) (earlier left : List Flip) → At other last → (without other earlier ≡ None → without other left ≡ None)
        → without other (last ∷ earlier) ≡ None → without other (last ∷ left) ≡ None
    further last earlier left (meets alike) kept none = absurd (some_is_some earlier (sym none ∙ without-meets other last earlier alike))
    further last earlier left (passes differ free) kept none =
        without-passes other last left differ free
        ∙ ap (onto last) (kept (onto_none last (without other earlier) (sym (without-passes other last earlier differ free) ∙ none)))
    further last earlier left (stops differ blocked) kept none = without-stops other last left differ blocked

settled-without : (flip : Flip) (l m : List Flip) → without flip l ≡ Some m → IsSettled l → IsSettled m
settled-without flip = taken_out flip (λ l m. IsSettled l → IsSettled m) (λ last earlier alike settled. settled.1)
    (λ last earlier left free is kept settled. (still_stopped flip last free earlier left is settled.0, kept settled.1))

pub settled-with_flip : (flip : Flip) (earlier : List Flip) → IsSettled earlier → IsSettled (with_flip flip earlier)
settled-with_flip flip earlier settled =
    put flip earlier IsSettled (λ none. (none, settled)) (λ left is. settled-without flip earlier left is settled)

-- ---- one pass over a list

pub length-with_flips : (flips earlier : List Flip) → length (with_flips flips earlier) ≤ length earlier + length flips
length-with_flips [] earlier = omega arith
length-with_flips (flip ∷ flips) earlier =
    omega (arith, length-with_flips flips (with_flip flip earlier), length-with_flip flip earlier)

pub settled-with_flips : (flips earlier : List Flip) → IsSettled earlier → IsSettled (with_flips flips earlier)
settled-with_flips [] earlier settled = settled
settled-with_flips (flip ∷ flips) earlier settled = settled-with_flips flips (with_flip flip earlier) (settled-with_flip flip earlier settled)

pub on-with_flips : (n : ℕ) (flips earlier : List Flip) → AreOn n flips → AreOn n earlier → AreOn n (with_flips flips earlier)
on-with_flips n [] earlier these those = those
on-with_flips n (flip ∷ flips) earlier these those =
    on-with_flips n flips (with_flip flip earlier) these.1 (all-with_flip (λ f. IsGateOn n (gate_of f)) flip earlier these.0 those)

pub run-with_flips : (flips earlier : List Flip) (bits : List Bool) → AreOn (length bits) flips → AreOn (length bits) earlier
    → run (with_flips flips earlier) bits ≡ line_map (gates_of flips) (run earlier bits)
run-with_flips [] earlier bits these those = refl
run-with_flips (flip ∷ flips) earlier bits these those =
    run-with_flips flips (with_flip flip earlier) bits these.1 (all-with_flip (λ f. IsGateOn (length bits) (gate_of f)) flip earlier these.0 those)
    ∙ ap (line_map (gates_of flips)) (run-with_flip flip earlier bits those)
