-- The gates in place of one: a flip, a swap, or a gate that is narrow already.
use Rattle.std.proofs.Common.{◌≡◌, ℕ, ◌+◌, ◌<◌, ◌≤◌, Bool, true, false, ◌&&◌, List, [], ◌∷◌, ◌++◌, length, map, Option, Some, None, refl, sym, ap}
use Rattle.std.proofs.Common.{◌∙◌, inl, inr, cond, get_or, drop, arith}
use Rattle.std.specs.List.{AllByRecursion, list_all}
use Rattle.std.proofs.lemmas.List.{append_assoc, append-nil, map-append, length-map, drop_more, drop_all}
use Rattle.std.proofs.lemmas.Bool.Decides.{leb_tells}
use Rattle.mct_circuit.specs.declared.gate.Control.{Control}
use Rattle.mct_circuit.specs.declared.gate.Op.{Op}
use Rattle.mct_circuit.specs.declared.gate.Op.TheVariants.{Flip, Swap}
use Rattle.mct_circuit.specs.Gates.{GateView, flip_of, positive, IsGateOn, IsNarrow, AreNarrow}
use Rattle.list_facts.specs.Lists.{AreDifferent}
use Rattle.gate_split.specs.Split.{flips_of_negatives, split_positive, split_op, split_gate, split_gates, between, behind, joined}
use Rattle.gate_split.specs.Costs.{NarrowStay}
use Rattle.gate_split.proofs.EffectLemmas.{gate_on}
use Rattle.gate_split.proofs.NegativeLemmas.{lines}

-- ---- flips and swaps

pub flip_on : (n : ℕ) (gate : GateView) (t : ℕ) (ls : List ℕ) → gate.op ≡ Flip t → ls ≡ lines gate.controls → IsGateOn n gate → IsGateOn n (flip_of ls t)
flip_on n gate t ls o e g =
    let different : AreDifferent (lines gate.controls ++ t ∷ []) = rw o at g.different in
    let low : AllByRecursion (λ l. l < n) (lines gate.controls ++ t ∷ []) = rw o at g.in_range in
    rw e (gate_on n (lines gate.controls) t different low)

pub swap_on : (n : ℕ) (gate : GateView) (a b : ℕ) (ls : List ℕ) → gate.op ≡ Swap a b → ls ≡ lines gate.controls ++ a ∷ [] → IsGateOn n gate
    → IsGateOn n (flip_of ls b)
swap_on n gate a b ls o e g =
    let same : (lines gate.controls ++ a ∷ []) ++ b ∷ [] ≡ lines gate.controls ++ (a ∷ b ∷ []) = append_assoc (lines gate.controls) (a ∷ []) (b ∷ []) in
    let different : AreDifferent (lines gate.controls ++ (a ∷ b ∷ [])) = rw o at g.different in
    let low : AllByRecursion (λ l. l < n) (lines gate.controls ++ (a ∷ b ∷ [])) = rw o at g.in_range in
    rw e (gate_on n (lines gate.controls ++ a ∷ []) b (rw same different) (rw same low))

pub flip_piece : (n : ℕ) (gate : GateView) (t : ℕ) (controls : List Control) (ls : List ℕ) → gate.op ≡ Flip t → controls ≡ gate.controls
    → ls ≡ lines gate.controls
    → split_gate n gate ≡ between (flips_of_negatives controls) (split_positive n ls t)
flip_piece n gate t controls ls o e f =
    ap (split_op n gate.controls) o ∙ ap (λ l. between (flips_of_negatives gate.controls) (split_positive n l t)) (sym f)
    ∙ ap (λ c. between (flips_of_negatives c) (split_positive n ls t)) (sym e)

no_more_negatives : (cs : List Control) (a : ℕ) → flips_of_negatives (cs ++ positive a ∷ []) ≡ flips_of_negatives cs
no_more_negatives [] a = refl
no_more_negatives (c ∷ cs) a = let rest = no_more_negatives cs a in rw rest refl

pub swap_piece : (n : ℕ) (gate : GateView) (a b : ℕ) (controls : List Control) (ls : List ℕ) → gate.op ≡ Swap a b → controls ≡ gate.controls
    → ls ≡ lines gate.controls ++ a ∷ []
    → split_gate n gate ≡ between (flip_of (b ∷ []) a ∷ []) (between (flips_of_negatives controls) (split_positive n ls b))
swap_piece n gate a b controls ls o e f =
    let same : lines (gate.controls ++ positive a ∷ []) ≡ ls = map-append (λ (control : Control). control.line) gate.controls (positive a ∷ []) ∙ sym f in
    ap (split_op n gate.controls) o ∙ ap (λ l. between (flip_of (b ∷ []) a ∷ [])
    (between (flips_of_negatives (gate.controls ++ positive a ∷ [])) (split_positive n l b))) same
    ∙ ap (λ g. between (flip_of (b ∷ []) a ∷ []) (between g (split_positive n ls b))) (no_more_negatives gate.controls a ∙ ap flips_of_negatives (sym e))

behind_between : (done outer : List GateView) (o : Option (List GateView)) (now : List GateView) → behind (done ++ outer) o ≡ Some now
    → behind done (between outer o) ≡ Some (now ++ outer)
behind_between done outer None now e = absurd (cc)
behind_between done outer (Some inner) now e =
    let is : (done ++ outer) ++ inner ≡ now = cc in
    ap Some (sym (append_assoc done (outer ++ inner) outer) ∙ ap (λ l. l ++ outer) (sym (append_assoc done outer inner) ∙ is))

-- the gates around a piece, before and behind
pub surrounded_piece : (done outer begun now : List GateView) (whole o : Option (List GateView)) → whole ≡ between outer o → begun ≡ done ++ outer
    → behind begun o ≡ Some now → behind done whole ≡ Some (now ++ outer)
surrounded_piece done outer begun now whole o e f h = ap (behind done) e ∙ behind_between done outer o now (rw f at h)

pub between_none : (outer : List GateView) (o : Option (List GateView)) → o ≡ None → between outer o ≡ None
between_none outer o e = rw e refl

-- ---- narrow gates

and_left : (a b : Bool) → (a && b) ≡ true → a ≡ true
and_left true b e = refl
and_left false b e = e

and_right : (a b : Bool) → (a && b) ≡ true → b ≡ true
and_right true b e = e
and_right false b e = absurd (cc)

positive_is : (p : Bool) (l : ℕ) → p ≡ true → ◌≡◌ {A = Control} (positive l) (record { line = l; positive = p })
positive_is p l e = rw e refl

all_positive : (cs : List Control) → list_all (λ (control : Control). control.positive) cs ≡ true → map positive (lines cs) ≡ cs
all_positive [] e = refl
all_positive (c ∷ cs) e =
    let rest = list_all (λ (control : Control). control.positive) cs in
    ap (λ x. x ∷ map positive (lines cs)) (positive_is c.positive c.line (and_left c.positive rest e))
    ∙ ap (λ r. c ∷ r) (all_positive cs (and_right c.positive rest e))

whole : (controls : List Control) (op was : Op) (made : List Control) → op ≡ was → controls ≡ made
    → ◌≡◌ {A = GateView} (record { controls = controls; op = op }) (record { controls = made; op = was })
whole controls op was made o e = rw (o, e) refl

pub narrow_is : (gate : GateView) (t : ℕ) → gate.op ≡ Flip t → length gate.controls ≤ 2
    → list_all (λ (control : Control). control.positive) gate.controls ≡ true → IsNarrow gate
narrow_is gate t o few e = record {
  controls = lines gate.controls;
  target = t;
  few = rw (length-map gate.controls (λ (control : Control). control.line)) few;
  is_flip = whole gate.controls gate.op (Flip t) (map positive (lines gate.controls)) o (sym (all_positive gate.controls e));
}

pub narrow_flips : (gate : GateView) (s : IsNarrow gate) → gate.op ≡ Flip s.target
narrow_flips gate s = ap (λ g. g.op) s.is_flip

pub narrow_is_short : (gate : GateView) → IsNarrow gate → length gate.controls ≤ 2
narrow_is_short gate s = let long = ap (λ g. length g.controls) s.is_flip ∙ length-map s.controls positive in let few = s.few in omega arith

positive_all : (ls : List ℕ) → list_all (λ (control : Control). control.positive) (map positive ls) ≡ true
positive_all [] = refl
positive_all (l ∷ ls) = positive_all ls

pub narrow_is_positive : (gate : GateView) → IsNarrow gate → list_all (λ (control : Control). control.positive) gate.controls ≡ true
narrow_is_positive gate s = ap (λ g. list_all (λ (control : Control). control.positive) g.controls) s.is_flip ∙ positive_all s.controls

no_negatives : (ls : List ℕ) → flips_of_negatives (map positive ls) ≡ []
no_negatives [] = refl
no_negatives (l ∷ ls) = no_negatives ls

lines_back : (ls : List ℕ) → lines (map positive ls) ≡ ls
lines_back [] = refl
lines_back (l ∷ ls) = ap (λ r. l ∷ r) (lines_back ls)

pub few_stay : (n : ℕ) (controls : List ℕ) (target : ℕ) → length controls ≤ 2 → split_positive n controls target ≡ Some (flip_of controls target ∷ [])
few_stay n controls target few = elim (leb_tells (length controls) 2) [ inl t ↦ rw t.0 refl | inr t ↦ absurd (omega (arith, t.1)) ]

-- a narrow gate stays as it is
pub narrow_stays : (n : ℕ) (gate : GateView) → IsNarrow gate → split_gate n gate ≡ Some (gate ∷ [])
narrow_stays n gate s =
    ap (split_gate n) s.is_flip ∙ ap (λ g. between g (split_positive n (lines (map positive s.controls)) s.target)) (no_negatives s.controls)
    ∙ ap (λ l. between [] (split_positive n l s.target)) (lines_back s.controls) ∙ ap (between []) (few_stay n s.controls s.target s.few)
    ∙ ap (λ g. Some (g ∷ [])) (sym s.is_flip)

pub narrow_behind : (n : ℕ) (gate : GateView) (done now : List GateView) → IsNarrow gate → now ≡ done ++ gate ∷ []
    → behind done (split_gate n gate) ≡ Some now
narrow_behind n gate done now s is = ap (behind done) (narrow_stays n gate s) ∙ ap Some (sym is)

stays : (n : ℕ) (gates : List GateView) → AreNarrow gates → split_gates n gates ≡ Some gates
stays n [] s = refl
stays n (g ∷ gs) s = ap (λ o. joined o (split_gates n gs)) (narrow_stays n g s.0) ∙ ap (behind (g ∷ [])) (stays n gs s.1)

pub stay : NarrowStay
stay n limit gates s few = record { is = stays n gates s; within = few }

-- ---- the loop over the controls

pub negatives_passed : (done whole : List GateView) (cs : List Control) (i : ℕ) (d : Control) → i < length cs → (get_or cs i d).positive ≡ true
    → done ++ flips_of_negatives (drop i cs) ≡ whole → done ++ flips_of_negatives (drop (i + 1) cs) ≡ whole
negatives_passed done whole cs i d h p e =
    let rest = flips_of_negatives (drop (i + 1) cs) in
    let same : flips_of_negatives (get_or cs i d ∷ drop (i + 1) cs) ≡ rest = ap (λ t. cond t rest (flip_of [] (get_or cs i d).line ∷ rest)) p in
    ap (λ l. done ++ l) (sym (ap flips_of_negatives (drop_more cs i d h) ∙ same)) ∙ e

pub negatives_taken : (done now whole : List GateView) (cs : List Control) (i : ℕ) (d : Control) → i < length cs → (get_or cs i d).positive ≡ false
    → now ≡ done ++ flip_of [] (get_or cs i d).line ∷ [] → done ++ flips_of_negatives (drop i cs) ≡ whole
    → now ++ flips_of_negatives (drop (i + 1) cs) ≡ whole
negatives_taken done now whole cs i d h p n e =
    let rest = flips_of_negatives (drop (i + 1) cs) in
    let flip = flip_of [] (get_or cs i d).line in
    let same : flips_of_negatives (get_or cs i d ∷ drop (i + 1) cs) ≡ flip ∷ rest = ap (λ t. cond t rest (flip ∷ rest)) p in
    ap (λ l. l ++ rest) n ∙ append_assoc done (flip ∷ []) rest ∙ ap (λ l. done ++ l) (sym (ap flips_of_negatives (drop_more cs i d h) ∙ same)) ∙ e

pub negatives_done : (done whole : List GateView) (cs : List Control) (i : ℕ) → length cs ≤ i → done ++ flips_of_negatives (drop i cs) ≡ whole → done ≡ whole
negatives_done done whole cs i h e = sym (ap (λ c. done ++ flips_of_negatives c) (drop_all i cs h) ∙ append-nil done) ∙ e
