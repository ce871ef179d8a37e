-- What is noted of flips, one after another.
use Rattle.std.proofs.Common.{◌≡◌, ◌∙◌, ℕ, ◌<◌, Bool, true, false, ◌||◌, List, [], ◌∷◌, length, drop, set, refl, sym, subst, eqb, inl, inr}
use Rattle.std.specs.Prelude.{◌==◌, if◌then◌else◌, slice_index}
use Rattle.std.proofs.lemmas.Bool.{cases_Bool, eqb-true, eqb-false}
use Rattle.std.proofs.lemmas.List.{get_or-set_same, get_or-set_other, length-set}
use Rattle.mct_circuit.specs.Sizes.{has_line}
use Rattle.flip_lists.specs.declared.flip.Flip.{Flip}
use Rattle.flip_lists.specs.declared.looks.Latest.{Latest}
use Rattle.flip_lists.specs.Flips.{controls_of}
use Rattle.flip_lists.specs.Looks.{kind_among, latest_end}
use Rattle.flip_lists.specs.inside.Looks.{AreSet}

-- the ends so far, with the flips from a place on, are what they are with all of them
pub record AreNoting (test : ℕ → Flip → Bool) (walked : List Flip) (from place : ℕ) (old now : List ℕ) : Type 0 where
  pub long : length now ≡ length old
  pub each : (at : ℕ) → at < length old
      → latest_end (test at) place (drop place walked) (slice_index now at) ≡ latest_end (test at) from (drop from walked) (slice_index old at)

pub record IsNoting (walked : List Flip) (from place : ℕ) (old now : Latest) : Type 0 where
  pub kinds : AreNoting (λ kind flip. kind_among (length old.of_kind.items) flip == kind) walked from place old.of_kind.items now.of_kind.items
  pub targets : AreNoting (λ line flip. flip.target == line) walked from place old.of_target.items now.of_target.items
  pub controls : AreNoting (λ line flip. has_line line (controls_of flip)) walked from place old.of_control.items now.of_control.items
  pub noted : now.noted ≡ old.noted

-- ---- an end at two lines

one_set : (ends : List ℕ) (line end at : ℕ) → at < length ends → slice_index (set ends line end) at ≡ (if eqb at line then end else slice_index ends at)
one_set ends line end at within =
    elim (cases_Bool (eqb at line)) [
      | inl e ↦ rw e (subst (λ l. slice_index (set ends l end) at ≡ end) (eqb-true at line e) (get_or-set_same ends at end 0 within))
      | inr e ↦ rw e (get_or-set_other ends line at end 0 (eqb-false at line e))
    ]

joined : (a b : Bool) (x y z : ℕ) → z ≡ (if a then x else y) → (if b then x else z) ≡ (if a || (b || false) then x else y)
joined true true x y z is = refl
joined true false x y z is = is
joined false true x y z is = refl
joined false false x y z is = is

pub both_set : (ends lines : List ℕ) (first second end : ℕ) → lines ≡ first ∷ second ∷ [] → AreSet lines end ends (set (set ends first end) second end)
both_set ends lines first second end are = rw are record {
  long = length-set (set ends first end) second end ∙ length-set ends first end;
  each = λ at within.
      one_set (set ends first end) second end at (subst (λ n. at < n) (sym (length-set ends first end)) within)
      ∙ joined (eqb at first) (eqb at second) end (slice_index ends at) (slice_index (set ends first end) at) (one_set ends first end at within);
}
