-- The registers of a converted file: where its lines stand.
use Rattle.std.proofs.Common.{◌≡◌, ℕ, ◌-◌, ◌<◌, ◌≤◌, Bool, true, false, inl, inr, [], ◌∷◌, codes, refl, arith}
use Rattle.std.specs.List.{AllByRecursion}
use Rattle.std.proofs.lemmas.Bool.{cases_lt, lt-ltb}
use Rattle.qasm_format.specs.Registers.{IsRegister, HaveDifferentNames, lines_of_all}
use Rattle.qasm_format.specs.Converted.{kept_lines, added_register, converted_registers, converted_place}
use Rattle.qasm_format.proofs.WordLemmas.{IsName-register_name, IsName-q}
use Rattle.circuit_plans.specs.declared.roles.Role.TheVariants.{Borrowed}
use Rattle.qasm_format.proofs.WrittenLemmas.{IsPlaceOf, HasPlaces}
use Rattle.qasm_format.proofs.RoleLemmas.{differ, ltb-above}

-- where a line was added, there is another one
pub record IsCount (count : ℕ) (added : Bool) : Type 0 where
  pub some : 1 ≤ count
  pub few : count ≤ 16384
  pub two : added ≡ true → 2 ≤ count

pub lines_are_all : (count : ℕ) (added : Bool) → IsCount count added → lines_of_all (converted_registers count added) ≡ count
lines_are_all count true h = let some = h.some in omega arith
lines_are_all count false h = omega arith

pub registers_are_good : (count : ℕ) (added : Bool) → IsCount count added → AllByRecursion IsRegister (converted_registers count added)
registers_are_good count true h =
    let two = h.two refl in
    (record { named = IsName-q; some = omega arith }, (record { named = IsName-register_name Borrowed; some = omega arith }, tt))
registers_are_good count false h = (record { named = IsName-q; some = h.some }, tt)

pub registers_are_different : (count : ℕ) (added : Bool) → HaveDifferentNames (converted_registers count added)
registers_are_different count true = ((differ (codes "q") (codes "dirty") refl, tt), (tt, tt))
registers_are_different count false = (tt, tt)

kept_place : (count line : ℕ) (added : Bool) → IsCount count added → line < kept_lines count added
    → kept_lines count added ≤ 16384 → IsPlaceOf (converted_registers count added) (converted_place count added line) line
kept_place count line added h low few = record {
  name = codes "q";
  first = 0;
  size = kept_lines count added;
  number = line;
  spelled = rw (lt-ltb line (kept_lines count added) low) refl;
  named = IsName-q;
  laid = record { before = []; behind = added_register added; among = refl; place = refl };
  inside = low;
  small = omega arith;
  place = omega arith;
}

added_place : (count line : ℕ) → IsCount count true → count - 1 ≤ line → line < count
    → IsPlaceOf (converted_registers count true) (converted_place count true line) line
added_place count line h high low =
    let some = h.some in
    record {
      name = codes "dirty";
      first = count - 1;
      size = 1;
      number = line - (count - 1);
      spelled = rw (ltb-above line (count - 1) high) refl;
      named = IsName-register_name Borrowed;
      laid = record { before = record { name = codes "q"; size = count - 1 } ∷ []; behind = []; among = refl; place = omega arith };
      inside = omega arith;
      small = omega arith;
      place = omega arith;
    }

place_of_line : (count line : ℕ) (added : Bool) → IsCount count added → line < count
    → IsPlaceOf (converted_registers count added) (converted_place count added line) line
place_of_line count line true h low = let few = h.few in elim (cases_lt line (count - 1)) [
  | inl p ↦ kept_place count line true h p (omega arith)
  | inr p ↦ added_place count line h p low
]
place_of_line count line false h low = kept_place count line false h low h.few

pub lines_have_places : (count : ℕ) (added : Bool) → IsCount count added → HasPlaces (converted_registers count added) (converted_place count added)
lines_have_places count added h =
    let all = lines_are_all count added h in record { says = λ line low. place_of_line count line added h (omega arith) }
