-- Lines of a gate, by their stamps.
use Rattle.std.proofs.Common.{◌≡◌, ℕ, ◌<◌, Bool, true, false, not, ◌||◌, if◌then◌else◌, eqb, List}
use Rattle.std.proofs.Common.{[], ◌∷◌, ◌++◌, length, drop, position, Option, Some, None, Ok}
use Rattle.std.proofs.Common.{Err, Result, ◌==◌, refl, sym, ap, ◌∙◌, arith, inl, inr, get_or, set}
use Rattle.std.specs.Str.{bytes_eq}
use Rattle.std.proofs.lemmas.Bool.{cases_Bool, eq-eqb, ne_eqb, eqb-true, eqb-false}
use Rattle.std.proofs.lemmas.List.{map-append, get_or-set_same, get_or-set_other}
use Rattle.std.proofs.lemmas.List.Folds.{list_any-append}
use Rattle.std.proofs.lemmas.List.Quantifiers.{position-Some}
use Rattle.mct_circuit.specs.declared.gate.Control.{Control}
use Rattle.mct_circuit.specs.declared.gate.Op.{Op}
use Rattle.mct_circuit.specs.declared.gate.Op.TheVariants.{Flip, Swap}
use Rattle.mct_circuit.specs.Sizes.{has_line}
use Rattle.real_format.specs.declared.refusal.LineRefusal.{LineRefusal}
use Rattle.real_format.specs.declared.refusal.LineRefusal.TheVariants.{Form, Limit, Memory}
use Rattle.real_format.specs.inside.Reading.{and_then, or_form, Refuses, begins_name, has_sign, is_long}
use Rattle.real_format.specs.inside.Reading.{line_of, control_of, control_on, controls_from, lines_of_controls}
use Rattle.real_format.specs.inside.Reading.{target_of, op_of, alone}
use Rattle.real_format.specs.inside.Stamps.{is_stamped, AreStamped}

-- only whether the lines of names are taken matters
pub line_of-same : (names : List (List ℕ)) (has other : ℕ → Bool) (word : List ℕ) → ((line : ℕ) → line < length names → has line ≡ other line)
    → line_of names has word ≡ line_of names other word
line_of-same names has other word same =
    ap (λ r. if not (begins_name word) then Err Form else (if is_long word then Err Limit else r)) (by (position (bytes_eq word) names) refl)
  where
    by : (r : Option ℕ) → position (bytes_eq word) names ≡ r → or_form r (λ line. if has line then Err Form else Ok line)
        ≡ or_form r (λ line. if other line then Err Form else Ok line)
    by None e = refl
    by (Some line) e = ap (λ t. if t then Err Form else Ok line) (same line (position-Some (bytes_eq word) names line [] e).0)

or_false : (t : Bool) → (t || false) ≡ t
or_false true = refl
or_false false = refl

or_true : (t : Bool) → (t || true) ≡ true
or_true true = refl
or_true false = refl

pub has_line-more : (lines : List ℕ) (line other : ℕ) → has_line other (lines ++ line ∷ []) ≡ (has_line other lines || eqb other line)
has_line-more lines line other = list_any-append (eqb other) lines (line ∷ []) ∙ ap (λ t. has_line other lines || t) (or_false (eqb other line))

-- one more control
pub lines_of_controls-more : (controls : List Control) (control : Control)
    → lines_of_controls (controls ++ control ∷ []) ≡ lines_of_controls controls ++ control.line ∷ []
lines_of_controls-more controls control = map-append (λ (c : Control). c.line) controls (control ∷ [])

-- all controls were read
pub controls_end : (names : List (List ℕ)) (wanted : ℕ) (controls : List Control) (words : List (List ℕ)) → length controls ≡ wanted
    → controls_from names wanted controls words ≡ Ok (controls, words)
controls_end names wanted controls [] all = rw (eq-eqb (length controls) wanted all) refl
controls_end names wanted controls (word ∷ words) all = rw (eq-eqb (length controls) wanted all) refl

pub refused_control : (names : List (List ℕ)) (has : ℕ → Bool) (word name : List ℕ) (e : LineRefusal) → has_sign word ≡ true → name ≡ drop 1 word
    → Refuses (line_of names has name) e → Refuses (control_of names has word) e
refused_control names has word name Form signed is refuses =
    rw signed (ap (λ r. and_then r (λ line. Ok (control_on false line))) (ap (line_of names has) (sym is) ∙ refuses))
refused_control names has word name Limit signed is refuses =
    rw signed (ap (λ r. and_then r (λ line. Ok (control_on false line))) (ap (line_of names has) (sym is) ∙ refuses))
refused_control names has word name (Memory _) signed is refuses = tt

target_of-same : (names : List (List ℕ)) (has other : ℕ → Bool) (words : List (List ℕ)) → ((line : ℕ) → line < length names → has line ≡ other line)
    → target_of names has words ≡ target_of names other words
target_of-same names has other [] same = refl
target_of-same names has other (w ∷ ws) same = ap (λ r. and_then r (λ line. Ok (let p : ℕ × List (List ℕ) = (line, ws) in p)))
    (line_of-same names has other w same)

pub op_of-same : (names : List (List ℕ)) (targets : ℕ) (has other : ℕ → Bool) (words : List (List ℕ)) → ((line : ℕ) → line < length names
    → has line ≡ other line)
    → op_of names targets has words ≡ op_of names targets other words
op_of-same names targets has other words same =
    let first = target_of-same names has other words same in
    let second : (l : ℕ) (rest : List (List ℕ))
    → target_of names (λ line. has line || eqb line l) rest ≡ target_of names (λ line. other line || eqb line l) rest
    = λ l rest. target_of-same names (λ line. has line || eqb line l) (λ line. other line || eqb line l) rest (λ line inside. ap (λ t. t || eqb line l)
    (same line inside)) in
    λ i. and_then (first i) (λ f. if eqb targets 1 then alone (Flip f.0) f.1 else and_then (second f.0 f.1 i) (λ s. alone (Swap f.0 s.0) s.1))

-- the stamps of a gate's lines stand for the lines
pub op_of-stamped : (names : List (List ℕ)) (targets : ℕ) (stamps lines : List ℕ) (stamp : ℕ) (words : List (List ℕ)) → length stamps ≡ length names
    → AreStamped stamps stamp lines → op_of names targets (is_stamped stamps stamp) words ≡ op_of names targets (λ line. has_line line lines) words
op_of-stamped names targets stamps lines stamp words fit are =
    op_of-same names targets (is_stamped stamps stamp) (λ line. has_line line lines) words (λ line inside. are.marked line (omega arith))

-- ---- a line more

stamped_more : (stamps : List ℕ) (stamp first line : ℕ) → first < length stamps
    → is_stamped (set stamps first stamp) stamp line ≡ (is_stamped stamps stamp line || eqb line first)
stamped_more stamps stamp first line low = elim (cases_Bool (eqb line first)) [
  | inl same ↦
      let at : line ≡ first = eqb-true line first same in
      ap (λ l. eqb (get_or (set stamps first stamp) l 0) stamp) at
      ∙ eq-eqb (get_or (set stamps first stamp) first 0) stamp (get_or-set_same stamps first stamp 0 low)
      ∙ sym (ap (λ t. is_stamped stamps stamp line || t) same ∙ or_true (is_stamped stamps stamp line))
  | inr other ↦
      ap (λ s. eqb s stamp) (get_or-set_other stamps first line stamp 0 (eqb-false line first other))
      ∙ sym (ap (λ t. is_stamped stamps stamp line || t) other ∙ or_false (is_stamped stamps stamp line))
]

-- ---- steps one after another

-- where the first step refuses, all does
pub refuses_on : {A B : Type 0} (said : Result A LineRefusal) (f : A → Result B LineRefusal) (e : LineRefusal) → Refuses said e → Refuses (and_then said f) e
refuses_on said f Form is = ap (λ s. and_then s f) is
refuses_on said f Limit is = ap (λ s. and_then s f) is
refuses_on said f (Memory _) is = tt

pub refuses_same : {A : Type 0} (said other : Result A LineRefusal) (e : LineRefusal) → said ≡ other → Refuses other e → Refuses said e
refuses_same said other Form same is = same ∙ is
refuses_same said other Limit same is = same ∙ is
refuses_same said other (Memory _) same is = tt

-- ---- a line

-- what comes of a name, by the tests of its line
pub line_is : (names : List (List ℕ)) (has : ℕ → Bool) (word : List ℕ) (begins long : Bool) (place : Option ℕ) → begins_name word ≡ begins
    → is_long word ≡ long → position (bytes_eq word) names ≡ place
    → line_of names has word
    ≡ (if not begins then Err Form else (if long then Err Limit else or_form place (λ line. if has line then Err Form else Ok line)))
line_is names has word begins long place e f g =
    λ i. if not (e i) then Err Form else (if f i then Err Limit else or_form (g i) (λ line. if has line then Err Form else Ok line))

-- ---- targets

abbrev with_first : List (List ℕ) → ℕ → (ℕ → Bool) → ℕ × List (List ℕ) → Result Op LineRefusal
with_first names targets has first =
    if targets == 1 then alone (Flip first.0) first.1
    else and_then (target_of names (λ line. has line || line == first.0) first.1) (λ second. alone (Swap first.0 second.0) second.1)

abbrev with_second : ℕ → ℕ × List (List ℕ) → Result Op LineRefusal
with_second first second = alone (Swap first second.0) second.1

second_begun : (names : List (List ℕ)) (targets : ℕ) (stamps more : List ℕ) (stamp : ℕ) (words rest : List (List ℕ)) (first : ℕ)
    → length stamps ≡ length names → first < length names → more ≡ set stamps first stamp → (targets ≡ 1 → ⊥)
    → target_of names (is_stamped stamps stamp) words ≡ Ok (first, rest)
    → op_of names targets (is_stamped stamps stamp) words ≡ and_then (target_of names (is_stamped more stamp) rest) (with_second first)
second_begun names targets stamps more stamp words rest first fit low written two is =
    ap (λ r. and_then r (with_first names targets (is_stamped stamps stamp))) is
    ∙ ap (λ t. if t then alone (Flip first) rest else and_then (target_of names (λ line. is_stamped stamps stamp line || line == first) rest)
    (with_second first)) (ne_eqb targets 1 two)
    ∙ ap (λ r. and_then r (with_second first)) (sym (target_of-same names (is_stamped more stamp)
    (λ line. is_stamped stamps stamp line || line == first) rest (λ line inside. ap (λ s. is_stamped s stamp line) written
    ∙ stamped_more stamps stamp first line (omega arith))))
