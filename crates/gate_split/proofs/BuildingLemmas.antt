-- The lists of gates as the loops make them.
use Rattle.std.proofs.Common.{◌≡◌, ℕ, suc, ◌+◌, ◌-◌, ◌<◌, ◌≤◌, Bool, true, false, not, cond, List, [], ◌∷◌, ◌++◌, length, get_or, take, drop, reverse, refl}
use Rattle.std.proofs.Common.{sym, ap, ◌∙◌, subst, arith}
use mathlib.Core.Bool.{beq}
use Rattle.std.specs.List.{AllByRecursion}
use Rattle.std.proofs.lemmas.List.{reverse-append, append_assoc, append-nil, length-append, take_more, take_all}
use Rattle.mct_circuit.specs.Gates.{GateView, flip_of, HasDifferentLines}
use Rattle.gate_split.specs.Split.{falling_lines, ladder, there_and_back}

-- ---- lines in falling order

pub unwanted : (has among : Bool) → not (beq has among) ≡ true → cond among has (not has) ≡ false
unwanted true true e = absurd (cc)
unwanted true false e = refl
unwanted false true e = refl
unwanted false false e = absurd (cc)

pub wanted : (has among : Bool) → not (beq has among) ≡ false → cond among has (not has) ≡ true
wanted true true e = refl
wanted true false e = absurd (cc)
wanted false true e = absurd (cc)
wanted false false e = refl

passed_one : (test : ℕ → Bool) (line m : ℕ) (found whole : List ℕ) → test line ≡ false → found ++ take m (falling_lines test (suc line)) ≡ whole
    → found ++ take m (falling_lines test line) ≡ whole
passed_one test line m found whole t e = let same : falling_lines test (suc line) ≡ falling_lines test line = rw t refl in
    ap (λ ls. found ++ take m ls) (sym same) ∙ e

before : (line : ℕ) → 0 < line → line ≡ suc (line - 1)
before line h = omega arith

pub passed : (test : ℕ → Bool) (line m : ℕ) (found whole : List ℕ) → 0 < line → test (line - 1) ≡ false → found ++ take m (falling_lines test line) ≡ whole
    → found ++ take m (falling_lines test (line - 1)) ≡ whole
passed test line m found whole h t e = passed_one test (line - 1) m found whole t
    (subst (λ (k : ℕ). found ++ take m (falling_lines test k) ≡ whole) (before line h) e)

taken_one : (test : ℕ → Bool) (line count : ℕ) (found whole : List ℕ) → test line ≡ true → length found < count
    → found ++ take (count - length found) (falling_lines test (suc line)) ≡ whole
    → (found ++ line ∷ []) ++ take (count - length (found ++ line ∷ [])) (falling_lines test line) ≡ whole
taken_one test line count found whole t less e =
    let more : count - length found ≡ suc (count - length (found ++ line ∷ [])) = omega (arith, length-append found (line ∷ [])) in
    let same : falling_lines test (suc line) ≡ line ∷ falling_lines test line = rw t refl in
    append_assoc found (line ∷ []) (take (count - length (found ++ line ∷ [])) (falling_lines test line))
    ∙ sym (ap (λ ls. found ++ take (count - length found) ls) same ∙ ap (λ m. found ++ take m (line ∷ falling_lines test line)) more) ∙ e

pub taken : (test : ℕ → Bool) (line count : ℕ) (found whole : List ℕ) → 0 < line → test (line - 1) ≡ true → length found < count
    → found ++ take (count - length found) (falling_lines test line) ≡ whole
    → (found ++ (line - 1) ∷ []) ++ take (count - length (found ++ (line - 1) ∷ [])) (falling_lines test (line - 1)) ≡ whole
taken test line count found whole h t less e = taken_one test (line - 1) count found whole t less
    (subst (λ (k : ℕ). found ++ take (count - length found) (falling_lines test k) ≡ whole) (before line h) e)

-- ---- ladders

add_one_is : {k : ℕ} → k + 1 ≡ suc k
add_one_is {k} = omega arith

reverse_take_one : (xs : List ℕ) (k : ℕ) → k < length xs → reverse (take (suc k) xs) ≡ get_or xs k 0 ∷ reverse (take k xs)
reverse_take_one xs k l =
    let one : take (suc k) xs ≡ take k xs ++ get_or xs k 0 ∷ [] = ap (λ m. take m xs) (sym add_one_is) ∙ take_more xs k 0 l in
    ap reverse one ∙ reverse-append (take k xs) (get_or xs k 0 ∷ [])

reverse_take : (xs : List ℕ) (k : ℕ) → 0 < k → k ≤ length xs → reverse (take k xs) ≡ get_or xs (k - 1) 0 ∷ reverse (take (k - 1) xs)
reverse_take xs k h l = ap (λ m. reverse (take m xs)) (before k h) ∙ reverse_take_one xs (k - 1) (omega arith)

pub rung_more : (t : ℕ) (cs ls : List ℕ) (k : ℕ) → 0 < k → k ≤ length ls → length cs ≡ length ls + 2
    → ladder t (reverse (take (k + 2) cs)) (reverse (take k ls)) ≡ flip_of (get_or cs (k - 1 + 2) 0 ∷ get_or ls (k - 1) 0 ∷ []) t ∷ ladder (get_or ls (k - 1) 0)
    (reverse (take (k - 1 + 2) cs)) (reverse (take (k - 1) ls))
rung_more t cs ls k h l e =
    let first : reverse (take (k + 2) cs) ≡ get_or cs (k + 2 - 1) 0 ∷ reverse (take (k + 2 - 1) cs) = reverse_take cs (k + 2) (omega arith) (omega arith) in
    let same : k + 2 - 1 ≡ k - 1 + 2 = omega arith in
    let second = reverse_take ls k h l in
    let one : ladder t (reverse (take (k + 2) cs)) (reverse (take k ls))
    ≡ ladder t (get_or cs (k - 1 + 2) 0 ∷ reverse (take (k - 1 + 2) cs)) (get_or ls (k - 1) 0 ∷ reverse (take (k - 1) ls)) =
    ap (λ c. ladder t c (reverse (take k ls))) (first ∙ ap (λ j. get_or cs j 0 ∷ reverse (take j cs)) same)
    ∙ ap (λ c. ladder t (get_or cs (k - 1 + 2) 0 ∷ reverse (take (k - 1 + 2) cs)) c) second in
    one

pub rungs_made : (t : ℕ) (cs ls : List ℕ) (k : ℕ) (made whole : List GateView) → 0 < k → k ≤ length ls → length cs ≡ length ls + 2
    → made ++ ladder t (reverse (take (k + 2) cs)) (reverse (take k ls)) ≡ whole
    → (made ++ flip_of (get_or cs (k - 1 + 2) 0 ∷ get_or ls (k - 1) 0 ∷ []) t ∷ [])
    ++ ladder (get_or ls (k - 1) 0) (reverse (take (k - 1 + 2) cs)) (reverse (take (k - 1) ls)) ≡ whole
rungs_made t cs ls k made whole h l e q =
    append_assoc made (flip_of (get_or cs (k - 1 + 2) 0 ∷ get_or ls (k - 1) 0 ∷ []) t ∷ [])
    (ladder (get_or ls (k - 1) 0) (reverse (take (k - 1 + 2) cs)) (reverse (take (k - 1) ls)))
    ∙ ap (λ g. made ++ g) (sym (rung_more t cs ls k h l e)) ∙ q

pub rungs_left : (t : ℕ) (cs ls : List ℕ) (k : ℕ) → 0 < k → k ≤ length ls → length cs ≡ length ls + 2
    → AllByRecursion HasDifferentLines (ladder t (reverse (take (k + 2) cs)) (reverse (take k ls)))
    → AllByRecursion HasDifferentLines (flip_of (get_or cs (k - 1 + 2) 0 ∷ get_or ls (k - 1) 0 ∷ []) t ∷ ladder (get_or ls (k - 1) 0)
    (reverse (take (k - 1 + 2) cs)) (reverse (take (k - 1) ls)))
rungs_left t cs ls k h l e d = subst (AllByRecursion HasDifferentLines) (rung_more t cs ls k h l e) d

pub length-ladder : (t : ℕ) (cs ls : List ℕ) → length cs ≡ length ls + 2 → length (ladder t cs ls) ≡ length ls + 1
length-ladder t cs [] e = refl
length-ladder t [] (a ∷ ls) e = absurd (omega arith)
length-ladder t (c ∷ cs) (a ∷ ls) e = let rest = length-ladder a cs ls (omega arith) in omega arith

-- ---- there and back

reverse_gates_one : (xs : List GateView) (d : GateView) (k : ℕ) → k < length xs → reverse (take (suc k) xs) ≡ get_or xs k d ∷ reverse (take k xs)
reverse_gates_one xs d k l =
    let one : take (suc k) xs ≡ take k xs ++ get_or xs k d ∷ [] = ap (λ m. take m xs) (sym add_one_is) ∙ take_more xs k d l in
    ap reverse one ∙ reverse-append (take k xs) (get_or xs k d ∷ [])

reverse_gates : (xs : List GateView) (d : GateView) (k : ℕ) → 0 < k → k ≤ length xs → reverse (take k xs) ≡ get_or xs (k - 1) d ∷ reverse (take (k - 1) xs)
reverse_gates xs d k h l = ap (λ m. reverse (take m xs)) (before k h) ∙ reverse_gates_one xs d (k - 1) (omega arith)

pub turn_back : (gates : List GateView) (d : GateView) → 1 ≤ length gates → drop 1 (reverse gates) ≡ reverse (take (length gates - 1) gates)
turn_back gates d h =
    let all : reverse gates ≡ get_or gates (length gates - 1) d ∷ reverse (take (length gates - 1) gates) =
    ap reverse (sym (take_all (length gates) gates (omega arith))) ∙ reverse_gates gates d (length gates) h (omega arith) in
    ap (drop 1) all

-- nothing comes back behind no gates
pub started_back : (gates : List GateView) (made whole : List GateView) → made ≡ whole ++ gates
    → made ++ reverse (take (length gates - 1) gates) ≡ whole ++ there_and_back gates
started_back [] made whole e = append-nil made ∙ e
started_back (g ∷ gs) made whole e =
    ap (λ r. made ++ r) (sym (turn_back (g ∷ gs) g (omega arith))) ∙ ap (λ m. m ++ drop 1 (reverse (g ∷ gs))) e
    ∙ append_assoc whole (g ∷ gs) (drop 1 (reverse (g ∷ gs)))

-- ---- copies

pub copied_more : (done now made : List GateView) (gate : GateView) (gates : List GateView) (i : ℕ) → i < length gates → gate ≡ get_or gates i gate
    → now ≡ made ++ gate ∷ [] → made ≡ done ++ take i gates → now ≡ done ++ take (i + 1) gates
copied_more done now made gate gates i h is n e =
    n ∙ ap (λ l. l ++ gate ∷ []) e ∙ append_assoc done (take i gates) (gate ∷ []) ∙ ap (λ g. done ++ (take i gates ++ g ∷ [])) is
    ∙ ap (λ l. done ++ l) (sym (take_more gates i gate h))
