-- What a flip over idle lines does, whatever they hold: by induction on the controls.
use Rattle.std.proofs.Common.{◌≡◌, ◌≢◌, ℕ, ◌+◌, ◌<◌, ◌≤◌, Bool, List, [], ◌∷◌, ◌++◌, length, drop, reverse, refl, sym, ap, ◌∙◌, arith}
use Rattle.std.specs.List.{AllByRecursion}
use Rattle.std.proofs.lemmas.List.{reverse-append, append_assoc, drop-append-le, length-reverse}
use Rattle.list_facts.proofs.AllLemmas.{AllByRecursion-append, AllByRecursion-reverse}
use Rattle.list_facts.proofs.OrderLemmas.{AreDifferent-reverse}
use Rattle.mct_circuit.specs.Gates.{GateView, after_gate, line_map, flip_of, IsGateOn, AreGatesOn, AreNarrow}
use Rattle.list_facts.specs.Lists.{AreDifferent}
use Rattle.mct_circuit.proofs.ReversalLemmas.{line_map-append, lines_of-flip_of}
use Rattle.gate_split.specs.Split.{Avoids}
use Rattle.gate_split.specs.Split.{ladder, there_and_back}
use Rattle.gate_split.proofs.FlipLemmas.{length-flip_of, flips_commute, flip_of-flip_of, before_and_behind}

-- ---- lists of lines

pub Avoids-flip : (x : ℕ) (xs : List ℕ) → AllByRecursion (λ y. y ≢ x) xs → Avoids x xs
Avoids-flip x [] d = tt
Avoids-flip x (y ∷ ys) d = ((λ e. d.0 (sym e)), Avoids-flip x ys d.1)

pub Avoids-back : (x : ℕ) (xs : List ℕ) → Avoids x xs → AllByRecursion (λ y. y ≢ x) xs
Avoids-back x [] d = tt
Avoids-back x (y ∷ ys) d = ((λ e. d.0 (sym e)), Avoids-back x ys d.1)

pub heads_apart : (c : ℕ) (cs ls : List ℕ) → AllByRecursion (λ a. Avoids a (c ∷ cs)) ls → AllByRecursion (λ a. a ≢ c) ls
heads_apart c cs [] d = tt
heads_apart c cs (a ∷ ls) d = (d.0.0, heads_apart c cs ls d.1)

pub tails_apart : (c : ℕ) (cs ls : List ℕ) → AllByRecursion (λ a. Avoids a (c ∷ cs)) ls → AllByRecursion (λ a. Avoids a cs) ls
tails_apart c cs [] d = tt
tails_apart c cs (a ∷ ls) d = (d.0.1, tails_apart c cs ls d.1)

both_apart : (c a : ℕ) (xs : List ℕ) → AllByRecursion (λ x. x ≢ c) xs → Avoids a xs → AllByRecursion (λ x. Avoids x (c ∷ a ∷ [])) xs
both_apart c a [] p q = tt
both_apart c a (x ∷ xs) p q = ((p.0, ((λ e. q.0 (sym e)), tt)), both_apart c a xs p.1 q.1)

-- ---- where a ladder fits

-- the target, the controls and the idle lines, the last first: all different, all below n, two controls more than idle lines
abbrev pub Fits : ℕ → ℕ → List ℕ → List ℕ → Type 0
Fits n target controls [] = (target < n) × Avoids target controls × IsGateOn n (flip_of (reverse controls) target) × (length controls ≤ 2)
Fits n target [] (a ∷ ls) = ⊥
Fits n target (c ∷ cs) (a ∷ ls) = (target < n) × Avoids target (c ∷ cs) × Avoids target (a ∷ ls) × AllByRecursion (λ x. x ≢ c) (a ∷ ls)
    × IsGateOn n (flip_of (c ∷ a ∷ []) target) × Fits n a cs ls

low : (n t : ℕ) (cs ls : List ℕ) → Fits n t cs ls → t < n
low n t cs [] f = f.0
low n t [] (a ∷ ls) f = absurd f
low n t (c ∷ cs) (a ∷ ls) f = f.0

free : (n t : ℕ) (cs ls : List ℕ) → Fits n t cs ls → Avoids t cs
free n t cs [] f = f.1
free n t [] (a ∷ ls) f = absurd f
free n t (c ∷ cs) (a ∷ ls) f = f.1

pub fits : (n t : ℕ) (cs ls : List ℕ) → t < n → AreDifferent (t ∷ cs) → AllByRecursion (λ x. x < n) cs → AreDifferent (t ∷ ls) → AllByRecursion (λ x. x < n) ls
    → AllByRecursion (λ a. Avoids a cs) ls → length cs ≡ length ls + 2
    → Fits n t cs ls
fits n t cs [] l d r da ra far e = (
  l,
  d.0,
  record {
    different = rw (lines_of-flip_of (reverse cs) t, ← (reverse-append (t ∷ []) cs)) (AreDifferent-reverse (t ∷ cs) d);
    in_range = rw (lines_of-flip_of (reverse cs) t) (AllByRecursion-append (λ x. x < n) (reverse cs) (t ∷ []) (AllByRecursion-reverse (λ x. x < n) cs r)
        (l, tt));
  },
  omega arith,
)
fits n t [] (a ∷ ls) l d r da ra far e = absurd (omega arith)
fits n t (c ∷ cs) (a ∷ ls) l d r da ra far e = (
  l,
  d.0,
  da.0,
  heads_apart c cs (a ∷ ls) far,
  record { different = (((λ q. far.0.0 (sym q)), ((λ q. d.0.0 (sym q)), tt)), (((λ q. da.0.0 (sym q)), tt), (tt, tt))); in_range = (r.0, (ra.0, (l, tt))) },
  fits n a cs ls ra.0 (far.0.1, d.1.1) r.1 da.1 ra.1 (tails_apart c cs ls far.1) (omega arith),
)

pub fits_gates : (n t : ℕ) (cs ls : List ℕ) → Fits n t cs ls → AreGatesOn n (ladder t cs ls)
fits_gates n t cs [] f = (f.2, tt)
fits_gates n t [] (a ∷ ls) f = absurd f
fits_gates n t (c ∷ cs) (a ∷ ls) f = (f.4, fits_gates n a cs ls f.5)

pub fits_narrow : (n t : ℕ) (cs ls : List ℕ) → Fits n t cs ls → AreNarrow (ladder t cs ls)
fits_narrow n t cs [] f = (record { controls = reverse cs; target = t; few = rw (length-reverse cs) f.3; is_flip = refl }, tt)
fits_narrow n t [] (a ∷ ls) f = absurd f
fits_narrow n t (c ∷ cs) (a ∷ ls) f = (record { controls = c ∷ a ∷ []; target = t; few = omega arith; is_flip = refl }, fits_narrow n a cs ls f.5)

-- ---- there and back

-- what the gates of a ladder do, there and back
abbrev back_and_forth : ℕ → List ℕ → List ℕ → List Bool → List Bool
back_and_forth t cs [] bits = after_gate (flip_of (reverse cs) t) bits
back_and_forth t [] (a ∷ ls) bits = bits
back_and_forth t (c ∷ cs) (a ∷ ls) bits = after_gate (flip_of (c ∷ a ∷ []) t) (back_and_forth a cs ls (after_gate (flip_of (c ∷ a ∷ []) t) bits))

some_rung : (n t : ℕ) (cs ls : List ℕ) → Fits n t cs ls → 1 ≤ length (ladder t cs ls)
some_rung n t cs [] f = omega arith
some_rung n t [] (a ∷ ls) f = absurd f
some_rung n t (c ∷ cs) (a ∷ ls) f = omega arith

around : (g : GateView) (gates : List GateView) → 1 ≤ length gates → there_and_back (g ∷ gates) ≡ g ∷ (there_and_back gates ++ g ∷ [])
around g gates h =
    let long : 1 ≤ length (reverse gates) = rw (length-reverse gates) h in
    ap (λ r. g ∷ (gates ++ drop 1 r)) (reverse-append (g ∷ []) gates) ∙ ap (λ r. g ∷ (gates ++ r)) (drop-append-le 1 (reverse gates) (g ∷ []) long)
    ∙ ap (λ r. g ∷ r) (sym (append_assoc gates (drop 1 (reverse gates)) (g ∷ [])))

there_and_back_is : (n t : ℕ) (cs ls : List ℕ) (bits : List Bool) → Fits n t cs ls
    → line_map (there_and_back (ladder t cs ls)) bits ≡ back_and_forth t cs ls bits
there_and_back_is n t cs [] bits f = refl
there_and_back_is n t [] (a ∷ ls) bits f = absurd f
there_and_back_is n t (c ∷ cs) (a ∷ ls) bits f =
    let g = flip_of (c ∷ a ∷ []) t in
    ap (λ gs. line_map gs bits) (around g (ladder a cs ls) (some_rung n a cs ls f.5))
    ∙ line_map-append (there_and_back (ladder a cs ls)) (g ∷ []) (after_gate g bits)
    ∙ ap (after_gate g) (there_and_back_is n a cs ls (after_gate g bits) f.5)

length-back : (t : ℕ) (cs ls : List ℕ) (bits : List Bool) → length (back_and_forth t cs ls bits) ≡ length bits
length-back t cs [] bits = length-flip_of (reverse cs) t bits
length-back t [] (a ∷ ls) bits = refl
length-back t (c ∷ cs) (a ∷ ls) bits =
    length-flip_of (c ∷ a ∷ []) t (back_and_forth a cs ls (after_gate (flip_of (c ∷ a ∷ []) t) bits))
    ∙ length-back a cs ls (after_gate (flip_of (c ∷ a ∷ []) t) bits) ∙ length-flip_of (c ∷ a ∷ []) t bits

-- it undoes itself
back_twice : (n t : ℕ) (cs ls : List ℕ) (bits : List Bool) → Fits n t cs ls → length bits ≡ n → back_and_forth t cs ls (back_and_forth t cs ls bits) ≡ bits
back_twice n t cs [] bits f e = flip_of-flip_of (reverse cs) t bits (AllByRecursion-reverse (λ x. t ≢ x) cs f.1) (rw e f.0)
back_twice n t [] (a ∷ ls) bits f e = absurd f
back_twice n t (c ∷ cs) (a ∷ ls) bits f e =
    let h : List Bool → List Bool = after_gate (flip_of (c ∷ a ∷ []) t) in
    let P : List Bool → List Bool = back_and_forth a cs ls in
    let apart : Avoids t (c ∷ a ∷ []) = (f.1.0, (f.2.0, tt)) in
    let long : length (h bits) ≡ n = length-flip_of (c ∷ a ∷ []) t bits ∙ e in
    let long_P : length (P (h bits)) ≡ n = length-back a cs ls (h bits) ∙ long in
    let inner : h (h (P (h bits))) ≡ P (h bits) = flip_of-flip_of (c ∷ a ∷ []) t (P (h bits)) apart (rw long_P f.0) in
    ap (λ b. h (P b)) inner ∙ ap h (back_twice n a cs ls (h bits) f.5 long) ∙ flip_of-flip_of (c ∷ a ∷ []) t bits apart (rw e f.0)

-- it lets a flip pass that meets none of its lines
back_commutes : (R : List ℕ) (t u : ℕ) (cs ls : List ℕ) (bits : List Bool) → t ≢ u → Avoids t cs → Avoids t ls → Avoids u R
    → AllByRecursion (λ a. Avoids a R) ls
    → after_gate (flip_of R t) (back_and_forth u cs ls bits) ≡ back_and_forth u cs ls (after_gate (flip_of R t) bits)
back_commutes R t u cs [] bits d tc ta uR aR = sym (flips_commute R (reverse cs) t u bits d (AllByRecursion-reverse (λ x. t ≢ x) cs tc) uR)
back_commutes R t u [] (a ∷ ls) bits d tc ta uR aR = refl
back_commutes R t u (c ∷ cs) (a ∷ ls) bits d tc ta uR aR =
    let r : List Bool → List Bool = after_gate (flip_of R t) in
    let h : List Bool → List Bool = after_gate (flip_of (c ∷ a ∷ []) u) in
    let P : List Bool → List Bool = back_and_forth a cs ls in
    let pass : (b : List Bool) → h (r b) ≡ r (h b) = λ b. flips_commute R (c ∷ a ∷ []) t u b d (tc.0, (ta.0, tt)) uR in
    sym (pass (P (h bits))) ∙ ap h (back_commutes R t a cs ls (h bits) ta.0 tc.1 ta.1 aR.0 aR.1) ∙ ap (λ b. h (P b)) (sym (pass bits))

-- it flips the target where all the controls are 1, and then does what the ladder below does
back_is : (n t c a : ℕ) (cs ls : List ℕ) (bits : List Bool) → Fits n t (c ∷ cs) (a ∷ ls) → length bits ≡ n
    → back_and_forth t (c ∷ cs) (a ∷ ls) bits ≡ back_and_forth a cs ls (after_gate (flip_of (reverse cs ++ c ∷ []) t) bits)
back_is n t c a cs [] bits f e =
    before_and_behind bits a t (c ∷ []) (reverse cs) (rw e f.5.0) (rw e f.0) (λ q. f.2.0 (sym q)) (f.3.0, tt) (f.1.0, tt)
    (AllByRecursion-reverse (λ x. a ≢ x) cs f.5.1) (AllByRecursion-reverse (λ x. t ≢ x) cs f.1.1)
back_is n t c a [] (a2 ∷ ls) bits f e = absurd f.5
back_is n t c a (c2 ∷ cs) (a2 ∷ ls) bits f e =
    let h : List Bool → List Bool = after_gate (flip_of (c ∷ a ∷ []) t) in
    let F : List Bool → List Bool = after_gate (flip_of (reverse (c2 ∷ cs)) a) in
    let P : List Bool → List Bool = back_and_forth a (c2 ∷ cs) (a2 ∷ ls) in
    let B : List Bool → List Bool = back_and_forth a2 cs ls in
    let W : List Bool = after_gate (flip_of (reverse (c2 ∷ cs) ++ c ∷ []) t) bits in
    let long : length (h bits) ≡ n = length-flip_of (c ∷ a ∷ []) t bits ∙ e in
    let long_W : length W ≡ n = length-flip_of (reverse (c2 ∷ cs) ++ c ∷ []) t bits ∙ e in
    let turned : reverse cs ++ c2 ∷ [] ≡ reverse (c2 ∷ cs) = sym (reverse-append (c2 ∷ []) cs) in
    let below : (b : List Bool) → length b ≡ n → P b ≡ B (F b) = λ b q. rw turned at (back_is n a c2 a2 cs ls b f.5 q) in
    let others = both_apart c a (a2 ∷ ls) f.3.1 f.5.2 in
    let pass : h (B (F (h bits))) ≡ B (h (F (h bits))) = back_commutes (c ∷ a ∷ []) t a2 cs ls (F (h bits)) f.2.1.0 f.1.1.1 f.2.1.1 others.0 others.1 in
    let turn : h (F (h bits)) ≡ F W =
    before_and_behind bits a t (c ∷ []) (reverse (c2 ∷ cs)) (rw e (low n a (c2 ∷ cs) (a2 ∷ ls) f.5)) (rw e f.0) (λ q. f.2.0 (sym q)) (f.3.0, tt) (f.1.0, tt)
    (AllByRecursion-reverse (λ x. a ≢ x) (c2 ∷ cs) f.5.1) (AllByRecursion-reverse (λ x. t ≢ x) (c2 ∷ cs) f.1.1) in
    ap h (below (h bits) long) ∙ pass ∙ ap B turn ∙ sym (below W long_W)

-- the two ladders flip the target where all controls are 1, and change nothing else
pub ladders_flip : (n t : ℕ) (cs ls : List ℕ) (bits : List Bool) → Fits n t cs ls → 1 ≤ length ls → length bits ≡ n
    → line_map (there_and_back (ladder t cs ls) ++ there_and_back (drop 1 (ladder t cs ls))) bits ≡ after_gate (flip_of (reverse cs) t) bits
ladders_flip n t cs [] bits f h e = absurd (omega arith)
ladders_flip n t [] (a ∷ ls) bits f h e = absurd f
ladders_flip n t (c ∷ cs) (a ∷ ls) bits f h e =
    let W : List Bool = after_gate (flip_of (reverse cs ++ c ∷ []) t) bits in
    let long_W : length W ≡ n = length-flip_of (reverse cs ++ c ∷ []) t bits ∙ e in
    let turned : reverse (c ∷ cs) ≡ reverse cs ++ c ∷ [] = reverse-append (c ∷ []) cs in
    rw turned (line_map-append (there_and_back (ladder t (c ∷ cs) (a ∷ ls))) (there_and_back (ladder a cs ls)) bits
    ∙ ap (line_map (there_and_back (ladder a cs ls))) (there_and_back_is n t (c ∷ cs) (a ∷ ls) bits f ∙ back_is n t c a cs ls bits f e)
    ∙ there_and_back_is n a cs ls (back_and_forth a cs ls W) f.5 ∙ back_twice n a cs ls W f.5 long_W)
