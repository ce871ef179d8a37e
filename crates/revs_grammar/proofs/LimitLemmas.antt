-- Which parameters pass the limits.
use Rattle.std.proofs.Common.{◌≡◌, ℕ, ◌+◌, Bool, true, false, ◌&&◌, leb, List, [], ◌∷◌, ◌++◌, sum, refl}
use Rattle.std.proofs.Common.{sym, ◌∙◌, ap, subst, ◌⊎◌, inl, inr, append_assoc, append-nil, arith}
use Rattle.std.proofs.lemmas.Bool.Decides.{nat_tests}
use Rattle.std.proofs.lemmas.List.{map-append}
use Rattle.std.proofs.lemmas.List.Sums.{sum_by-append}
use Rattle.std.proofs.lemmas.List.Folds.{list_all-append}
use Rattle.std.specs.List.{list_all}
use Rattle.revs_terms.specs.declared.program.Param.{Param}
use Rattle.revs_terms.specs.Programs.{AreParams, width_of, widths_of}
use Rattle.std.proofs.lemmas.Bool.{and_parts}

-- ---- tests of the limits

abbrev are_bits : List Param → Bool
are_bits ps = list_all (λ width. leb 1 width) (widths_of ps)

bits-append : (ps qs : List Param) → are_bits (ps ++ qs) ≡ are_bits ps && are_bits qs
bits-append ps qs =
    ap (λ (z : List ℕ). list_all (λ width. leb 1 width) z) (map-append (λ (p : Param). width_of p.width) ps qs)
    ∙ list_all-append (λ width. leb 1 width) (widths_of ps) (widths_of qs)

sum-append : (ps qs : List Param) → sum (widths_of (ps ++ qs)) ≡ sum (widths_of ps) + sum (widths_of qs)
sum-append ps qs =
    ap (λ (z : List ℕ). sum z) (map-append (λ (p : Param). width_of p.width) ps qs) ∙ sum_by-append (λ x. x) (widths_of ps) (widths_of qs)

-- What parameters keep, the first of them keep.
pub AreParams-front : (ps qs : List Param) → AreParams (ps ++ qs) → AreParams ps
AreParams-front ps qs h = record {
  bits = (and_parts (are_bits ps) (are_bits qs) (sym (bits-append ps qs) ∙ h.bits)).0;
  inputs = omega (arith, h.inputs, sum-append ps qs);
}

pub AreParams-none : AreParams []
AreParams-none = record { bits = refl; inputs = omega arith }

false≢true : false ≡ true → ⊥
false≢true e = cc

are_params : (ps : List Param) → AreParams ps ⊎ (¬ AreParams ps)
are_params ps = go (are_bits ps) refl (leb (sum (widths_of ps)) 1024) refl
  where
    go : (b : Bool) → are_bits ps ≡ b → (c : Bool) → leb (sum (widths_of ps)) 1024 ≡ c → AreParams ps ⊎ (¬ AreParams ps)
    go true e true f = inl (record { bits = e; inputs = grind (arith, nat_tests) })
    go false e c f = inr (λ h. false≢true (sym e ∙ h.bits))
    go true e false f = inr (λ h. let few = h.inputs in grind (arith, nat_tests))

-- The first parameter behind these at which the limits are passed, if there is one.
pub record Passes (before ps : List Param) : Type 0 where
  pub fine : List Param
  pub named : Param
  pub behind : List Param
  pub cut : ps ≡ fine ++ named ∷ behind
  pub keep : AreParams (before ++ fine)
  pub passed : ¬ AreParams ((before ++ fine) ++ named ∷ [])

pub all_pass : (before ps : List Param) → AreParams before → AreParams (before ++ ps) ⊎ Passes before ps
all_pass before [] h = inl (subst (λ (z : List Param). AreParams z) (sym (append-nil before)) h)
all_pass before (p ∷ ps) h = go (are_params (before ++ p ∷ [])) (λ k. all_pass (before ++ p ∷ []) ps k)
  where
    further : AreParams ((before ++ p ∷ []) ++ ps) ⊎ Passes (before ++ p ∷ []) ps → AreParams (before ++ p ∷ ps) ⊎ Passes before (p ∷ ps)
    further (inl k) = inl (subst (λ (z : List Param). AreParams z) (append_assoc before (p ∷ []) ps) k)
    further (inr k) = inr (record {
      fine = p ∷ k.fine;
      named = k.named;
      behind = k.behind;
      cut = ap (λ (z : List Param). p ∷ z) k.cut;
      keep = subst (λ (z : List Param). AreParams z) (append_assoc before (p ∷ []) k.fine) k.keep;
      passed = subst (λ (z : List Param). ¬ AreParams (z ++ k.named ∷ [])) (append_assoc before (p ∷ []) k.fine) k.passed;
    })

    go : AreParams (before ++ p ∷ []) ⊎ (¬ AreParams (before ++ p ∷ []))
        → (AreParams (before ++ p ∷ []) → AreParams ((before ++ p ∷ []) ++ ps) ⊎ Passes (before ++ p ∷ []) ps)
        → AreParams (before ++ p ∷ ps) ⊎ Passes before (p ∷ ps)
    go (inl k) next = further (next k)
    go (inr k) next = inr (record {
      fine = [];
      named = p;
      behind = ps;
      cut = refl;
      keep = subst (λ (z : List Param). AreParams z) (sym (append-nil before)) h;
      passed = subst (λ (z : List Param). ¬ AreParams (z ++ p ∷ [])) (sym (append-nil before)) k;
    })

-- ---- of two cuts of a list the one is at the other, or within its front

-- The second front holds the first and its named one.
record Within (f : List Param) (n : Param) (h : List Param) : Type 0 where
  more : List Param
  front : h ≡ (f ++ n ∷ []) ++ more

cuts : (f h : List Param) (n m : Param) (r q : List Param) → f ++ n ∷ r ≡ h ++ m ∷ q → (n ≡ m) ⊎ (Within f n h ⊎ Within h m f)
cuts [] [] n m r q e = inl cc
cuts [] (x ∷ h) n m r q e = inr (inl (record { more = h; front = let same : x ≡ n = cc in ap (λ (z : Param). z ∷ h) same }))
cuts (x ∷ f) [] n m r q e = inr (inr (record { more = f; front = let same : x ≡ m = cc in ap (λ (z : Param). z ∷ f) same }))
cuts (x ∷ f) (y ∷ h) n m r q e =
    let tail : f ++ n ∷ r ≡ h ++ m ∷ q = cc in
    let same : x ≡ y = cc in onto x y same (cuts f h n m r q tail)
  where
    onto : (x y : Param) → x ≡ y → (n ≡ m) ⊎ (Within f n h ⊎ Within h m f) → (n ≡ m) ⊎ (Within (x ∷ f) n (y ∷ h) ⊎ Within (y ∷ h) m (x ∷ f))
    onto x y s (inl k) = inl k
    onto x y s (inr (inl k)) = inr (inl (record { more = k.more; front = let k1 = k.front in cc }))
    onto x y s (inr (inr k)) = inr (inr (record { more = k.more; front = let k1 = k.front in cc }))

held : (f : List Param) (n : Param) (h : List Param) → Within f n h → AreParams h → AreParams (f ++ n ∷ [])
held f n h w k = AreParams-front (f ++ n ∷ []) w.more (subst (λ (z : List Param). AreParams z) w.front k)

-- The limits are passed at one parameter.
pub one_passes : (f h : List Param) (n m : Param) (r q : List Param) → f ++ n ∷ r ≡ h ++ m ∷ q
    → AreParams f → (¬ AreParams (f ++ n ∷ [])) → AreParams h → (¬ AreParams (h ++ m ∷ [])) → n ≡ m
one_passes f h n m r q e kf pf kh ph = go (cuts f h n m r q e)
  where
    go : (n ≡ m) ⊎ (Within f n h ⊎ Within h m f) → n ≡ m
    go (inl k) = k
    go (inr (inl w)) = absurd (pf (held f n h w kh))
    go (inr (inr w)) = absurd (ph (held h m f w kf))

pub none_passes : (f : List Param) (n : Param) (r : List Param) → AreParams (f ++ n ∷ r) → AreParams (f ++ n ∷ [])
none_passes f n r k = AreParams-front (f ++ n ∷ []) r (subst (λ (z : List Param). AreParams z) (sym (append_assoc f (n ∷ []) r)) k)
