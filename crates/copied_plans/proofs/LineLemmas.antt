-- The gates of a sum depend on the lines of its bases alone.
use Rattle.std.proofs.Common.{◌≡◌, ℕ, Bool, true, false, cond, List, [], ◌∷◌, ◌++◌, reverse, refl, ap₂}
use Rattle.std.specs.List.{AllByRecursion, flat_map}
use Rattle.dependency_graph.specs.declared.node.Base.{Base}
use Rattle.dependency_graph.specs.declared.node.Base.TheVariants as bases
use Rattle.dependency_graph.specs.Folds.{is_same}
use Rattle.bit_sums.specs.Sums.{AreAll, IsProductOver, IsSumOver, ProductView, SumView}
use Rattle.mct_circuit.specs.Gates.{GateView, flip_of}
use Rattle.sum_toggles.specs.Toggles.{bit_gates, both_gathered, gathers, has, last_own, one_gates, own_base, product_gates, sum_gates}

-- two ways to place bases that agree on those of which a test holds, and on the first input
module _ (f g : Base → ℕ) (test : Base → Bool) (agree : (b : Base) → test b ≡ true → f b ≡ g b) (first : f (bases.Input 0) ≡ g (bases.Input 0))
  where
    bits_same : (target : ℕ) (bits : List Base) → AreAll test bits → bit_gates f target bits ≡ bit_gates g target bits
    bits_same target [] all = refl
    bits_same target (b ∷ bs) all =
        ap₂ (λ (l : ℕ) (rest : List GateView). flip_of (l ∷ []) target ∷ rest) (agree b all.0) (bits_same target bs all.1)

    chosen : (t : Bool) (one other : Base) → f one ≡ g one → f other ≡ g other → f (cond t one other) ≡ g (cond t one other)
    chosen true one other this that = this
    chosen false one other this that = that

    own_same : (other : List Base) (none : Base) (bits : List Base) → f none ≡ g none → AreAll test bits
        → f (last_own other none bits) ≡ g (last_own other none bits)
    own_same other none [] here all = here
    own_same other none (b ∷ bs) here all =
        own_same other (cond (has other b) none b) bs (chosen (has other b) none b here (agree b all.0)) all.1

    gathers_same : (own : Base) (bits : List Base) → f own ≡ g own → AreAll test bits → gathers f own bits ≡ gathers g own bits
    gathers_same own [] here all = refl
    gathers_same own (b ∷ bs) here all =
        ap₂ (λ (one rest : List GateView). one ++ rest)
        (ap₂ (λ (x y : ℕ). cond (is_same b own) [] (flip_of (x ∷ []) y ∷ [])) (agree b all.0) here)
        (gathers_same own bs here all.1)

    product_same : (target : ℕ) (p : ProductView) → IsProductOver test p → product_gates f target p ≡ product_gates g target p
    product_same target p all =
        let a = own_base p.first p.second in
        let b = own_base p.second p.first in
        let one = own_same p.second (bases.Input 0) p.first first all.first in
        let other = own_same p.first (bases.Input 0) p.second first all.second in
        let both : both_gathered f p ≡ both_gathered g p =
        ap₂ (λ (x y : List GateView). x ++ y) (gathers_same a p.first one all.first) (gathers_same b p.second other all.second) in
        let flip : flip_of (f a ∷ f b ∷ []) target ≡ flip_of (g a ∷ g b ∷ []) target =
        ap₂ (λ (x y : ℕ). flip_of (x ∷ y ∷ []) target) one other in
        ap₂ (λ (x : List GateView) (y : GateView). x ++ y ∷ [] ++ reverse x) both flip

    products_same : (target : ℕ) (ps : List ProductView) → AllByRecursion (IsProductOver test) ps
        → flat_map (product_gates f target) ps ≡ flat_map (product_gates g target) ps
    products_same target [] all = refl
    products_same target (p ∷ ps) all =
        ap₂ (λ (x y : List GateView). x ++ y) (product_same target p all.0) (products_same target ps all.1)

    pub sum_same : (target : ℕ) (s : SumView) → IsSumOver test s → sum_gates f target s ≡ sum_gates g target s
    sum_same target s all =
        ap₂ (λ (x y : List GateView). x ++ y ++ one_gates target s.one) (bits_same target s.bits all.bits) (products_same target s.products all.products)
