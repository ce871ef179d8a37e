-- Numbers that stand for lists of bits, as a diagram grows and as lists are put together.
use Rattle.std.proofs.Common.{◌≡◌, ℕ, zero, suc, ◌<◌, Bool, false, List, [], ◌∷◌, ◌++◌, length, map, take, drop, replicate, get_or, refl, sym}
use Rattle.std.proofs.Common.{ap, ap₂, ◌∙◌}
use Rattle.std.proofs.lemmas.List.{get_or-map, length-map, map-append}
use Rattle.list_facts.specs.Bits.{bit_of, zeros}
use Rattle.list_facts.proofs.AllLemmas.{AllByRecursion-append, AllByRecursion-at, AllByRecursion-drop, AllByRecursion-take, AllByRecursion-weaker}
use Rattle.decision_diagram.specs.Diagrams.{DiagramView, IsNumber, Triple, function_of}
use Rattle.decision_diagram.specs.Functions.{Assignment}
use Rattle.decision_diagram.specs.Growth.{KeepsNodes, StandsFor}
use Rattle.decision_diagram.proofs.GrowthLemmas.{function-kept, known-kept}
use Rattle.claim_check.proofs.VariableLemmas.{length-bits_at}
use Rattle.circuit_verify.specs.Comparisons.{Comparison, variables_in}
use Rattle.circuit_verify.specs.inside.Numbers.{AreKnown, AreNumbersOf, bits_in, bits_under}
use Rattle.circuit_verify.proofs.OrderLemmas.{ordered_in}

-- the bits that an assignment gives are bits for all variables
pub length-bits_in : (q : Comparison) (a : Assignment) → length (bits_in q a) ≡ variables_in q
length-bits_in q a = length-bits_at (ordered_in q) a

-- ---- as the diagram grows

pub known-grown : (old new : DiagramView) → KeepsNodes old new → (numbers : List ℕ) → AreKnown old.nodes numbers → AreKnown new.nodes numbers
known-grown old new kept numbers known =
    AllByRecursion-weaker (IsNumber old.nodes) (IsNumber new.nodes) (λ n is. known-kept old new kept n is) numbers known

pub bits-grown : (old new : DiagramView) → KeepsNodes old new → (numbers : List ℕ) → AreKnown old.nodes numbers → (a : Assignment)
    → bits_under new.nodes numbers a ≡ bits_under old.nodes numbers a
bits-grown old new kept [] known a = refl
bits-grown old new kept (n ∷ numbers) known a =
    ap₂ ◌∷◌ (function-kept old new kept n a known.0) (bits-grown old new kept numbers known.1 a)

pub numbers-grown : (q : Comparison) (old new : DiagramView) → KeepsNodes old new → (numbers : List ℕ) (value : List Bool → List Bool)
    → AreNumbersOf q old.nodes numbers value → AreNumbersOf q new.nodes numbers value
numbers-grown q old new kept numbers value are = record {
  known = known-grown old new kept numbers are.known;
  same = λ a. bits-grown old new kept numbers are.known a ∙ are.same a;
}

-- ---- lists

pub numbers-same : (q : Comparison) (nodes : List Triple) (numbers : List ℕ) (value other : List Bool → List Bool)
    → ((bits : List Bool) → length bits ≡ variables_in q → value bits ≡ other bits) → AreNumbersOf q nodes numbers value
    → AreNumbersOf q nodes numbers other
numbers-same q nodes numbers value other same are = record {
  known = are.known;
  same = λ a. are.same a ∙ same (bits_in q a) (length-bits_in q a);
}

pub numbers-none : (q : Comparison) (nodes : List Triple) → AreNumbersOf q nodes [] (λ bits. [])
numbers-none q nodes = record { known = tt; same = λ a. refl }

pub numbers-append : (q : Comparison) (nodes : List Triple) (one two : List ℕ) (first second : List Bool → List Bool)
    → AreNumbersOf q nodes one first → AreNumbersOf q nodes two second → AreNumbersOf q nodes (one ++ two) (λ bits. first bits ++ second bits)
numbers-append q nodes one two first second a b = record {
  known = AllByRecursion-append (IsNumber nodes) one two a.known b.known;
  same = λ v. map-append (λ n. function_of nodes n v) one two ∙ ap₂ ◌++◌ (a.same v) (b.same v);
}

map-take' : {A B : Type 0} (f : A → B) (n : ℕ) (xs : List A) → map f (take n xs) ≡ take n (map f xs)
map-take' f zero xs = refl
map-take' f (suc n) [] = refl
map-take' f (suc n) (x ∷ xs) = ap (λ ys. f x ∷ ys) (map-take' f n xs)

map-drop' : {A B : Type 0} (f : A → B) (n : ℕ) (xs : List A) → map f (drop n xs) ≡ drop n (map f xs)
map-drop' f zero xs = refl
map-drop' f (suc n) [] = refl
map-drop' f (suc n) (x ∷ xs) = map-drop' f n xs

pub numbers-take : (q : Comparison) (nodes : List Triple) (n : ℕ) (numbers : List ℕ) (value : List Bool → List Bool)
    → AreNumbersOf q nodes numbers value → AreNumbersOf q nodes (take n numbers) (λ bits. take n (value bits))
numbers-take q nodes n numbers value are = record {
  known = AllByRecursion-take (IsNumber nodes) n numbers are.known;
  same = λ a. map-take' (λ m. function_of nodes m a) n numbers ∙ ap (take n) (are.same a);
}

pub numbers-drop : (q : Comparison) (nodes : List Triple) (n : ℕ) (numbers : List ℕ) (value : List Bool → List Bool)
    → AreNumbersOf q nodes numbers value → AreNumbersOf q nodes (drop n numbers) (λ bits. drop n (value bits))
numbers-drop q nodes n numbers value are = record {
  known = AllByRecursion-drop (IsNumber nodes) n numbers are.known;
  same = λ a. map-drop' (λ m. function_of nodes m a) n numbers ∙ ap (drop n) (are.same a);
}

pub numbers-zeros : (q : Comparison) (nodes : List Triple) (never count : ℕ) → StandsFor nodes never (λ a. false)
    → AreNumbersOf q nodes (replicate count never) (λ bits. zeros count)
numbers-zeros q nodes never zero stands = numbers-none q nodes
numbers-zeros q nodes never (suc count) stands =
    let rest = numbers-zeros q nodes never count stands in
    record { known = (stands.known, rest.known); same = λ a. ap₂ ◌∷◌ (stands.same a) (rest.same a) }

-- one more number
pub numbers-push : (q : Comparison) (nodes : List Triple) (numbers : List ℕ) (n : ℕ) (value : List Bool → List Bool) (bit : List Bool → Bool)
    → AreNumbersOf q nodes numbers value → StandsFor nodes n (λ a. bit (bits_in q a))
    → AreNumbersOf q nodes (numbers ++ n ∷ []) (λ bits. value bits ++ bit bits ∷ [])
numbers-push q nodes numbers n value bit are stands =
    numbers-append q nodes numbers (n ∷ []) value (λ bits. bit bits ∷ []) are
    (record { known = (stands.known, tt); same = λ a. ap (λ b. b ∷ []) (stands.same a) })

-- ---- single numbers

-- a number is that of its bit
pub bit-at : (nodes : List Triple) (numbers : List ℕ) (i : ℕ) (a : Assignment) → i < length numbers
    → function_of nodes (get_or numbers i 0) a ≡ bit_of (bits_under nodes numbers a) i
bit-at nodes numbers i a inside = sym (get_or-map (λ n. function_of nodes n a) numbers i 0 false inside)

pub known-at : (nodes : List Triple) (numbers : List ℕ) (i : ℕ) → AreKnown nodes numbers → i < length numbers → IsNumber nodes (get_or numbers i 0)
known-at nodes numbers i known inside = AllByRecursion-at (IsNumber nodes) numbers i 0 known inside

-- the numbers are as many as the bits
pub length-numbers : (q : Comparison) (nodes : List Triple) (numbers : List ℕ) (value : List Bool → List Bool) (a : Assignment)
    → AreNumbersOf q nodes numbers value → length numbers ≡ length (value (bits_in q a))
length-numbers q nodes numbers value a are =
    sym (length-map numbers (λ n. function_of nodes n a)) ∙ ap length (are.same a)
