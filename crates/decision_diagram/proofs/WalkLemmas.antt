-- The walk to the least assignment with a bit.
use Rattle.std.proofs.Common.{◌≡◌, ◌≢◌, ℕ, ◌<◌, ◌≤◌, min, Bool, true, false, not, nat_eq, if◌then◌else◌, List}
use Rattle.std.proofs.Common.{length, set, refl, sym, subst, ap, ap₂, ◌∙◌, inl, inr, arith, eqb-true}
use Rattle.std.proofs.Common.{get_or-set_same, get_or-set_other}
use Rattle.std.specs.Bool.{xor}
use Rattle.std.proofs.lemmas.Bool.{cases_eq, cases_lt, cases_Bool, eqb-false, true≢false, false≢true}
use Rattle.list_facts.proofs.BitLemmas.{xor_none, xor_one, xor_same}
use Rattle.decision_diagram.specs.Functions.{Assignment, Function, IsLeast, assignment_of, exclusive_or}
use Rattle.decision_diagram.specs.Diagrams.{Triple, IsNumber, AreOrdered, side, function_of, first_variable, IsBehind}
use Rattle.decision_diagram.specs.inside.Flipping.{IsInner, Splits}
use Rattle.decision_diagram.proofs.ValueLemmas.{branch_behind, set_at, set_at-same, set_at-other}
use Rattle.decision_diagram.proofs.DistinctLemmas.{distinct_functions}
use Rattle.decision_diagram.proofs.FlipLemmas.{inner_asks}
use Rattle.decision_diagram.proofs.RestrictionLemmas.{constant_number, not_other, function-constant}

-- ---- any walk

-- The walk over f has come to the variable `first`, with `rest` still to be asked, and `a` has the bits that it took: f is
-- `rest` where these are taken, and every assignment with the wanted bit that parts from them before `first` has true where
-- they have false.
pub record Underway (f : Function) (want : Bool) (first : ℕ) (rest : Function) (a : Assignment) : Type 0 where
  pub blank : (i : ℕ) → first ≤ i → a i ≡ false
  pub same : (b : Assignment) → ((k : ℕ) → k < first → a k ≡ b k) → f b ≡ rest b
  pub least : (b : Assignment) → f b ≡ want → (i : ℕ) → i < first → ((k : ℕ) → k < i → a k ≡ b k) → b i ≡ false → a i ≡ false

pub begun : (f : Function) (want : Bool) (first : ℕ) (a : Assignment) → ((i : ℕ) → a i ≡ false) → Underway f want first f a
begun f want first a blank = record { blank = λ i from. blank i; same = λ b agree. refl; least = λ b gives i before agree low. blank i }

not_both : (want : Bool) → want ≡ not want → ⊥
not_both true e = true≢false e
not_both false e = false≢true e

-- The walk goes on at a variable to one of two sides: high only where low never has the wanted bit.
pub goes_on : (f : Function) (want : Bool) (v next : ℕ) (rest : Function) (sides : Bool → Function) (bit : Bool) (a after : Assignment)
    → Underway f want v rest a → v < next → ((b : Assignment) → rest b ≡ sides (b v) b)
    → (bit ≡ true → (b : Assignment) → sides false b ≡ not want) → ((i : ℕ) → after i ≡ set_at v bit a i)
    → Underway f want next (sides bit) after
goes_on f want v next rest sides bit a after walk later splits high is_after =
    let here : after v ≡ bit = is_after v ∙ set_at-same v bit a in
    let other : (i : ℕ) → (i ≡ v → ⊥) → after i ≡ a i = λ i differs. is_after i ∙ set_at-other v bit a i differs in
    let through : (b : Assignment) (t : Bool) → ((k : ℕ) → k < v → a k ≡ b k) → b v ≡ t → f b ≡ sides t b =
    λ b t agree is. walk.same b agree ∙ (splits b ∙ ap (λ s. sides s b) is) in
    record {
      blank = λ i from. other i (λ e. omega arith) ∙ walk.blank i (omega arith);
      same = λ b agree. through b bit (λ k before. sym (other k (λ e. omega arith)) ∙ agree k (omega arith)) (sym (agree v later) ∙ here);
      least = λ b gives i before agree low. elim (cases_lt i v) [
        | inl earlier ↦ other i (λ e. omega arith)
            ∙ walk.least b gives i earlier (λ k below. sym (other k (λ e. omega arith)) ∙ agree k below) low
        | inr from ↦ elim (cases_eq i v) [
          | inl e ↦ ap after e ∙ (here ∙ elim (cases_Bool bit) [
            | inl is_high ↦ absurd (not_both want (sym gives
                ∙ (through b false (λ k below. sym (other k (λ x. omega arith)) ∙ agree k (omega arith)) (ap b (sym e) ∙ low) ∙ high is_high b)))
            | inr no_high ↦ no_high
          ])
          | inr differs ↦ other i differs ∙ walk.blank i (omega arith)
        ]
      ];
    }

pub ends : (f : Function) (want : Bool) (first : ℕ) (rest : Function) (a : Assignment) → Underway f want first rest a → rest a ≡ want
    → IsLeast f want a
ends f want first rest a walk is = record {
  gives = walk.same a (λ k before. refl) ∙ is;
  least = λ b gives i agree low. elim (cases_lt i first) [
    | inl before ↦ walk.least b gives i before agree low
    | inr past ↦ walk.blank i past
  ];
}

-- ---- the walk from one number

-- the walk from f has come to `at`, which takes the wanted bit
pub record UnderwayTo (vars : ℕ) (nodes : List Triple) (f : ℕ) (want : Bool) (at : ℕ) (a : Assignment) : Type 0 where
  pub known : IsNumber nodes at
  pub wanted : at ≡ constant_number (not want) → ⊥
  pub walk : Underway (function_of nodes f) want (first_variable vars nodes at) (function_of nodes at) a

-- why the walk took its bit: high only where low never has the wanted bit
choice : (node : Triple) (want bit : Bool) (never : ℕ) → never ≡ constant_number (not want) → bit ≡ nat_eq node.low never → node.low ≢ node.high
    → (side node bit ≡ constant_number (not want) → ⊥) × (bit ≡ true → node.low ≡ constant_number (not want))
choice node want true never is_never chosen different =
    let low : node.low ≡ never = eqb-true node.low never (sym chosen) in
    (λ high. different (low ∙ (is_never ∙ sym high)), λ _. low ∙ is_never)
choice node want false never is_never chosen different =
    (λ low. eqb-false node.low never (sym chosen) (low ∙ sym is_never), λ e. absurd (false≢true e))

pub walk_steps : (vars : ℕ) (nodes : List Triple) (f : ℕ) (want : Bool) (at : ℕ) (a : Assignment) → UnderwayTo vars nodes f want at a
    → (node : Triple) → IsInner vars nodes at node → (never : ℕ) → never ≡ constant_number (not want)
    → (bit : Bool) → bit ≡ nat_eq node.low never → (after : Assignment) → ((i : ℕ) → after i ≡ set_at node.variable bit a i)
    → UnderwayTo vars nodes f want (side node bit) after
walk_steps vars nodes f want at a walk node inner never is_never bit chosen after is_after =
    let next : ℕ = side node bit in
    let behind : IsBehind vars nodes node.variable next = branch_behind vars nodes node inner.branches.low inner.branches.high bit in
    let why = choice node want bit never is_never chosen inner.branches.different in
    record {
      known = behind.known;
      wanted = why.0;
      walk = goes_on (function_of nodes f) want node.variable (first_variable vars nodes next) (function_of nodes at)
          (λ t. function_of nodes (side node t)) bit a after
          (subst (λ (v : ℕ). Underway (function_of nodes f) want v (function_of nodes at) a) inner.first walk.walk)
          behind.behind inner.branches.same
          (λ high b. ap (λ n. function_of nodes n b) (why.1 high) ∙ function-constant nodes (not want) b) is_after;
    }

pub walk_ends : (vars : ℕ) (nodes : List Triple) (f : ℕ) (want : Bool) (at : ℕ) (a : Assignment) → UnderwayTo vars nodes f want at a → at < 2
    → IsLeast (function_of nodes f) want a
walk_ends vars nodes f want at a walk small =
    let is_want : at ≡ constant_number want = not_other want at small walk.wanted in
    ends (function_of nodes f) want (first_variable vars nodes at) (function_of nodes at) a walk.walk
    (ap (λ n. function_of nodes n a) is_want ∙ function-constant nodes want a)

-- ---- the walk from two numbers to where they differ

-- the walk from f and g has come to two numbers that differ
pub record UnderwayApart (vars : ℕ) (nodes : List Triple) (f g left right variable : ℕ) (a : Assignment) : Type 0 where
  pub known_left : IsNumber nodes left
  pub known_right : IsNumber nodes right
  pub different : left ≢ right
  pub first : variable ≡ min (first_variable vars nodes left) (first_variable vars nodes right)
  pub walk : Underway (exclusive_or (function_of nodes f) (function_of nodes g)) true variable
      (exclusive_or (function_of nodes left) (function_of nodes right)) a

pub begun_apart : (vars : ℕ) (nodes : List Triple) (f g variable : ℕ) (a : Assignment) → IsNumber nodes f → IsNumber nodes g → f ≢ g
    → variable ≡ min (first_variable vars nodes f) (first_variable vars nodes g) → ((i : ℕ) → a i ≡ false)
    → UnderwayApart vars nodes f g f g variable a
begun_apart vars nodes f g variable a left right different first blank = record {
  known_left = left;
  known_right = right;
  different = different;
  first = first;
  walk = begun (exclusive_or (function_of nodes f) (function_of nodes g)) true variable a blank;
}

-- the two sides at a bit
abbrev pub sides_of : List Triple → ℕ → ℕ → ℕ → ℕ → Bool → Function
sides_of nodes left_low left_high right_low right_high t =
    exclusive_or (function_of nodes (if t then left_high else left_low)) (function_of nodes (if t then right_high else right_low))

still_apart : (vars : ℕ) (nodes : List Triple) → AreOrdered vars nodes → (v left left_low left_high right right_low right_high : ℕ)
    → Splits vars nodes v left left_low left_high → Splits vars nodes v right right_low right_high → IsNumber nodes left → IsNumber nodes right
    → left ≢ right → (bit : Bool) → bit ≡ nat_eq left_low right_low
    → (if bit then left_high else left_low) ≢ (if bit then right_high else right_low)
still_apart vars nodes ordered v left left_low left_high right right_low right_high to_left to_right known_left known_right different true chosen = λ high.
    let low : left_low ≡ right_low = eqb-true left_low right_low (sym chosen) in
    different (distinct_functions vars nodes ordered left right known_left known_right (λ a.
    to_left.same a ∙ (elim (a v) as (λ t. function_of nodes (if t then left_high else left_low) a ≡ function_of nodes (if t then right_high else right_low) a)
    [ true ↦ ap (λ n. function_of nodes n a) high | false ↦ ap (λ n. function_of nodes n a) low ]
    ∙ sym (to_right.same a))))
still_apart vars nodes ordered v left left_low left_high right right_low right_high to_left to_right known_left known_right different false chosen =
    eqb-false left_low right_low (sym chosen)

pub apart_steps : (vars : ℕ) (nodes : List Triple) → AreOrdered vars nodes → (f g left right v : ℕ) (a : Assignment)
    → UnderwayApart vars nodes f g left right v a → (left_low left_high right_low right_high : ℕ)
    → Splits vars nodes v left left_low left_high → Splits vars nodes v right right_low right_high
    → (bit : Bool) → bit ≡ nat_eq left_low right_low → (after : Assignment) → ((i : ℕ) → after i ≡ set_at v bit a i)
    → (next_left next_right next : ℕ) → next_left ≡ (if bit then left_high else left_low) → next_right ≡ (if bit then right_high else right_low)
    → next ≡ min (first_variable vars nodes next_left) (first_variable vars nodes next_right)
    → UnderwayApart vars nodes f g next_left next_right next after
apart_steps vars nodes ordered f g left right v a walk left_low left_high right_low right_high to_left to_right bit chosen after is_after
    next_left next_right next is_left is_right is_next =
    let behind_left : IsBehind vars nodes v next_left =
    subst (λ (n : ℕ). IsBehind vars nodes v n) (sym is_left)
    (branch_behind vars nodes (record { variable = v; low = left_low; high = left_high }) to_left.low_behind to_left.high_behind bit) in
    let behind_right : IsBehind vars nodes v next_right =
    subst (λ (n : ℕ). IsBehind vars nodes v n) (sym is_right)
    (branch_behind vars nodes (record { variable = v; low = right_low; high = right_high }) to_right.low_behind to_right.high_behind bit) in
    let apart = still_apart vars nodes ordered v left left_low left_high right right_low right_high to_left to_right walk.known_left walk.known_right
    walk.different bit chosen in
    let sides : Bool → Function = sides_of nodes left_low left_high right_low right_high in
    let on : Underway (exclusive_or (function_of nodes f) (function_of nodes g)) true next (sides bit) after =
    goes_on (exclusive_or (function_of nodes f) (function_of nodes g)) true v next
    (exclusive_or (function_of nodes left) (function_of nodes right)) sides bit a after walk.walk
    (omega (arith, is_next, behind_left.behind, behind_right.behind))
    (λ b. ap₂ xor (to_left.same b) (to_right.same b))
    (λ high b.
    let low : left_low ≡ right_low = eqb-true left_low right_low (sym (sym high ∙ chosen)) in
    ap (λ n. xor (function_of nodes n b) (function_of nodes right_low b)) low ∙ xor_same (function_of nodes right_low b)) is_after in
    record {
      known_left = behind_left.known;
      known_right = behind_right.known;
      different = λ e. apart (sym is_left ∙ e ∙ is_right);
      first = is_next;
      walk = subst (λ (n : ℕ). Underway (exclusive_or (function_of nodes f) (function_of nodes g)) true next
          (exclusive_or (function_of nodes n) (function_of nodes next_right)) after) (sym is_left)
          (subst (λ (n : ℕ). Underway (exclusive_or (function_of nodes f) (function_of nodes g)) true next
          (exclusive_or (function_of nodes (if bit then left_high else left_low)) (function_of nodes n)) after) (sym is_right) on);
    }

constants_differ : (nodes : List Triple) (left right : ℕ) → left < 2 → right < 2 → left ≢ right → (a : Assignment)
    → xor (function_of nodes left a) (function_of nodes right a) ≡ true
constants_differ nodes left right small_left small_right different a =
    elim (cases_eq left 1) [
      | inl one ↦
          let none : right ≡ 0 = omega (arith, one, small_right) in
          ap₂ xor (ap (λ n. function_of nodes n a) one ∙ function-constant nodes true a)
          (ap (λ n. function_of nodes n a) none ∙ function-constant nodes false a) ∙ xor_one false
      | inr other ↦
          let none : left ≡ 0 = omega (arith, small_left) in
          let one : right ≡ 1 = omega (arith, small_right, none) in
          ap₂ xor (ap (λ n. function_of nodes n a) none ∙ function-constant nodes false a)
          (ap (λ n. function_of nodes n a) one ∙ function-constant nodes true a) ∙ xor_none true
    ]

is_constant : (vars : ℕ) (nodes : List Triple) → AreOrdered vars nodes → (n : ℕ) → IsNumber nodes n → vars ≤ first_variable vars nodes n → n < 2
is_constant vars nodes ordered n known past =
    elim (cases_lt n 2) [ inl small ↦ small | inr inner ↦ absurd (omega (arith, past, inner_asks vars nodes ordered n inner known)) ]

pub apart_ends : (vars : ℕ) (nodes : List Triple) → AreOrdered vars nodes → (f g left right v : ℕ) (a : Assignment)
    → UnderwayApart vars nodes f g left right v a → vars ≤ v → IsLeast (exclusive_or (function_of nodes f) (function_of nodes g)) true a
apart_ends vars nodes ordered f g left right v a walk past =
    ends (exclusive_or (function_of nodes f) (function_of nodes g)) true v (exclusive_or (function_of nodes left) (function_of nodes right)) a walk.walk
    (constants_differ nodes left right
    (is_constant vars nodes ordered left walk.known_left (omega (arith, past, walk.first)))
    (is_constant vars nodes ordered right walk.known_right (omega (arith, past, walk.first))) walk.different a)

pub assignment-set : (bits : List Bool) (v : ℕ) (bit : Bool) (i : ℕ) → v < length bits
    → assignment_of (set bits v bit) i ≡ set_at v bit (assignment_of bits) i
assignment-set bits v bit i within =
    elim (cases_eq i v) [
      | inl e ↦ ap (assignment_of (set bits v bit)) e ∙ (get_or-set_same bits v bit false within
          ∙ sym (ap (set_at v bit (assignment_of bits)) e ∙ set_at-same v bit (assignment_of bits)))
      | inr differs ↦ get_or-set_other bits v i bit false differs ∙ sym (set_at-other v bit (assignment_of bits) i differs)
    ]
