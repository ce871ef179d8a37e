-- What the gates of a product ask of its lines, and what gates do to sets.
use Rattle.std.specs.Prelude.{◌≡◌, ◌≢◌, ℕ, ◌<◌, Bool, List, [], ◌∷◌, length, map, slice_set}
use Rattle.std.specs.List.{AllByRecursion}
use Rattle.list_facts.specs.Lists.{AreDifferent}
use Rattle.dependency_graph.specs.declared.node.Base.{Base}
use Rattle.mct_circuit.specs.Gates.{AreGatesOn, AreNarrow, GateView, line_map}
use Rattle.line_states.specs.Gathers.{GatherView, PairView}
use Rattle.line_states.specs.States.{StatesView, set_value}

-- a factor's lines are below n
pub record AreLow (n : ℕ) (g : GatherView) : Type 0 where
  pub on : g.on < n
  pub others : AllByRecursion (λ (l : ℕ). l < n) g.others

-- the line of a factor is none of the others
pub record IsGathered (g : GatherView) : Type 0 where
  pub own : AllByRecursion (λ (l : ℕ). l ≢ g.on) g.others

-- the lines of both factors and the target are different, and each factor can be gathered
pub record CanFlip (target : ℕ) (pair : PairView) : Type 0 where
  pub first : IsGathered pair.first
  pub second : IsGathered pair.second
  pub different : AreDifferent (pair.first.on ∷ pair.second.on ∷ target ∷ [])

-- a factor's lines are below n and not the target, and the one is none of the others
pub record IsPlaced (n target : ℕ) (g : GatherView) : Type 0 where
  pub low : g.on < n
  pub apart : g.on ≢ target
  pub others_low : AllByRecursion (λ (l : ℕ). l < n) g.others
  pub others_apart : AllByRecursion (λ (l : ℕ). l ≢ target) g.others
  pub own : AllByRecursion (λ (l : ℕ). l ≢ g.on) g.others

-- both factors' are, and the line of the first is none of the second's
pub record ArePlaced (n target : ℕ) (pair : PairView) : Type 0 where
  pub first : IsPlaced n target pair.first
  pub second : IsPlaced n target pair.second
  pub different : pair.second.on ≢ pair.first.on
  pub stays : AllByRecursion (λ (l : ℕ). l ≢ pair.first.on) pair.second.others

-- narrow gates on the lines, behind which a line has this set, and each other line its own
pub record MovesSets (s : StatesView) (line : ℕ) (set : List Base) (more : List GateView)
    : Type 0 where
  pub low : line < length s.sets
  pub on : AreGatesOn (length s.sets) more
  pub narrow : AreNarrow more
  pub moves : (input : List Bool)
      → line_map more (map (set_value s.graph input) s.sets)
      ≡ map (set_value s.graph input) (slice_set s.sets line set)
