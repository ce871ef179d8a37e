-- The table of last uses, as it is filled: place k of the list is that of node k.
use Rattle.std.specs.Prelude.{ℕ, ◌+◌, List, [], ◌∷◌}
use Rattle.dependency_graph.specs.declared.node.Base.{Base}
use Rattle.dependency_graph.specs.Uses.{with_uses}

-- with the uses of these steps, which are of such bases, and of which the first has this place
abbrev pub with_steps : {A : Type 0} → (A → List Base) → List ℕ → ℕ → List A → List ℕ
with_steps parts table place [] = table
with_steps parts table place (step ∷ rest) =
    with_steps parts (with_uses table (parts step) place) (place + 1) rest
