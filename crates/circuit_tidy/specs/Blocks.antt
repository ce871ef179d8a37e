-- The blocks of a list of flips: runs of CX gates on at most 64 lines.
use Rattle.std.specs.Prelude.{◌≡◌, ℕ, ◌<◌, ◌≤◌, ◌⊎◌, true, false, List, [], ◌∷◌, ◌++◌, ⊤, filter, length, map}
use Rattle.std.specs.List.{AllByRecursion, list_any}
use Rattle.list_facts.specs.Lists.{below}
use Rattle.flip_lists.specs.declared.flip.Controls.{Controls}
use Rattle.flip_lists.specs.declared.flip.Controls.TheVariants.{Zero, One, Two}
use Rattle.flip_lists.specs.declared.flip.Flip.{Flip}
use Rattle.circuit_tidy.specs.declared.blocks.TheConstants.{MOST_BLOCK_LINES}
use Rattle.flip_lists.specs.Flips.{is_cx, touches}
use Rattle.circuit_tidy.specs.Elimination.{Addition, eliminated}

-- ---- CX gates as additions

abbrev pub one_line : Controls → ℕ
one_line Zero = 0
one_line (One line) = line
one_line (Two first second) = first

-- a CX adds the bit of its control onto its target
abbrev pub addition_of : Flip → Addition
addition_of flip = record { from = one_line flip.controls; onto = flip.target }

abbrev pub cx : Addition → Flip
cx addition = record { controls = One addition.from; target = addition.onto }

-- ---- blocks

-- the lines below n that the flips touch, in rising order
abbrev pub touched : ℕ → List Flip → List ℕ
touched n flips = filter (λ line. list_any (touches line) flips) (below n)

pub record IsBlock (n : ℕ) (block : List Flip) : Type 0 where
  pub some : 1 ≤ length block
  pub cxs : AllByRecursion (λ flip. is_cx flip ≡ true) block
  pub few : length (touched n block) ≤ MOST_BLOCK_LINES

-- the block takes no flip of those behind it: the next one is no CX, or touches too many lines
abbrev pub EndsBefore : ℕ → List Flip → List Flip → Type 0
EndsBefore n block [] = ⊤
EndsBefore n block (next ∷ rest) =
    (is_cx next ≡ false) ⊎ (MOST_BLOCK_LINES < length (touched n (block ++ next ∷ [])))

-- the blocks of a list, which is walked from its start: each begins at the first CX behind the one
-- before, and takes the CX gates that follow as long as it may
pub data AreBlocks (n : ℕ) : List Flip → List (List Flip) → Type 0 where
  all_walked : AreBlocks n [] []
  passed_over : (flip : Flip) (rest : List Flip) (blocks : List (List Flip))
      → is_cx flip ≡ false → AreBlocks n rest blocks → AreBlocks n (flip ∷ rest) blocks
  block_taken : (block rest : List Flip) (blocks : List (List Flip))
      → IsBlock n block → EndsBefore n block rest → AreBlocks n rest blocks
      → AreBlocks n (block ++ rest) (block ∷ blocks)

-- the flips in place of a block
abbrev pub elimination_of : ℕ → List Flip → List Flip
elimination_of n block = map cx (eliminated (touched n block) (map addition_of block))

abbrev pub IsNoLonger : ℕ → List Flip → Type 0
IsNoLonger n block = length block ≤ length (elimination_of n block)
