-- What a walk over the blocks of a list finds.
use Rattle.std.specs.Prelude.{◌≡◌, ℕ, ◌<◌, ◌≤◌, ◌==◌, ◌&&◌, nat_lt, nat_le, if◌then◌else◌, Bool, true, false, Option, Some, None, List, [], ◌∷◌, ◌++◌, length}
use Rattle.std.specs.Prelude.{take, drop, slice_index, ◌-◌, ⊤}
use Rattle.std.specs.List.{AllByRecursion, list_any}
use Rattle.std.specs.Global.{Vec}
use Rattle.list_facts.specs.Lists.{IsRising}
use Rattle.mct_circuit.specs.Sizes.{has_line}
use Rattle.circuit_tidy.specs.declared.blocks.Block.{Block}
use Rattle.circuit_tidy.specs.declared.blocks.Front.{Front}
use Rattle.circuit_tidy.specs.declared.blocks.Longer.{Longer}
use Rattle.circuit_tidy.specs.declared.blocks.TheConstants.{MOST_BLOCK_LINES}
use Rattle.flip_lists.specs.declared.flip.Flip.{Flip}
use Rattle.circuit_tidy.specs.Blocks.{AreBlocks, IsBlock, IsNoLonger, elimination_of, one_line}
use Rattle.flip_lists.specs.Flips.{AreFlipsOn, is_cx, touches}

-- ---- lines that are touched

-- the rising lines with one more of them
abbrev pub with_line : ℕ → List ℕ → List ℕ
with_line line [] = line ∷ []
with_line line (other ∷ lines) =
    if line == other then other ∷ lines
    else (if nat_lt line other then line ∷ (other ∷ lines) else other ∷ with_line line lines)

-- and with those of a CX
abbrev pub with_lines_of : Flip → List ℕ → List ℕ
with_lines_of flip lines = with_line flip.target (with_line (one_line flip.controls) lines)

-- whether a block on these lines takes the flip
abbrev pub takes : List ℕ → Flip → Bool
takes lines flip = is_cx flip && nat_le (length (with_lines_of flip lines)) MOST_BLOCK_LINES

-- the place for a line among rising ones: all before it are less
pub record IsPlaceFor (line : ℕ) (lines : List ℕ) (place : ℕ) : Type 0 where
  pub within : place ≤ length lines
  pub same : with_line line lines ≡ take place lines ++ with_line line (drop place lines)
  pub least : place < length lines → line ≤ slice_index lines place

-- exactly the lines that the flips touch, in rising order
pub record AreTouched (flips : List Flip) (lines : List ℕ) : Type 0 where
  pub rising : IsRising lines
  pub each : (line : ℕ) → has_line line lines ≡ list_any (touches line) flips

-- ---- blocks

-- the block takes no flip of those behind it
abbrev pub StopsBefore : List ℕ → List Flip → Type 0
StopsBefore lines [] = ⊤
StopsBefore lines (next ∷ rest) = takes lines next ≡ false

-- the block at the start of the flips, of so many of them on these lines
pub record IsBlockOf (flips : List Flip) (block : Block) : Type 0 where
  pub some : 1 ≤ block.length
  pub within : block.length ≤ length flips
  pub cxs : AllByRecursion (λ flip. is_cx flip ≡ true) (take block.length flips)
  pub touched : AreTouched (take block.length flips) block.lines.items
  pub few : length block.lines.items ≤ MOST_BLOCK_LINES
  pub stops : StopsBefore block.lines.items (drop block.length flips)

-- the first of the flips is a CX
abbrev pub IsFirstCx : List Flip → Type 0
IsFirstCx [] = ⊤
IsFirstCx (first ∷ rest) = is_cx first ≡ true

-- the flips have blocks of which none is longer than its elimination
pub record HaveShortBlocks (n : ℕ) (flips : List Flip) : Type 0 where
  pub blocks : List (List Flip)
  pub are : AreBlocks n flips blocks
  pub short : AllByRecursion (IsNoLonger n) blocks

pub record AreShort (flips : List Flip) : Type 0 where
  pub blocks : (n : ℕ) → AreFlipsOn n flips → HaveShortBlocks n flips

-- the block is longer than its elimination, which these flips are
pub record IsLonger (block shorter : List Flip) : Type 0 where
  pub is : (n : ℕ) → AreFlipsOn n block → IsBlock n block × (shorter ≡ elimination_of n block)
  pub few : length shorter < length block

-- what is passed over at the start: with short blocks behind it the flips have short blocks
pub record IsPassed (flips : List Flip) (count : ℕ) : Type 0 where
  pub blocks : (n : ℕ) → AreFlipsOn n flips → HaveShortBlocks n (drop count flips)
      → HaveShortBlocks n flips

abbrev pub IsFrontAnswer : List Flip → ℕ → Option (Vec Flip) → Type 0
IsFrontAnswer flips count None = IsPassed flips count
IsFrontAnswer flips count (Some shorter) = IsLonger (take count flips) shorter.items

pub record IsFront (flips : List Flip) (front : Front) : Type 0 where
  pub some : 1 ≤ front.length
  pub within : front.length ≤ length flips
  pub answer : IsFrontAnswer flips front.length front.shorter

-- a block at a place of the flips that is longer than its elimination
pub record IsLongerIn (flips : List Flip) (longer : Longer) : Type 0 where
  pub ordered : longer.start ≤ longer.end
  pub within : longer.end ≤ length flips
  pub is : IsLonger (take (longer.end - longer.start) (drop longer.start flips))
      longer.shorter.items
