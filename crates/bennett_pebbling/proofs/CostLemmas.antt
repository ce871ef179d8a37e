-- The numbers of a block against one another.
use Rattle.std.proofs.Common.{◌≡◌, ℕ, zero, suc, ◌+◌, ◌*◌, ◌^◌, ◌≤◌, min, sym, ◌∙◌, ap, arith}
use Rattle.std.proofs.Math.Nat.{mul_assoc, mul_comm, mul-le-mul_right, mul-suc, pow-succ'}
use Rattle.bennett_pebbling.specs.inside.Costs.{block_room, block_toggles, room_at, size_at, toggles_at}

pub block_room-most : (block nodes : ℕ) → block_room block nodes ≤ min block nodes
block_room-most zero nodes = omega arith
block_room-most (suc zero) nodes = omega arith
block_room-most (suc (suc block)) nodes = omega arith

block_room-larger : (count block nodes : ℕ) → 1 ≤ block → count ≤ block → block_room count nodes ≤ block_room block nodes
block_room-larger count zero nodes some low = absurd (omega (arith, some))
block_room-larger zero (suc zero) nodes some low = omega arith
block_room-larger (suc zero) (suc zero) nodes some low = omega arith
block_room-larger (suc (suc count)) (suc zero) nodes some low = absurd (omega (arith, low))
block_room-larger count (suc (suc block)) nodes some low =
    let most = block_room-most count nodes in omega (arith, most, low)

block_toggles-larger : (count block : ℕ) → 1 ≤ block → count ≤ block → block_toggles count ≤ block_toggles block
block_toggles-larger count zero some low = absurd (omega (arith, some))
block_toggles-larger zero (suc block) some low = omega arith
block_toggles-larger (suc zero) (suc zero) some low = omega arith
block_toggles-larger (suc zero) (suc (suc block)) some low = omega arith
block_toggles-larger (suc (suc count)) (suc zero) some low = absurd (omega (arith, low))
block_toggles-larger (suc (suc count)) (suc (suc block)) some low = omega (arith, low)

pub room_at-least : (block nodes width level : ℕ) → block_room block nodes ≤ room_at block nodes width level
room_at-least block nodes width zero = omega arith
room_at-least block nodes width (suc level) = omega (arith, room_at-least block nodes width level)

pub toggles_at-least : (block level : ℕ) → block_toggles block ≤ toggles_at block level
toggles_at-least block zero = omega arith
toggles_at-least block (suc level) = omega (arith, toggles_at-least block level)

pub room_at-larger : (count block nodes width level : ℕ) → 1 ≤ block → count ≤ block → block_room count nodes ≤ room_at block nodes width level
room_at-larger count block nodes width level some low =
    omega (arith, block_room-larger count block nodes some low, room_at-least block nodes width level)

pub toggles_at-larger : (count block level : ℕ) → 1 ≤ block → count ≤ block → block_toggles count ≤ toggles_at block level
toggles_at-larger count block level some low = omega (arith, block_toggles-larger count block some low, toggles_at-least block level)

-- ---- what fits a block

pub block_toggles-enough : (count : ℕ) → count ≤ block_toggles count
block_toggles-enough zero = omega arith
block_toggles-enough (suc zero) = omega arith
block_toggles-enough (suc (suc count)) = omega arith

most_toggles : (block : ℕ) → 1 ≤ block → block_toggles block ≤ 2 * block
most_toggles zero some = omega arith
most_toggles (suc zero) some = omega arith
most_toggles (suc (suc block)) some = omega arith

-- ---- by powers

pub size_at-power : (block level : ℕ) → size_at block level ≡ block * 2 ^ level
size_at-power block zero = omega arith
size_at-power block (suc level) =
    let power = pow-succ' 2 level in
    let twice : block * 2 ^ suc level ≡ 2 * (block * 2 ^ level) =
    ap (λ (n : ℕ). block * n) power ∙ sym (mul_assoc block 2 (2 ^ level)) ∙ ap (λ (n : ℕ). n * 2 ^ level) (mul_comm block 2) ∙ mul_assoc 2 block (2 ^ level) in
    omega (arith, twice, size_at-power block level)

pub toggles_at-power : (block level : ℕ) → toggles_at block level ≡ block_toggles block * 3 ^ level
toggles_at-power block zero = omega arith
toggles_at-power block (suc level) =
    let t = block_toggles block in
    let power = pow-succ' 3 level in
    let thrice : t * 3 ^ suc level ≡ 3 * (t * 3 ^ level) =
    ap (λ (n : ℕ). t * n) power ∙ sym (mul_assoc t 3 (3 ^ level)) ∙ ap (λ (n : ℕ). n * 3 ^ level) (mul_comm t 3) ∙ mul_assoc 3 t (3 ^ level) in
    omega (arith, thrice, toggles_at-power block level)

pub room_at-times : (block nodes width level : ℕ) → room_at block nodes width level ≡ width * level + block_room block nodes
room_at-times block nodes width zero = omega arith
room_at-times block nodes width (suc level) =
    let more : width * suc level ≡ width * level + width = mul-suc width level in
    omega (arith, more, room_at-times block nodes width level)

-- four times the toggles are within the gates of the block
pub toggles_at-gates : (block level : ℕ) → 1 ≤ block → 4 * toggles_at block level ≤ 8 * block * 3 ^ level
toggles_at-gates block level some =
    let power = toggles_at-power block level in
    let all : 8 * block * 3 ^ level ≡ 8 * (block * 3 ^ level) = mul_assoc 8 block (3 ^ level) in
    let two : 2 * block * 3 ^ level ≡ 2 * (block * 3 ^ level) = mul_assoc 2 block (3 ^ level) in
    omega (arith, power, all, two, mul-le-mul_right (3 ^ level) (most_toggles block some))

pub toggles_at-fine : (level : ℕ) → toggles_at 1 level ≡ 3 ^ level
toggles_at-fine level = let power = toggles_at-power 1 level in omega (arith, power)
