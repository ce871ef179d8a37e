-- Rows of bits on planes, and read off them.
use Rattle.std.proofs.Common.{◌≡◌, ◌≢◌, ℕ, ◌+◌, ◌-◌, ◌*◌, ◌%◌, ◌^◌, ◌<◌, ◌≤◌, ◌==◌, bit_and, bit_or, Bool, true, false, List, [], ◌∷◌, ◌++◌, length, get_or}
use Rattle.std.proofs.Common.{set, take, drop, sym, ap, ◌∙◌, arith, below_more}
use Rattle.std.specs.Int.{w64}
use Rattle.std.specs.Global.{Vec}
use Rattle.std.specs.Simd.Lanes.{chunk}
use Rattle.std.specs.List.{drop-map, take-map}
use Rattle.std.proofs.Math.Seq.{map-set_same}
use Rattle.std.proofs.lemmas.List.{get_or-map, get_or-set_same, get_or-set_other, length-map, map-set, take_more, take_more_set, with_items_is}
use Rattle.std.proofs.lemmas.Simd.{length-chunk}
use Rattle.std.proofs.lemmas.Nat.Bits.{bit_at_set_same, bit_at_set_other, bit_at_clear_same, bit_at_clear_other}
use Rattle.std.specs.Vec.{with_items}
use Rattle.list_facts.proofs.AllLemmas.{AllByRecursion-set}
use Rattle.circuit_sim.specs.Planes.{plane_bit, column}
use Rattle.circuit_sim.specs.Rows.{AreRows, contents}
use Rattle.circuit_sim.specs.inside.Loaded.{IsWithBit}

-- ---- one bit

pub with_one : (plane place : ℕ) → place < 64 → IsWithBit place true plane (bit_or plane (1 * 2 ^ place % 2 ^ 64))
with_one plane place low = record {
  here = ap (λ (b : ℕ). b == 1) (bit_at_set_same w64 plane place low);
  others = λ other below apart. ap (λ (b : ℕ). b == 1) (bit_at_set_other w64 plane place low other apart);
}

pub with_zero : (plane place : ℕ) → place < 64 → IsWithBit place false plane (bit_and plane (2 ^ 64 - 1 - 1 * 2 ^ place % 2 ^ 64))
with_zero plane place low = record {
  here = ap (λ (b : ℕ). b == 1) (bit_at_clear_same w64 plane place low);
  others = λ other below apart. ap (λ (b : ℕ). b == 1) (bit_at_clear_other w64 plane place low other below apart);
}

-- ---- one row

-- the row stands on the planes of the first lines
pub record IsPartlyWithRow (lines place : ℕ) (row : List Bool) (before now : List ℕ) : Type 0 where
  pub here : take lines (column place now) ≡ take lines row
  pub others : (other : ℕ) → other < 64 → other ≢ place → column other now ≡ column other before

pub front_more : {A : Type 0} (xs row : List A) (line : ℕ) (d bit : A) → line < length xs → line < length row → bit ≡ get_or row line d
    → take line xs ≡ take line row → take (line + 1) (set xs line bit) ≡ take (line + 1) row
front_more xs row line d bit low inside is front =
    take_more_set xs line bit low
    ∙ ap (λ ys. ys ++ bit ∷ []) front
    ∙ ap (λ b. take line row ++ b ∷ []) is
    ∙ sym (take_more row line d inside)

pub row_more : (line place : ℕ) (row : List Bool) (before now : List ℕ) (bit : Bool) (plane : ℕ) → line < length now → line < length row
    → bit ≡ get_or row line false → IsWithBit place bit (get_or now line 0) plane → IsPartlyWithRow line place row before now
    → IsPartlyWithRow (line + 1) place row before (set now line plane)
row_more line place row before now bit plane low inside is step partly = record {
  here =
      ap (take (line + 1)) (map-set (plane_bit place) now line plane ∙ ap (set (column place now) line) step.here)
      ∙ front_more (column place now) row line false bit (rw (length-map now (plane_bit place)) low) inside is partly.here;
  others = λ other below apart.
      map-set_same (plane_bit other) now line plane 0 (step.others other below apart) ∙ partly.others other below apart;
}

pub column_more : (planes : List ℕ) (place line : ℕ) (row : List Bool) (bit : Bool) → line < length row → line < length planes
    → bit ≡ plane_bit place (get_or planes line 0) → take line row ≡ take line (column place planes)
    → take (line + 1) (set row line bit) ≡ take (line + 1) (column place planes)
column_more planes place line row bit inside low is front =
    front_more row (column place planes) line false bit inside (rw (length-map planes (plane_bit place)) low)
    (is ∙ sym (get_or-map (plane_bit place) planes line 0 false low)) front

-- ---- many rows

-- so many rows stand on the planes
pub record HoldFirst (count : ℕ) (rows : List (List Bool)) (planes : List ℕ) : Type 0 where
  pub each : (place : ℕ) → place < count → column place planes ≡ get_or rows place []

-- the rows, where one has other bits
contents-set : (rows : List (Vec Bool)) (place : ℕ) (row : Vec Bool) (bits : List Bool) → length bits ≡ row.len
    → contents (set rows place (with_items row bits)) ≡ set (contents rows) place bits
contents-set rows place row bits long =
    map-set (λ (r : Vec Bool). r.items) rows place (with_items row bits)
    ∙ ap (set (contents rows) place) (with_items_is row bits long)

pub stored_more : (planes : List ℕ) (place : ℕ) (rows : List (Vec Bool)) (row : Vec Bool) (bits : List Bool) → place < length rows → length bits ≡ row.len
    → bits ≡ column place planes → HoldFirst place (contents rows) planes → HoldFirst (place + 1) (contents (set rows place (with_items row bits))) planes
stored_more planes place rows row bits inside long is first =
    let all = contents rows in
    let low : place < length all = rw (length-map rows (λ (r : Vec Bool). r.items)) inside in
    rw (contents-set rows place row bits long) (record {
      each = below_more (λ k. column k planes ≡ get_or (set all place bits) k []) place
          (λ k below. first.each k below ∙ sym (get_or-set_other all place k bits [] (λ e. absurd (omega arith))))
          (sym is ∙ sym (get_or-set_same all place bits [] low));
    })

pub fits_more : (planes : List ℕ) (place : ℕ) (rows : List (Vec Bool)) (row : Vec Bool) (bits : List Bool) → length bits ≡ row.len
    → bits ≡ column place planes → AreRows (length planes) rows → AreRows (length planes) (set rows place (with_items row bits))
fits_more planes place rows row bits long is fit =
    AllByRecursion-set (λ (r : Vec Bool). length r.items ≡ length planes) rows place (with_items row bits) fit
    (ap length (with_items_is row bits long ∙ is) ∙ length-map planes (plane_bit place))

-- ---- rows in groups of 64

-- a group of rows, from a place on
pub contents-chunk : (rows : List (Vec Bool)) (start size : ℕ) → contents (take size (drop start rows)) ≡ chunk start size (contents rows)
contents-chunk rows start size =
    let bits = λ (r : Vec Bool). r.items in
    sym (take-map bits size (drop start rows)) ∙ ap (take size) (sym (drop-map bits start rows))

pub length-group : (rows : List (Vec Bool)) (start size : ℕ) → size ≡ 64 → start + 64 ≤ length rows → length (take size (drop start rows)) ≡ 64
length-group rows start size is room = rw is (length-chunk start 64 rows room)
