-- What flips by cubes set on the lines.
use Rattle.std.proofs.Common.{◌≡◌, ℕ, ◌+◌, ◌<◌, ◌≤◌, Bool, false, ◌&&◌, List, [], ◌∷◌, length, map, set, refl, sym, ap, ◌∙◌, arith}
use Rattle.std.specs.Bool.{xor}
use Rattle.std.specs.List.{AllByRecursion, list_all}
use Rattle.std.proofs.lemmas.List.{get_or-set_other, set-get_or, length-set}
use Rattle.list_facts.specs.Bits.{bit_of}
use Rattle.list_facts.proofs.BitLemmas.{xor_none}
use Rattle.exclusive_sums.specs.declared.cube.Literal.{Literal}
use Rattle.exclusive_sums.specs.Cubes.{value_of_literal, value_of_cube, value_of_cubes}
use Rattle.mct_circuit.specs.Gates.{after_gate, is_met, line_map}
use Rattle.mct_circuit.proofs.FlipLemmas.{flip_sets}
use Rattle.sum_toggles.proofs.AddingLemmas.{set_again, xor_in_turn}
use Rattle.held_nodes.specs.Moves.{control_of, cube_flip, cube_flips}

-- the lines below n hold the bits of an assignment
abbrev pub ShowInputs : ℕ → (ℕ → Bool) → List Bool → Type 0
ShowInputs n assignment bits = (i : ℕ) → i < n → bit_of bits i ≡ assignment i

met_literal : (n : ℕ) (assignment : ℕ → Bool) (bits : List Bool) (literal : Literal) → ShowInputs n assignment bits → literal.input < n
    → is_met bits (control_of literal) ≡ value_of_literal assignment literal
met_literal n assignment bits literal shown low = rw (shown literal.input low) refl

met_cube : (n : ℕ) (assignment : ℕ → Bool) (bits : List Bool) (cube : List Literal) → ShowInputs n assignment bits
    → AllByRecursion (λ (l : Literal). l.input < n) cube
    → list_all (is_met bits) (map control_of cube) ≡ value_of_cube assignment cube
met_cube n assignment bits [] shown low = refl
met_cube n assignment bits (l ∷ ls) shown low =
    ap (λ met. met && list_all (is_met bits) (map control_of ls)) (met_literal n assignment bits l shown low.0)
    ∙ ap (λ rest. value_of_literal assignment l && rest) (met_cube n assignment bits ls shown low.1)

-- the flips by cubes over the inputs set the target to the exclusive or of its bit and the cubes' value
pub cubes_set : (n first line : ℕ) (cubes : List (List Literal)) (assignment : ℕ → Bool) (bits : List Bool) → n ≤ first → first + line < length bits
    → ShowInputs n assignment bits → AllByRecursion (AllByRecursion (λ (l : Literal). l.input < n)) cubes
    → line_map (cube_flips first line cubes) bits ≡ set bits (first + line) (xor (value_of_cubes assignment cubes) (bit_of bits (first + line)))
cubes_set n first line [] assignment bits le low shown below =
    sym (ap (set bits (first + line)) (xor_none (bit_of bits (first + line))) ∙ set-get_or bits (first + line) false)
cubes_set n first line (c ∷ cs) assignment bits le low shown below =
    let target = first + line in
    let value = value_of_cube assignment c in
    let rest = value_of_cubes assignment cs in
    let once = xor value (bit_of bits target) in
    let one : after_gate (cube_flip first line c) bits ≡ set bits target once =
    flip_sets (map control_of c) target bits
    ∙ ap (λ met. set bits target (xor met (bit_of bits target))) (met_cube n assignment bits c shown below.0) in
    let stays : ShowInputs n assignment (set bits target once) =
    λ i lower. get_or-set_other bits target i once false (λ same. absurd (omega (arith, same, lower, le))) ∙ shown i lower in
    let inside : target < length (set bits target once) = omega (arith, length-set bits target once, low) in
    ap (line_map (cube_flips first line cs)) one
    ∙ cubes_set n first line cs assignment (set bits target once) le inside stays below.1
    ∙ set_again bits target once rest low
    ∙ ap (set bits target) (xor_in_turn value rest (bit_of bits target))
