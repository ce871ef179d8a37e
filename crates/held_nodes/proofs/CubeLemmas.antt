-- Cubes as flips of a work line.
use Rattle.std.proofs.Common.{◌≡◌, ◌≢◌, ℕ, ◌+◌, ◌-◌, ◌*◌, ◌<◌, ◌≤◌, not, if◌then◌else◌, List, [], ◌∷◌, ◌++◌, length, map, refl, sym, ap, ◌∙◌, subst, arith, sum_by}
use Rattle.std.specs.List.{AllByRecursion, count_by}
use Rattle.std.proofs.lemmas.List.{length-map}
use Rattle.std.proofs.lemmas.List.Sums.{sum_by-append, sum_by-cons}
use Rattle.list_facts.specs.Lists.{AreDifferent}
use Rattle.list_facts.proofs.OrderLemmas.{AreDifferent-rising, AreDifferent-append}
use Rattle.exclusive_sums.specs.declared.cube.Literal.{Literal}
use Rattle.exclusive_sums.specs.Cubes.{IsCube, input_of}
use Rattle.mct_circuit.specs.declared.gate.Control.{Control}
use Rattle.mct_circuit.specs.Gates.{GateView, HasDifferentLines}
use Rattle.held_nodes.specs.Moves.{control_of, cube_flip, cube_flips}
use Rattle.mct_circuit.specs.Sizes.{flip_weight, negative_controls, weight_in, weight_of}
use Rattle.held_nodes.specs.inside.Kept.{cube_weight}

-- ---- the lines of a flip

pub control_lines : (cube : List Literal) → map (λ (control : Control). control.line) (map control_of cube) ≡ map input_of cube
control_lines [] = refl
control_lines (l ∷ ls) = ap (λ lines. l.input ∷ lines) (control_lines ls)

below_target : (first target : ℕ) (cube : List Literal) → first ≤ target → AllByRecursion (λ (l : Literal). l.input < first) cube
    → AllByRecursion (λ x. AllByRecursion (λ y. x ≢ y) (target ∷ [])) (map input_of cube)
below_target first target [] le low = tt
below_target first target (l ∷ ls) le low = ((λ same. absurd (omega (arith, same, le, low.0)), tt), below_target first target ls le low.1)

-- the lines of a cube's flip are different: its inputs rise, and the target is a work line
pub different_lines : (first line : ℕ) (cube : List Literal) → IsCube cube → AllByRecursion (λ (l : Literal). l.input < first) cube
    → HasDifferentLines (cube_flip first line cube)
different_lines first line cube rising low =
    subst (λ (lines : List ℕ). AreDifferent (lines ++ (first + line) ∷ [])) (sym (control_lines cube))
    (AreDifferent-append (map input_of cube) ((first + line) ∷ []) (AreDifferent-rising (map input_of cube) rising) (tt, tt)
    (below_target first (first + line) cube (omega arith) low))

-- ---- weights

negatives : (cube : List Literal) → negative_controls (map control_of cube) ≡ count_by (λ (literal : Literal). not literal.positive) cube
negatives [] = refl
negatives (l ∷ ls) =
    sum_by-cons (λ (control : Control). if not control.positive then 1 else 0) (control_of l) (map control_of ls)
    ∙ ap (λ n. (if not l.positive then 1 else 0) + n) (negatives ls)
    ∙ sym (sum_by-cons (λ (literal : Literal). if not literal.positive then 1 else 0) l ls)

-- what a cube's flip weighs, on whichever line
weight_flip : (first line : ℕ) (cube : List Literal) → weight_of (cube_flip first line cube) ≡ cube_weight cube
weight_flip first line cube =
    ap (λ n. flip_weight n + 2 * negative_controls (map control_of cube)) (length-map cube control_of)
    ∙ ap (λ n. flip_weight (length cube) + 2 * n) (negatives cube)

pub weight_flips : (first line : ℕ) (cubes : List (List Literal)) → weight_in (cube_flips first line cubes) ≡ sum_by cube_weight cubes
weight_flips first line [] = refl
weight_flips first line (c ∷ cs) =
    sum_by-cons weight_of (cube_flip first line c) (cube_flips first line cs)
    ∙ ap (λ n. n + weight_in (cube_flips first line cs)) (weight_flip first line c)
    ∙ ap (λ n. cube_weight c + n) (weight_flips first line cs)
    ∙ sym (sum_by-cons cube_weight c cs)

-- what gates and the flips by cubes weigh together, where there is room for the flips, and where not
module _ (most : ℕ) (gates : List GateView) (first line : ℕ) (cubes : List (List Literal)) (room : ℕ) (is : room ≡ most - weight_in gates) where
  pub all_heavy : room < sum_by cube_weight cubes → most < weight_in (gates ++ cube_flips first line cubes)
  all_heavy over = omega (arith, is, over, sum_by-append weight_of gates (cube_flips first line cubes), weight_flips first line cubes)

  pub all_light : weight_in gates ≤ most → sum_by cube_weight cubes ≤ room → weight_in (gates ++ cube_flips first line cubes) ≤ most
  all_light within few = omega (arith, is, within, few, sum_by-append weight_of gates (cube_flips first line cubes), weight_flips first line cubes)
