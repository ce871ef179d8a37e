-- That the texts of all kinds compute what their kind says.
use Rattle.std.specs.Prelude.{◌≡◌, ℕ, ◌≤◌}
use Rattle.arith_laws.specs.Computes.{Computes}
use Rattle.arith_templates.specs.Texts.{text_of}
use Rattle.arith_templates.specs.declared.kind.Kind.{Kind}
use Rattle.arith_templates.specs.declared.kind.Kind.TheVariants.{Mul}
use Rattle.arith_templates.specs.declared.limits.TheConstants.{MOST_BITS, MOST_FACTOR}

-- there are texts for numbers of so many bits, and for this factor
pub record IsProgramSize (kind : Kind) (n by : ℕ) : Type 0 where
  pub some : 1 ≤ n
  pub few : n ≤ MOST_BITS
  pub factor : kind ≡ Mul → (1 ≤ by) × (by ≤ MOST_FACTOR)

-- The law: each text is well formed for a program without claims, which computes what its kind
-- says.
abbrev pub TextsCompute : Type 0
TextsCompute =
    (kind : Kind) (n by : ℕ) → IsProgramSize kind n by → Computes kind n by (text_of kind n by)
