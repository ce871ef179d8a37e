-- What is known while blocks are tried, from one block of all nodes down to blocks of one node.
use Rattle.std.proofs.Common.{◌≡◌, ltb, ℕ, zero, suc, ◌+◌, ◌*◌, ◌/◌, ◌^◌, ◌<◌, ◌≤◌, ◌⊎◌}
use Rattle.std.proofs.Common.{true, length, Ok, Err, inl, inr, refl, sym, subst, ◌∙◌, pow_mono, arith}
use Rattle.std.specs.Prelude.{IfErr, IfOk, Result}
use Rattle.std.proofs.lemmas.Bool.{cases_Bool, cases_lt, ltb-false}
use Rattle.std.proofs.lemmas.Nat.{pow_pos}
use Rattle.std.proofs.Math.Nat.{mul-le-mul_left, one-le-pow, pow-succ'}
use Rattle.bennett_pebbling.specs.Blocks.{HasFewGates, HasFewLines, InEachRow, IsHalved}
use Rattle.plan_choice.specs.Blocks.{IsPebblingFault, extent_of}
use Rattle.claim_check.specs.Budgets.{Measures, block_gates, block_lines, fine_gates, fine_lines}
use Rattle.claim_check.specs.Measures.{IsWithin}
use Rattle.claim_check.specs.Settled.{SettledView}
use Rattle.circuit_plans.specs.declared.plan.PlanFault.{PlanFault}
use Rattle.circuit_plans.specs.declared.plan.PlanFault.TheVariants.{Lines, Gates, Memory}
use Rattle.circuit_plans.specs.Plans.{BudgetView, LaidView}
use Rattle.eager_cleanup.specs.Eager.{IsEagerFault, ports_of}
use Rattle.revs_tape.specs.Levels.{IsLevels}
use Rattle.circuit_plans.specs.declared.choice.Plan.TheVariants.{Auto, Compact, Eager, Lean, Pebble, Shallow}
use Rattle.circuit_plans.specs.declared.choice.Plan.{Plan}
use Rattle.circuit_plans.specs.Plans.{wanted_lines}
use Rattle.circuit_plans.specs.declared.roles.Start.TheVariants.{Any}
use Rattle.plan_choice.specs.Choices.{EagerFits, Fit, FineFits, GatesAreFew, IsBelowFineLines, IsChoiceFault, IsLaidFor}
use Rattle.plan_choice.specs.Choices.{IsPebbling, LinesAreFew, NoEagerFits, NoLargerFits, PlainFits, PebblingFits}
use Rattle.plan_choice.specs.inside.Tried.{IsLaidInBlocks, IsSearchFault, is_refusal}

-- ---- one block

-- the plain numbers of the graph itself fit
abbrev NodesFit : SettledView → BudgetView → Type 0
NodesFit s b = Fit b (ports_of s + length s.nodes + b.borrow) (4 * length s.nodes + length s.outputs)

-- no row of the block fits
abbrev NoneFits : SettledView → ℕ → BudgetView → Type 0
NoneFits s block b = InEachRow (extent_of s) block b.borrow (λ lines gates. ¬ Fit b lines gates)

none_fits : (s : SettledView) (block : ℕ) (b : BudgetView) (holds : ℕ → ℕ → Type 0) → ((lines gates : ℕ) → holds lines gates → ¬ Fit b lines gates)
    → InEachRow (extent_of s) block b.borrow holds → NoneFits s block b
none_fits s block b holds none rows = record {
  halved = λ m levels is. none (block_lines m block levels b.borrow) (block_gates m block levels) (rows.halved m levels is);
  fine = λ m levels one is. none (fine_lines m levels b.borrow) (fine_gates m levels) (rows.fine m levels one is);
  plain = λ covers. none (ports_of s + length s.nodes + b.borrow) (4 * length s.nodes + length s.outputs) (rows.plain covers);
}

few_lines : (s : SettledView) (block : ℕ) (b : BudgetView) → HasFewLines (extent_of s) block b → NoneFits s block b
few_lines s block b h =
    none_fits s block b (λ lines gates. b.lines < lines) (λ lines gates few fit. (let fits = fit.few_lines in omega (arith, few, fits))) h

few_gates : (s : SettledView) (block : ℕ) (b : BudgetView) → HasFewGates (extent_of s) block b → NoneFits s block b
few_gates s block b h =
    none_fits s block b (λ lines gates. b.gates < gates) (λ lines gates few fit. (let fits = fit.few_gates in omega (arith, few, fits))) h

-- so many levels are enough for the nodes too
is_halved : (s : SettledView) (block levels : ℕ) (m : Measures) → IsWithin s m → IsLevels block m.steps levels
    → IsHalved (extent_of s) block levels m
is_halved s block levels m within are =
    let fewer = within.steps in
    let enough = are.enough in
    record { within = within; enough = omega arith }

-- ---- blocks of this size or more

-- where no plain numbers of the nodes fit, no plain numbers do
no_plain : (s : SettledView) (b : BudgetView) (m : Measures) → ¬ NodesFit s b
    → IsWithin s m → ¬ PlainFits b m
no_plain s b m none within fit =
    let inputs = within.inputs in
    let outputs = within.outputs in
    let steps = within.steps in
    let lines = fit.few_lines in
    let gates = fit.few_gates in
    none (record { few_lines = omega arith; few_gates = omega arith })

-- where a block has all nodes, the plain numbers fit if those of the block do
no_larger : (s : SettledView) (b : BudgetView) (m : Measures) (block levels : ℕ)
    → ¬ NodesFit s b → IsWithin s m → length s.nodes ≤ block
    → ¬ Fit b (block_lines m block levels b.borrow) (block_gates m block levels)
no_larger s b m block levels none within covers fit =
    let inputs = within.inputs in
    let outputs = within.outputs in
    let steps = within.steps in
    let lines = fit.few_lines in
    let gates = fit.few_gates in
    let some : block * 1 ≤ block * 3 ^ levels = mul-le-mul_left block (one-le-pow levels 3 (omega arith)) in
    none (record { few_lines = omega arith; few_gates = omega arith })

-- the block that has all nodes
at_first : (s : SettledView) (block : ℕ) (b : BudgetView) → length s.nodes ≤ block → NoneFits s block b → NoLargerFits s block b
at_first s block b covers h = record {
  plain = λ m within. no_plain s b m (h.plain covers) within;
  blocks = λ m power levels within larger are. no_larger s b m (2 ^ power) levels (h.plain covers) within (omega arith);
}

-- nothing lies between a power of two and its half
at_half : (s : SettledView) (power : ℕ) (b : BudgetView) → NoLargerFits s (2 ^ suc power) b → NoneFits s (2 ^ power) b → NoLargerFits s (2 ^ power) b
at_half s power b before h = record {
  plain = before.plain;
  blocks = λ m other levels within larger are. elim (cases_lt power other) [
    | inl more ↦ before.blocks m other levels within (pow_mono more) are
    | inr fewer ↦ (let low : 2 ^ other ≤ 2 ^ power = pow_mono fewer in
        let same : 2 ^ power ≡ 2 ^ other = omega arith in
        let none = subst (λ block. NoneFits s block b) same h in
        none.halved m levels (is_halved s (2 ^ other) levels m within are))
  ];
}

-- ---- the search

-- what is known of the last plan that was tried
pub record IsSearching (s : SettledView) (b : BudgetView) (block : ℕ) (tried : Result LaidView PlanFault) : Type 0 where
  pub power : ℕ
  pub is : block ≡ 2 ^ power
  pub ok : IfOk tried (IsLaidFor Any s b)
  pub pebbling : IfOk tried (IsPebbling s b)
  pub refused : IfErr tried (IsSearchFault s block b)

-- the fault of a block is that of the search, where no larger numbers fit if the block's do not
search_fault : (s : SettledView) (block : ℕ) (b : BudgetView) (tried : Result LaidView PlanFault) → (NoneFits s block b → NoLargerFits s block b)
    → IfErr tried (IsPebblingFault s block b) → IfErr tried (IsSearchFault s block b)
search_fault s block b (Ok laid) larger h = tt
search_fault s block b (Err (Lines need)) larger h = (larger (few_lines s block b h.0), h)
search_fault s block b (Err Gates) larger h = (larger (few_gates s block b h), h)
search_fault s block b (Err (Memory _)) larger h = h

-- the first plan that was not refused
is_pebbling : (s : SettledView) (b : BudgetView) (block power : ℕ) (tried : Result LaidView PlanFault) → block ≡ 2 ^ power
    → (length s.nodes ≤ 2 ^ power) ⊎ NoLargerFits s (2 ^ suc power) b → IfOk tried (IsLaidInBlocks s block b) → IfOk tried (IsPebbling s b)
is_pebbling s b block power (Ok laid) is first within =
    record { power = power; within = subst (λ n. IsLaidInBlocks s n b laid) is within; first = first }
is_pebbling s b block power (Err e) is first within = tt

pub begun : (s : SettledView) (b : BudgetView) (block power : ℕ) (tried : Result LaidView PlanFault) → block ≡ 2 ^ power → length s.nodes ≤ block
    → IfOk tried (IsLaidFor Any s b) → IfOk tried (IsLaidInBlocks s block b) → IfErr tried (IsPebblingFault s block b) → IsSearching s b block tried
begun s b block power tried is covers ok within refused = record {
  power = power;
  is = is;
  ok = ok;
  pebbling = is_pebbling s b block power tried is (inl (subst (λ n. length s.nodes ≤ n) is covers)) within;
  refused = search_fault s block b tried (at_first s block b covers) refused;
}

-- a refusal says that nothing larger fits
none_larger : (s : SettledView) (block : ℕ) (b : BudgetView) (tried : Result LaidView PlanFault) → is_refusal tried ≡ true
    → IfErr tried (IsSearchFault s block b) → NoLargerFits s block b
none_larger s block b (Ok laid) e h = absurd (cc)
none_larger s block b (Err (Lines need)) e h = h.0
none_larger s block b (Err Gates) e h = h.0
none_larger s block b (Err (Memory _)) e h = absurd (cc)

halved_power : (s : SettledView) (b : BudgetView) (block half power : ℕ) (next : Result LaidView PlanFault) → block ≡ 2 ^ power → 1 < block
    → NoLargerFits s block b → half ≡ block / 2 → IfOk next (IsLaidFor Any s b) → IfOk next (IsLaidInBlocks s half b) → IfErr next (IsPebblingFault s half b)
    → IsSearching s b half next
halved_power s b block half zero next is more before e ok within refused = absurd (omega arith)
halved_power s b block half (suc power) next is more before e ok within refused =
    let twice : block ≡ 2 * 2 ^ power = is ∙ pow-succ' 2 power in
    let same : half ≡ 2 ^ power = omega arith in
    record {
      power = power;
      is = same;
      ok = ok;
      pebbling = is_pebbling s b half power next same (inr (subst (λ size. NoLargerFits s size b) is before)) within;
      refused = subst (λ size. IfErr next (IsSearchFault s size b)) (sym same)
          (search_fault s (2 ^ power) b next (at_half s power b (subst (λ size. NoLargerFits s size b) is before))
          (subst (λ size. IfErr next (IsPebblingFault s size b)) same refused));
    }

pub halved : (s : SettledView) (b : BudgetView) (block half : ℕ) (tried next : Result LaidView PlanFault) → IsSearching s b block tried → 1 < block
    → is_refusal tried ≡ true → half ≡ block / 2 → IfOk next (IsLaidFor Any s b) → IfOk next (IsLaidInBlocks s half b)
    → IfErr next (IsPebblingFault s half b) → IsSearching s b half next
halved s b block half tried next h more e is ok within refused =
    halved_power s b block half h.power next h.is more (none_larger s block b tried e h.refused) is ok within refused

-- ---- the eager plan

-- where an eager plan was refused, the eager numbers do not fit
pub no_eager : (s : SettledView) (b : BudgetView) (tried : Result LaidView PlanFault) → is_refusal tried ≡ true → IfErr tried (IsEagerFault s b)
    → NoEagerFits s b
no_eager s b (Ok laid) e h = absurd (cc)
no_eager s b (Err (Lines need)) e h = record { none = λ m within fit. (let few = h.0.few m within in let lines = fit.few_lines in omega arith) }
no_eager s b (Err Gates) e h = record { none = λ m within fit. (let few = h.few m within in let gates = fit.few_gates in omega arith) }
no_eager s b (Err (Memory _)) e h = absurd (cc)

-- ---- the end

-- no row of pebbling fits
no_row : (s : SettledView) (b : BudgetView) → NoLargerFits s 1 b → ((m : Measures) → IsWithin s m → ¬ FineFits b m) → (m : Measures) → IsWithin s m
    → ¬ PebblingFits b m
no_row s b none fine m within (inl plain) = none.plain m within plain
no_row s b none fine m within (inr (inl fits)) = fine m within fits
no_row s b none fine m within (inr (inr fits)) = none.blocks m fits.power fits.levels within (pow_pos fits.power) fits.are fits.fit

last_lines : (s : SettledView) (b : BudgetView) → NoLargerFits s 1 b → HasFewLines (extent_of s) 1 b → LinesAreFew Pebble s b
last_lines s b none h = record {
  few = λ m within. record { below = λ levels are. h.fine m levels refl (is_halved s 1 levels m within are) };
  no_row = no_row s b none (λ m within fits. (let lines = fits.fit.few_lines in
      let few = h.fine m fits.levels refl (is_halved s 1 fits.levels m within fits.are) in omega arith));
}

last_gates : (s : SettledView) (b : BudgetView) → NoLargerFits s 1 b → HasFewGates (extent_of s) 1 b → GatesAreFew Pebble s b
last_gates s b none h = record {
  few = λ m within. record { below = λ levels are. h.fine m levels refl (is_halved s 1 levels m within are) };
  no_row = no_row s b none (λ m within fits. (let gates = fits.fit.few_gates in
      let few = h.fine m fits.levels refl (is_halved s 1 fits.levels m within fits.are) in omega arith));
}

last_fault : (s : SettledView) (b : BudgetView) (tried : Result LaidView PlanFault) → IfErr tried (IsSearchFault s 1 b) → IfErr tried (IsChoiceFault Pebble s b)
last_fault s b (Ok laid) h = tt
last_fault s b (Err (Lines need)) h = (last_lines s b h.0 h.1.0, h.1.1)
last_fault s b (Err Gates) h = last_gates s b h.0 h.1
last_fault s b (Err (Memory _)) h = h

-- blocks of one node are the last
pub ended : (s : SettledView) (b : BudgetView) (block : ℕ) (tried : Result LaidView PlanFault) → IsSearching s b block tried → block ≤ 1
    → IfErr tried (IsChoiceFault Pebble s b)
ended s b block tried h one =
    let some : 1 ≤ 2 ^ h.power = pow_pos h.power in
    let is = h.is in
    let same : block ≡ 1 = omega arith in
    last_fault s b tried (subst (λ size. IfErr tried (IsSearchFault s size b)) same h.refused)

-- ---- a budget without the lines of the inputs and outputs

no_port_row : (s : SettledView) (b : BudgetView) (m : Measures) → b.lines < ports_of s + b.borrow → IsWithin s m → ¬ PebblingFits b m
no_port_row s b m short within (inl plain) = (let few = plain.few_lines in omega (arith, few, short, within.inputs, within.outputs))
no_port_row s b m short within (inr (inl fits)) = (let few = fits.fit.few_lines in omega (arith, few, short, within.inputs, within.outputs))
no_port_row s b m short within (inr (inr fits)) = (let few = fits.fit.few_lines in omega (arith, few, short, within.inputs, within.outputs))

no_eager_row : (s : SettledView) (b : BudgetView) (m : Measures) → b.lines < ports_of s + b.borrow → IsWithin s m → ¬ EagerFits b m
no_eager_row s b m short within fit = (let few = fit.few_lines in omega (arith, few, short, within.inputs, within.outputs))

below_fine : (s : SettledView) (b : BudgetView) (m : Measures) → b.lines < ports_of s + b.borrow → IsWithin s m → IsBelowFineLines b m
below_fine s b m short within = record { below = λ levels are. omega (arith, short, within.inputs, within.outputs) }

few_ports : (plan : Plan) (s : SettledView) (b : BudgetView) → b.lines < ports_of s + b.borrow → LinesAreFew plan s b
few_ports Auto s b short = record {
  few = λ m within. below_fine s b m short within;
  no_row = λ m within row. elim row as (λ _. ⊥) [
    | inl eager ↦ no_eager_row s b m short within eager
    | inr pebbling ↦ no_port_row s b m short within pebbling
  ];
}
few_ports Eager s b short = record {
  few = λ m within. omega (arith, short, within.inputs, within.outputs);
  no_row = λ m within row. no_eager_row s b m short within row;
}
few_ports Compact s b short = record {
  few = λ m within. omega (arith, short, within.inputs, within.outputs);
  no_row = λ m within row. (let few = row.few_lines in omega (arith, few, short, within.inputs, within.outputs));
}
few_ports Lean s b short = record {
  few = λ m within. omega (arith, short, within.inputs, within.outputs);
  no_row = λ m within row. (let few = row.few_lines in omega (arith, few, short, within.inputs, within.outputs));
}
few_ports Shallow s b short = record {
  few = λ m within. omega (arith, short, within.inputs, within.outputs);
  no_row = λ m within row. (let few = row.few_lines in omega (arith, few, short, within.inputs, within.outputs));
}
few_ports Pebble s b short = record {
  few = λ m within. below_fine s b m short within;
  no_row = λ m within row. no_port_row s b m short within row;
}

wanted_ports : (s : SettledView) (b : BudgetView) → b.lines < ports_of s + b.borrow → ports_of s + b.borrow ≡ wanted_lines (ports_of s) b
wanted_ports s b short = elim (cases_Bool (ltb b.lines (ports_of s + b.borrow))) as (λ _. ports_of s + b.borrow ≡ wanted_lines (ports_of s) b) [
  | inl e ↦ rw e refl
  | inr e ↦ absurd (omega (arith, ltb-false b.lines (ports_of s + b.borrow) e, short))
]

-- the refusal where the lines of the inputs, the outputs and the borrowed bits pass the budget
pub ports_fault : (plan : Plan) (s : SettledView) (b : BudgetView) (need : ℕ) → need ≡ ports_of s + b.borrow → b.lines < need
    → IsChoiceFault plan s b (Lines need)
ports_fault plan s b need is short =
    let less : b.lines < ports_of s + b.borrow = omega (arith, is, short) in
    (few_ports plan s b less, is ∙ wanted_ports s b less)

-- pebbling where the eager numbers do not fit
pub auto_fault : (s : SettledView) (b : BudgetView) (tried : Result LaidView PlanFault) → NoEagerFits s b → IfErr tried (IsChoiceFault Pebble s b)
    → IfErr tried (IsChoiceFault Auto s b)
auto_fault s b (Ok laid) none h = tt
auto_fault s b (Err (Lines need)) none h = (
  record {
    few = h.0.few;
    no_row = λ m within row. elim row as (λ _. ⊥) [ inl eager ↦ none.none m within eager | inr pebbling ↦ h.0.no_row m within pebbling ];
  },
  h.1,
)
auto_fault s b (Err Gates) none h = record {
  few = h.few;
  no_row = λ m within row. elim row as (λ _. ⊥) [ inl eager ↦ none.none m within eager | inr pebbling ↦ h.no_row m within pebbling ];
}
auto_fault s b (Err (Memory _)) none h = h
