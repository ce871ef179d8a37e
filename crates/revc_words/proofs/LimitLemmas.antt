-- The numbers of an order are within their limits.
use Rattle.std.proofs.Common.{◌≡◌, ℕ, ◌≤◌, List, Option, Some, None, MatchOption, arith, codes, subst, sym, ◌∙◌}
use Rattle.std.proofs.lemmas.Bool.{false≢true}
use Rattle.arith_templates.specs.declared.kind.Kind.{Kind}
use Rattle.arith_templates.specs.declared.kind.Kind.TheVariants.{Add, Mul}
use Rattle.arith_templates.specs.declared.limits.TheConstants.{MOST_BITS, MOST_FACTOR}
use Rattle.circuit_plans.specs.declared.plan.TheConstants.{MOST_LINES, MOST_GATES, MOST_BORROWED}
use Rattle.revc_words.specs.declared.limits.TheConstants.{MOST_ASSUMED, MOST_NODES, USUAL_LINES, USUAL_GATES, USUAL_NODES}
use Rattle.revc_words.specs.declared.commands.Positional.{Positional}
use Rattle.revc_words.specs.declared.commands.Positional.TheVariants.{Nothing, Word, Words, Number, KindAndNumber}
use Rattle.revc_words.specs.declared.commands.Command.{Command}
use Rattle.revc_words.specs.declared.commands.Command.TheVariants.{Verify}
use Rattle.revc_words.specs.Commands.{factor_option, takes_of}
use Rattle.revc_words.specs.Words.{HasFactor, IsBy, IsNumberIn, Setting, Taken, TakesWords, HasNumber, OrdersAreWithinLimits, taken_of, value_of}

within : (least most usual n : ℕ) (value : Option (List ℕ)) → least ≤ usual → usual ≤ most
    → MatchOption value (n ≡ usual) (λ word. IsNumberIn least most word n) → (least ≤ n) × (n ≤ most)
within least most usual n None low high h = (omega (arith, h, low), omega (arith, h, high))
within least most usual n (Some word) low high h = (h.least_is, h.most_is)

few_bits : (takes : Positional) (given : List Setting) (plain : List (List ℕ)) (taken : Taken) → TakesWords takes given plain taken → taken.number ≤ MOST_BITS
few_bits Nothing given plain taken is = let none = is.1.no_number in omega arith
few_bits Word given plain taken is = let none = is.1.no_number in omega arith
few_bits Words given plain taken is = let none = is.1.no_number in omega arith
few_bits Number given plain taken is = is.in_range.most_is
few_bits KindAndNumber given plain taken is = is.in_range.most_is

some_bits : (takes : Positional) (given : List Setting) (plain : List (List ℕ)) (taken : Taken) → TakesWords takes given plain taken
    → HasNumber takes taken.number
some_bits Nothing given plain taken is = tt
some_bits Word given plain taken is = tt
some_bits Words given plain taken is = tt
some_bits Number given plain taken is = is.in_range.least_is
some_bits KindAndNumber given plain taken is = is.in_range.least_is

-- ---- the factor

no_product : (kind : Kind) → kind ≡ Add → kind ≡ Mul → ⊥
no_product kind one other = apart (sym one ∙ other)
  where
    apart : Add ≡ Mul → ⊥
    apart e = absurd cc

-- programs that multiply are given a factor
given_factor : (takes : Positional) (given : List Setting) (plain : List (List ℕ)) (taken : Taken) → TakesWords takes given plain taken
    → taken.kind ≡ Mul → HasFactor Mul (value_of (codes "by") given)
given_factor Nothing given plain taken is e = absurd (no_product taken.kind is.1.no_kind e)
given_factor Word given plain taken is e = absurd (no_product taken.kind is.1.no_kind e)
given_factor Words given plain taken is e = absurd (no_product taken.kind is.1.no_kind e)
given_factor Number given plain taken is e = absurd (no_product taken.kind is.no_kind e)
given_factor KindAndNumber given plain taken is e = subst (λ (kind : Kind). HasFactor kind (value_of (codes "by") given)) e is.factor

some_factor : (by : ℕ) (factor : Option (List ℕ)) → HasFactor Mul factor → MatchOption factor (by ≡ 0) (λ word. IsNumberIn 1 MOST_FACTOR word by) → 1 ≤ by
some_factor by None some is = absurd (false≢true some)
some_factor by (Some word) some is = is.least_is

-- a command that takes programs that multiply has its factor by `--by`
asked_factor : (command : Command) (given : List Setting) (plain : List (List ℕ)) (taken : Taken) (by : ℕ)
    → TakesWords (takes_of command) given plain taken → IsBy command given by → taken.kind ≡ Mul → 1 ≤ by
asked_factor Verify given plain taken by is own e = absurd (no_product taken.kind is.1.no_kind e)
asked_factor command given plain taken by is own e =
    some_factor by (value_of (codes "by") given) (given_factor (takes_of command) given plain taken is e) own

small_factor : (by : ℕ) (factor : Option (List ℕ)) → MatchOption factor (by ≡ 0) (λ word. IsNumberIn 1 MOST_FACTOR word by) → by ≤ MOST_FACTOR
small_factor by None is = omega (arith, is)
small_factor by (Some word) is = is.most_is

pub orders_are_within_limits : OrdersAreWithinLimits
orders_are_within_limits words order is = record {
  some_lines = (within 1 MOST_LINES USUAL_LINES order.lines (value_of (codes "lines") is.given) (omega arith) (omega arith) is.lines).0;
  lines = (within 1 MOST_LINES USUAL_LINES order.lines (value_of (codes "lines") is.given) (omega arith) (omega arith) is.lines).1;
  some_gates = (within 1 MOST_GATES USUAL_GATES order.gates (value_of (codes "gates") is.given) (omega arith) (omega arith) is.gates).0;
  gates = (within 1 MOST_GATES USUAL_GATES order.gates (value_of (codes "gates") is.given) (omega arith) (omega arith) is.gates).1;
  borrow = (within 0 MOST_BORROWED 0 order.borrow (value_of (codes "borrow") is.given) (omega arith) (omega arith) is.borrow).1;
  nodes = (within 1 MOST_NODES USUAL_NODES order.nodes (value_of (codes "nodes") is.given) (omega arith) (omega arith) is.nodes).0;
  few_nodes = (within 1 MOST_NODES USUAL_NODES order.nodes (value_of (codes "nodes") is.given) (omega arith) (omega arith) is.nodes).1;
  few_assumed = (within 0 MOST_ASSUMED 0 order.assume (value_of (codes "assume") is.given) (omega arith) (omega arith) is.assume).1;
  few_bits = few_bits (takes_of order.command) is.given is.plain (taken_of order) is.takes;
  some_bits = some_bits (takes_of order.command) is.given is.plain (taken_of order) is.takes;
  some_factor = λ multiplies. asked_factor order.command is.given is.plain (taken_of order) order.by is.takes is.by multiplies;
  small_factor = small_factor order.by (value_of (factor_option order.command) is.given) is.by;
}
