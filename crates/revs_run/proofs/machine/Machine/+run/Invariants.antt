use Rattle.std.proofs.Common.{◌+◌, ◌*◌, map, drop}
use Rattle.revs_terms.specs.Running.{run_of, term_of, bits_of, items_run, turns_of, turns}
use Rattle.revs_terms.specs.Runs.{no_bits}
use Rattle.revs_terms.specs.Terms.{place_of}
use Rattle.revs_terms.specs.Trees.{tree_of, item_tree_of, trees, apply}
use Rattle.revs_run.specs.inside.Machines.{envs_of, env_in, state_of}
use Rattle.revs_run.proofs.ProgressLemmas.{Through}
use Rattle.revs_run.proofs.CallLemmas.{InItems, InApply}
use Rattle.revs_run.proofs.LoopLemmas.{rest_of_turns}
use Rattle.revs_run.proofs.ChainLemmas.{rest_of_bits, rest_of_chain}
use Rattle.revs_run.specs.inside.Calls.{chain_tree}
use Rattle.revs_run.proofs.machine.Machine.+run.Given as goal

abbrev pub decreases-run : goal.decreases-run
decreases-run l = l.frame.left * 10 + 1

abbrev pub decreases-entered : goal.decreases-entered
decreases-entered l = l.frame.left * 10

abbrev pub decreases-term : goal.decreases-term
decreases-term l = l.frame.left * 10 + 9

abbrev pub decreases-reg : goal.decreases-reg
decreases-reg l = l.frame.left * 10 + 7

abbrev pub decreases-claimed : goal.decreases-claimed
decreases-claimed l = l.frame.left * 10 + 7

abbrev pub decreases-assignment : goal.decreases-assignment
decreases-assignment l = l.frame.left * 10 + 7

abbrev pub decreases-chain : goal.decreases-chain
decreases-chain l = l.frame.left * 10 + 7

abbrev pub decreases-bits : goal.decreases-bits
decreases-bits l = l.frame.left * 10 + 6

abbrev pub decreases-link : goal.decreases-link
decreases-link l = l.frame.left * 10 + 6

abbrev pub decreases-bit : goal.decreases-bit
decreases-bit l = l.frame.left * 10 + 2

abbrev pub invariant-bits-loop-term : goal.invariant-bits-loop-term
invariant-bits-loop-term l =
    Through l.fn.self l.self (bits_of no_bits (run_of no_bits l.frame.left) (env_in (envs_of l.fn.self) l.frame.env) (map tree_of l.terms) (state_of l.fn.self))
    (rest_of_bits l.frame.left (env_in (envs_of l.fn.self) l.frame.env) (drop l.term-index (map tree_of l.terms)) l.locations.items (state_of l.self))

abbrev pub invariant-chain-loop-term : goal.invariant-chain-loop-term
invariant-chain-loop-term l =
    Through l.fn.self l.self (term_of no_bits (run_of no_bits l.frame.left) (env_in (envs_of l.fn.self) l.frame.env) (chain_tree l.op (map tree_of l.terms))
    (state_of l.fn.self))
    (rest_of_chain l.frame.left l.op (env_in (envs_of l.fn.self) l.frame.env) (place_of (tree_of l.first)) l.so_far (drop l.term-index (map tree_of l.rest))
    (state_of l.self))

abbrev pub decreases-block : goal.decreases-block
decreases-block l = l.frame.left * 10 + 8

abbrev pub decreases-items : goal.decreases-items
decreases-items l = l.frame.left * 10 + 7

abbrev pub decreases-repeat : goal.decreases-repeat
decreases-repeat l = l.frame.left * 10 + 5

abbrev pub decreases-turns : goal.decreases-turns
decreases-turns l = l.frame.left * 10 + 10

abbrev pub decreases-turn : goal.decreases-turn
decreases-turn l = l.frame.left * 10 + 9

abbrev pub decreases-bound_turn : goal.decreases-bound_turn
decreases-bound_turn l = l.frame.left * 10 + 8

abbrev pub decreases-item : goal.decreases-item
decreases-item l = l.frame.left * 10 + 6

abbrev pub decreases-at : goal.decreases-at
decreases-at l = l.frame.left * 10 + 7

abbrev pub decreases-rotation : goal.decreases-rotation
decreases-rotation l = l.frame.left * 10 + 7

abbrev pub decreases-append : goal.decreases-append
decreases-append l = l.frame.left * 10 + 7

abbrev pub decreases-apply : goal.decreases-apply
decreases-apply l = l.frame.left * 10 + 7

abbrev pub decreases-argument : goal.decreases-argument
decreases-argument l = l.frame.left * 10 + 6

abbrev pub decreases-call : goal.decreases-call
decreases-call l = l.left * 10 + 5

abbrev pub invariant-items-loop-item : goal.invariant-items-loop-item
invariant-items-loop-item l =
    InItems l.fn.self l.self l.frame.left l.inner (drop l.item-index (map item_tree_of l.items))
    (items_run no_bits (run_of no_bits l.frame.left) (env_in (envs_of l.fn.self) l.frame.env) (map item_tree_of l.items) (state_of l.fn.self))

abbrev pub invariant-turns-loop-turn : goal.invariant-turns-loop-turn
invariant-turns-loop-turn l =
    Through l.fn.self l.self (turns_of no_bits (run_of no_bits l.frame.left) (env_in (envs_of l.fn.self) l.frame.env) (map item_tree_of l.items) l.at l.fn.low
    (turns l.fn.low l.fn.high) (state_of l.fn.self))
    (rest_of_turns l.frame.left (env_in (envs_of l.fn.self) l.frame.env) (map item_tree_of l.items) l.at l.fn.low (turns l.fn.low l.fn.high) l.turn
    (state_of l.self))

abbrev pub invariant-apply-loop-term : goal.invariant-apply-loop-term
invariant-apply-loop-term l =
    InApply l.fn.self l.self l.frame.left (env_in (envs_of l.fn.self) l.frame.env) (drop l.term-index (map tree_of l.terms)) l.value
    (term_of no_bits (run_of no_bits l.frame.left) (env_in (envs_of l.fn.self) l.frame.env) (apply (tree_of l.fn.head) (trees (map tree_of l.terms)))
    (state_of l.fn.self))
