use Rattle.revs_terms.specs.Trees.{tree_of}
use Rattle.std.proofs.lemmas.Result.{MatchResult-weaker}
use Rattle.revs_run.proofs.ProgressLemmas.{stops}
use Rattle.revs_run.specs.inside.Machines.{envs_of, env_in}
use Rattle.revs_run.proofs.EndLemmas.{body_ends, body_stuck, outputs_stuck}
use Rattle.revs_run.proofs.program.body_outputs.Goals as goal

pub returns-in_err-value : goal.returns-in_err-value
returns-in_err-value c = stops _ _ c.from_residual.result c.from_residual.ensures.1
    (body_stuck 400 (env_in (envs_of c.args.machine.now) c.args.env) (tree_of c.args.body.now) c.args.machine.now c.in_err-value.field-0.0
    c.in_err-value.ensures.run)

pub returns : goal.returns
returns c = MatchResult-weaker c.outputs.result c.outputs.ensures
    (λ made o. body_ends c.args.machine.now c.run.new.self c.args.env (tree_of c.args.body.now) c.in_ok-value.value made.items
    c.in_ok-value.ensures.run o)
    (λ f s. outputs_stuck 400 (env_in (envs_of c.args.machine.now) c.args.env) (tree_of c.args.body.now) c.args.machine.now c.run.new.self
    c.in_ok-value.value f c.in_ok-value.ensures.run s)
