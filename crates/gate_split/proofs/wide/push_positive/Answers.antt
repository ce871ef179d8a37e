use Rattle.std.proofs.Common.{sym, ap, ◌∙◌, Some}
use Rattle.std.proofs.lemmas.Result.{on_ok_weaker}
use Rattle.gate_split.specs.Split.{behind}
use Rattle.gate_split.proofs.EffectLemmas.{different_of, below_of}
use Rattle.gate_split.proofs.PieceLemmas.{few_stay}
use Rattle.gate_split.proofs.wide.push_positive.Goals as goal

pub push_one_flip-requires : goal.push_one_flip-requires
push_one_flip-requires c = different_of c.args.marks.now c.args.flip.controls.now c.args.flip.target c.requires.gate

pub returns-then-controls-le2-clause-split : goal.returns-then-controls-le2-clause-split
returns-then-controls-le2-clause-split c =
    on_ok_weaker c.push_one_flip.result (λ e. ap (behind c.args.gates.now.items)
    (few_stay c.args.marks.now c.args.flip.controls.now c.args.flip.target c.if-controls-le2.true) ∙ ap Some (sym e)) c.push_one_flip.ensures

pub falling_lines-requires : goal.falling_lines-requires
falling_lines-requires c = below_of c.args.marks.now c.args.flip.controls.now c.args.flip.target c.requires.gate

pub push_wide-requires-clause-gate : goal.push_wide-requires-clause-gate
push_wide-requires-clause-gate c = rw c.falling_lines.ensures.same c.requires.gate

pub push_wide-requires-clause-some : goal.push_wide-requires-clause-some
push_wide-requires-clause-some c = rw c.falling_lines.ensures.same c.requires.some

pub push_wide-requires-clause-found : goal.push_wide-requires-clause-found
push_wide-requires-clause-found c = rw c.falling_lines.ensures.same (c.deref.ensures.value ∙ c.in_ok-idle.ensures.found)

pub returns-clause-split : goal.returns-clause-split
returns-clause-split c = rw c.falling_lines.ensures.same at c.push_wide.ensures.split

pub returns-clause-same : goal.returns-clause-same
returns-clause-same c = c.push_wide.ensures.same ∙ c.falling_lines.ensures.same
