use Rattle.std.proofs.Common.{◌≤◌, List, length, refl, subst}
use Rattle.std.proofs.lemmas.Result.{IfOk-weaker}
use Rattle.mct_circuit.specs.Gates.{GateView, AreNarrow}
use Rattle.circuit_commands.proofs.ConvertLemmas.{split_as_it_is, split_marked}
use Rattle.circuit_commands.proofs.convert.split_gates.Goals as goal

pub returns-then-are_few_and_narrow-clause-ok : goal.returns-then-are_few_and_narrow-clause-ok
returns-then-are_few_and_narrow-clause-ok c =
    let narrow = subst AreNarrow c.circuit.ensures.gates (c.if-are_few_and_narrow.ensures.narrow refl) in
    let few = subst (λ (gates : List GateView). length gates ≤ c.args.most) c.circuit.ensures.gates (c.if-are_few_and_narrow.ensures.few refl) in
    split_as_it_is c.args.most c.args.source c.as_it_is.result narrow few c.as_it_is.ensures.made c.as_it_is.ensures.writable

pub returns-clause-ok : goal.returns-clause-ok
returns-clause-ok c =
    IfOk-weaker c.marked.result _ _ (λ made m. split_marked c.args.most c.args.source c.in_ok-narrow.narrow made c.in_ok-narrow.ensures.ok m)
    c.marked.ensures.ok
