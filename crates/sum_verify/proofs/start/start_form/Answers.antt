use Rattle.std.proofs.lemmas.Result.{IfOk-weaker}
use Rattle.circuit_verify.specs.Compared.{comparison}
use Rattle.sum_verify.proofs.StartLemmas.{atom_stands, idle_stands}
use Rattle.sum_verify.proofs.start.start_form.Goals as goal

pub returns-in-Some : goal.returns-in-Some
returns-in-Some c =
    IfOk-weaker c.atom.result _ _ (λ f is. atom_stands (comparison c.args.compared.now) c.args.line c.in-Some.atom f c.in-Some.ensures is) c.atom.ensures

pub returns-in-None : goal.returns-in-None
returns-in-None c = idle_stands (comparison c.args.compared.now) c.args.line c.constant.result c.in-None.ensures c.constant.ensures
