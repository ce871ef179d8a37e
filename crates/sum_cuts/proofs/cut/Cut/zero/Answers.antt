use Rattle.std.proofs.lemmas.Result.{IfOk-weaker}
use Rattle.sum_cuts.proofs.CutLemmas.{zeros_decided}
use Rattle.sum_cuts.proofs.cut.Cut.zero.Goals as goal

pub returns : goal.returns
returns c =
    IfOk-weaker c.form_of.result _ _ (λ found is. zeros_decided c.args.self.now c.none.result.words found c.none.ensures is) c.form_of.ensures
