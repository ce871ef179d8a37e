use Rattle.std.proofs.lemmas.Option.{IfSome_then}
use Rattle.wide_sums.proofs.KnownLemmas.{word_alone}
use Rattle.wide_sums.proofs.known.word_of.Goals as goal

pub returns : goal.returns
returns c =
    IfSome_then c.word_alone.result c.word_alone.ensures (λ word h. word_alone _ _ _ _ _ word c.in_ok-form.ensures c.in_ok-form-2.ensures h.0 h.1)
