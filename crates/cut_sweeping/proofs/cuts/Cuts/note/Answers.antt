use Rattle.std.proofs.Common.{refl}
use Rattle.cut_sweeping.proofs.SweepLemmas.{holds_parts}
use Rattle.cut_sweeping.proofs.cuts.Cuts.note.Goals as goal

pub returns : goal.returns
returns c t holds = holds_parts t c.args.self.now _ refl refl holds
