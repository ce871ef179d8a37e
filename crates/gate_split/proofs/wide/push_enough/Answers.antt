use Rattle.std.proofs.Common.{arith}
use Rattle.gate_split.proofs.EffectLemmas.{different_of}
use Rattle.gate_split.proofs.WideLemmas.{cut_differ}
use Rattle.gate_split.proofs.wide.push_enough.Goals as goal

pub push_one_flip-requires : goal.push_one_flip-requires
push_one_flip-requires c = different_of c.requires.serves.0 c.args.flip.controls.now c.args.flip.target c.requires.serves.1.gate

pub push_over_idle-requires-clause-different : goal.push_over_idle-requires-clause-different
push_over_idle-requires-clause-different c = cut_differ c.requires.serves.0 c.args.flip.controls.now c.args.flip.target c.args.idle.now c.requires.serves.1
    (omega arith) c.requires.enough
