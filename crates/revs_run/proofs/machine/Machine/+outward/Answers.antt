use Rattle.std.proofs.Common.{arith}
use Rattle.revs_run.proofs.LeapLemmas.{leapt, leap_made, one_out, parent_made}
use Rattle.revs_run.proofs.machine.Machine.+outward.Goals as goal

pub outward-requires : goal.outward-requires
outward-requires t c = (
  omega arith,
  (
    c.requires.machine,
    leap_made c.args.self.now c.args.env c.index-binding.result.now c.requires.machine
        (omega arith) c.requires.env c.index-binding.ensures,
  ),
)

pub returns-then-binding-count-clause-is : goal.returns-then-binding-count-clause-is
returns-then-binding-count-clause-is t c = leapt c.args.self.now c.args.env c.outward.result c.args.count c.index-binding.result.now c.requires.machine
    (omega arith) c.requires.env (omega arith) c.index-binding.ensures c.outward.ensures.is

pub outward-requires-2 : goal.outward-requires-2
outward-requires-2 t c = (
  omega arith,
  (
    c.requires.machine,
    parent_made c.args.self.now c.args.env c.index-binding.result.now c.requires.machine
        (omega arith) c.requires.env c.index-binding.ensures,
  ),
)

pub returns-clause-is : goal.returns-clause-is
returns-clause-is t c = one_out c.args.self.now c.args.env c.outward-2.result c.args.count c.index-binding.result.now c.requires.machine
    (omega arith) c.requires.env (omega arith) c.index-binding.ensures c.outward-2.ensures.is
