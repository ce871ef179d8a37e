use Rattle.std.proofs.Common.{Bool, ap}
use Rattle.list_facts.proofs.BitLemmas.{not-beq}
use Rattle.dependency_graph.specs.declared.fold.Reduct.TheVariants.{Known}
use Rattle.dependency_graph.specs.declared.node.Sig.TheVariants.{Const}
use Rattle.dependency_graph.proofs.fold.xor.Goals as goal

pub returns-in-Const-Const : goal.returns-in-Const-Const
returns-in-Const-Const c =
    let bits = c.in-Const-Const in
    rw (bits.is-0, bits.is-1) (ap (λ (bit : Bool). Known (Const bit)) (not-beq bits.a bits.b))
