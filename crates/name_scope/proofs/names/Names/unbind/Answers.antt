use Rattle.std.proofs.Common.{bytes_eq}
use Rattle.indexmap.specs.IndexMap.{get}
use Rattle.name_scope.proofs.TableLemmas.{gone}
use Rattle.name_scope.proofs.names.Names.unbind.Goals as goal

pub invariant_of-self : goal.invariant_of-self
invariant_of-self c =
    gone (get bytes_eq c.self.inside.nearest) (get bytes_eq c.insert.new.self) c.pop.new.self.items c.in-Some.field-0 c.insert.result
    c.in-Some.ensures.items c.self.invariant c.insert.ensures.updates c.insert.ensures.absent (λ u. u.0) (λ v. v)

pub invariant_of-self-in-Some-2 : goal.invariant_of-self-in-Some-2
invariant_of-self-in-Some-2 c =
    gone (get bytes_eq c.self.inside.nearest) (get bytes_eq c.insert.new.self) c.pop.new.self.items c.in-Some.field-0 c.insert.result
    c.in-Some.ensures.items c.self.invariant c.insert.ensures.updates c.insert.ensures.absent (λ u. u.0) (λ v. v)

pub invariant_of-self-in-Some-3 : goal.invariant_of-self-in-Some-3
invariant_of-self-in-Some-3 c =
    gone (get bytes_eq c.self.inside.nearest) (get bytes_eq c.insert.new.self) c.pop.new.self.items c.in-Some.field-0 c.insert.result
    c.in-Some.ensures.items c.self.invariant c.insert.ensures.updates c.insert.ensures.absent (λ u. u.0) (λ v. v)
