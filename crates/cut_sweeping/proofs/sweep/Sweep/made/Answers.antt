use Rattle.std.proofs.Common.{subst, sym}
use Rattle.product_sums.specs.Products.{Extends, IsDetermined, ProductsView}
use Rattle.cut_sweeping.proofs.SweepLemmas.{cuts_later}
use Rattle.cut_sweeping.proofs.sweep.Sweep.made.Goals as goal

pub make-requires-clause-first : goal.make-requires-clause-first
make-requires-clause-first c = subst (λ (t : ProductsView). IsDetermined t c.args.first.now) (sym c.self.view_is) c.requires.first

pub make-requires-clause-second : goal.make-requires-clause-second
make-requires-clause-second c = subst (λ (t : ProductsView). IsDetermined t c.args.second.now) (sym c.self.view_is) c.requires.second

pub invariant_of-self : goal.invariant_of-self
invariant_of-self c = cuts_later c.self.inside.products c.make.new.self c.self.inside.cuts c.make.ensures.extends c.self.invariant

pub returns-in_err-value-clause-extends : goal.returns-in_err-value-clause-extends
returns-in_err-value-clause-extends c = subst (λ (t : ProductsView). Extends t c.make.new.self) c.self.view_is c.make.ensures.extends

pub invariant_of-self-2 : goal.invariant_of-self-2
invariant_of-self-2 c =
    c.note.ensures c.make.new.self
    (cuts_later c.self.inside.products c.make.new.self c.self.inside.cuts c.make.ensures.extends c.self.invariant)

pub returns-clause-extends : goal.returns-clause-extends
returns-clause-extends c = subst (λ (t : ProductsView). Extends t c.make.new.self) c.self.view_is c.make.ensures.extends
