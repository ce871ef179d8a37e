use Rattle.std.proofs.Common.{IfSome, Option, ◌∙◌, subst, sym}
use Rattle.std.proofs.lemmas.Result.{IfOk-weaker}
use Rattle.linear_forms.specs.Forms.{FormView}
use Rattle.product_sums.specs.Products.{Extends, IsDetermined, IsProduct, ProductsView}
use Rattle.product_sums.proofs.TableLemmas.{extends_equal}
use Rattle.cut_sweeping.proofs.SweepLemmas.{holds_same}
use Rattle.cut_sweeping.proofs.sweep.Sweep.normal_product.Goals as goal

pub invariant_of-self : goal.invariant_of-self
invariant_of-self c = holds_same c.self.inside.products c.found.new.self c.self.inside.cuts c.found.ensures.same c.self.invariant

pub returns-in_err-value-clause-extends : goal.returns-in_err-value-clause-extends
returns-in_err-value-clause-extends c = extends_equal c.args.self.now c.found.new.self (c.found.ensures.same ∙ c.self.view_is)

pub invariant_of-self-in-Some : goal.invariant_of-self-in-Some
invariant_of-self-in-Some c = holds_same c.self.inside.products c.found.new.self c.self.inside.cuts c.found.ensures.same c.self.invariant

pub returns-in-Some-clause-extends : goal.returns-in-Some-clause-extends
returns-in-Some-clause-extends c = extends_equal c.args.self.now c.found.new.self (c.found.ensures.same ∙ c.self.view_is)

pub returns-in-Some-clause-product : goal.returns-in-Some-clause-product
returns-in-Some-clause-product c =
    subst (λ (found : Option FormView). IfSome found (IsProduct c.found.new.self c.args.first.now c.args.second.now)) c.in-Some.is
    c.in_ok-value.ensures.product

pub product-requires : goal.product-requires
product-requires c = holds_same c.self.inside.products c.found.new.self c.self.inside.cuts c.found.ensures.same c.self.invariant

pub returns-in_err-value-2-clause-extends : goal.returns-in_err-value-2-clause-extends
returns-in_err-value-2-clause-extends c = extends_equal c.args.self.now c.found.new.self (c.found.ensures.same ∙ c.self.view_is)

pub keep-requires : goal.keep-requires
keep-requires c =
    subst (λ (found : Option FormView). IfSome found (IsProduct c.found.new.self c.args.first.now c.args.second.now)) c.in-Some-2.is
    c.in_ok-value-2.ensures.product

pub invariant_of-self-in-Some-2 : goal.invariant_of-self-in-Some-2
invariant_of-self-in-Some-2 c = holds_same c.found.new.self c.keep.new.self c.product.new.self c.keep.ensures.same c.product.ensures.cuts

pub made-requires-clause-first : goal.made-requires-clause-first
made-requires-clause-first c =
    subst (λ (t : ProductsView). IsDetermined t c.args.first.now) (sym (c.found.ensures.same ∙ c.self.view_is)) c.requires.first

pub made-requires-clause-second : goal.made-requires-clause-second
made-requires-clause-second c =
    subst (λ (t : ProductsView). IsDetermined t c.args.second.now) (sym (c.found.ensures.same ∙ c.self.view_is)) c.requires.second

pub returns-in-Some-2-clause-extends : goal.returns-in-Some-2-clause-extends
returns-in-Some-2-clause-extends c =
    extends_equal c.args.self.now c.keep.new.self (c.keep.ensures.same ∙ c.found.ensures.same ∙ c.self.view_is)

pub returns-in-Some-2-clause-product : goal.returns-in-Some-2-clause-product
returns-in-Some-2-clause-product c =
    let first = c.args.first.now in
    let second = c.args.second.now in
    let value = c.in-Some-2.value in
    let before = subst (λ (found : Option FormView). IfSome found (IsProduct c.found.new.self first second)) c.in-Some-2.is
    c.in_ok-value-2.ensures.product in
    let is = subst (λ (t : ProductsView). IsProduct t first second value) (sym c.keep.ensures.same) before in
    IfOk-weaker c.keep.result _ _ (λ kept same. subst (IsProduct c.keep.new.self first second) (sym same) is) c.keep.ensures.value

pub returns-in-None-clause-extends : goal.returns-in-None-clause-extends
returns-in-None-clause-extends c =
    subst (λ (t : ProductsView). Extends t c.made.new.self) (c.found.ensures.same ∙ c.self.view_is) c.made.ensures.extends
