use Rattle.std.proofs.Common.{not, length, subst, sym, ap, ◌∙◌}
use Rattle.list_facts.proofs.BitLemmas.{xor_one}
use Rattle.dependency_graph.specs.declared.node.Node.{Node}
use Rattle.dependency_graph.specs.Graphs.{IsKnownNode}
use Rattle.linear_forms.specs.Forms.{FormView, form_value}
use Rattle.sum_verify.specs.inside.Nodes.{IsNodeForm}
use Rattle.sum_verify.proofs.nodes.node_form.Goals as goal

pub product-requires-clause-first : goal.product-requires-clause-first
product-requires-clause-first c =
    let known = subst (IsKnownNode (length c.args.lines.now) (length c.args.nodes.now)) c.in-And.is c.requires.known in
    c.requires.determined.each c.in-And.a c.in_ok-left-in-And.left.now known.0 c.in_ok-left-in-And.ensures

pub product-requires-clause-second : goal.product-requires-clause-second
product-requires-clause-second c =
    let known = subst (IsKnownNode (length c.args.lines.now) (length c.args.nodes.now)) c.in-And.is c.requires.known in
    c.requires.determined.each c.in-And.b c.in_ok-right-in-And.right.now known.1 c.in_ok-right-in-And.ensures

pub returns-in_ok-form-in-Not-clause-form : goal.returns-in_ok-form-in-Not-clause-form
returns-in_ok-form-in-Not-clause-form c =
    subst (λ (n : Node). IsNodeForm c.args.products.now c.args.lines.now c.args.nodes.now n c.with_one.result) (sym c.in-Not.is) (record {
      operand = c.in_ok-operand-in-Not.operand.now;
      is = c.in_ok-operand-in-Not.ensures;
      same = λ atom.
          c.with_one.ensures atom
          ∙ xor_one (form_value atom c.in_ok-form-in-Not.form)
          ∙ ap (λ (g : FormView). not (form_value atom g)) c.in_ok-form-in-Not.ensures;
    })
