use Rattle.std.proofs.Common.{◌≡◌, ◌++◌, drop}
use Rattle.std.specs.List.{flat_map}
use Rattle.sum_toggles.specs.Toggles.{base_line, product_gates}
use Rattle.sum_toggles.proofs.toggling.append_products.Given as goal

abbrev pub invariant-loop-product : goal.invariant-loop-product
invariant-loop-product l =
    l.gates.items ++ flat_map (product_gates (base_line l.on.first l.on.lines.now) l.target) (drop l.product-index l.products)
    ≡ l.initial.gates.items ++ flat_map (product_gates (base_line l.on.first l.on.lines.now) l.target) l.products
