use Rattle.std.proofs.lemmas.Result.{IfOk-weaker}
use Rattle.flip_orders.specs.Orders.{AreReordered}
use Rattle.revc_words.specs.declared.order.Aim.TheVariants.{Depth}
use Rattle.circuit_commands.specs.Circuits.{line_count}
use Rattle.circuit_commands.specs.Tidy.{AreMadeFor}
use Rattle.circuit_commands.specs.inside.Splitting.{IsRemade}
use Rattle.circuit_commands.proofs.TidyLemmas.{made_in_order}
use Rattle.circuit_commands.proofs.tidy.made_for.Goals as goal

pub returns-in_ok-tidied-in-Depth : goal.returns-in_ok-tidied-in-Depth
returns-in_ok-tidied-in-Depth c =
    let split = c.args.split in let tidied = c.in_ok-tidied-in-Depth.field-0 in
    rw c.in-Depth.is
    (IfOk-weaker c.in_best_order.result (IsRemade AreReordered tidied) (IsRemade (AreMadeFor Depth (line_count split.circuit)) split)
    (λ made order. made_in_order split tidied made c.in_ok-tidied-in-Depth.ensures order) c.in_best_order.ensures)
