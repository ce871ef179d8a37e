-- Flips under two lines: toggles, copies and finished plans have one for each product of their sums.
use Rattle.std.proofs.Common.{◌≡◌, ℕ, ◌+◌, ◌*◌, List, Option, [], ◌∷◌, ◌++◌, length, reverse, refl, ap, arith}
use Rattle.std.proofs.lemmas.List.Sums.{sum_by-cons}
use Rattle.bit_sums.specs.Sums.{SumView}
use Rattle.sum_graph.specs.Graphs.{products_in}
use Rattle.sum_toggles.specs.Toggles.{base_line, sum_gates}
use Rattle.sum_toggles.proofs.CountLemmas.{ccx_in, ccx_sum, ccx-append, ccx-reverse}
use Rattle.held_nodes.specs.Held.{ForwardView}
use Rattle.sum_graph.specs.Graphs.{first_work}
use Rattle.held_nodes.specs.Moves.{IsToggled, copies_from, copies_of, finished_gates, toggle_of}

pub ccx_toggled : (f next : ForwardView) (k : ℕ) (t : IsToggled f k next) → ccx_in next.gates ≡ ccx_in f.gates + length t.node.products
ccx_toggled f next k t =
    let more = toggle_of (first_work f.graph) f.lines t.line t.node in
    let e = ap (λ (g : ForwardView). ccx_in g.gates) t.becomes in
    let all = ccx-append f.gates more in
    let one = ccx_sum (base_line (first_work f.graph) f.lines) (first_work f.graph + t.line) t.node in
    omega (arith, e, all, one)

ccx_copies : (first : ℕ) (lines : List (Option ℕ)) (target : ℕ) (sums : List SumView)
    → ccx_in (copies_from first lines target sums) ≡ products_in sums
ccx_copies first lines target [] = refl
ccx_copies first lines target (x ∷ xs) =
    let all = ccx-append (sum_gates (base_line first lines) target x) (copies_from first lines (target + 1) xs) in
    let cons = sum_by-cons (λ (s : SumView). length s.products) x xs in
    omega (arith, all, cons, ccx_sum (base_line first lines) target x, ccx_copies first lines (target + 1) xs)

pub ccx_finished : (f : ForwardView) → ccx_in (finished_gates f) ≡ 2 * ccx_in f.gates + products_in f.graph.outputs
ccx_finished f =
    let all = ccx-append (f.gates ++ copies_of f) (reverse f.gates) in
    let front = ccx-append f.gates (copies_of f) in
    let copies = ccx_copies (first_work f.graph) f.lines f.graph.inputs f.graph.outputs in
    omega (arith, all, front, copies, ccx-reverse f.gates)
