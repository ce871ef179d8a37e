use Rattle.std.proofs.Common.{◌≡◌, ◌∙◌, ap, List, Bool, map}
use Rattle.std.proofs.lemmas.List.{with_items_is}
use Rattle.std.proofs.lemmas.Result.{IfOk-weaker}
use Rattle.std.specs.Global.{Vec}
use Rattle.mct_circuit.specs.Gates.{line_map}
use Rattle.revc_words.specs.Words.{words_of}
use Rattle.circuit_sim.specs.Rows.{contents}
use Rattle.circuit_commands.specs.Run.{kept}
use Rattle.circuit_commands.proofs.RunLemmas.{all_given}
use Rattle.circuit_commands.proofs.run.run_words.Goals as goal

pub returns : goal.returns
returns c =
    let rows = c.run_all.new.rows in
    let back : c.deref.result.now ≡ rows = c.deref.ensures.value ∙ with_items_is c.in_ok-rows.rows rows (c.run_all.auto.rows ∙ c.deref_mut.ensures.len) in
    let runs = c.in_ok-run_all.ensures.ok
    ∙ ap (λ (rs : List (Vec Bool)). map (line_map c.circuit.result.now.gates) (contents rs)) c.deref_mut.ensures.value in
    IfOk-weaker c.keep_all.result _ _
    (λ lines keeps.
    all_given c.args.source.now (words_of c.args.words.now) c.constants.result.now c.circuit.result.now.gates c.garbage.result.now
    (contents c.in_ok-rows.rows.items) (contents rows) lines.items c.constants.ensures c.circuit.ensures.gates c.garbage.ensures.garbage
    c.in_ok-rows.ensures.rows runs (keeps ∙ ap (λ (rs : List (Vec Bool)). map (kept c.garbage.result.now) (contents rs)) back))
    c.keep_all.ensures
