use Rattle.std.proofs.Common.{◌≡◌, ◌∙◌, List, Bool, ap, length, sym, subst}
use Rattle.std.specs.Global.{Vec}
use Rattle.list_facts.proofs.AllLemmas.{AllByRecursion-push}
use Rattle.circuit_sim.specs.Rows.{AreRows, contents}
use Rattle.command_answers.specs.BitWords.{bits_of}
use Rattle.circuit_commands.proofs.RunLemmas.{length-started, started_more}
use Rattle.circuit_commands.proofs.run.start_all.Goals as goal

pub loop-word-preserved : goal.loop-word-preserved
loop-word-preserved c =
    let row = c.in_ok-start.field-0 in
    let long : length row.items ≡ length c.args.marks.now = ap length c.in_ok-start.ensures ∙ length-started c.args.marks.now (bits_of c.as_str.result.now) in
    record {
      rows = ap contents c.in_ok-push.ensures.items
          ∙ started_more c.args.marks.now c.args.words.now c.loop-word.rows.items row c.loop-word.word-index c.word-item.result c.as_str.result.now
          c.loop-word-test.true c.word-item.is c.as_str.ensures.value c.in_ok-start.ensures c.loop-word.invariant.rows;
      fit = subst (λ (rs : List (Vec Bool)). AreRows (length c.args.marks.now) rs) (sym {A = List (Vec Bool)} c.in_ok-push.ensures.items)
          (AllByRecursion-push (λ (r : Vec Bool). length r.items ≡ length c.args.marks.now) c.loop-word.rows.items row c.loop-word.invariant.fit long);
    }
