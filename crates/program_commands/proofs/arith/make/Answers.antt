use Rattle.std.proofs.Common.{◌∙◌, subst, sym, length, ◌≤◌, List, ℕ}
use Rattle.program_commands.proofs.ArithCircuitLemmas.{file_gives, file_stops, program_gives}
use Rattle.program_commands.proofs.ArithTextLemmas.{texts_compute}
use Rattle.program_commands.proofs.arith.make.Goals as goal
use Rattle.revc_words.specs.Words.{order_of}
use Rattle.revc_words.specs.declared.order.Format.TheVariants as formats
use Rattle.revc_words.specs.declared.order.Write.TheVariants as writes
use Rattle.revs_parser.specs.declared.limits.TheConstants.{MOST_BYTES}

pub returns-in-Program-clause-ok : goal.returns-in-Program-clause-ok
returns-in-Program-clause-ok c =
    let order = c.args.order.now in
    program_gives (order_of order) _ c.in-Program.is (texts_compute order.kind order.number order.values.by c.requires.size) c.in_ok-text.ensures.bytes

pub file-requires : goal.file-requires
file-requires c =
    let order = c.args.order.now in
    let text = texts_compute order.kind order.number order.values.by c.requires.size in
    subst (λ (text : List ℕ). length text ≤ MOST_BYTES) (sym (c.as_slice.ensures.value ∙ c.in_ok-text.ensures.bytes)) text.formed.text_of.short

pub returns-in-Real-clause-ok : goal.returns-in-Real-clause-ok
returns-in-Real-clause-ok c =
    let order = c.args.order.now in
    file_gives writes.Real formats.Real (order_of order) _ c.file.result c.in-Real.is (λ file is. is)
    (texts_compute order.kind order.number order.values.by c.requires.size) (c.as_slice.ensures.value ∙ c.in_ok-text.ensures.bytes) c.file.ensures.ok

pub returns-in-Real-clause-err : goal.returns-in-Real-clause-err
returns-in-Real-clause-err c =
    let order = c.args.order.now in
    file_stops writes.Real formats.Real (order_of order) _ c.file.result c.in-Real.is (λ fault is. is)
    (texts_compute order.kind order.number order.values.by c.requires.size) (c.as_slice.ensures.value ∙ c.in_ok-text.ensures.bytes) c.file.ensures.err

pub file-requires-in-Qasm : goal.file-requires-in-Qasm
file-requires-in-Qasm c =
    let order = c.args.order.now in
    let text = texts_compute order.kind order.number order.values.by c.requires.size in
    subst (λ (text : List ℕ). length text ≤ MOST_BYTES) (sym (c.as_slice-in-Qasm.ensures.value ∙ c.in_ok-text.ensures.bytes)) text.formed.text_of.short

pub returns-in-Qasm-clause-ok : goal.returns-in-Qasm-clause-ok
returns-in-Qasm-clause-ok c =
    let order = c.args.order.now in
    file_gives writes.Qasm formats.Qasm (order_of order) _ c.file-in-Qasm.result c.in-Qasm.is (λ file is. is)
    (texts_compute order.kind order.number order.values.by c.requires.size) (c.as_slice-in-Qasm.ensures.value ∙ c.in_ok-text.ensures.bytes)
    c.file-in-Qasm.ensures.ok

pub returns-in-Qasm-clause-err : goal.returns-in-Qasm-clause-err
returns-in-Qasm-clause-err c =
    let order = c.args.order.now in
    file_stops writes.Qasm formats.Qasm (order_of order) _ c.file-in-Qasm.result c.in-Qasm.is (λ fault is. is)
    (texts_compute order.kind order.number order.values.by c.requires.size) (c.as_slice-in-Qasm.ensures.value ∙ c.in_ok-text.ensures.bytes)
    c.file-in-Qasm.ensures.err
