use Rattle.std.proofs.Common.{◌∙◌, ap, arith, bit_xor, get_or, refl, set}
use Rattle.std.proofs.lemmas.List.{get_or_read}
use Rattle.circuit_tidy.specs.inside.BitRows.{AddsRow, between_places}
use Rattle.circuit_tidy.proofs.BitRowLemmas.{adds_row}
use Rattle.circuit_tidy.proofs.rows.NotedRows.note.Goals as goal
use Rattle.circuit_tidy.proofs.rows.NotedRows.note.Goals.{After-index_mut}

added : (c : After-index_mut) → AddsRow c.args.lines.now c.args.self.now.words.items
    (set c.args.self.now.words.items c.args.onto (bit_xor c.index_mut.result.now c.index.result.now)) (between_places c.args.lines.now c.args.from c.args.onto)
added c =
    let words = c.args.self.now.words.items in
    let rows = c.requires.rows in
    let onto = get_or_read words c.args.onto c.index_mut.result.now (omega (arith, rows.long, c.requires.onto)) c.index_mut.ensures.value 0 in
    let from = get_or_read words c.args.from c.index.result.now (omega (arith, rows.long, c.requires.from)) c.index.ensures 0 in
    adds_row c.args.lines.now words c.args.from c.args.onto (bit_xor c.index_mut.result.now c.index.result.now)
    (between_places c.args.lines.now c.args.from c.args.onto) rows.rising rows.long c.requires.from c.requires.onto
    (ap (λ x. bit_xor x c.index.result.now) onto ∙ ap (bit_xor (get_or words c.args.onto 0)) from) refl refl

pub returns-in_err-push-clause-words : goal.returns-in_err-push-clause-words
returns-in_err-push-clause-words c = added (goal.at.returns-in_err-push-clause-words c).After-index_mut

pub returns-clause-words : goal.returns-clause-words
returns-clause-words c = added (goal.at.returns-clause-words c).After-index_mut
