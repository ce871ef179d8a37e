-- The whole text, as the reader takes it.
use Rattle.std.proofs.Common.{◌≡◌, ℕ, ◌≤◌, false, List, [], length, Result, Ok, Err, inl, inr, sym, ap, ◌∙◌, subst, arith}
use Rattle.std.specs.Result.{IfOk}
use Rattle.mct_circuit.specs.Gates.{GateView, AreGatesOn}
use Rattle.circuit_plans.specs.declared.plan.TheConstants.{MOST_GATES}
use Rattle.qasm_format.specs.declared.said.Said.{Said as Held}
use Rattle.qasm_lexer.specs.Tokens.{Left, whole, BeginsWith}
use Rattle.qasm_format.specs.Registers.{lines_of_all}
use Rattle.qasm_format.specs.Stages.{starts, head}
use Rattle.format_parts.specs.Readings.{nothing_left}
use Rattle.qasm_format.specs.Qasm.{Reads, QasmView, MeansFile}
use Rattle.qasm_format.specs.inside.Says.{said_of, IsFirst, IsSound, GoesOn}
use Rattle.qasm_lexer.proofs.CutLemmas.{some_next}
use Rattle.qasm_format.proofs.ReadingLemmas.{reads_then}

-- ---- before the first statement

pub sound_at_first : (held : Held) → IsFirst held → IsSound held
sound_at_first held h = record {
  placed = subst (AreGatesOn (lines_of_all held.declared.registers)) (sym h.gates) tt;
  few = subst (λ (gs : List GateView). length gs ≤ MOST_GATES) (sym h.gates) (omega arith);
}

-- ---- the end

at_end : (text : List ℕ) → BeginsWith text [] → text ≡ []
at_end text (inl h) = h.1
at_end text (inr (rest, next)) = let some = some_next text [] rest next in absurd (omega arith)

pub file_ends : {E : Type 0} (text : List ℕ) (mid new : Left) (before after : Held) (r : Result QasmView E)
    → Reads (whole text) mid head (starts (said_of before))
    → GoesOn false mid new before after → IfOk r (λ file. file ≡ record { registers = after.declared.registers; gates = after.gates.items })
    → IfOk r (MeansFile text)
file_ends text mid new before after (Ok file) reads h is = record {
  last = h.1.takes.mid;
  said = said_of before;
  reads = reads_then reads (record { tokens = []; moves = h.1.takes.gaps; lead = nothing_left });
  ended = at_end h.1.takes.mid.bytes h.1.takes.begins;
  registers = ap (λ (f : QasmView). f.registers) is ∙ ap (λ (held : Held). held.declared.registers) h.0;
  gates = ap (λ (f : QasmView). f.gates) is ∙ ap (λ (held : Held). held.gates.items) h.0;
  some = h.1.may;
}
file_ends text mid new before after (Err e) reads h is = tt
