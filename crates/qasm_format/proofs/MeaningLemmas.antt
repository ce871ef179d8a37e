-- The texts of a compiled circuit and of any narrow circuit mean their files.
use Rattle.std.proofs.Common.{ℕ, refl, sym, subst, arith}
use Rattle.mct_circuit.specs.Gates.{AreGatesOn}
use Rattle.qasm_format.specs.Compiled.{registers_of, argument_of, CompiledHasMeaning}
use Rattle.qasm_format.specs.Converted.{converted_registers, converted_place, ConvertedHasMeaning}
use Rattle.qasm_format.proofs.NumberedLemmas as numbered
use Rattle.qasm_format.proofs.RoleLemmas.{all_lines, registers_are_good, registers_are_different, place_of_line}
use Rattle.qasm_format.proofs.WrittenLemmas.{written_file}

pub compiled_has_meaning : CompiledHasMeaning
compiled_has_meaning roles gates f =
    let lines = all_lines roles in
    let some = f.some in
    let few = f.few in
    record {
      file = record { registers = registers_of roles; gates = gates };
      meaning = written_file (registers_of roles) (argument_of roles) gates (registers_are_good roles) (registers_are_different roles)
          (omega arith) (omega arith) (record { says = λ line low. place_of_line roles line few (omega arith) }) f.few_gates
          (subst (λ (n : ℕ). AreGatesOn n gates) (sym lines) f.placed) f.narrow;
      roles_are = refl;
      gates_are = refl;
    }

pub converted_has_meaning : ConvertedHasMeaning
converted_has_meaning count added gates two f =
    let some = f.some in
    let few = f.few in
    let counted : numbered.IsCount count added = record { some = some; few = few; two = two } in
    let lines = numbered.lines_are_all count added counted in
    record {
      file = record { registers = converted_registers count added; gates = gates };
      meaning = written_file (converted_registers count added) (converted_place count added) gates
          (numbered.registers_are_good count added counted) (numbered.registers_are_different count added) (omega arith) (omega arith)
          (numbered.lines_have_places count added counted) f.few_gates (subst (λ (n : ℕ). AreGatesOn n gates) (sym lines) f.placed) f.narrow;
      registers_are = refl;
      gates_are = refl;
    }
