-- The status of each fault, and the line of standard error that says it.
use Rattle.std.specs.Prelude.{ℕ, ◌⊎◌, Bool, List, ◌++◌, Option, codes}
use Rattle.std.specs.Fmt.{decimal}
use Rattle.revc_base.specs.declared.place.Place.{Place}
use Rattle.revc_io.specs.Faults.{Rose}
use Rattle.revc_io.specs.Held.{Held, IsFlushed, Took, TookFront}
use Rattle.revs_terms.specs.Causes.{cause_word}
use Rattle.command_answers.specs.Lines.{digits_of}
use Rattle.command_answers.specs.declared.fault.Fault.{Fault}
use Rattle.command_answers.specs.declared.fault.Fault.TheVariants.{Usage, Refused, Claim, Diagram, CircuitDiagram, Lines, Gates, Circuit}
use Rattle.command_answers.specs.declared.fault.Fault.TheVariants.{BadBits, FewOutputs, FewLines, WideGate, Differs, Unsettled, NoPart, NoCircuit, NoInput}
use Rattle.command_answers.specs.declared.fault.Fault.TheVariants.{Read, Write, Memory}
use Rattle.command_answers.specs.declared.fault.CircuitRefusal.{CircuitRefusal}
use Rattle.command_answers.specs.declared.fault.CircuitRefusal.TheVariants as circuits
use Rattle.command_answers.specs.declared.fault.FaultKind.{FaultKind}
use Rattle.command_answers.specs.declared.fault.FaultKind.TheVariants.{BadByte, LongName, LongNumber, Syntax, Nesting, Inputs, Unbound, TwoParams, Stuck}
use Rattle.command_answers.specs.declared.fault.Refusal.{Refusal}
use Rattle.command_answers.specs.declared.fault.Refusal.TheVariants.{TooLong, At}

-- the status of each fault
abbrev pub status_of : Fault → ℕ
status_of Usage = 2
status_of (Refused refusal) = 3
status_of (Claim number at bits) = 4
status_of (Diagram number at limit) = 5
status_of (CircuitDiagram limit) = 5
status_of (Lines need limit) = 6
status_of (Gates limit) = 7
status_of (Circuit refusal) = 8
status_of Read = 9
status_of Write = 10
status_of (Memory _) = 11
status_of (BadBits word) = 12
status_of (FewLines lines need) = 13
status_of (WideGate number) = 14
status_of (Differs line bits) = 15
status_of NoPart = 16
status_of Unsettled = 17
status_of (FewOutputs inputs outputs) = 18
status_of NoCircuit = 19
status_of NoInput = 20

abbrev pub kind_text : FaultKind → List ℕ
kind_text BadByte = codes "BadByte"
kind_text LongName = codes "LongName"
kind_text LongNumber = codes "LongNumber"
kind_text Syntax = codes "Syntax"
kind_text Nesting = codes "Nesting"
kind_text Inputs = codes "Inputs"
kind_text Unbound = codes "Unbound"
kind_text TwoParams = codes "TwoParams"
kind_text (Stuck cause) = cause_word cause

-- a place as a line shows it: `L:C`
abbrev pub place_text : Place → List ℕ
place_text at = decimal at.line ++ (codes ":" ++ decimal at.column)

-- the line of a refusal
abbrev pub refusal_line : Refusal → List ℕ
refusal_line TooLong = codes "revc: source over 1048576 bytes\n"
refusal_line (At kind at) =
    codes "revc: " ++ (place_text at ++ (codes " " ++ (kind_text kind ++ codes "\n")))

-- the line of a claim that fails on these bits
abbrev pub claim_line : ℕ → Place → List Bool → List ℕ
claim_line number at bits =
    codes "revc: claim " ++ (decimal number ++ (codes " at " ++ (place_text at
    ++ (codes " fails on " ++ (digits_of bits ++ codes "\n")))))

-- the line of a claim with which the diagrams pass the limit
abbrev pub diagram_line : ℕ → Place → ℕ → List ℕ
diagram_line number at limit =
    codes "revc: claim " ++ (decimal number ++ (codes " at " ++ (place_text at
    ++ (codes " passes " ++ (decimal limit ++ codes " nodes\n")))))

-- the line of a circuit text that is refused
abbrev pub circuit_line : CircuitRefusal → List ℕ
circuit_line circuits.TooLong = codes "revc: circuit over 134217728 bytes\n"
circuit_line (circuits.Line number) =
    codes "revc: circuit line " ++ (decimal number ++ codes "\n")
circuit_line (circuits.LineLimit number) =
    codes "revc: circuit line " ++ (decimal number ++ codes " over a limit\n")
circuit_line (circuits.Token at) = codes "revc: circuit at " ++ (place_text at ++ codes "\n")
circuit_line (circuits.TokenLimit at) =
    codes "revc: circuit at " ++ (place_text at ++ codes " over a limit\n")

-- a line of two numbers, each behind a text
abbrev pub two_numbers_line : List ℕ → ℕ → List ℕ → ℕ → List ℕ
two_numbers_line head one between other =
    head ++ (decimal one ++ (between ++ (decimal other ++ codes "\n")))

-- the line of a budget of lines that is passed
abbrev pub lines_line : ℕ → ℕ → List ℕ
lines_line need limit = two_numbers_line (codes "revc: lines ") need (codes " over ") limit

-- the line of a budget of gates that is passed
abbrev pub gates_line : ℕ → List ℕ
gates_line limit = codes "revc: more than " ++ (decimal limit ++ codes " gates\n")

-- the line of a bit word that does not fit
abbrev pub bits_line : ℕ → List ℕ
bits_line word = codes "revc: bad bits in word " ++ (decimal word ++ codes "\n")

-- the line of a circuit with which the diagrams pass the limit
abbrev pub circuit_diagram_line : ℕ → List ℕ
circuit_diagram_line limit = codes "revc: circuit passes " ++ (decimal limit ++ codes " nodes\n")

-- the line of a program that has fewer outputs than inputs
abbrev pub few_outputs_line : ℕ → ℕ → List ℕ
few_outputs_line inputs outputs =
    codes "revc: "
    ++ (decimal inputs ++ (codes " inputs have only " ++ (decimal outputs ++ codes " outputs\n")))

-- the line of a circuit that has too few lines
abbrev pub few_lines_line : ℕ → ℕ → List ℕ
few_lines_line lines need =
    two_numbers_line (codes "revc: circuit has ") lines (codes " lines, needs ") need

-- the line of a gate that is no flip with at most two controls, all positive
abbrev pub wide_gate_line : ℕ → List ℕ
wide_gate_line number = codes "revc: gate " ++ (decimal number ++ codes " is not X, CX or CCX\n")

-- the line of a circuit that differs from a program on these bits
abbrev pub differs_line : ℕ → List Bool → List ℕ
differs_line line bits =
    codes "revc: circuit differs at line "
    ++ (decimal line ++ (codes " on " ++ (digits_of bits ++ codes "\n")))

-- the line of each fault
abbrev pub line_of : Fault → List ℕ
line_of Usage = codes "revc: bad command line\n"
line_of (Refused refusal) = refusal_line refusal
line_of (Claim number at bits) = claim_line number at bits
line_of (Diagram number at limit) = diagram_line number at limit
line_of (CircuitDiagram limit) = circuit_diagram_line limit
line_of (Lines need limit) = lines_line need limit
line_of (Gates limit) = gates_line limit
line_of (Circuit refusal) = circuit_line refusal
line_of (BadBits word) = bits_line word
line_of (FewOutputs inputs outputs) = few_outputs_line inputs outputs
line_of (FewLines lines need) = few_lines_line lines need
line_of (WideGate number) = wide_gate_line number
line_of (Differs line bits) = differs_line line bits
line_of Unsettled = codes "revc: circuit is not settled by sums\n"
line_of NoPart = codes "revc: no parting line\n"
line_of NoCircuit = codes "revc: no circuit in place was found\n"
line_of NoInput = codes "revc: no input meets the assumptions\n"
line_of Read = codes "revc: read fault\n"
line_of Write = codes "revc: write fault\n"
line_of (Memory _) = codes "revc: out of memory\n"

-- the sink received the whole line, and holds nothing back, where it tells that; or a prefix of it
-- where its count of faults rose
abbrev pub Receives : Held → Held → ℕ → ℕ → List ℕ → Type 0
Receives old new before now line =
    (Took old new line × IsFlushed new) ⊎ (Rose before now × TookFront old new line)
