use Rattle.command_answers.proofs.messages.LinePiece.put.Goals as goal

pub returns-in-Claim-clause-bytes : goal.returns-in-Claim-clause-bytes
returns-in-Claim-clause-bytes g c = rw c.in-Claim.is (rw c.bits.ensures at c.put-in-Claim.ensures.bytes)

pub returns-in-Diagram-clause-bytes : goal.returns-in-Diagram-clause-bytes
returns-in-Diagram-clause-bytes g c = rw c.in-Diagram.is c.put-in-Diagram.ensures.bytes

pub returns-in-CircuitDiagram-clause-bytes : goal.returns-in-CircuitDiagram-clause-bytes
returns-in-CircuitDiagram-clause-bytes g c = rw c.in-CircuitDiagram.is c.put-in-CircuitDiagram.ensures.bytes

pub returns-in-Lines-clause-bytes : goal.returns-in-Lines-clause-bytes
returns-in-Lines-clause-bytes g c = rw c.in-Lines.is (rw c.two_numbers.ensures at c.put-in-Lines.ensures.bytes)

pub returns-in-FewOutputs-clause-bytes : goal.returns-in-FewOutputs-clause-bytes
returns-in-FewOutputs-clause-bytes g c = rw c.in-FewOutputs.is c.put-in-FewOutputs.ensures.bytes

pub returns-in-FewLines-clause-bytes : goal.returns-in-FewLines-clause-bytes
returns-in-FewLines-clause-bytes g c = rw c.in-FewLines.is (rw c.two_numbers-in-FewLines.ensures at c.put-in-FewLines.ensures.bytes)

pub returns-in-Differs-clause-bytes : goal.returns-in-Differs-clause-bytes
returns-in-Differs-clause-bytes g c = rw c.in-Differs.is (rw c.bits-in-Differs.ensures at c.put-in-Differs.ensures.bytes)

pub returns-in-NoPart-clause-bytes : goal.returns-in-NoPart-clause-bytes
returns-in-NoPart-clause-bytes g c = rw c.in-NoPart.is c.put-in-NoPart.ensures.bytes

pub returns-in-Unsettled-clause-bytes : goal.returns-in-Unsettled-clause-bytes
returns-in-Unsettled-clause-bytes g c = rw c.in-Unsettled.is c.put-in-Unsettled.ensures.bytes

pub returns-in-NoCircuit-clause-bytes : goal.returns-in-NoCircuit-clause-bytes
returns-in-NoCircuit-clause-bytes g c = rw c.in-NoCircuit.is c.put-in-NoCircuit.ensures.bytes

pub returns-in-NoInput-clause-bytes : goal.returns-in-NoInput-clause-bytes
returns-in-NoInput-clause-bytes g c = rw c.in-NoInput.is c.put-in-NoInput.ensures.bytes
