-- A program whose run ends on every input has one tape.
use Rattle.std.proofs.Common.{◌≡◌, Bool, false, List, map, sum, replicate, refl, sym, ap, ◌∙◌}
use Rattle.std.proofs.lemmas.List.{length-replicate}
use Rattle.revc_base.specs.declared.place.Place.{Place}
use Rattle.revs_tape.specs.Tapes.{TapeView, outputs_on}
use Rattle.revs_terms.specs.declared.program.Param.{Param}
use Rattle.revs_terms.specs.Programs.{widths_of}
use Rattle.revs_terms.specs.Running.{Stamped, State, Outcome, stuck, went}
use Rattle.revs_terms.specs.Runs.{run_of_program, run_without_bits, IsInput, EndsOnAll, IsTapeOf, tape_of, OneTape, TapeGivesOutput}
use Rattle.revs_terms.specs.Trees.{Tree}
use Rattle.revs_terms.proofs.BitlessTapeLemmas.{same_for_all}
use Rattle.revs_terms.specs.declared.cause.Cause.{Cause}

zeros : List Param → List Bool
zeros params = replicate (sum (widths_of params)) false

zeros_are_input : (params : List Param) → IsInput params (zeros params)
unfolding zeros
zeros_are_input params = length-replicate (sum (widths_of params)) false

no_two_ends : (o : Outcome Bool (List (Stamped Bool))) (outputs : List (Stamped Bool)) (s : State Bool) (why : Cause) (at : Place) → o ≡ went outputs s
    → o ≡ stuck why at → ⊥
no_two_ends o outputs s why at e f = absurd cc

same_end : (o : Outcome Bool (List (Stamped Bool))) (a b : List (Stamped Bool)) (s t : State Bool) → o ≡ went a s → o ≡ went b t → (a ≡ b) × (s ≡ t)
same_end o a b s t e f = (cc, cc)

same_tape : (a b : TapeView) → a.params ≡ b.params → a.entries ≡ b.entries → a.claims ≡ b.claims → a.outputs ≡ b.outputs → a ≡ b
same_tape a b p e c o =
    ap (λ x. let t : TapeView = record { params = x; entries = a.entries; claims = a.claims; outputs = a.outputs } in t) p
    ∙ ap (λ x. let t : TapeView = record { params = b.params; entries = x; claims = a.claims; outputs = a.outputs } in t) e
    ∙ ap (λ x. let t : TapeView = record { params = b.params; entries = b.entries; claims = x; outputs = a.outputs } in t) c
    ∙ ap (λ x. let t : TapeView = record { params = b.params; entries = b.entries; claims = b.claims; outputs = x } in t) o

-- two tapes of a program are the same, as its run on the input of zeros shows
pub one_tape_at_most : (params : List Param) (body : Tree) (t other : TapeView) → IsTapeOf params body t → IsTapeOf params body other → other ≡ t
one_tape_at_most params body t other a b =
    let l = a.left (zeros params) (zeros_are_input params) in
    let m = b.left (zeros params) (zeros_are_input params) in
    let same = same_end (run_of_program params body (zeros params)) m.outputs l.outputs m.state l.state m.ends l.ends in
    same_tape other t (b.widths ∙ sym a.widths)
    (sym m.entries ∙ ap (λ (s : State Bool). s.log) same.1 ∙ l.entries)
    (sym m.claims ∙ ap (λ (s : State Bool). map (λ m. m.claim) s.claims) same.1 ∙ l.claims)
    (sym m.stamps ∙ ap (λ (os : List (Stamped Bool)). map (λ o. o.stamp) os) same.0 ∙ l.stamps)

tape_from : (params : List Param) (body : Tree) (o : Outcome (Unit {0}) (List (Stamped (Unit {0})))) → run_without_bits params body ≡ o
    → EndsOnAll params body → (t : TapeView) × IsTapeOf params body t
tape_from params body (stuck why at) e all =
    let one = all.ends (zeros params) (zeros_are_input params) in
    absurd (no_two_ends (run_of_program params body (zeros params)) one.1.outputs one.1.state why at one.1.ends
    ((same_for_all params body).0 why at e (zeros params) (zeros_are_input params)))
tape_from params body (went outputs s) e all = (tape_of params outputs s, (same_for_all params body).1 outputs s e)

pub one_tape : OneTape
one_tape params body all =
    let t = tape_from params body (run_without_bits params body) refl all in
    (t.0, t.1, λ other is. one_tape_at_most params body t.0 other t.1 is)

pub tape_gives_output : TapeGivesOutput
tape_gives_output params body t is input whole =
    let l = is.left input whole in
    record { outputs = l.outputs; state = l.state; ends = l.ends; bits = sym l.output_bits }

pub tape_ends : (params : List Param) (body : Tree) (t : TapeView) → IsTapeOf params body t → EndsOnAll params body
tape_ends params body t is = record { ends = λ input whole. (outputs_on t input, tape_gives_output params body t is input whole) }
