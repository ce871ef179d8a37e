-- The claims of a text are settled, or one fault stops them.
use Rattle.std.proofs.Common.{◌≡◌, ℕ, ◌+◌, ◌<◌, List, [], Bool, None, Some, Option, length, refl, sym, ap, ◌∙◌, subst, arith}
use Rattle.std.specs.Prelude.{slice_get, slice_index_or, IfSome}
use Rattle.std.proofs.lemmas.Option.{same_Some, get_or_from_slice_get}
use Rattle.claim_assumptions.proofs.OneWayLemmas.{assumptions_end_in_one_way}
use Rattle.claim_assumptions.proofs.PlaceLemmas.{breaks_inside, found, passes_inside, some_inside}
use Rattle.claim_assumptions.specs.Settling.{BreaksAssuming, CanBeMet, HoldAssuming, IsVacuous, PassesAssuming}
use Rattle.revc_base.specs.declared.place.Place.{Place}
use Rattle.revs_tape.specs.declared.tape.Claim.{Claim}
use Rattle.revs_tape.specs.Tapes.{TapeView}
use Rattle.revs_parser.proofs.OneTextLemmas.{one_formed}
use Rattle.revs_parser.specs.WellFormed.{IsWellFormed}
use Rattle.revs_terms.proofs.TapeLemmas.{one_tape_at_most}
use Rattle.revs_terms.specs.Runs.{IsTapeOf}
use Rattle.revs_terms.specs.Views.{ProgramView}
use Rattle.command_answers.specs.declared.fault.Fault.{Fault}
use Rattle.command_answers.specs.declared.fault.Fault.TheVariants as faults
use Rattle.command_answers.specs.declared.fault.Refusal.{Refusal}
use Rattle.program_texts.specs.Refusals.{IsRefusal}
use Rattle.program_texts.specs.Settling.{LeavesTape, LeavesSettled, BreaksClaim, MeetsNoInput, PassesNodes, StandsAt, StopsSettling, ForTexts}
use Rattle.program_texts.specs.Outcomes.{IsSettlingFault}
use Rattle.program_texts.proofs.RefusalLemmas.{one_refusal, never_refused}

-- a text leaves one tape
pub one_left : (text : List ℕ) (tape other : TapeView) → LeavesTape text tape → LeavesTape text other → other ≡ tape
one_left text tape other l m = one_tape_at_most l.program.params l.program.body tape other l.tape_of
    (subst (λ (p : ProgramView). IsTapeOf p.params p.body other) (one_formed text m.program l.program m.formed l.formed) m.tape_of)

-- a well-formed text has no refusal
left_or_refused : (text : List ℕ) (tape : TapeView) (refusal : Refusal) → LeavesTape text tape → IsRefusal text refusal → ⊥
left_or_refused text tape refusal l h = never_refused text l.program refusal l.formed h

-- ---- where the claims hold, none stops

pub settled_or_stopped : (text : List ℕ) (assumed nodes : ℕ) (tape : TapeView) (fault : Fault) → LeavesSettled text assumed nodes tape
    → StopsSettling text assumed nodes fault → ⊥
settled_or_stopped text assumed nodes tape (faults.Refused refusal) l h = left_or_refused text tape refusal l.left h
settled_or_stopped text assumed nodes tape faults.NoInput l h =
    let same : tape ≡ h.tape = one_left text h.tape tape h.left l.left in
    (assumptions_end_in_one_way h.tape assumed nodes).not_vacuous (subst (λ (t : TapeView). CanBeMet t assumed nodes) same l.hold.meets) h.vacuous
settled_or_stopped text assumed nodes tape (faults.Claim number at bits) l h =
    let same : tape ≡ h.tape = one_left text h.tape tape h.left l.left in
    (assumptions_end_in_one_way h.tape assumed nodes).no_break (subst (λ (t : TapeView). HoldAssuming t assumed nodes) same l.hold) h.before bits h.breaks
settled_or_stopped text assumed nodes tape (faults.Diagram number at limit) l h =
    let same : tape ≡ h.0.tape = one_left text h.0.tape tape h.0.left l.left in
    (assumptions_end_in_one_way h.0.tape assumed nodes).no_passing (subst (λ (t : TapeView). HoldAssuming t assumed nodes) same l.hold) h.0.before
    h.0.passes
settled_or_stopped text assumed nodes tape fault l h = h

-- ---- one fault stops them

one_place : (t u : TapeView) (number other : ℕ) (at there : Place) → t ≡ u → number ≡ other → StandsAt t number at → StandsAt u other there → at ≡ there
one_place t u number other at there same one a b =
    let here : slice_get u.claims other ≡ Some a.claim = sym (ap (slice_get u.claims) one)
    ∙ sym (ap (λ (x : TapeView). slice_get x.claims number) same) ∙ a.is_claim in
    let is : a.claim ≡ b.claim = same_Some a.claim b.claim (sym here ∙ b.is_claim) in
    a.place ∙ ap (λ (c : Claim). c.at) is ∙ sym b.place

one_claim : (number other : ℕ) (at there : Place) (bits others : List Bool) → number ≡ other → at ≡ there → bits ≡ others
    → faults.Claim number at bits ≡ faults.Claim other there others
one_claim number other at there bits others n p b = cc

one_diagram : (number other : ℕ) (at there : Place) (limit most : ℕ) → number ≡ other → at ≡ there → limit ≡ most
    → faults.Diagram number at limit ≡ faults.Diagram other there most
one_diagram number other at there limit most n p l = cc

module _ (text : List ℕ) (assumed nodes : ℕ) where
  one_break : (number other : ℕ) (at there : Place) (bits others : List Bool) → BreaksClaim text assumed nodes number at bits
      → BreaksClaim text assumed nodes other there others → faults.Claim number at bits ≡ faults.Claim other there others
  one_break number other at there bits others a b =
      let same : a.tape ≡ b.tape = one_left text b.tape a.tape b.left a.left in
      let one = (assumptions_end_in_one_way b.tape assumed nodes).one_break a.before b.before bits others
      (subst (λ (t : TapeView). BreaksAssuming t assumed nodes a.before bits) same a.breaks) b.breaks in
      one_claim number other at there bits others (a.count ∙ ap (λ n. n + 1) one.0 ∙ sym b.count)
      (one_place a.tape b.tape a.before b.before at there same one.0 a.stands b.stands) one.1

  one_passing : (number other : ℕ) (at there : Place) (limit most : ℕ) → PassesNodes text assumed nodes number at → limit ≡ nodes
      → PassesNodes text assumed nodes other there → most ≡ nodes → faults.Diagram number at limit ≡ faults.Diagram other there most
  one_passing number other at there limit most a l b m =
      let same : a.tape ≡ b.tape = one_left text b.tape a.tape b.left a.left in
      let one = (assumptions_end_in_one_way b.tape assumed nodes).one_passing a.before b.before
      (subst (λ (t : TapeView). PassesAssuming t assumed nodes a.before) same a.passes) b.passes in
      one_diagram number other at there limit most (a.count ∙ ap (λ n. n + 1) one ∙ sym b.count)
      (one_place a.tape b.tape a.before b.before at there same one a.stands b.stands) (l ∙ sym m)

  break_or_pass : (number other : ℕ) (at there : Place) (bits : List Bool) → BreaksClaim text assumed nodes number at bits
      → PassesNodes text assumed nodes other there → ⊥
  break_or_pass number other at there bits a b =
      let same : a.tape ≡ b.tape = one_left text b.tape a.tape b.left a.left in
      (assumptions_end_in_one_way b.tape assumed nodes).never_both a.before b.before bits
      (subst (λ (t : TapeView). BreaksAssuming t assumed nodes a.before bits) same a.breaks) b.passes

  none_or_break : (number : ℕ) (at : Place) (bits : List Bool) → MeetsNoInput text assumed nodes → BreaksClaim text assumed nodes number at bits → ⊥
  none_or_break number at bits a b =
      let same : a.tape ≡ b.tape = one_left text b.tape a.tape b.left a.left in
      (assumptions_end_in_one_way b.tape assumed nodes).not_vacuous b.breaks.meets
      (subst (λ (t : TapeView). IsVacuous t assumed nodes) same a.vacuous)

  none_or_pass : (number : ℕ) (at : Place) → MeetsNoInput text assumed nodes → PassesNodes text assumed nodes number at → ⊥
  none_or_pass number at a b =
      let same : a.tape ≡ b.tape = one_left text b.tape a.tape b.left a.left in
      (assumptions_end_in_one_way b.tape assumed nodes).vacuous_or_passing
      (subst (λ (t : TapeView). IsVacuous t assumed nodes) same a.vacuous) b.before b.passes

  pub one_stop : (fault other : Fault) → StopsSettling text assumed nodes fault → StopsSettling text assumed nodes other → fault ≡ other
  one_stop (faults.Refused refusal) (faults.Refused other) a b = ap (λ (r : Refusal). faults.Refused r) (one_refusal text refusal other a b)
  one_stop (faults.Refused refusal) faults.NoInput a b = absurd (left_or_refused text b.tape refusal b.left a)
  one_stop (faults.Refused refusal) (faults.Claim number at bits) a b = absurd (left_or_refused text b.tape refusal b.left a)
  one_stop (faults.Refused refusal) (faults.Diagram number at limit) a b = absurd (left_or_refused text b.0.tape refusal b.0.left a)
  one_stop faults.NoInput (faults.Refused refusal) a b = absurd (left_or_refused text a.tape refusal a.left b)
  one_stop faults.NoInput faults.NoInput a b = refl
  one_stop faults.NoInput (faults.Claim number at bits) a b = absurd (none_or_break number at bits a b)
  one_stop faults.NoInput (faults.Diagram number at limit) a b = absurd (none_or_pass number at a b.0)
  one_stop (faults.Claim number at bits) (faults.Refused refusal) a b = absurd (left_or_refused text a.tape refusal a.left b)
  one_stop (faults.Claim number at bits) faults.NoInput a b = absurd (none_or_break number at bits b a)
  one_stop (faults.Claim number at bits) (faults.Claim other there others) a b = one_break number other at there bits others a b
  one_stop (faults.Claim number at bits) (faults.Diagram other there limit) a b = absurd (break_or_pass number other at there bits a b.0)
  one_stop (faults.Diagram number at limit) (faults.Refused refusal) a b = absurd (left_or_refused text a.0.tape refusal a.0.left b)
  one_stop (faults.Diagram number at limit) faults.NoInput a b = absurd (none_or_pass number at b a.0)
  one_stop (faults.Diagram number at limit) (faults.Claim other there others) a b = absurd (break_or_pass other number there at others b a.0)
  one_stop (faults.Diagram number at limit) (faults.Diagram other there most) a b = one_passing number other at there limit most a.0 a.1 b.0 b.1
  one_stop (faults.Refused refusal) other a b = absurd b
  one_stop faults.NoInput other a b = absurd b
  one_stop (faults.Claim number at bits) other a b = absurd b
  one_stop (faults.Diagram number at limit) other a b = absurd b
  one_stop fault other a b = absurd a

-- ---- from the fault of a tape's claims to that of its texts

-- a text whose program makes no claim leaves a tape without claims
no_claim : (text : List ℕ) (p : ProgramView) (tape : TapeView) (before : ℕ) → IsWellFormed text p
    → ((t : TapeView) → IsTapeOf p.params p.body t → t.claims ≡ []) → LeavesTape text tape → before < length tape.claims → ⊥
no_claim text p tape before formed none left inside =
    let same : left.program ≡ p = one_formed text left.program p left.formed formed in
    let is : length tape.claims ≡ 0 = ap length (none tape (subst (λ (q : ProgramView). IsTapeOf q.params q.body tape) same left.tape_of)) in
    omega (arith, inside, is)

-- and nothing stops it
pub never_stopped : (text : List ℕ) (assumed nodes : ℕ) (p : ProgramView) (fault : Fault) → IsWellFormed text p
    → ((t : TapeView) → IsTapeOf p.params p.body t → t.claims ≡ []) → StopsSettling text assumed nodes fault → ⊥
never_stopped text assumed nodes p (faults.Refused refusal) formed none h = never_refused text p refusal formed h
never_stopped text assumed nodes p faults.NoInput formed none h =
    no_claim text p h.tape 0 formed none h.left (some_inside h.tape assumed h.vacuous.some)
never_stopped text assumed nodes p (faults.Claim number at bits) formed none h =
    no_claim text p h.tape h.before formed none h.left (breaks_inside h.tape assumed nodes h.before bits h.breaks)
never_stopped text assumed nodes p (faults.Diagram number at limit) formed none h =
    no_claim text p h.0.tape h.0.before formed none h.0.left (passes_inside h.0.tape assumed nodes h.0.before h.0.passes)
never_stopped text assumed nodes p fault formed none h = h

pub broken_stops : (tape : TapeView) (assumed nodes before : ℕ) (bits : List Bool) (fault : Fault) → BreaksAssuming tape assumed nodes before bits
    → IfSome (slice_get tape.claims before) (λ c. fault ≡ faults.Claim (before + 1) c.at bits)
    → ForTexts tape (λ text. IsSettlingFault text assumed nodes fault)
broken_stops tape assumed nodes before bits fault breaks is =
    let there = found tape.claims before (breaks_inside tape assumed nodes before bits breaks) in
    let same : fault ≡ faults.Claim (before + 1) there.0.at bits = subst
    (λ (o : Option Claim). IfSome o (λ c. fault ≡ faults.Claim (before + 1) c.at bits)) there.1 is in
    record {
      of_text = λ text left. subst (IsSettlingFault text assumed nodes) (sym same) (record {
        tape = tape;
        left = left;
        before = before;
        breaks = breaks;
        count = refl;
        stands = record { claim = there.0; is_claim = there.1; place = refl };
      });
    }

pub passing_stops : (tape : TapeView) (assumed nodes before number : ℕ) (at : Place) → PassesAssuming tape assumed nodes before → number ≡ before + 1
    → IfSome (slice_get tape.claims before) (λ c. at ≡ c.at)
    → ForTexts tape (λ text. IsSettlingFault text assumed nodes (faults.Diagram number at nodes))
passing_stops tape assumed nodes before number at passes count place =
    let there = found tape.claims before (passes_inside tape assumed nodes before passes) in
    record {
      of_text = λ text left. (
        record {
          tape = tape;
          left = left;
          before = before;
          passes = passes;
          count = count;
          stands = record {
            claim = there.0;
            is_claim = there.1;
            place = subst (λ (o : Option Claim). IfSome o (λ c. at ≡ c.at)) there.1 place;
          };
        },
        refl,
      );
    }

pub vacuous_stops : (tape : TapeView) (assumed nodes : ℕ) → IsVacuous tape assumed nodes
    → ForTexts tape (λ text. IsSettlingFault text assumed nodes faults.NoInput)
vacuous_stops tape assumed nodes vacuous = record { of_text = λ text left. record { tape = tape; left = left; vacuous = vacuous } }

pub memory_stops : (tape : TapeView) (assumed nodes : ℕ) → ForTexts tape (λ text. IsSettlingFault text assumed nodes (faults.Memory _))
memory_stops tape assumed nodes = record { of_text = λ text left. tt }

-- the fault of a claim that fails, from its number and its place
pub claim_named : (claims : List Claim) (claim number : ℕ) (at : Place) (bits : List Bool) → number ≡ claim + 1
    → IfSome (slice_get claims claim) (λ c. at ≡ c.at) → IfSome (slice_get claims claim) (λ c. faults.Claim number at bits ≡ faults.Claim (claim + 1) c.at bits)
claim_named claims claim number at bits count place = of_found (slice_get claims claim) place
  where
    of_found : (found : Option Claim) → IfSome found (λ c. at ≡ c.at) → IfSome found (λ c. faults.Claim number at bits ≡ faults.Claim (claim + 1) c.at bits)
    of_found None h = tt
    of_found (Some c) h = one_claim number (claim + 1) at c.at bits bits count h refl

-- what is read at the place of a claim
pub place_of : (claims lent : List Claim) (number : ℕ) (d : Claim) → lent ≡ claims
    → IfSome (slice_get claims number) (λ c. (slice_index_or lent number d).at ≡ c.at)
place_of claims lent number d same = subst (λ (cs : List Claim). IfSome (slice_get claims number) (λ c. (slice_index_or cs number d).at ≡ c.at)) (sym same)
    (at_number claims number (slice_get claims number) d refl)
  where
    at_number : (claims : List Claim) (number : ℕ) (found : Option Claim) (d : Claim) → slice_get claims number ≡ found
        → IfSome found (λ c. (slice_index_or claims number d).at ≡ c.at)
    at_number claims number None d e = tt
    at_number claims number (Some claim) d e = ap (λ (c : Claim). c.at) (get_or_from_slice_get claims number claim d e)
