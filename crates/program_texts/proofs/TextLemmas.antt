-- Each layer's fault, as a refusal of the text.
use Rattle.std.proofs.Common.{◌≡◌, ℕ, List, Result, refl, sym, subst}
use Rattle.std.specs.Result.{IfErr, IsErrAnd}
use Rattle.std.proofs.lemmas.Result.{err_from_is_err_and}
use Rattle.command_answers.specs.declared.fault.Fault.{Fault}
use Rattle.command_answers.specs.declared.fault.Fault.TheVariants as faults
use Rattle.command_answers.specs.declared.fault.FaultKind.TheVariants as kinds
use Rattle.command_answers.specs.declared.fault.Refusal.TheVariants as refusals
use Rattle.revs_grammar.specs.Answers.{IsInputs}
use Rattle.revs_grammar.specs.Faults.{IsSyntax, IsNesting}
use Rattle.revs_lexer.specs.declared.token.Token.{Token}
use Rattle.revs_parser.specs.declared.program.ParseFault.{ParseFault}
use Rattle.revs_parser.specs.declared.program.ParseFault.TheVariants as parser
use Rattle.revc_base.specs.declared.place.Place.{Place}
use Rattle.revs_run.specs.Faults.{IsRefused as IsStuckAlways}
use Rattle.revs_run.specs.declared.fault.RunFault.TheVariants as runs
use Rattle.revs_terms.specs.Scopes.{scope_verdict, bound_as}
use Rattle.revs_terms.specs.declared.cause.Cause.{Cause}
use Rattle.revs_terms.specs.declared.program.Param.{Param}
use Rattle.revs_parser.specs.WellFormed.{IsProgramText, IsWellFormed}
use Rattle.revs_terms.specs.Runs.{IsTapeOf}
use Rattle.revs_terms.proofs.TapeLemmas.{tape_ends}
use Rattle.revs_tape.specs.Tapes.{TapeView}
use Rattle.program_texts.specs.Outcomes.{IsEvalFault, IsSettlingFault, IsTextFault}
use Rattle.program_texts.specs.Refusals.{IsRefusal}
use Rattle.program_texts.specs.Settling.{LeavesTape}
use Rattle.program_texts.specs.inside.Stages.{ForTextsOf, IsBoundAs, IsRefusedList}
use Rattle.revs_terms.specs.Views.{ProgramView}

-- ---- calls that fail

-- what the fault of a `?` is made of says what the exit returns
pub so_fails : {T E : Type 0} (P Q : E → Type 0) (r : Result T E) → IsErrAnd r P → ((fault : E) → P fault → Q fault) → IfErr r Q
so_fails P Q r failed say = let p = err_from_is_err_and r failed in rw p.1 (say p.0 p.2)

-- what is said of a parser's fault, from its clauses
pub refused_list : (tokens : List Token) (fault : ParseFault) → ((number : ℕ) (at : Place) → fault ≡ parser.Syntax number at → IsSyntax tokens number at)
    → ((at : Place) → fault ≡ parser.Nesting at → IsNesting tokens at) → ((at : Place) → fault ≡ parser.Inputs at → IsInputs tokens at)
    → IsRefusedList tokens fault
refused_list tokens (parser.Syntax number at) s n i = s number at refl
refused_list tokens (parser.Nesting at) s n i = n at refl
refused_list tokens (parser.Inputs at) s n i = i at refl
refused_list tokens (parser.Memory _) s n i = tt

-- the run of a program with its names bound is stuck
pub stuck : (p bound : ProgramView) (cause : Cause) (at : Place) → IsBoundAs p bound → IsStuckAlways bound.params bound.body (runs.Stuck cause at)
    → ForTextsOf p (λ text. IsRefusal text (refusals.At (kinds.Stuck cause) at))
stuck p bound cause at b r =
    let always = subst (λ (ps : List Param). IsStuckAlways ps bound.body (runs.Stuck cause at)) b.params r in
    record { of_text = λ text is. (is.short, (p, is, (bound.body, b.body, always.stuck))) }

-- ---- what holds for each text

-- the program of a text with its names bound leaves a tape, and so the text is well formed
formed : (text : List ℕ) (p bound : ProgramView) (tape : TapeView) → IsProgramText text p → IsBoundAs p bound → IsTapeOf bound.params bound.body tape
    → IsWellFormed text bound
formed text p bound tape is b of = record {
  unbound = p.body;
  text_of = subst (λ (params : List Param). IsProgramText text (record p { params = params })) (sym b.params) is;
  bound = subst (λ (params : List Param). scope_verdict params p.body ≡ bound_as bound.body) (sym b.params) b.body;
  run = tape_ends bound.params bound.body tape of;
}

pub leaves_tape : (p bound : ProgramView) (tape : TapeView) → IsBoundAs p bound → IsTapeOf bound.params bound.body tape
    → ForTextsOf p (λ text. LeavesTape text tape)
leaves_tape p bound tape b of =
    record { of_text = λ text is. record { program = bound; formed = formed text p bound tape is b of; tape_of = of } }

-- ---- the fault of a text is one of each command

pub stops_settling : (text : List ℕ) (assumed nodes : ℕ) (fault : Fault) → IsTextFault text fault → IsSettlingFault text assumed nodes fault
stops_settling text assumed nodes (faults.Refused (refusals.At kind at)) h = h
stops_settling text assumed nodes (faults.Refused refusals.TooLong) h = absurd h
stops_settling text assumed nodes (faults.Memory _) h = tt
stops_settling text assumed nodes fault h = absurd h

pub stops_eval : (text word : List ℕ) (fault : Fault) → IsTextFault text fault → IsEvalFault text word fault
stops_eval text word (faults.Refused (refusals.At kind at)) h = h
stops_eval text word (faults.Refused refusals.TooLong) h = absurd h
stops_eval text word (faults.Memory _) h = tt
stops_eval text word fault h = absurd h
