-- What the top call answers, from how its run ends.
use Rattle.std.proofs.Common.{◌≡◌, ℕ, inl, inr, List, refl, ap, arith}
use Rattle.command_answers.specs.declared.fault.Fault.{Fault}
use Rattle.command_answers.specs.declared.fault.Fault.TheVariants.{Usage, Read, Write, Memory}
use Rattle.command_answers.specs.Faults.{Receives, line_of, status_of}
use Rattle.revc_driver.specs.Commands.{Gives, IsCause}
use Rattle.revc_driver.specs.Top.{Answers, Device, EndsWell, GrowsByPrefix, HoldsOfOrder, IsSureOf, RestsOnText, Rises, Run, Stopped}
use Rattle.revc_driver.specs.inside.Ends.{Fails, IsCausedBy, Succeeds}
use Rattle.revc_driver.proofs.OrderFactLemmas.{all_served, served}
use Rattle.revc_words.specs.Words.{OrderView}

-- ---- the fault of a status

never_zero : (fault : Fault) → status_of fault ≡ 0 → ⊥
never_zero Usage e = omega (arith, e)
never_zero fault e = omega (arith, e)

is_usage : (fault : Fault) → status_of fault ≡ 2 → fault ≡ Usage
is_usage Usage e = refl
is_usage fault e = absurd (omega (arith, e))

is_read : (fault : Fault) → status_of fault ≡ 9 → fault ≡ Read
is_read Read e = refl
is_read fault e = absurd (omega (arith, e))

is_write : (fault : Fault) → status_of fault ≡ 10 → fault ≡ Write
is_write Write e = refl
is_write fault e = absurd (omega (arith, e))

-- a fault that rests on the text has its cause there
rests : (order : OrderView) (text : List ℕ) (fault : Fault) → RestsOnText (status_of fault) → IsCausedBy fault order text → IsCause order text fault
rests order text Usage on cause = absurd (on.no_words refl)
rests order text Read on cause = absurd (on.no_read refl)
rests order text Write on cause = absurd (on.no_write refl)
rests order text (Memory _) on cause = absurd (on.no_memory refl)
rests order text fault on cause = cause

-- a sink that promises to take what the order gives takes it
surely_taken : (run : Run) (fault : Fault) → Fails run fault → ¬ Rises run.source
    → HoldsOfOrder run (λ order text. IsSureOf (Gives order text) run.out → EndsWell order text (status_of fault))
surely_taken run Write f calm = served run (λ order text. GrowsByPrefix (Gives order text) run.out) _
    (λ order text begun sure. absurd (begun.took.unpromised _ (omega arith) (sure.each begun.bytes begun.is))) (f.begins refl)
surely_taken run fault f calm = served run (λ order text. EndsWell order text (status_of fault)) _ (λ order text ends sure. ends)
    (f.completes (λ e. calm (f.read_fault e)) (λ e. absurd cc))

-- ---- the answer

pub succeeded : (run : Run) (err : Device) → Succeeds run → err.IsUnchanged → Answers run err 0
succeeded run err s quiet = record {
  gives = λ e. s.gives;
  begins = λ e. absurd (omega (arith, e));
  silent = λ other w. absurd (other refl);
  usage = λ e. absurd (omega (arith, e));
  no_order = λ none. absurd (s.ordered none);
  statuses = λ other. s.may;
  stops = λ on. absurd (on.no_success refl);
  exact = λ r m. s.exact;
  completes = λ i o. all_served run _ (λ order text. record { end = λ serves. inl refl });
  surely = λ i. all_served run _ (λ order text sure. record { end = λ serves. inl refl });
  read_fault = λ e. absurd (omega (arith, e));
  read_well = λ other. s.read_well;
  write_fault = λ e. absurd (omega (arith, e));
  written_well = λ other. s.written_well;
  message = λ other. absurd (other refl);
  quiet = λ e. quiet;
  unread = s.reads.unread;
  read_whole = λ u r m. s.whole;
  reads_few = s.reads.few;
}

pub failed : (run : Run) (err : Device) (fault : Fault) → Fails run fault → Receives err.old err.new err.before err.now (line_of fault)
    → Answers run err (status_of fault)
failed run err fault f line = record {
  gives = λ e. absurd (never_zero fault e);
  begins = λ e. f.begins (is_write fault e);
  silent = λ s other. f.silent (λ e. other (ap status_of e));
  usage = λ e. f.usage (is_usage fault e);
  no_order = λ none. elim (f.no_order none) [ inl e ↦ inl (ap status_of e) | inr e ↦ inr (ap status_of e) ];
  statuses = λ other. f.may (λ e. other (ap status_of e));
  stops = λ on. served run (IsCausedBy fault) (λ order text. Stopped order text (status_of fault) err)
      (λ order text cause. record { fault = fault; cause = rests order text fault on cause; caused = refl; line = line }) f.cause;
  exact = λ r m. f.exact (λ e. r (ap status_of e)) (λ e. m (ap status_of e));
  completes = λ i o. f.completes (λ e. i (f.read_fault e)) (λ e. o (f.write_fault e));
  surely = λ i. surely_taken run fault f i;
  read_fault = λ e. f.read_fault (is_read fault e);
  read_well = λ other. f.read_well (λ e. other (ap status_of e));
  write_fault = λ e. f.write_fault (is_write fault e);
  written_well = λ other. f.written_well (λ e. other (ap status_of e));
  message = λ other. record { fault = fault; caused = refl; line = line };
  quiet = λ e. absurd (never_zero fault e);
  unread = f.reads.unread;
  read_whole = λ u r m. f.whole (λ e. u (ap status_of e)) (λ e. r (ap status_of e)) (λ e. m (ap status_of e));
  reads_few = f.reads.few;
}
