-- How a run ends at each of its exits.
use Rattle.std.proofs.Common.{◌≡◌, ℕ, ◌+◌, ◌<◌, inl, inr, List, Some, Ok, Err, replicate, refl, sym, ap, ◌∙◌, subst, arith, length}
use Rattle.std.specs.Prelude.{◌⊎◌, ◌↔◌, ◌≢◌, Option, IfSome, Result, IsErrOf, IsErrAnd}
use Rattle.std.proofs.lemmas.List.{length-replicate}
use Rattle.revc_io.specs.Held.{Held, IsFlushed, Took, TookFront}
use Rattle.revc_io.specs.declared.reading.ReadFault.{ReadFault}
use Rattle.revc_io.specs.declared.reading.ReadFault.TheVariants as reading
use Rattle.command_answers.specs.declared.fault.Fault.{Fault}
use Rattle.command_answers.specs.declared.fault.Fault.TheVariants.{Usage, Read, Write, Memory}
use Rattle.command_answers.specs.declared.limit.TextLimit.{TextLimit}
use Rattle.command_answers.specs.Faults.{status_of}
use Rattle.command_answers.specs.Outcomes.{HasOneOutcome, IsFaultOfText, IsOfText}
use Rattle.revc_driver.specs.Commands.{Gives, IsCause, promise_of, reads_of, text_told}
use Rattle.revc_driver.specs.Top.{EndsWell, Grows, GrowsByPrefix, IsCalm, IsReadWhole, IsStatusOfAll, Rises, Run, HoldsOfOrder, device, run_of, source_device}
use Rattle.revc_driver.specs.inside.Ends.{Ends, Fails, IsCauseOrMemory, IsCausedBy, IsReadFrom, IsUnreadFor, Reads, Succeeds}
use Rattle.revc_driver.specs.inside.Mappings.{reading_fault, words_fault}
use Rattle.revc_driver.proofs.OrderFactLemmas.{all_served, cause_may, if_some, long_whole, memory_may, none_served, of_read, read_may, reads_none, reads_some}
use Rattle.revc_driver.proofs.OrderFactLemmas.{reads_whole, serve, success_may, whole, write_may}
use Rattle.revc_words.specs.declared.fault.WordsFault.{WordsFault}
use Rattle.revc_words.specs.declared.fault.WordsFault.TheVariants as words
use Rattle.revc_words.specs.Words.{OrderView, IsOrder, HasNoOrder}

-- ---- the words

-- memory is wanting
pub memory_failed : (run : Run) → run.out.IsUnchanged → IsCalm run.out → IsCalm run.source → Reads run → Fails run (Memory _)
memory_failed run same written_well read_well reads = record {
  usage = λ e. absurd cc;
  no_order = λ none. inr refl;
  may = λ other. memory_may run.words;
  cause = all_served run (IsCausedBy (Memory _)) (λ order text. tt);
  begins = λ e. absurd cc;
  silent = λ other. same;
  exact = λ r m. absurd (m refl);
  completes = λ r w. all_served run _ (λ order text. record { end = λ serves. inr refl });
  whole = λ u r m. absurd (m refl);
  reads = reads;
  read_fault = λ e. absurd cc;
  read_well = λ other. read_well;
  write_fault = λ e. absurd cc;
  written_well = λ other. written_well;
}

pub words_failed : {S K : Type 0} (rest : S → Option (List ℕ)) (faults : S → ℕ) (held : K → Held) (counts : K → ℕ) (source : S) (out : K)
    (all : List (List ℕ)) (fault : WordsFault) → (fault ≡ words.Usage → HasNoOrder all)
    → Fails (run_of all (source_device rest faults source source) (device held counts out out)) (words_fault fault)
words_failed {S} {K} rest faults held counts source out all words.Usage none =
    let run : Run = run_of all (source_device rest faults source source) (device held counts out out) in
    record {
      usage = λ e. none refl;
      no_order = λ e. inl refl;
      may = λ other. absurd (other refl);
      cause = all_served run (IsCausedBy Usage) (λ order text. tt);
      begins = λ e. absurd cc;
      silent = λ other. refl;
      exact = λ r m. none_served run _ (none refl);
      completes = λ r w. none_served run _ (none refl);
      whole = λ other r m. absurd (other refl);
      reads = reads_none run refl refl;
      read_fault = λ e. absurd cc;
      read_well = λ other. refl;
      write_fault = λ e. absurd cc;
      written_well = λ other. refl;
    }
words_failed {S} {K} rest faults held counts source out all (words.Memory _) none =
    let run : Run = run_of all (source_device rest faults source source) (device held counts out out) in
    memory_failed run refl refl refl (reads_none run refl refl)

-- the words give no order where the reader of words says so
pub usage_of : {T : Type 0} (all : List (List ℕ)) (fault : WordsFault) (result : Result T WordsFault) → result ≡ Err fault
    → (result ≢ Err (words.Memory _) → IsErrOf result words.Usage ↔ HasNoOrder all) → fault ≡ words.Usage → HasNoOrder all
usage_of {T} all fault result is says same =
    (says (λ e. let both = sym is ∙ e in absurd cc)).0 (is ∙ ap (λ (f : WordsFault). let r : Result T WordsFault = Err f in r) same)

-- the exit of a `?` ends a run with its fault
pub ends_failed : {T : Type 0} {fault : Fault} (run : Run) (result : Result T Fault) → IsErrAnd result (λ e. e ≡ fault) → Fails run fault → Ends run result
ends_failed {T} {fault} run (Ok x) is fails = absurd is
ends_failed {T} {fault} run (Err other) is fails = subst (Fails run) (sym is) fails

-- ---- faults that rest on the text

other_fault : (fault other : Fault) → IsOfText fault → (IsOfText other → ⊥) → fault ≡ other → ⊥
other_fault fault other of_text none e = none (subst IsOfText e of_text)

caused : (order : OrderView) (text : List ℕ) (fault : Fault) → IsOfText fault → IsCause order text fault → IsCausedBy fault order text
caused order text Usage of_text cause = absurd of_text
caused order text Read of_text cause = absurd of_text
caused order text Write of_text cause = absurd of_text
caused order text (Memory _) of_text cause = absurd of_text
caused order text fault of_text cause = cause

-- an exact cause is that of the fault, or the fault may come in its place
caused_exact : (order : OrderView) (text : List ℕ) (fault : Fault) → HasOneOutcome (promise_of order.command) → IsCause order text fault
    → IsStatusOfAll order text (status_of fault)
caused_exact order text fault law cause = record {
  each = λ other exact is. elim (law.one_cause order text fault other cause is exact) [
    | inl same ↦ inl (ap status_of (sym same))
    | inr may ↦ inr (record { fault = fault; may = may; cause = cause; caused = refl })
  ];
}

pub text_failed : (run : Run) (order : OrderView) (fault : Fault) → IsOrder run.words order → HasOneOutcome (promise_of order.command)
    → IsFaultOfText (promise_of order.command).statuses fault
    → IfSome (text_told (reads_of order) run.source.old.bytes) (λ text. IsCause order text fault)
    → run.out.IsUnchanged → IsCalm run.out → IsCalm run.source → HoldsOfOrder run (IsReadWhole run.source) → Reads run → Fails run fault
text_failed run order fault is law known cause same written_well read_well whole reads =
    let told = text_told (reads_of order) run.source.old.bytes in
    record {
      usage = λ e. absurd (other_fault fault Usage known.of_text (λ h. h) e);
      no_order = λ none. absurd (none.refuted order is);
      may = λ other. cause_may run.words order (status_of fault) is known.status;
      cause = serve run order (IsCausedBy fault) is (if_some told _ _ (λ text c. caused order text fault known.of_text c) cause);
      begins = λ e. absurd (other_fault fault Write known.of_text (λ h. h) e);
      silent = λ other. same;
      exact = λ r m. serve run order (λ o text. IsStatusOfAll o text (status_of fault)) is
          (if_some told _ _ (λ text c. caused_exact order text fault law c) cause);
      completes = λ r w. serve run order (λ o text. EndsWell o text (status_of fault)) is
          (if_some told _ _ (λ text c. record { end = λ serves. absurd (law.free order text fault serves c) }) cause);
      whole = λ u r m. whole;
      reads = reads;
      read_fault = λ e. absurd (other_fault fault Read known.of_text (λ h. h) e);
      read_well = λ other. read_well;
      write_fault = λ e. absurd (other_fault fault Write known.of_text (λ h. h) e);
      written_well = λ other. written_well;
    }

-- ---- the text

source_failed : (run : Run) (order : OrderView) (own : TextLimit) → IsOrder run.words order → reads_of order ≡ Some own → run.out.IsUnchanged
    → IsCalm run.out → Rises run.source → Reads run → Fails run Read
source_failed run order own is is_own same written_well rises reads = record {
  usage = λ e. absurd cc;
  no_order = λ none. absurd (none.refuted order is);
  may = λ other. read_may run.words order own is is_own;
  cause = all_served run (IsCausedBy Read) (λ order text. tt);
  begins = λ e. absurd cc;
  silent = λ other. same;
  exact = λ r m. absurd (r refl);
  completes = λ r w. absurd (r refl);
  whole = λ u r m. absurd (r refl);
  reads = reads;
  read_fault = λ e. rises;
  read_well = λ other. absurd (other refl);
  write_fault = λ e. absurd cc;
  written_well = λ other. written_well;
}

-- a text over the limit is refused for that
long_cause : (order : OrderView) (own : TextLimit) → HasOneOutcome (promise_of order.command) → reads_of order ≡ Some own → (text : List ℕ)
    → own.bytes < length text → IsCause order text own.fault
long_cause order own law is_own text over =
    subst (λ (o : Option TextLimit). IfSome o (λ (limit : TextLimit). (one : OrderView) (text : List ℕ) → limit.bytes < length text
    → (promise_of order.command).IsCause one text limit.fault)) is_own law.long order text over

long_known : (order : OrderView) (own : TextLimit) → HasOneOutcome (promise_of order.command) → reads_of order ≡ Some own
    → IsFaultOfText (promise_of order.command).statuses own.fault
long_known order own law is_own =
    let text : List ℕ = replicate (own.bytes + 1) 0 in
    let size = length-replicate {A = ℕ} (own.bytes + 1) 0 in
    law.among order text own.fault (long_cause order own law is_own text (omega (arith, size)))

pub read_failed : (run : Run) (order : OrderView) (fault : Fault) → IsOrder run.words order → HasOneOutcome (promise_of order.command)
    → IsUnreadFor (reads_of order) run.source fault → run.out.IsUnchanged → IsCalm run.out → Fails run fault
read_failed run order fault is law r same written_well =
    subst (Fails run) (sym r.is) (by_reason r.why r.long r.failed r.calm)
  where
    reads : Reads run
    reads = reads_some run order r.own is r.is_own r.few

    by_reason : (why : ReadFault) → (why ≡ reading.TooLong → IfSome run.source.old.bytes (λ rest. r.own.bytes < length rest))
        → (why ≡ reading.Failed → Rises run.source) → ((why ≡ reading.Failed → ⊥) → IsCalm run.source) → Fails run (reading_fault r.own why)
    by_reason reading.Failed long failed calm = source_failed run order r.own is r.is_own same written_well (failed refl) reads
    by_reason (reading.Memory _) long failed calm = memory_failed run same written_well (calm (λ e. absurd cc)) reads
    by_reason reading.TooLong long failed calm =
        let told : IfSome (text_told (reads_of order) run.source.old.bytes) (λ text. IsCause order text r.own.fault) =
        subst (λ (o : Option TextLimit). IfSome (text_told o run.source.old.bytes) (λ text. IsCause order text r.own.fault)) (sym r.is_own)
        (if_some run.source.old.bytes _ _ (λ text over. long_cause order r.own law r.is_own text over) (long refl)) in
        text_failed run order r.own.fault is law (long_known order r.own law r.is_own) told same written_well (calm (λ e. absurd cc))
        (long_whole run order r.own is r.is_own (long refl)) reads

-- ---- behind the text

cause_or_memory : (order : OrderView) (text : List ℕ) (fault : Fault) → IsCauseOrMemory order text fault → (fault ≡ Memory _) ⊎ IsCause order text fault
cause_or_memory order text (Memory _) h = inl refl
cause_or_memory order text fault h = inr h

pub not_prepared : (run : Run) (order : OrderView) (items lent : List ℕ) (fault : Fault) → IsOrder run.words order
    → HasOneOutcome (promise_of order.command) → IsReadFrom (reads_of order) run.source items → lent ≡ items → IsCauseOrMemory order lent fault
    → run.out.IsUnchanged → IsCalm run.out → Fails run fault
not_prepared run order items lent fault is law r lends h same written_well = elim (cause_or_memory order lent fault h) [
  | inl memory ↦ subst (Fails run) (sym memory) (memory_failed run same written_well r.calm (reads_whole run order items is r))
  | inr cause ↦ text_failed run order fault is law (law.among order lent fault cause)
      (of_read _ lent items (λ text. IsCause order text fault) lends r.told cause) same written_well r.calm (whole run order items is r)
      (reads_whole run order items is r)
]

pub written : (run : Run) (order : OrderView) (items lent bytes : List ℕ) → IsOrder run.words order → HasOneOutcome (promise_of order.command)
    → IsReadFrom (reads_of order) run.source items → lent ≡ items → Gives order lent bytes → Took run.out.old run.out.new bytes
    → IsFlushed run.out.new → IsCalm run.out → Succeeds run
written run order items lent bytes is law r lends gives took flushed written_well =
    let told = text_told (reads_of order) run.source.old.bytes in
    let given : IfSome told (λ text. Gives order text bytes) = of_read told lent items (λ text. Gives order text bytes) lends r.told gives in
    record {
      ordered = λ none. none.refuted order is;
      gives = serve run order (λ o text. Grows (Gives o text) run.out) is
          (if_some told _ _ (λ text g. record { bytes = bytes; is = g; took = took; flushed = flushed }) given);
      may = success_may run.words;
      exact = serve run order (λ o text. IsStatusOfAll o text 0) is
          (if_some told _ _ (λ text g. record { each = λ fault exact cause. absurd (law.never_both order text bytes fault g cause exact) }) given);
      whole = whole run order items is r;
      reads = reads_whole run order items is r;
      read_well = r.calm;
      written_well = written_well;
    }

pub not_written : (run : Run) (order : OrderView) (items lent bytes : List ℕ) → IsOrder run.words order → HasOneOutcome (promise_of order.command)
    → IsReadFrom (reads_of order) run.source items → lent ≡ items → Gives order lent bytes → TookFront run.out.old run.out.new bytes → Rises run.out
    → Fails run Write
not_written run order items lent bytes is law r lends gives took rises =
    let told = text_told (reads_of order) run.source.old.bytes in
    let given : IfSome told (λ text. Gives order text bytes) = of_read told lent items (λ text. Gives order text bytes) lends r.told gives in
    record {
      usage = λ e. absurd cc;
      no_order = λ none. absurd (none.refuted order is);
      may = λ other. write_may run.words;
      cause = all_served run (IsCausedBy Write) (λ order text. tt);
      begins = λ e. serve run order (λ o text. GrowsByPrefix (Gives o text) run.out) is
          (if_some told _ _ (λ text g. record { bytes = bytes; is = g; took = took }) given);
      silent = λ other. absurd (other refl);
      exact = λ r m. serve run order (λ o text. IsStatusOfAll o text 10) is
          (if_some told _ _ (λ text g. record { each = λ fault exact cause. absurd (law.never_both order text bytes fault g cause exact) }) given);
      completes = λ r w. absurd (w refl);
      whole = λ u s m. whole run order items is r;
      reads = reads_whole run order items is r;
      read_fault = λ e. absurd cc;
      read_well = λ other. r.calm;
      write_fault = λ e. rises;
      written_well = λ other. absurd (other refl);
    }
