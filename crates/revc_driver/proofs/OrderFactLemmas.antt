-- What holds of the one order that words give, and of its text.
use Rattle.std.proofs.Common.{◌≡◌, ℕ, suc, ◌+◌, ◌≤◌, List, [], ◌∷◌, None, Some, refl, sym, ◌∙◌, ◌<◌, subst, arith, length}
use Rattle.std.specs.Prelude.{Option, IfSome, Contains}
use Rattle.std.specs.Io.KnownBytes.{IsAtEnd}
use Rattle.std.proofs.KnownBytes.{Consumes-nil}
use Rattle.revc_io.specs.Reading.{TakesCount}
use Rattle.command_answers.specs.declared.limit.TextLimit.{TextLimit}
use Rattle.revc_driver.specs.Commands.{most_bytes, promise_of, reads_of, statuses_of, text_told, with_reading}
use Rattle.revc_driver.specs.Top.{IsReadWhole, MayEnd, ReadsFew, Run, HoldsOfOrder}
use Rattle.revc_driver.specs.inside.Ends.{IsReadFrom, Reads}
use Rattle.revc_words.specs.Words.{OrderView, IsOrder, HasNoOrder}
use Rattle.revc_words.proofs.OrderLemmas.{one_order}

pub if_some : {A : Type 0} (o : Option A) (P Q : A → Type 0) → ((x : A) → P x → Q x) → IfSome o P → IfSome o Q
if_some None P Q h p = tt
if_some (Some x) P Q h p = h x p

pub always : {A : Type 0} (o : Option A) (P : A → Type 0) → ((x : A) → P x) → IfSome o P
always None P h = tt
always (Some x) P h = h x

-- what holds of the text that was lent holds of the one that the source told
pub of_read : (rest : Option (List ℕ)) (lent items : List ℕ) (P : List ℕ → Type 0) → lent ≡ items → IfSome rest (λ told. items ≡ told) → P lent → IfSome rest P
of_read None lent items P same told p = tt
of_read (Some text) lent items P same told p = subst P told (subst P same p)

-- ---- the one order

-- what holds of one order of the words holds of each
pub serve : (run : Run) (order : OrderView) (P : OrderView → List ℕ → Type 0) → IsOrder run.words order
    → IfSome (text_told (reads_of order) run.source.old.bytes) (P order) → HoldsOfOrder run P
serve run order P is holds = record {
  each = λ other also. subst (λ (o : OrderView). IfSome (text_told (reads_of o) run.source.old.bytes) (P o)) (one_order run.words order other is also) holds;
}

pub none_served : (run : Run) (P : OrderView → List ℕ → Type 0) → HasNoOrder run.words → HoldsOfOrder run P
none_served run P none = record { each = λ order is. absurd (none.refuted order is) }

pub served : (run : Run) (P Q : OrderView → List ℕ → Type 0) → ((order : OrderView) (text : List ℕ) → P order text → Q order text) → HoldsOfOrder run P
    → HoldsOfOrder run Q
served run P Q h s = record { each = λ order is. if_some (text_told (reads_of order) run.source.old.bytes) (P order) (Q order) (h order) (s.each order is) }

pub all_served : (run : Run) (P : OrderView → List ℕ → Type 0) → ((order : OrderView) (text : List ℕ) → P order text) → HoldsOfOrder run P
all_served run P h = record { each = λ order is. always (text_told (reads_of order) run.source.old.bytes) (P order) (h order) }

-- ---- statuses

pub more : (statuses : List ℕ) (first status : ℕ) → Contains statuses status → Contains (first ∷ statuses) status
more statuses first status h = (suc h.0, omega (arith, h.1), h.2)

pub with_more : (limit : Option TextLimit) (statuses : List ℕ) (status : ℕ) → Contains statuses status → Contains (with_reading limit statuses) status
with_more None statuses status h = h
with_more (Some limit) statuses status h = more statuses 9 status h

pub may_end : (words : List (List ℕ)) (order : OrderView) (status : ℕ) → IsOrder words order → Contains (statuses_of (promise_of order.command)) status
    → MayEnd words status
may_end words order status is among = record {
  each = λ other also. subst (λ (o : OrderView). Contains (statuses_of (promise_of o.command)) status) (one_order words order other is also) among;
}

-- each command may end with success, and with a fault of the sink or want of memory
pub success_may : (words : List (List ℕ)) → MayEnd words 0
success_may words = record { each = λ order is. (0, omega arith, refl) }

pub write_may : (words : List (List ℕ)) → MayEnd words 10
write_may words = record { each = λ order is. (1, omega arith, refl) }

pub memory_may : (words : List (List ℕ)) → MayEnd words 11
memory_may words = record { each = λ order is. (2, omega arith, refl) }

-- and with a fault of the source, if it reads one
pub read_may : (words : List (List ℕ)) (order : OrderView) (limit : TextLimit) → IsOrder words order → reads_of order ≡ Some limit → MayEnd words 9
read_may words order limit is own = may_end words order 9 is
    (let statuses = (promise_of order.command).statuses in
    subst (λ (o : Option TextLimit). Contains (0 ∷ 10 ∷ 11 ∷ with_reading o statuses) 9) (sym own) (3, omega arith, refl))

pub cause_may : (words : List (List ℕ)) (order : OrderView) (status : ℕ) → IsOrder words order → Contains (promise_of order.command).statuses status
    → MayEnd words status
cause_may words order status is among = may_end words order status is
    (let statuses = (promise_of order.command).statuses in
    let behind = with_reading (reads_of order) statuses in
    more (10 ∷ 11 ∷ behind) 0 status (more (11 ∷ behind) 10 status (more behind 11 status (with_more (reads_of order) statuses status among))))

-- ---- what is read

none_taken : (bytes : Option (List ℕ)) (most : ℕ) → TakesCount bytes bytes (λ count. count ≤ most)
none_taken bytes most = ([], Consumes-nil bytes, omega arith)

-- a source that is as it was
pub reads_none : (run : Run) → run.source.IsUnchanged → run.source.new.bytes ≡ run.source.old.bytes → Reads run
reads_none run same bytes = record {
  unread = λ nothing. same;
  few = record {
    each = λ order is. always (reads_of order) _ (λ limit.
        subst (λ (o : Option (List ℕ)). TakesCount run.source.old.bytes o (λ count. count ≤ limit.bytes + 1)) (sym bytes)
        (none_taken run.source.old.bytes (limit.bytes + 1)));
  };
}

few_of : (run : Run) (order : OrderView) → IsOrder run.words order
    → IfSome (reads_of order) (λ (limit : TextLimit). TakesCount run.source.old.bytes run.source.new.bytes (λ count. count ≤ limit.bytes + 1)) → ReadsFew run
few_of run order is h = record {
  each = λ other also. subst (λ (o : OrderView). IfSome (reads_of o)
      (λ (limit : TextLimit). TakesCount run.source.old.bytes run.source.new.bytes (λ count. count ≤ limit.bytes + 1)))
      (one_order run.words order other is also) h;
}

few_within : (limit : Option TextLimit) (old new : Option (List ℕ)) → TakesCount old new (λ count. count ≤ most_bytes limit)
    → IfSome limit (λ (own : TextLimit). TakesCount old new (λ count. count ≤ own.bytes + 1))
few_within None old new h = tt
few_within (Some own) old new h = (h.0, h.1, let few = h.2 in omega arith)

-- a source that was read whole
pub reads_whole : (run : Run) (order : OrderView) (text : List ℕ) → IsOrder run.words order → IsReadFrom (reads_of order) run.source text → Reads run
reads_whole run order text is r = record {
  unread = λ nothing. r.unread (nothing.each order is);
  few = few_of run order is (few_within (reads_of order) run.source.old.bytes run.source.new.bytes r.few);
}

-- one that was not
pub reads_some : (run : Run) (order : OrderView) (own : TextLimit) → IsOrder run.words order → reads_of order ≡ Some own
    → TakesCount run.source.old.bytes run.source.new.bytes (λ count. count ≤ own.bytes + 1) → Reads run
reads_some run order own is is_own few = record {
  unread = λ nothing. absurd (apart (sym (nothing.each order is) ∙ is_own));
  few = few_of run order is (subst (λ (o : Option TextLimit). IfSome o
      (λ (limit : TextLimit). TakesCount run.source.old.bytes run.source.new.bytes (λ count. count ≤ limit.bytes + 1))) (sym is_own) few);
}
  where
    apart : None ≡ Some own → ⊥
    apart e = absurd cc

end_within : (limit : Option TextLimit) (new : Option (List ℕ)) (text : List ℕ) → IfSome limit (λ _. IsAtEnd new)
    → IfSome limit (λ (own : TextLimit). length text ≤ own.bytes → IsAtEnd new)
end_within None new text h = tt
end_within (Some own) new text h = λ short. h

pub whole : (run : Run) (order : OrderView) (text : List ℕ) → IsOrder run.words order → IsReadFrom (reads_of order) run.source text
    → HoldsOfOrder run (IsReadWhole run.source)
whole run order text is r = serve run order (IsReadWhole run.source) is
    (always (text_told (reads_of order) run.source.old.bytes) (IsReadWhole run.source order)
    (λ told. end_within (reads_of order) run.source.new.bytes told r.at_end))

-- a text over the limit is not read to its end
pub long_whole : (run : Run) (order : OrderView) (own : TextLimit) → IsOrder run.words order → reads_of order ≡ Some own
    → IfSome run.source.old.bytes (λ rest. own.bytes < length rest) → HoldsOfOrder run (IsReadWhole run.source)
long_whole run order own is is_own long = serve run order (IsReadWhole run.source) is
    (subst (λ (o : Option TextLimit). IfSome (text_told o run.source.old.bytes)
    (λ text. IfSome o (λ (limit : TextLimit). length text ≤ limit.bytes → IsAtEnd run.source.new.bytes))) (sym is_own)
    (if_some run.source.old.bytes (λ rest. own.bytes < length rest) _ (λ text over short. absurd (omega (arith, over, short))) long))
