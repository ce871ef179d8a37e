use Rattle.std.proofs.Common.{Vec, Global, ◌≡◌, Bool, true, false, List, Option, Some, None, Result, Ok, Err, refl, ap}
use Rattle.std.specs.Prelude.{ℕ, OnOk, IfErr}
use Rattle.std.specs.Option.{is_some, option_map}
use Rattle.std.proofs.lemmas.Result.{IfErr-weaker}
use Rattle.real_format.specs.declared.refusal.LineRefusal.{LineRefusal}
use Rattle.real_format.specs.declared.refusal.LineRefusal.TheVariants.{Form}
use Rattle.real_format.specs.Header.{HeaderView}
use Rattle.real_format.specs.inside.Reading.{AddsMarks, Refuses, add_marks, constant_of, garbage_of, new_marks, say_once}
use Rattle.real_format.proofs.StampLemmas.{refuses_on}
use Rattle.real_format.proofs.header.Header.add.Goals as goal

pub returns-in-Version : goal.returns-in-Version
returns-in-Version c = rw c.in-Version.is (record { ok = c.add_version.ensures.ok; err = c.add_version.ensures.err })

pub returns-in-Lines : goal.returns-in-Lines
returns-in-Lines c = rw c.in-Lines.is (record { ok = c.add_lines.ensures.ok; err = c.add_lines.ensures.err })

pub returns-in-Names : goal.returns-in-Names
returns-in-Names c = rw c.in-Names.is (record { ok = c.add_names.ensures.ok; err = c.add_names.ensures.err })

once_said : {T : Type 0} (r : Result T LineRefusal) (old now : Bool) (after other : HeaderView) → OnOk r ((old ≡ false) × (now ≡ true))
    → (now ≡ true → after ≡ other) → OnOk r (say_once old after ≡ Ok other)
once_said (Ok done) old now after other h same = rw h.0 (ap Ok (same h.1))
once_said (Err e) old now after other h same = tt

said_twice : {T : Type 0} (r : Result T LineRefusal) (old : Bool) (after : HeaderView) → IfErr r (λ e. (e ≡ Form) × (old ≡ true))
    → IfErr r (Refuses (say_once old after))
said_twice (Ok done) old after h = tt
said_twice (Err e) old after h = rw (h.0, h.1) refl

some_items : {M : Type 0} (old : Option (Vec M Global)) → is_some (option_map (λ v. v.items) old) ≡ is_some old
some_items None = refl
some_items (Some marks) = refl

marks_added : {T M : Type 0} (r : Result T LineRefusal) (f : ℕ → Option M) (old : Option (Vec M Global)) (lines : Option ℕ) (words : List (List ℕ))
    (now : Option (List M)) (with_marks : List M → HeaderView) (other : HeaderView) → OnOk r (AddsMarks (new_marks f (is_some old) lines words) now)
    → ((marks : List M) → now ≡ Some marks → with_marks marks ≡ other)
    → OnOk r (add_marks f (option_map (λ v. v.items) old) lines with_marks words ≡ Ok other)
marks_added (Ok done) f old lines words None with_marks other h same = absurd h
marks_added (Ok done) f old lines words (Some marks) with_marks other h same = rw (some_items old, h) (ap Ok (same marks refl))
marks_added (Err e) f old lines words now with_marks other h same = tt

marks_refused : {T M : Type 0} (r : Result T LineRefusal) (f : ℕ → Option M) (old : Option (Vec M Global)) (lines : Option ℕ) (words : List (List ℕ))
    (with_marks : List M → HeaderView) → IfErr r (Refuses (new_marks f (is_some old) lines words))
    → IfErr r (Refuses (add_marks f (option_map (λ v. v.items) old) lines with_marks words))
marks_refused r f old lines words with_marks h =
    IfErr-weaker r _ _ (λ e is. rw (some_items old) (refuses_on (new_marks f (is_some old) lines words) (λ marks. Ok (with_marks marks)) e is)) h

pub returns-in-Inputs-clause-ok : goal.returns-in-Inputs-clause-ok
returns-in-Inputs-clause-ok c =
    rw (← c.self.view_is, c.in-Inputs.is) (once_said c.say_once.result _ c.say_once.new.said _ _ c.say_once.ensures.ok (λ is. rw is refl))

pub returns-in-Inputs-clause-err : goal.returns-in-Inputs-clause-err
returns-in-Inputs-clause-err c = rw (← c.self.view_is, c.in-Inputs.is) (said_twice c.say_once.result _ _ c.say_once.ensures.err)

pub returns-in-Outputs-clause-ok : goal.returns-in-Outputs-clause-ok
returns-in-Outputs-clause-ok c =
    rw (← c.self.view_is, c.in-Outputs.is)
    (once_said c.say_once-in-Outputs.result _ c.say_once-in-Outputs.new.said _ _ c.say_once-in-Outputs.ensures.ok (λ is. rw is refl))

pub returns-in-Outputs-clause-err : goal.returns-in-Outputs-clause-err
returns-in-Outputs-clause-err c = rw (← c.self.view_is, c.in-Outputs.is) (said_twice c.say_once-in-Outputs.result _ _ c.say_once-in-Outputs.ensures.err)

pub returns-in-Constants-clause-ok : goal.returns-in-Constants-clause-ok
returns-in-Constants-clause-ok c =
    rw (← c.self.view_is, c.in-Constants.is)
    (marks_added c.add_marks.result constant_of c.self.inside.constants c.self.inside.lines c.args.words.now
    _ _ _ c.add_marks.ensures.ok (λ marks is. rw is refl))

pub returns-in-Constants-clause-err : goal.returns-in-Constants-clause-err
returns-in-Constants-clause-err c =
    rw (← c.self.view_is, c.in-Constants.is)
    (marks_refused c.add_marks.result constant_of c.self.inside.constants c.self.inside.lines c.args.words.now _ c.add_marks.ensures.err)

pub returns-in-Garbage-clause-ok : goal.returns-in-Garbage-clause-ok
returns-in-Garbage-clause-ok c =
    rw (← c.self.view_is, c.in-Garbage.is)
    (marks_added c.add_marks-in-Garbage.result garbage_of c.self.inside.garbage c.self.inside.lines c.args.words.now
    _ _ _ c.add_marks-in-Garbage.ensures.ok (λ marks is. rw is refl))

pub returns-in-Garbage-clause-err : goal.returns-in-Garbage-clause-err
returns-in-Garbage-clause-err c =
    rw (← c.self.view_is, c.in-Garbage.is)
    (marks_refused c.add_marks-in-Garbage.result garbage_of c.self.inside.garbage c.self.inside.lines c.args.words.now _ c.add_marks-in-Garbage.ensures.err)
