-- What clap's clauses say of the command that reads the words, and of what it finds.
use Rattle.std.proofs.Common.{◌≡◌, ◌≢◌, ◌↔◌, ℕ, true, List, [], ◌∷◌, map, Option, Some, None, refl, sym, ap, ◌∙◌, codes, inl, inr, Bor}
use Rattle.std.specs.Prelude.{Result, Ok, Err, IsErrOf, IsErrAnd, unwrap_or, option_map}
use Rattle.std.specs.Option.{option_and_then}
use Rattle.clap.specs.Words.{App, HasKind, Kinds, Row, fault_of, is_simple, is_simple_and_free, kind_of, matched_of, matches_of, raw_values, rows_of}
use Rattle.clap.specs.declared.error.Error.{Error}
use Rattle.clap.specs.declared.error.kind.ErrorKind.TheVariants as errors
use Rattle.clap.specs.declared.parser.matches.Found.{Found}
use Rattle.clap.proofs.WalkLemmas.{raw_values-rows}
use Rattle.revc_words.specs.declared.fault.WordsFault.{WordsFault}
use Rattle.revc_words.specs.declared.fault.WordsFault.TheVariants as faults
use Rattle.revc_words.specs.declared.commands.Command.{Command}
use Rattle.revc_words.specs.declared.commands.Command.TheVariants.{Compile}
use Rattle.revc_words.specs.declared.order.Values.{Values}
use Rattle.revc_words.specs.inside.Parsing.{app_for, order_by, order_for, parsed, texts_in, unless, values_of, words_in}

-- ---- the command: each line `command = refl` is checked for each of the others

simple_and_free : (command : Command) → is_simple_and_free (app_for command) ≡ true
simple_and_free Compile = refl
simple_and_free command = refl

simple : (command : Command) → is_simple (app_for command) ≡ true
simple Compile = refl
simple command = refl

-- ---- how a parse ends

pub succeeds : (command : Command) (app : App) (words : List (List ℕ)) (rows : List Row) {Other : Type 0} → app ≡ app_for command
    → (is_simple_and_free app ≡ true → fault_of app words ≡ []) → (is_simple app ≡ true → (rows ≡ matches_of app words) × Other)
    → parsed command words ≡ Some rows
succeeds command app words rows is free found =
    ap (λ a. unless (fault_of a words) (Some (matches_of a words))) (sym is)
    ∙ ap (λ k. unless k (Some (matches_of app words))) (free (ap is_simple_and_free is ∙ simple_and_free command))
    ∙ ap Some (sym (found (ap is_simple is ∙ simple command)).0)

some_kind : {A : Type 0} (kinds : Kinds) (error : Error) (found : Option A) → HasKind kinds error
    → kind_of error ≢ errors.OutOfMemory → unless kinds found ≡ None
some_kind [] error found (inl memory) other = absurd (other memory)
some_kind [] error found (inr among) other = absurd among
some_kind (k ∷ ks) error found has other = refl

pub fails : (command : Command) (app : App) (words : List (List ℕ)) (error : Error) → app ≡ app_for command
    → (is_simple_and_free app ≡ true → HasKind (fault_of app words) error) → kind_of error ≢ errors.OutOfMemory → parsed command words ≡ None
fails command app words error is has other =
    ap (λ a. unless (fault_of a words) (Some (matches_of a words))) (sym is)
    ∙ some_kind (fault_of app words) error (Some (matches_of app words)) (has (ap is_simple_and_free is ∙ simple_and_free command)) other

-- what a fault that is passed on says
pub passes_on : {T : Type 0} {P : Type 0} (result : Result T WordsFault) → IsErrOf result faults.Usage → IsErrAnd result (λ e. e ≡ faults.Usage ↔ P) → P
passes_on {T} {P} (Err e) is said = said.0 (same is)
  where
    same : IsErrOf {T = T} {E = WordsFault} (Err e) faults.Usage → e ≡ faults.Usage
    same is = cc
passes_on {T} {P} (Ok x) is said = absurd said

-- a fault that is passed on as it is
pub passed : {T : Type 0} (fault : WordsFault) (result : Result T WordsFault) → IsErrOf result faults.Usage → IsErrAnd result (λ e. e ≡ fault)
    → fault ≡ faults.Usage
passed fault (Err e) is same = cc
passed fault (Ok x) is same = absurd same

-- ---- what is found

abbrev pub Strings : Type 0
Strings = Bor (List (Bor (List ℕ)))

abbrev pub texts : Strings → List (List ℕ)
texts words = map (λ s. s.now) words.now

pub words_found : (f : Found) (result found : Option Strings) → option_map texts result ≡ option_map raw_values (matched_of f (codes "word")) → result ≡ found
    → words_in (rows_of f) ≡ unwrap_or (option_map texts found) []
words_found f result found e is =
    ap (λ o. unwrap_or o []) (sym (e ∙ raw_values-rows f (codes "word"))) ∙ ap (λ o. unwrap_or (option_map texts o) []) is

pub order_found : (command : Command) (rows : List Row) (plain : List (List ℕ)) (values : Values) (given : Option Values)
    → given ≡ values_of command (texts_in command rows) → given ≡ Some values → words_in rows ≡ plain → order_for command rows ≡ order_by command plain values
order_found command rows plain values given gives is are =
    ap (option_and_then (order_by command (words_in rows))) (sym gives ∙ is) ∙ ap (λ p. order_by command p values) are
