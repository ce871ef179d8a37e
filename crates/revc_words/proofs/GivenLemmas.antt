-- Options that are given: each is known and given once, and its value is no option.
use Rattle.std.proofs.Common.{◌<◌, arith, ◌≡◌, ◌≢◌, ℕ, zero, suc, true, false, List, [], ◌∷◌, length, get_or}
use Rattle.std.proofs.Common.{Some, cond, refl, sym, ap, ◌∙◌, subst, codes, inl, inr}
use Rattle.std.specs.List.{AllByRecursion, list_all}
use Rattle.std.specs.Str.{bytes_eq}
use Rattle.std.proofs.lemmas.Bool.{false≢true}
use Rattle.std.proofs.lemmas.Slice.Eq.{bytes_eq-Decides}
use Rattle.revc_words.specs.declared.commands.Command.{Command}
use Rattle.revc_words.specs.declared.commands.Command.TheVariants.{Compile, Verify}
use Rattle.revc_words.specs.Commands.{options_of}
use Rattle.revc_words.specs.declared.order.Format.TheVariants.{Real, Qasm}
use Rattle.revc_words.specs.declared.order.Way.{Way}
use Rattle.revc_words.specs.Words.{OrderView, IsOrder, IsBy, IsWay}
use Rattle.revc_words.specs.Words.{Setting, Reads, nothing_left, all_behind}
use Rattle.revc_words.specs.Words.{joined, parted, positional, IsOneOf, is_option, value_of, IsGivenOnce}
use Rattle.revc_words.proofs.ValueLemmas.{Rule, IsRight, plan_rule, lines_rule, gates_rule, borrow_rule, nodes_rule, assume_rule, placing_rule}
use Rattle.revc_words.proofs.ValueLemmas.{way_rule, format_rule, by_rule}
use Rattle.revc_words.proofs.ValueLemmas.{aim_rule, write_rule, text_is_no_option}
use Rattle.revc_words.proofs.WalkLemmas.{by_test, is_one_of}
use Rattle.revc_words.proofs.SaidLemmas.{AreNew, AreOnce, AreValues, IsNever}
use Rattle.revc_words.proofs.ReadsLemmas.{known, known_says}
use Rattle.revc_words.proofs.CommandLemmas.{no_word_option}

-- ---- each option is given once

never_by : (name : List ℕ) (given : List Setting) → ((j : ℕ) (d : Setting) → j < length given → name ≢ (get_or given j d).name) → IsNever name given
never_by name [] f = tt
never_by name (one ∷ given) f = (
  by_test (bytes_eq name one.name) (λ t. absurd (f 0 one (omega arith) ((bytes_eq-Decides name one.name).0 t))) (λ e. e),
  never_by name given (λ j d lt. f (suc j) d (omega arith)),
)

pub once_gives : (given : List Setting) → IsGivenOnce given → AreOnce given
once_gives [] once = tt
once_gives (one ∷ given) once = (
  never_by one.name given (λ j d lt. once 0 (suc j) d (omega arith) (omega arith)),
  once_gives given (λ i j d lt within. once (suc i) (suc j) d (omega arith) (omega arith)),
)

never_at : (name : List ℕ) (given : List Setting) (j : ℕ) (d : Setting) → IsNever name given → j < length given → name ≢ (get_or given j d).name
never_at name [] j d never lt = absurd (omega arith)
never_at name (one ∷ given) zero d never lt = λ same. false≢true (sym never.0 ∙ (bytes_eq-Decides name one.name).1 same)
never_at name (one ∷ given) (suc j) d never lt = never_at name given j d never.1 (omega arith)

pub gives_once : (given : List Setting) → AreOnce given → IsGivenOnce given
gives_once [] once i j d lt within = absurd (omega arith)
gives_once (one ∷ given) once zero zero d lt within = absurd (omega arith)
gives_once (one ∷ given) once zero (suc j) d lt within = never_at one.name given j d once.0 (omega arith)
gives_once (one ∷ given) once (suc i) zero d lt within = absurd (omega arith)
gives_once (one ∷ given) once (suc i) (suc j) d lt within = gives_once given once.1 i j d (omega arith) (omega arith)

pub given_known : (options : List (List ℕ)) {words plain : List (List ℕ)} {given : List Setting} → Reads options words given plain
    → AllByRecursion (λ one. IsOneOf options one.name) given
given_known options nothing_left = tt
given_known options (all_behind is) = tt
given_known options (joined one is_one is rest) = (is_one, given_known options rest)
given_known options (parted one is_one is no_end rest) = (is_one, given_known options rest)
given_known options (positional is rest) = given_known options rest

-- each option has the value that it is given with
pub own_values : (given : List Setting) → AreOnce given → AllByRecursion (λ one. value_of one.name given ≡ Some one.value) given
own_values [] once = tt
own_values (one ∷ given) once = (
  ap (λ t. cond t (Some one.value) (value_of one.name given)) ((bytes_eq-Decides one.name one.name).1 refl),
  behind given once.0 (own_values given once.1),
)
  where
    behind : (rest : List Setting) → IsNever one.name rest → AllByRecursion (λ other. value_of other.name given ≡ Some other.value) rest
        → AllByRecursion (λ other. value_of other.name (one ∷ given) ≡ Some other.value) rest
    behind [] never values = tt
    behind (other ∷ rest) never values = (
      ap (λ t. cond t (Some one.value) (value_of other.name given)) never.0 ∙ values.0,
      behind rest never.1 values.1,
    )

-- a value that is given to an option of this name is no option
pub record IsSafe (given : List Setting) (name : List ℕ) : Type 0 where
  pub each : (word : List ℕ) → value_of name given ≡ Some word → is_option word ≡ false

among : (P : List ℕ → Type 0) (options : List (List ℕ)) (name : List ℕ) → AllByRecursion P options → IsOneOf options name → P name
among P [] name all is = absurd is
among P (option ∷ options) name all (inl same) = subst P (sym same) all.0
among P (option ∷ options) name all (inr rest) = among P options name all.1 rest

-- the names of all options
abbrev all_options : List (List ℕ)
all_options =
    codes "plan" ∷ codes "lines" ∷ codes "gates" ∷ codes "borrow" ∷ codes "nodes" ∷ codes "outputs" ∷ codes "format" ∷ codes "from"
    ∷ codes "to" ∷ codes "for" ∷ codes "by" ∷ codes "write" ∷ codes "assume" ∷ []

known_options : (command : Command) → list_all (is_one_of all_options) (options_of command) ≡ true
known_options Compile = refl
known_options command = refl

each_of : (P : List ℕ → Type 0) (all options : List (List ℕ)) → AllByRecursion P all → list_all (is_one_of all) options ≡ true → AllByRecursion P options
each_of P all [] each e = tt
each_of P all (option ∷ options) each e = by_test (is_one_of all option)
    (λ t. (among P all option each (known_says all option t), each_of P all options each (rw t at e)))
    (λ f. absurd (false≢true (rw f at e)))

-- an option whose value is right by a rule
safe_right : {A : Type 0} (rule : Rule A) (given : List Setting) (name : List ℕ) (value : A) → IsRight rule (value_of name given) value → IsSafe given name
safe_right rule given name value is = record { each = λ word e. text_is_no_option rule (value_of name given) value word is e }

safe_by : (command : Command) (given : List Setting) (by : ℕ) (way : Way) → IsBy command given by → IsWay command given way → IsSafe given (codes "by")
safe_by Verify given by way is gives = safe_right way_rule given (codes "by") way gives
safe_by command given by way is gives = safe_right by_rule given (codes "by") by is

pub safe : (words : List (List ℕ)) (order : OrderView) → (is : IsOrder words order) → AllByRecursion (IsSafe is.given) (options_of order.command)
safe words order is =
    let given = is.given in
    let plan = safe_right plan_rule given (codes "plan") order.plan is.plan in
    let lines = safe_right lines_rule given (codes "lines") order.lines is.lines in
    let gates = safe_right gates_rule given (codes "gates") order.gates is.gates in
    let borrow = safe_right borrow_rule given (codes "borrow") order.borrow is.borrow in
    let nodes = safe_right nodes_rule given (codes "nodes") order.nodes is.nodes in
    let outputs = safe_right (placing_rule order.command) given (codes "outputs") order.outputs is.outputs in
    let format = safe_right (format_rule Real) given (codes "format") order.format is.format in
    let from = safe_right (format_rule Real) given (codes "from") order.from is.from in
    let to = safe_right (format_rule Qasm) given (codes "to") order.to is.to in
    let aim = safe_right aim_rule given (codes "for") order.aim is.aim in
    let by = safe_by order.command given order.by order.way is.by is.way in
    let write = safe_right write_rule given (codes "write") order.write is.write in
    let assume = safe_right assume_rule given (codes "assume") order.assume is.assume in
    each_of (IsSafe given) all_options (options_of order.command)
    (plan, (lines, (gates, (borrow, (nodes, (outputs, (format, (from, (to, (aim, (by, (write, (assume, tt))))))))))))) (known_options order.command)

pub safe_values : (command : Command) (all given : List Setting) → AllByRecursion (IsSafe all) (options_of command)
    → AllByRecursion (λ one. IsOneOf (options_of command) one.name) given → AllByRecursion (λ one. value_of one.name all ≡ Some one.value) given
    → AreValues given
safe_values command all [] safes names values = tt
safe_values command all (one ∷ given) safes names values = (
  (among (IsSafe all) (options_of command) one.name safes names.0).each one.value values.0,
  safe_values command all given safes names.1 values.1,
)

pub new_names : (command : Command) (given : List Setting) → AllByRecursion (λ one. IsOneOf (options_of command) one.name) given → AreNew [] given
new_names command [] names = tt
new_names command (one ∷ given) names = ((apart, refl), new_names command given names.1)
  where
    apart : bytes_eq (codes "word") one.name ≡ false
    apart = by_test (bytes_eq (codes "word") one.name)
        (λ t. absurd (false≢true (sym (no_word_option command)
        ∙ subst (λ (n : List ℕ). is_one_of (options_of command) n ≡ true) (sym ((bytes_eq-Decides (codes "word") one.name).0 t))
        (known (options_of command) one.name names.0))))
        (λ f. f)
