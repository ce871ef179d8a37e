-- Commands: one is found by its name, its options have good names, and clap reads its words by them.
use Rattle.std.proofs.Common.{drop, ◌≡◌, ◌≢◌, ℕ, true, false, List, [], ◌∷◌}
use Rattle.std.proofs.Common.{Some, None, Bool, if◌then◌else◌, refl, sym, ap, ◌∙◌, codes}
use Rattle.std.specs.List.{find, list_all}
use Rattle.std.specs.Str.{bytes_eq}
use Rattle.std.proofs.lemmas.Option.{same_Some}
use Rattle.std.proofs.lemmas.Slice.Eq.{bytes_eq-Decides}
use Rattle.clap.specs.Simple.{argument_words, built}
use Rattle.revc_words.specs.declared.commands.Command.{Command}
use Rattle.revc_words.specs.declared.commands.Command.TheVariants.{Compile}
use Rattle.revc_words.specs.declared.commands.TheConstants.Command.{ALL}
use Rattle.revc_words.specs.Commands.{name_of, options_of, takes_of}
use Rattle.revc_words.specs.inside.Parsing.{app_for, command_named}
use Rattle.revc_words.specs.inside.Parsing.{parsed, takes_any}
use Rattle.revc_words.proofs.WalkLemmas.{by_test, is_one_of, filled_app, run, clap_says, AreTexts}
use Rattle.revc_words.proofs.ReadsLemmas.{is_name}

-- ---- commands

-- What is found by a name has it. Each line `command = refl` is checked for each of the others.
find_passes : {A : Type 0} (p : A → Bool) (xs : List A) (x : A) → find p xs ≡ Some x → p x ≡ true
find_passes p [] x e = absurd cc
find_passes p (y ∷ ys) x e = by_test (p y)
    (λ t. ap p (sym (same_Some _ _ (sym (ap (λ b. if b then Some y else find p ys) t) ∙ e))) ∙ t)
    (λ f. find_passes p ys x (sym (ap (λ b. if b then Some y else find p ys) f) ∙ e))

pub named_is : (name : List ℕ) (command : Command) → command_named name ≡ Some command → name ≡ name_of command
named_is name command e = sym ((bytes_eq-Decides (name_of command) name).0 (find_passes (λ c. bytes_eq (name_of c) name) ALL command e))

is_named : (command : Command) → command_named (name_of command) ≡ Some command
is_named Compile = refl
is_named command = refl

none_named : (name : List ℕ) → command_named name ≡ None → (command : Command) → name ≢ name_of command
none_named name e command is = apart (sym e ∙ ap command_named is ∙ is_named command)
  where
    apart : None ≡ Some command → ⊥
    apart e = absurd cc

pub one_command : (one other : Command) → name_of one ≡ name_of other → one ≡ other
one_command one other e = same_Some _ _ (sym (is_named one) ∙ ap command_named e ∙ is_named other)

pub heads : {A : Type 0} {a b : A} {xs ys : List A} → a ∷ xs ≡ b ∷ ys → (a ≡ b) × (xs ≡ ys)
heads e = (cc, cc)

-- its options have good names
pub option_names : (command : Command) → list_all is_name (options_of command) ≡ true
option_names Compile = refl
option_names command = refl

pub no_word_option : (command : Command) → is_one_of (options_of command) (codes "word") ≡ false
no_word_option Compile = refl
no_word_option command = refl

-- the command that clap builds of it
builds : (command : Command) → built (app_for command) ≡ filled_app (name_of command) (options_of command) (takes_any (takes_of command))
builds Compile = refl
builds command = refl

arguments : (command : Command) (words behind : List (List ℕ)) → words ≡ name_of command ∷ behind → argument_words (app_for command) words ≡ behind
arguments Compile words behind e = ap (drop 1) e
arguments command words behind e = ap (drop 1) e

pub parsed_so : (command : Command) (words behind : List (List ℕ)) → words ≡ name_of command ∷ behind → AreTexts behind
    → parsed command words ≡ run (options_of command) (takes_any (takes_of command)) behind None []
parsed_so command words behind e texts =
    clap_says (app_for command) (name_of command) (options_of command) (takes_any (takes_of command)) (builds command) (no_word_option command) words behind
    (arguments command words behind e) texts
