-- Loops over names and words: what is done, and what is left.
use Rattle.std.proofs.Common.{◌≡◌, ℕ, zero, suc, ◌+◌, ◌<◌, Bool, true, List, [], ◌∷◌, ◌++◌, length, map, drop, refl, sym, ap, ◌∙◌, arith}
use Rattle.std.proofs.Common.{Bor}
use Rattle.std.specs.Prelude.{slice_index_or}
use Rattle.std.proofs.lemmas.List.{drop_all}
use Rattle.clap.specs.Words.{App, Rule, with_rule}
use Rattle.revc_words.specs.declared.commands.Command.{Command}
use Rattle.revc_words.specs.Commands.{name_of, options_of, takes_of}
use Rattle.revc_words.specs.inside.Parsing.{app_for, bare, option_rule, takes_any, with_options, with_words, word_rule}

-- the texts from this place on
abbrev pub left : List (Bor (List ℕ)) → ℕ → List (List ℕ)
left texts place = map (λ s. s.now) (drop place texts)

text_left : (texts : List (Bor (List ℕ))) (place : ℕ) (text : Bor (List ℕ)) → place < length texts
    → left texts place ≡ (slice_index_or texts place text).now ∷ left texts (place + 1)
text_left [] place text lt = absurd (omega arith)
text_left (first ∷ texts) zero text lt = refl
text_left (first ∷ texts) (suc place) text lt =
    let next : suc place + 1 ≡ suc (place + 1) = omega arith in
    rw next (text_left texts place text (omega arith))

none_left : (texts : List (Bor (List ℕ))) (place : ℕ) → length texts ≡ place → left texts place ≡ []
none_left texts place over = ap (map (λ s. s.now)) (drop_all place texts (omega arith))

-- ---- the options of a command

-- with the options that are left, it is the whole command
pub record IsBuilding (command : Command) (app : App) (names : List (Bor (List ℕ))) (place : ℕ) : Type 0 where
  pub same : with_options app (left names place) ≡ with_options (bare (name_of command)) (options_of command)

pub building_more : (command : Command) (app next : App) (names : List (Bor (List ℕ))) (place : ℕ) (any : Bor (List ℕ)) → place < length names
    → IsBuilding command app names place → next ≡ with_rule app (option_rule (slice_index_or names place any).now)
    → IsBuilding command next names (place + 1)
building_more command app next names place any lt inv added = record {
  same =
      ap (λ a. with_options a (left names (place + 1))) added
      ∙ sym (ap (with_options app) (text_left names place any lt)) ∙ inv.same;
}

pub built_all : (command : Command) (app : App) (names : List (Bor (List ℕ))) (place : ℕ) → length names ≡ place → IsBuilding command app names place
    → app ≡ with_options (bare (name_of command)) (options_of command)
built_all command app names place over inv = ap (with_options app) (sym (none_left names place over)) ∙ inv.same

pub built_with_words : (command : Command) (app more : App) (names : List (Bor (List ℕ))) (place : ℕ) (rule : Rule) → length names ≡ place
    → IsBuilding command app names place → true ≡ takes_any (takes_of command) → rule ≡ word_rule → more ≡ with_rule app rule → more ≡ app_for command
built_with_words command app more names place rule over inv takes is added =
    let whole : App = with_options (bare (name_of command)) (options_of command) in
    added ∙ ap (with_rule app) is ∙ ap (λ (a : App). with_rule a word_rule) (built_all command app names place over inv)
    ∙ ap (λ (t : Bool). with_words t whole) takes

-- ---- words that are copied

-- with the words that are left, these are all
pub record IsCopying (words : List (Bor (List ℕ))) (copies : List (List ℕ)) (place : ℕ) : Type 0 where
  pub same : copies ++ left words place ≡ map (λ s. s.now) words
