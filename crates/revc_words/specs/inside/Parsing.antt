-- What clap makes of the words of a command, and what the texts that it finds give.
use Rattle.std.specs.Prelude.{ℕ, ◌==◌, nat_le, ◌&&◌, Bool, true, false, not, List, [], ◌∷◌, length, codes, Option, Some, None, cond}
use Rattle.std.specs.List.{find}
use Rattle.std.specs.Option.{option_map, option_and_then, unwrap_or}
use Rattle.std.specs.Borrow.{Bor}
use Rattle.std.specs.Str.{bytes_eq, all_ascii_digits}
use Rattle.std.specs.Str.Parse.{digits_value}
use Rattle.clap.specs.Words.{App, Kinds, Row, Rule, all_of, fault_of, first_of, matches_of, new_app, new_rule, with_rule}
use Rattle.clap.specs.declared.builder.action.ArgAction.TheVariants.{Append}
use Rattle.arith_templates.specs.declared.kind.Kind.{Kind}
use Rattle.arith_templates.specs.declared.kind.Kind.TheVariants.{Add, Sub, Less, Inc, Mul}
use Rattle.arith_templates.specs.declared.limits.TheConstants.{MOST_BITS, MOST_FACTOR}
use Rattle.circuit_plans.specs.declared.plan.TheConstants.{MOST_LINES, MOST_GATES, MOST_BORROWED}
use Rattle.circuit_plans.specs.declared.choice.Plan.{Plan}
use Rattle.circuit_plans.specs.declared.choice.Plan.TheVariants.{Auto, Compact, Eager, Lean, Pebble, Shallow}
use Rattle.circuit_plans.specs.declared.roles.Placing.{Placing}
use Rattle.circuit_plans.specs.declared.roles.Placing.TheVariants.{Added, InPlace}
use Rattle.circuit_plans.specs.declared.roles.Start.TheVariants.{Any, Zero}
use Rattle.revc_words.specs.declared.limits.TheConstants.{MOST_ASSUMED, MOST_DIGITS, MOST_NODES, USUAL_LINES, USUAL_GATES, USUAL_NODES}
use Rattle.revc_words.specs.Commands.{factor_option, name_of, options_of, takes_of, way_option}
use Rattle.revc_words.specs.declared.commands.Command.{Command}
use Rattle.revc_words.specs.declared.commands.Command.TheVariants.{Compile}
use Rattle.revc_words.specs.declared.commands.TheConstants.Command.{ALL}
use Rattle.revc_words.specs.declared.commands.Positional.{Positional}
use Rattle.revc_words.specs.declared.commands.Positional.TheVariants.{Nothing, Word, Words, Number, KindAndNumber}
use Rattle.revc_words.specs.declared.order.Aim.{Aim}
use Rattle.revc_words.specs.declared.order.Aim.TheVariants as aims
use Rattle.revc_words.specs.declared.order.Format.{Format}
use Rattle.revc_words.specs.declared.order.Format.TheVariants.{Real, Qasm}
use Rattle.revc_words.specs.declared.order.Way.{Way}
use Rattle.revc_words.specs.declared.order.Way.TheVariants.{Both, Diagrams, Sums}
use Rattle.revc_words.specs.declared.order.Write.{Write}
use Rattle.revc_words.specs.declared.order.Write.TheVariants as writes
use Rattle.revc_words.specs.declared.order.Values.{Values}
use Rattle.revc_words.specs.Words.{OrderView, order_with, plan_word, placing_word, way_word, format_word, aim_word, write_word, kind_word, first_word}

-- ---- the command

-- the command with this name
abbrev pub command_named : List ℕ → Option Command
command_named name = find (λ command. bytes_eq (name_of command) name) ALL

-- ---- positional words

-- what positional words a command asks for: how many there may be, whether a number is among them,
-- and whether a kind of programs is
record Asked : Type 0 where
  pub count : ℕ → Bool
  pub number : Bool
  pub kind : Bool

abbrev asked : Positional → Asked
asked Nothing = record { count = λ count. count == 0; number = false; kind = false }
asked Word = record { count = λ count. count == 1; number = false; kind = false }
asked Words = record { count = λ count. nat_le 1 count; number = false; kind = false }
asked Number = record { count = λ count. count == 1; number = true; kind = false }
asked KindAndNumber = record { count = λ count. count == 2; number = true; kind = true }

-- whether there may be so many
abbrev pub takes_count : Positional → ℕ → Bool
takes_count takes = (asked takes).count

-- whether there are positional words
abbrev pub takes_any : Positional → Bool
takes_any takes = not (takes_count takes 0)

-- whether there is a number
abbrev pub takes_number : Positional → Bool
takes_number takes = (asked takes).number

-- whether there is a kind of programs
abbrev pub takes_kind : Positional → Bool
takes_kind takes = (asked takes).kind

-- ---- the command that clap reads by

-- an option with this name
abbrev pub option_rule : List ℕ → Rule
option_rule name = record (new_rule name) { long = Some name }

-- the positional words, each a use of one argument
abbrev pub word_rule : Rule
word_rule = record (new_rule (codes "word")) { action = Some Append }

abbrev pub with_options : App → List (List ℕ) → App
with_options app [] = app
with_options app (name ∷ names) = with_options (with_rule app (option_rule name)) names

abbrev pub bare : List ℕ → App
bare name = record { top = record (new_app name).top { disable_help_flag = true }; subs = [] }

abbrev pub with_words : Bool → App → App
with_words takes app = cond takes (with_rule app word_rule) app

abbrev pub app_for : Command → App
app_for command =
    with_words (takes_any (takes_of command))
    (with_options (bare (name_of command)) (options_of command))

abbrev pub unless : {A : Type 0} → Kinds → Option A → Option A
unless [] found = found
unless (kind ∷ kinds) found = None

-- the rows of a parse, where it does not fail
abbrev pub parsed : Command → List (List ℕ) → Option (List Row)
parsed command words =
    unless (fault_of (app_for command) words) (Some (matches_of (app_for command) words))

abbrev pub words_in : List Row → List (List ℕ)
words_in rows = unwrap_or (all_of (codes "word") rows) []

-- the first of these that has the word as its text
abbrev pub first_with : {A : Type 0} → (A → List ℕ) → List A → List ℕ → Option A
first_with text [] word = None
first_with text (one ∷ others) word =
    cond (bytes_eq word (text one)) (Some one) (first_with text others word)

-- ---- values

abbrev pub is_number_in : ℕ → ℕ → List ℕ → Bool
is_number_in least most word =
    all_ascii_digits word && (nat_le 1 (length word) && (nat_le (length word) MOST_DIGITS
    && (nat_le least (digits_value 10 word) && nat_le (digits_value 10 word) most)))

abbrev pub number_of : ℕ → ℕ → List ℕ → Option ℕ
number_of least most word =
    cond (is_number_in least most word) (Some (digits_value 10 word)) None

abbrev pub plan_of : List ℕ → Option Plan
plan_of word =
    first_with plan_word (Auto ∷ Compact ∷ Eager ∷ Lean ∷ Pebble ∷ Shallow ∷ []) word

abbrev pub placing_of : List ℕ → Option Placing
placing_of word = first_with placing_word (Added Any ∷ InPlace ∷ Added Zero ∷ []) word

-- the outputs in place, where that is the word
abbrev pub in_place_of : List ℕ → Option Placing
in_place_of word = first_with placing_word (InPlace ∷ []) word

-- where a command is told that the outputs are
abbrev pub placing_for : Command → List ℕ → Option Placing
placing_for Compile word = in_place_of word
placing_for command word = placing_of word

abbrev pub way_of : List ℕ → Option Way
way_of word = first_with way_word (Diagrams ∷ Sums ∷ Both ∷ []) word

abbrev pub format_of : List ℕ → Option Format
format_of word = first_with format_word (Real ∷ Qasm ∷ []) word

abbrev pub aim_of : List ℕ → Option Aim
aim_of word = first_with aim_word (aims.Gates ∷ aims.Depth ∷ aims.Order ∷ []) word

abbrev pub write_of : List ℕ → Option Write
write_of word = first_with write_word (writes.Program ∷ writes.Real ∷ writes.Qasm ∷ []) word

abbrev pub kind_of : List ℕ → Option Kind
kind_of word = first_with kind_word (Add ∷ Sub ∷ Less ∷ Inc ∷ Mul ∷ []) word

-- the text behind a reference, where there is one
abbrev pub text_at : Option (Bor (List ℕ)) → Option (List ℕ)
text_at text = option_map (λ s. s.now) text

-- the value of the text that is given, or the usual one where none is
abbrev pub value_or : {A : Type 0} → A → (List ℕ → Option A) → Option (List ℕ) → Option A
value_or usual value None = Some usual
value_or usual value (Some text) = value text

-- the texts that are given to the options
pub record Texts : Type 0 where
  pub plan : Option (List ℕ)
  pub lines : Option (List ℕ)
  pub gates : Option (List ℕ)
  pub borrow : Option (List ℕ)
  pub nodes : Option (List ℕ)
  pub assume : Option (List ℕ)
  pub outputs : Option (List ℕ)
  pub way : Option (List ℕ)
  pub format : Option (List ℕ)
  pub from : Option (List ℕ)
  pub to : Option (List ℕ)
  pub aim : Option (List ℕ)
  pub by : Option (List ℕ)
  pub write : Option (List ℕ)

-- the texts by the names of a command's options
abbrev pub texts_by : Command → (List ℕ → Option (List ℕ)) → Texts
texts_by command text_of = record {
  plan = text_of (codes "plan");
  lines = text_of (codes "lines");
  gates = text_of (codes "gates");
  borrow = text_of (codes "borrow");
  nodes = text_of (codes "nodes");
  assume = text_of (codes "assume");
  outputs = text_of (codes "outputs");
  way = text_of (way_option command);
  format = text_of (codes "format");
  from = text_of (codes "from");
  to = text_of (codes "to");
  aim = text_of (codes "for");
  by = text_of (factor_option command);
  write = text_of (codes "write");
}

abbrev pub texts_in : Command → List Row → Texts
texts_in command rows = texts_by command (λ name. first_of name rows)

abbrev pub values_of : Command → Texts → Option Values
values_of command texts =
    option_and_then (λ plan.
    option_and_then (λ lines.
    option_and_then (λ gates.
    option_and_then (λ borrow.
    option_and_then (λ nodes.
    option_and_then (λ assume.
    option_and_then (λ outputs.
    option_and_then (λ way.
    option_and_then (λ format.
    option_and_then (λ from.
    option_and_then (λ to.
    option_and_then (λ aim.
    option_and_then (λ by.
    option_and_then (λ write. Some (record {
      plan = plan;
      lines = lines;
      gates = gates;
      borrow = borrow;
      nodes = nodes;
      assume = assume;
      outputs = outputs;
      way = way;
      format = format;
      from = from;
      to = to;
      aim = aim;
      by = by;
      write = write;
    }))
    (value_or writes.Program write_of texts.write))
    (value_or 0 (number_of 1 MOST_FACTOR) texts.by))
    (value_or aims.Gates aim_of texts.aim))
    (value_or Qasm format_of texts.to))
    (value_or Real format_of texts.from))
    (value_or Real format_of texts.format))
    (value_or Diagrams way_of texts.way))
    (value_or (Added Zero) (placing_for command) texts.outputs))
    (value_or 0 (number_of 0 MOST_ASSUMED) texts.assume))
    (value_or USUAL_NODES (number_of 1 MOST_NODES) texts.nodes))
    (value_or 0 (number_of 0 MOST_BORROWED) texts.borrow))
    (value_or USUAL_GATES (number_of 1 MOST_GATES) texts.gates))
    (value_or USUAL_LINES (number_of 1 MOST_LINES) texts.lines))
    (value_or Auto plan_of texts.plan)

-- ---- what positional words give

-- whether programs of a kind multiply
abbrev pub takes_factor : Kind → Bool
takes_factor Add = false
takes_factor Sub = false
takes_factor Less = false
takes_factor Inc = false
takes_factor Mul = true

-- the kind, where there is a factor exactly if it multiplies
abbrev pub with_factor : ℕ → Kind → Option Kind
with_factor by kind =
    cond (takes_factor kind) (cond (by == 0) None (Some kind)) (cond (by == 0) (Some kind) None)

-- the kind, the number and the bits for which they are taken
abbrev pub kind_for : Positional → ℕ → List (List ℕ) → Option Kind
kind_for takes by plain =
    cond (takes_kind takes)
    (option_and_then (with_factor by) (kind_of (first_word plain))) (Some Add)

-- the word for the number: the second where there are two
abbrev pub number_word : List (List ℕ) → List ℕ
number_word [] = []
number_word (word ∷ []) = word
number_word (kind ∷ word ∷ rest) = word

abbrev pub number_for : Positional → List (List ℕ) → Option ℕ
number_for takes plain =
    cond (takes_number takes) (number_of 1 MOST_BITS (number_word plain)) (Some 0)

abbrev pub bits_for : Positional → List (List ℕ) → List (List ℕ)
bits_for takes plain = cond (takes_number takes) [] plain

-- ---- the order

-- the order of a command with these values and positional words
abbrev pub order_by : Command → List (List ℕ) → Values → Option OrderView
order_by command plain values =
    cond (takes_count (takes_of command) (length plain))
    (option_and_then (λ kind.
    option_map (λ number. order_with command values kind number (bits_for (takes_of command) plain))
    (number_for (takes_of command) plain))
    (kind_for (takes_of command) values.by plain)) None

-- with these texts and positional words
abbrev pub order_of_texts : Command → Texts → List (List ℕ) → Option OrderView
order_of_texts command texts plain =
    option_and_then (order_by command plain) (values_of command texts)

-- with these rows
abbrev pub order_for : Command → List Row → Option OrderView
order_for command rows = order_of_texts command (texts_in command rows) (words_in rows)
