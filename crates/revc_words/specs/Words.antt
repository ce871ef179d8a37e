-- What the words of the command line ask for: a command, its options and its positional words.
use Rattle.std.specs.Prelude.{◌≡◌, ◌≢◌, ◌⊎◌, ℕ, ◌≤◌, ◌==◌, Bool, false, IsNone, IsSome, List, [], ◌∷◌, ◌++◌, length, map, string_bytes, codes, Option, Some, None, MatchOption}
use Rattle.std.specs.Prelude.{cond}
use Rattle.std.specs.List.{AllPairs}
use Rattle.std.specs.Str.{bytes_eq}
use Rattle.std.specs.Str.Parse.{IsNumeral, digits_value}
use Rattle.std.specs.Global.{Global}
use Rattle.std.specs.declared.string.String.{String}
use Rattle.arith_templates.specs.declared.kind.Kind.{Kind}
use Rattle.arith_templates.specs.declared.kind.Kind.TheVariants.{Add, Sub, Less, Inc, Mul}
use Rattle.arith_templates.specs.declared.limits.TheConstants.{MOST_BITS, MOST_FACTOR}
use Rattle.circuit_plans.specs.declared.plan.TheConstants.{MOST_LINES, MOST_GATES, MOST_BORROWED}
use Rattle.circuit_plans.specs.declared.choice.Plan.{Plan}
use Rattle.circuit_plans.specs.declared.choice.Plan.TheVariants.{Auto, Compact, Eager, Lean, Pebble, Shallow}
use Rattle.circuit_plans.specs.declared.roles.Placing.{Placing}
use Rattle.circuit_plans.specs.declared.roles.Placing.TheVariants.{Added, InPlace}
use Rattle.circuit_plans.specs.declared.roles.Start.TheVariants.{Any, Zero}
use Rattle.revc_words.specs.declared.limits.TheConstants.{MOST_ASSUMED, MOST_DIGITS, MOST_NODES, USUAL_LINES, USUAL_GATES, USUAL_NODES}
use Rattle.revc_words.specs.Commands.{factor_option, name_of, options_of, takes_of, way_option}
use Rattle.revc_words.specs.declared.commands.Command.{Command}
use Rattle.revc_words.specs.declared.commands.Command.TheVariants.{Compile}
use Rattle.revc_words.specs.declared.commands.Positional.{Positional}
use Rattle.revc_words.specs.declared.commands.Positional.TheVariants.{Nothing, Word, Words, Number, KindAndNumber}
use Rattle.revc_words.specs.declared.order.Aim.{Aim}
use Rattle.revc_words.specs.declared.order.Aim.TheVariants as aims
use Rattle.revc_words.specs.declared.order.Format.{Format}
use Rattle.revc_words.specs.declared.order.Format.TheVariants.{Real, Qasm}
use Rattle.revc_words.specs.declared.order.Way.{Way}
use Rattle.revc_words.specs.declared.order.Way.TheVariants.{Both, Diagrams, Sums}
use Rattle.revc_words.specs.declared.order.Write.{Write}
use Rattle.revc_words.specs.declared.order.Write.TheVariants as writes
use Rattle.revc_words.specs.declared.order.Order.{Order}
use Rattle.revc_words.specs.declared.order.Values.{Values}

-- the words as contracts see them: lists of bytes
abbrev pub words_of : List (String Global) → List (List ℕ)
words_of words = map string_bytes words

-- ---- orders

-- a command, the plans that it tries, the most lines and gates of its circuit, how many lines it
-- borrows, the most nodes of its diagrams, how many claims it takes for granted, where it puts the
-- outputs, the way by which a circuit is verified, the format of the circuit of a program, the
-- formats that `convert` and `tidy` read and write, for what a circuit is tidied, what a program
-- computes of numbers, the factor by which it multiplies, what is written of it, how many bits its
-- numbers have, and words of bits
pub record OrderView : Type 0 where
  pub command : Command
  pub plan : Plan
  pub lines : ℕ
  pub gates : ℕ
  pub borrow : ℕ
  pub nodes : ℕ
  pub assume : ℕ
  pub outputs : Placing
  pub way : Way
  pub format : Format
  pub from : Format
  pub to : Format
  pub aim : Aim
  pub kind : Kind
  pub by : ℕ
  pub write : Write
  pub number : ℕ
  pub bits : List (List ℕ)

-- the order of a command with these values of its options, this kind, this number and these bits
abbrev pub order_with : Command → Values → Kind → ℕ → List (List ℕ) → OrderView
order_with command values kind number bits = record {
  command = command;
  plan = values.plan;
  lines = values.lines;
  gates = values.gates;
  borrow = values.borrow;
  nodes = values.nodes;
  assume = values.assume;
  outputs = values.outputs;
  way = values.way;
  format = values.format;
  from = values.from;
  to = values.to;
  aim = values.aim;
  kind = kind;
  by = values.by;
  write = values.write;
  number = number;
  bits = bits;
}

-- an order as contracts see it
abbrev pub order_of : Order → OrderView
order_of order =
    order_with order.command order.values order.kind order.number (words_of order.bits.items)

abbrev pub first_word : List (List ℕ) → List ℕ
first_word [] = []
first_word (word ∷ rest) = word

-- ---- reading

-- whether a word begins with `-`, and is not `-` alone
abbrev pub is_option : List ℕ → Bool
is_option (first ∷ second ∷ rest) = first == 45
is_option _ = false

-- the name of an option, and the value that is given to it
pub record Setting : Type 0 where
  pub name : List ℕ
  pub value : List ℕ

-- the name is that of one of these options
abbrev pub IsOneOf : List (List ℕ) → List ℕ → Type 0
IsOneOf [] name = ⊥
IsOneOf (option ∷ options) name = (name ≡ option) ⊎ IsOneOf options name

-- The words behind a command's name, read from the left, where the command has these options: the
-- options given, each with its value, and the positional words.
pub data Reads (options : List (List ℕ))
    : List (List ℕ) → List Setting → List (List ℕ) → Type 0 where
  nothing_left : Reads options [] [] []
  -- `--` ends the options: every word behind it is positional
  all_behind : {word : List ℕ} {words : List (List ℕ)}
      → word ≡ codes "--" → Reads options (word ∷ words) [] words
  -- `--name=value`
  joined : {word : List ℕ} {words plain : List (List ℕ)} {given : List Setting} (one : Setting)
      → IsOneOf options one.name → word ≡ codes "--" ++ (one.name ++ (codes "=" ++ one.value))
      → Reads options words given plain → Reads options (word ∷ words) (one ∷ given) plain
  -- `--name value`
  parted : {word : List ℕ} {words plain : List (List ℕ)} {given : List Setting} (one : Setting)
      → IsOneOf options one.name → word ≡ codes "--" ++ one.name → one.value ≢ codes "--"
      → Reads options words given plain
      → Reads options (word ∷ one.value ∷ words) (one ∷ given) plain
  positional : {word : List ℕ} {words plain : List (List ℕ)} {given : List Setting}
      → is_option word ≡ false → Reads options words given plain
      → Reads options (word ∷ words) given (word ∷ plain)

-- each option is given at most once
abbrev pub IsGivenOnce : List Setting → Type 0
IsGivenOnce given = AllPairs (λ one other. one.name ≢ other.name) given

-- ---- values

-- the value that is given to the option of this name, if one is
abbrev pub value_of : List ℕ → List Setting → Option (List ℕ)
value_of name [] = None
value_of name (one ∷ given) = cond (bytes_eq one.name name) (Some one.value) (value_of name given)

-- a word of 1 to 7 digits, with this value in this range
pub record IsNumberIn (least most : ℕ) (word : List ℕ) (n : ℕ) : Type 0 where
  pub digits : IsNumeral 10 word
  pub few : length word ≤ MOST_DIGITS
  pub value : digits_value 10 word ≡ n
  pub least_is : least ≤ n
  pub most_is : n ≤ most

-- the word for a choice of plans
abbrev pub plan_word : Plan → List ℕ
plan_word Auto = codes "auto"
plan_word Compact = codes "compact"
plan_word Eager = codes "eager"
plan_word Lean = codes "lean"
plan_word Pebble = codes "pebble"
plan_word Shallow = codes "shallow"

-- the word for where a circuit puts the outputs
abbrev pub placing_word : Placing → List ℕ
placing_word (Added Any) = codes "any"
placing_word (Added Zero) = codes "zero"
placing_word InPlace = codes "inputs"

-- the word for a way by which a circuit is verified
abbrev pub way_word : Way → List ℕ
way_word Diagrams = codes "diagrams"
way_word Sums = codes "sums"
way_word Both = codes "both"

-- the word for a format
abbrev pub format_word : Format → List ℕ
format_word Real = codes "real"
format_word Qasm = codes "qasm"

-- the word for what a circuit is tidied for
abbrev pub aim_word : Aim → List ℕ
aim_word aims.Gates = codes "gates"
aim_word aims.Depth = codes "depth"
aim_word aims.Order = codes "order"

-- the word for what is written of a program
abbrev pub write_word : Write → List ℕ
write_word writes.Program = codes "program"
write_word writes.Real = codes "real"
write_word writes.Qasm = codes "qasm"

-- the word for a kind of programs
abbrev pub kind_word : Kind → List ℕ
kind_word Add = codes "add"
kind_word Sub = codes "sub"
kind_word Less = codes "less"
kind_word Inc = codes "inc"
kind_word Mul = codes "mul"

-- the value of an option: the one whose word is given, or the usual one
abbrev pub IsChosen : {A : Type 0} → List ℕ → (A → List ℕ) → A → List Setting → A → Type 0
IsChosen name word_for usual given value =
    MatchOption (value_of name given) (value ≡ usual) (λ word. word ≡ word_for value)

-- the number of an option: the one that is given, in this range, or the usual one
abbrev pub IsCounted : List ℕ → ℕ → ℕ → ℕ → List Setting → ℕ → Type 0
IsCounted name least most usual given number =
    MatchOption (value_of name given) (number ≡ usual)
    (λ word. IsNumberIn least most word number)

-- the plans that are tried: those that are given, or the eager plan and then pebbling
abbrev pub IsPlan : List Setting → Plan → Type 0
IsPlan given plan = IsChosen (codes "plan") plan_word Auto given plan

-- the most lines: those that are given, from 1 on, or the usual number
abbrev pub AreLines : List Setting → ℕ → Type 0
AreLines given lines = IsCounted (codes "lines") 1 MOST_LINES USUAL_LINES given lines

-- the most gates: those that are given, from 1 on, or the usual number
abbrev pub AreGates : List Setting → ℕ → Type 0
AreGates given gates = IsCounted (codes "gates") 1 MOST_GATES USUAL_GATES given gates

-- the borrowed lines: as many as are given, or none
abbrev pub AreBorrowed : List Setting → ℕ → Type 0
AreBorrowed given borrow = IsCounted (codes "borrow") 0 MOST_BORROWED 0 given borrow

-- the most nodes: those that are given, from 1 on, or the usual number
abbrev pub AreNodes : List Setting → ℕ → Type 0
AreNodes given nodes = IsCounted (codes "nodes") 1 MOST_NODES USUAL_NODES given nodes

-- the claims taken for granted: as many as are given, or none
abbrev pub AreAssumed : List Setting → ℕ → Type 0
AreAssumed given assume = IsCounted (codes "assume") 0 MOST_ASSUMED 0 given assume

-- what a command may be told of where the outputs are: `compile` that they are in place, since
-- which of the others holds is its plan's
abbrev pub MayPlace : Command → Placing → Type 0
MayPlace Compile (Added start) = ⊥
MayPlace command placing = Unit {0}

-- where the outputs are: as is given, or added to output lines that hold zeros at the start
abbrev pub IsPlacing : Command → List Setting → Placing → Type 0
IsPlacing command given placing =
    MatchOption (value_of (codes "outputs") given) (placing ≡ Added Zero)
    (λ word. (word ≡ placing_word placing) × MayPlace command placing)

-- the format that is written: the one given, or `.real`
abbrev pub IsFormat : List Setting → Format → Type 0
IsFormat given format = IsChosen (codes "format") format_word Real given format

-- the format that is read: the one given, or `.real`
abbrev pub IsFrom : List Setting → Format → Type 0
IsFrom given from = IsChosen (codes "from") format_word Real given from

-- the format that `convert` and `tidy` write: the one given, or OpenQASM
abbrev pub IsTo : List Setting → Format → Type 0
IsTo given to = IsChosen (codes "to") format_word Qasm given to

-- for what a circuit is tidied: what is given, or few gates
abbrev pub IsAim : List Setting → Aim → Type 0
IsAim given aim = IsChosen (codes "for") aim_word aims.Gates given aim

-- the factor: the one that is given to the command, from 1 on, or 0
abbrev pub IsBy : Command → List Setting → ℕ → Type 0
IsBy command given by = IsCounted (factor_option command) 1 MOST_FACTOR 0 given by

-- the way by which a circuit is verified: the one that is given to the command, or by diagrams
abbrev pub IsWay : Command → List Setting → Way → Type 0
IsWay command given way = IsChosen (way_option command) way_word Diagrams given way

-- what is written of a program: what is given, or its text
abbrev pub IsWrite : List Setting → Write → Type 0
IsWrite given write = IsChosen (codes "write") write_word writes.Program given write

-- ---- positional words

-- what positional words give: what a program computes of numbers, how many bits these have, and
-- words of bits
pub record Taken : Type 0 where
  pub kind : Kind
  pub number : ℕ
  pub bits : List (List ℕ)

-- words of bits, and no number
pub record AreBits (plain : List (List ℕ)) (taken : Taken) : Type 0 where
  pub no_kind : taken.kind ≡ Add
  pub no_number : taken.number ≡ 0
  pub same : taken.bits ≡ plain

-- one word, a number in its range, and no words of bits
pub record TakesNumber (plain : List (List ℕ)) (taken : Taken) : Type 0 where
  pub word : List ℕ
  pub only : plain ≡ word ∷ []
  pub in_range : IsNumberIn 1 MOST_BITS word taken.number
  pub no_kind : taken.kind ≡ Add
  pub no_bits : taken.bits ≡ []

-- a factor is given exactly where programs multiply
abbrev pub HasFactor : Kind → Option (List ℕ) → Type 0
HasFactor Add factor = IsNone factor
HasFactor Sub factor = IsNone factor
HasFactor Less factor = IsNone factor
HasFactor Inc factor = IsNone factor
HasFactor Mul factor = IsSome factor

-- a kind of programs, given a factor exactly where they multiply, a number in its range, and no
-- words of bits
pub record TakesKind (given : List Setting) (plain : List (List ℕ)) (taken : Taken) : Type 0 where
  pub word : List ℕ
  pub both : plain ≡ kind_word taken.kind ∷ word ∷ []
  pub factor : HasFactor taken.kind (value_of (codes "by") given)
  pub in_range : IsNumberIn 1 MOST_BITS word taken.number
  pub no_bits : taken.bits ≡ []

-- what a command takes its positional words for, behind these options: nothing, one word of bits,
-- one or more words of bits, a number, or a kind of programs and a number
abbrev pub TakesWords : Positional → List Setting → List (List ℕ) → Taken → Type 0
TakesWords Nothing given plain taken = (length plain ≡ 0) × AreBits plain taken
TakesWords Word given plain taken = (length plain ≡ 1) × AreBits plain taken
TakesWords Words given plain taken = (1 ≤ length plain) × AreBits plain taken
TakesWords Number given plain taken = TakesNumber plain taken
TakesWords KindAndNumber given plain taken = TakesKind given plain taken

-- ---- the order of the words

-- what the positional words of an order gave
abbrev pub taken_of : OrderView → Taken
taken_of order = record { kind = order.kind; number = order.number; bits = order.bits }

-- The words are the name of a command, its options, each at most once, and the positional words
-- that it takes.
pub record IsOrder (words : List (List ℕ)) (order : OrderView) : Type 0 where
  pub behind : List (List ℕ)
  pub given : List Setting
  pub plain : List (List ℕ)
  pub named : words ≡ name_of order.command ∷ behind
  pub read : Reads (options_of order.command) behind given plain
  pub once : IsGivenOnce given
  pub takes : TakesWords (takes_of order.command) given plain (taken_of order)
  pub plan : IsPlan given order.plan
  pub lines : AreLines given order.lines
  pub gates : AreGates given order.gates
  pub borrow : AreBorrowed given order.borrow
  pub nodes : AreNodes given order.nodes
  pub assume : AreAssumed given order.assume
  pub outputs : IsPlacing order.command given order.outputs
  pub way : IsWay order.command given order.way
  pub format : IsFormat given order.format
  pub from : IsFrom given order.from
  pub to : IsTo given order.to
  pub aim : IsAim given order.aim
  pub by : IsBy order.command given order.by
  pub write : IsWrite given order.write

pub record HasNoOrder (words : List (List ℕ)) : Type 0 where
  pub refuted : (order : OrderView) → ¬ IsOrder words order

-- the number is one, where a command takes a number
abbrev pub HasNumber : Positional → ℕ → Type 0
HasNumber Nothing number = Unit {0}
HasNumber Word number = Unit {0}
HasNumber Words number = Unit {0}
HasNumber Number number = 1 ≤ number
HasNumber KindAndNumber number = 1 ≤ number

-- the numbers of an order are within their limits
pub record IsWithinLimits (order : OrderView) : Type 0 where
  pub some_lines : 1 ≤ order.lines
  pub lines : order.lines ≤ MOST_LINES
  pub some_gates : 1 ≤ order.gates
  pub gates : order.gates ≤ MOST_GATES
  pub borrow : order.borrow ≤ MOST_BORROWED
  pub nodes : 1 ≤ order.nodes
  pub few_nodes : order.nodes ≤ MOST_NODES
  pub few_assumed : order.assume ≤ MOST_ASSUMED
  pub few_bits : order.number ≤ MOST_BITS
  pub some_bits : HasNumber (takes_of order.command) order.number
  pub some_factor : order.kind ≡ Mul → 1 ≤ order.by
  pub small_factor : order.by ≤ MOST_FACTOR

-- The law: every order is within the limits.
abbrev pub OrdersAreWithinLimits : Type 0
OrdersAreWithinLimits =
    (words : List (List ℕ)) (order : OrderView) → IsOrder words order → IsWithinLimits order

-- The law: words give one order at most.
abbrev pub OneOrder : Type 0
OneOrder =
    (words : List (List ℕ)) (one other : OrderView)
    → IsOrder words one → IsOrder words other → one ≡ other
