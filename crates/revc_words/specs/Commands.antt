-- What the words of the command line see of each command.
use Rattle.std.specs.Prelude.{ℕ, List, [], ◌∷◌, codes}
use Rattle.revc_words.specs.declared.commands.Command.{Command}
use Rattle.revc_words.specs.declared.commands.Command.TheVariants.{Compile, Check, Ands, Eval, Stat, Run, Convert, Tidy, Gen, Bench, Verify, Arith}
use Rattle.revc_words.specs.declared.commands.Positional.{Positional}
use Rattle.revc_words.specs.declared.commands.Positional.TheVariants.{Nothing, Word, Words, Number, KindAndNumber}

-- a command's name, which is the first word; the names of its options; and what it takes its
-- positional words for
pub record SpellingView : Type 0 where
  pub name : List ℕ
  pub options : List (List ℕ)
  pub takes : Positional

abbrev pub spelling_of : Command → SpellingView
spelling_of Compile = record {
  name = codes "compile";
  options =
      codes "plan" ∷ codes "lines" ∷ codes "gates" ∷ codes "borrow" ∷ codes "nodes"
      ∷ codes "format" ∷ codes "outputs" ∷ codes "assume" ∷ [];
  takes = Nothing;
}
spelling_of Check = record {
  name = codes "check";
  options = codes "nodes" ∷ codes "assume" ∷ [];
  takes = Nothing;
}
spelling_of Ands = record {
  name = codes "ands";
  options = codes "nodes" ∷ codes "assume" ∷ [];
  takes = Nothing;
}
spelling_of Eval = record { name = codes "eval"; options = []; takes = Word }
spelling_of Stat = record { name = codes "stat"; options = codes "from" ∷ []; takes = Nothing }
spelling_of Run = record { name = codes "run"; options = codes "from" ∷ []; takes = Words }
spelling_of Convert = record {
  name = codes "convert";
  options = codes "from" ∷ codes "to" ∷ [];
  takes = Nothing;
}
spelling_of Tidy = record {
  name = codes "tidy";
  options = codes "from" ∷ codes "to" ∷ codes "for" ∷ [];
  takes = Nothing;
}
spelling_of Gen = record { name = codes "gen"; options = []; takes = Number }
spelling_of Bench = record {
  name = codes "bench";
  options =
      codes "plan" ∷ codes "lines" ∷ codes "gates" ∷ codes "borrow" ∷ codes "nodes" ∷ [];
  takes = Number;
}
spelling_of Verify = record {
  name = codes "verify";
  options =
      codes "from" ∷ codes "nodes" ∷ codes "borrow" ∷ codes "outputs" ∷ codes "by"
      ∷ codes "assume" ∷ [];
  takes = Nothing;
}
spelling_of Arith = record {
  name = codes "arith";
  options = codes "by" ∷ codes "write" ∷ [];
  takes = KindAndNumber;
}

abbrev pub name_of : Command → List ℕ
name_of command = (spelling_of command).name

abbrev pub options_of : Command → List (List ℕ)
options_of command = (spelling_of command).options

abbrev pub takes_of : Command → Positional
takes_of command = (spelling_of command).takes

-- ---- `--by`, which is a way to `verify`, and a factor elsewhere; no option has the empty name

-- the option that gives the factor by which a program multiplies
abbrev pub factor_option : Command → List ℕ
factor_option Verify = codes ""
factor_option command = codes "by"

-- the option that gives the way by which a circuit is verified
abbrev pub way_option : Command → List ℕ
way_option Verify = codes "by"
way_option command = codes ""
