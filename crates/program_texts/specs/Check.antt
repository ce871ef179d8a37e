-- `check`: how many claims a program has, each of which holds on all inputs that meet the first so
-- many of them.
use Rattle.std.specs.Prelude.{◌≡◌, ℕ, List, ◌++◌, length, codes, Some, [], ◌∷◌}
use Rattle.command_answers.specs.Outcomes.{Promise, exact_promise}
use Rattle.program_texts.specs.Refusals.{program_limit}
use Rattle.std.specs.Fmt.{decimal}
use Rattle.revs_tape.specs.Tapes.{TapeView}
use Rattle.revc_words.specs.Words.{OrderView}
use Rattle.command_answers.specs.declared.fault.Fault.{Fault}
use Rattle.program_texts.specs.Settling.{LeavesSettled, StopsSettling}

-- the line of so many claims
abbrev pub claims_text : ℕ → List ℕ
claims_text count = codes "claims " ++ (decimal count ++ codes "\n")

-- every claim of the text's program holds on the inputs that meet the first so many, of which
-- there are some, and this is the line of the number of all claims
pub record IsChecked (text : List ℕ) (assumed nodes : ℕ) (written : List ℕ) : Type 0 where
  pub tape : TapeView
  pub settled : LeavesSettled text assumed nodes tape
  pub line : written ≡ claims_text (length tape.claims)

-- what is written
abbrev pub Gives : OrderView → List ℕ → List ℕ → Type 0
Gives order text written = IsChecked text order.assume order.nodes written

-- why nothing is
abbrev pub IsCause : OrderView → List ℕ → Fault → Type 0
IsCause order text fault = StopsSettling text order.assume order.nodes fault

-- where something is, unless memory or a device is wanting: every claim holds where the assumed
-- ones do, within the nodes
abbrev pub Serves : OrderView → List ℕ → Type 0
Serves order text = (tape : TapeView) × LeavesSettled text order.assume order.nodes tape

abbrev pub promise : Promise
promise =
    exact_promise (Some program_limit) (3 ∷ 4 ∷ 5 ∷ 20 ∷ []) Gives IsCause Serves
