-- `ands`: how many ANDs the run of a program writes, and how many are enough.
use Rattle.std.specs.Prelude.{◌≡◌, ℕ, ◌+◌, ◌≤◌, Bool, List, ◌++◌, codes, Some, [], ◌∷◌}
use Rattle.claim_check.specs.Settled.{SettledView, IsSettledOf}
use Rattle.command_answers.specs.Lines.{number_line}
use Rattle.command_answers.specs.Outcomes.{Promise, exact_promise}
use Rattle.copied_plans.specs.Levels.{and_depth}
use Rattle.program_commands.specs.declared.ands.AndCounts.{AndCounts}
use Rattle.program_texts.specs.Check as check
use Rattle.program_texts.specs.Refusals.{program_limit}
use Rattle.program_texts.specs.Settling.{LeavesSettled}
use Rattle.revc_words.specs.Words.{OrderView}
use Rattle.revs_tape.specs.Measures.{ands_of, inputs_of}
use Rattle.revs_tape.specs.Tapes.{TapeView, outputs_on}
use Rattle.sum_graph.specs.Graphs.{SumGraphView, products_in, sum_outputs}

-- a graph of sums that has, on every input, the outputs of a tape
pub record HasOutputsOf (tape : TapeView) (graph : SumGraphView) : Type 0 where
  pub inputs : graph.inputs ≡ inputs_of tape
  pub values : (input : List Bool) → sum_outputs graph input ≡ outputs_on tape input

-- the products of a graph of sums, each an AND of two sums
abbrev pub products_of : SumGraphView → ℕ
products_of graph = products_in graph.nodes + products_in graph.outputs

-- So many ANDs are enough for what a tape computes, with exclusive ors beside them.
pub record AreEnough (tape : TapeView) (ands : ℕ) : Type 0 where
  pub graph : SumGraphView
  pub outputs : HasOutputsOf tape graph
  pub products : products_of graph ≡ ands

-- The ANDs that a tape writes, how many are enough, no more than these, and the most on a path
-- through a settled graph of the tape.
pub record AreCountsOf (tape : TapeView) (counts : AndCounts) : Type 0 where
  pub ands : counts.ands ≡ ands_of tape
  pub enough : AreEnough tape counts.left
  pub few : counts.left ≤ ands_of tape
  pub graph : SettledView
  pub graph_of : IsSettledOf tape graph
  pub depth : counts.depth ≡ and_depth graph.nodes

-- three lines
abbrev pub ands_text : AndCounts → List ℕ
ands_text counts =
    number_line (codes "ands ") counts.ands
    ++ (number_line (codes "left ") counts.left ++ number_line (codes "depth ") counts.depth)

-- every claim of the text's program holds on the inputs that meet the first so many, of which there
-- are some, and these are the lines of the counts of its ANDs
pub record AreCounted (text : List ℕ) (assumed nodes : ℕ) (written : List ℕ) : Type 0 where
  pub tape : TapeView
  pub settled : LeavesSettled text assumed nodes tape
  pub counts : AndCounts
  pub are : AreCountsOf tape counts
  pub lines : written ≡ ands_text counts

-- what is written
abbrev pub Gives : OrderView → List ℕ → List ℕ → Type 0
Gives order text written = AreCounted text order.assume order.nodes written

-- it has the causes of `check`, and serves where that does
abbrev pub promise : Promise
promise =
    exact_promise (Some program_limit) (3 ∷ 4 ∷ 5 ∷ 20 ∷ []) Gives check.IsCause check.Serves
