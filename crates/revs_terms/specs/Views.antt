-- Programs as contracts see them.
use Rattle.std.specs.Prelude.{List}
use Rattle.revs_terms.specs.declared.program.Param.{Param}
use Rattle.revs_terms.specs.declared.program.Program.{Program}
use Rattle.revs_terms.specs.Trees.{Tree, tree_of}

-- a program: its parameters, and its body as a tree
pub record ProgramView : Type 0 where
  pub params : List Param
  pub body : Tree

abbrev pub view_of : Program → ProgramView
view_of p = record { params = p.params.items; body = tree_of p.body }
