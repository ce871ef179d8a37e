use Rattle.std.proofs.Common.{List, subst, arith}
use Rattle.revs_terms.specs.declared.program.Param.{Param}
use Rattle.revs_terms.specs.Programs.{AreParams}
use Rattle.revs_terms.specs.Trees.{tree_of}
use Rattle.revs_grammar.proofs.SpellingLemmas.{body_kept, names_kept}
use Rattle.revs_grammar.specs.Answers.{HasSentence, PassesAt}
use Rattle.revs_parser.proofs.ProgramLemmas.{program_exactly, inputs_exactly, refusal_exactly, inputs_at}
use Rattle.revs_parser.proofs.program.answer.Goals as goal

pub invariant_of-result : goal.invariant_of-result
invariant_of-result c =
    let h : HasSentence c.args.tokens.now c.in-Ok.params.items (tree_of c.in-Ok.body) = c.requires.sentence (c.in-Ok.params, c.in-Ok.body) c.in-Ok.is in
    let few = names_kept c.args.tokens.now c.in-Ok.params.items (tree_of c.in-Ok.body) h in
    let room = c.requires.few in
    record {
      inputs = subst AreParams c.deref.ensures.value c.in-None.ensures.none;
      formed = body_kept c.args.tokens.now c.in-Ok.params.items (tree_of c.in-Ok.body) h;
      few_names = omega (arith, few, room);
    }

pub returns-in-Some-clause-exact : goal.returns-in-Some-clause-exact
returns-in-Some-clause-exact c =
    let h : HasSentence c.args.tokens.now c.in-Ok.params.items (tree_of c.in-Ok.body) = c.requires.sentence (c.in-Ok.params, c.in-Ok.body) c.in-Ok.is in
    inputs_exactly c.args.tokens.now c.in-Some.at
    (inputs_at h (subst (λ (z : List Param). PassesAt z c.in-Some.at) c.deref.ensures.value c.in-Some.ensures.found))

pub returns-in-None-clause-program : goal.returns-in-None-clause-program
returns-in-None-clause-program c =
    let h : HasSentence c.args.tokens.now c.in-Ok.params.items (tree_of c.in-Ok.body) = c.requires.sentence (c.in-Ok.params, c.in-Ok.body) c.in-Ok.is in
    record { sentence = h; inputs = subst AreParams c.deref.ensures.value c.in-None.ensures.none }

pub returns-in-None-clause-exact : goal.returns-in-None-clause-exact
returns-in-None-clause-exact c =
    let h : HasSentence c.args.tokens.now c.in-Ok.params.items (tree_of c.in-Ok.body) = c.requires.sentence (c.in-Ok.params, c.in-Ok.body) c.in-Ok.is in
    program_exactly c.args.tokens.now _ c.in-Ok.params.items (tree_of c.in-Ok.body)
    (record { sentence = h; inputs = subst AreParams c.deref.ensures.value c.in-None.ensures.none })

pub returns-in-Err-clause-exact : goal.returns-in-Err-clause-exact
returns-in-Err-clause-exact c = refusal_exactly c.args.tokens.now c.refusal.result c.refusal.ensures.refused
