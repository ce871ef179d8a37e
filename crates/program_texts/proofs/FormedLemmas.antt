-- The program of a well-formed text is formed, and its tape has an output.
use Rattle.std.proofs.Common.{◌≡◌, ℕ, ◌+◌, ◌≤◌, Bool, false, IsTrue, Option, Some, None, List, [], length, map, sum, replicate, refl, ap, ◌∙◌, subst, arith}
use Rattle.std.proofs.lemmas.List.{length-map, length-replicate}
use Rattle.revs_terms.specs.declared.cause.Cause.{Cause}
use Rattle.revc_base.specs.declared.place.Place.{Place}
use Rattle.revs_lexer.specs.Tokens.{closed}
use Rattle.revs_terms.specs.declared.program.Param.{Param}
use Rattle.revs_terms.specs.Programs.{IsBody}
use Rattle.revs_terms.specs.Scopes.{Scoped, unbound, scoped, nearer, scoped_tree, second_of, params_scope, ScopeVerdict, two_params, unbound_name, bound_as}
use Rattle.revs_terms.specs.Scopes.{scope_verdict}
use Rattle.revs_terms.specs.Trees.{Tree}
use Rattle.revs_terms.specs.Views.{ProgramView}
use Rattle.revs_grammar.proofs.SpellingLemmas.{body_kept}
use Rattle.name_scope.proofs.KeepsLemmas.{Keeps, keeps}
use Rattle.name_scope.proofs.NearerLemmas.{nearer-length}
use Rattle.revs_parser.specs.WellFormed.{IsWellFormed}
use Rattle.revs_tape.specs.Tapes.{TapeView}
use Rattle.revs_terms.specs.Programs.{AreParams, widths_of}
use Rattle.revs_terms.specs.Running.{Stamped, State, Outcome, stuck, went}
use Rattle.revs_terms.specs.Runs.{IsInput, IsTapeOf, EndsOnAll, IsStuck, run_of_program, run_without_bits, tape_of}
use Rattle.revs_terms.specs.Terms.{is_formed}
use Rattle.revs_terms.proofs.BitlessTapeLemmas.{same_for_all}
use Rattle.revs_terms.proofs.OutputLemmas.{has_outputs}
use Rattle.revs_terms.proofs.TapeLemmas.{one_tape_at_most}

-- the scope rule binds a body only where its names are bound one by one
names_bound : (second : Option Place) (body : Scoped Tree) (tree : Tree)
    → elim second as (λ x. ScopeVerdict) [
      | Some at ↦ two_params at
      | None ↦ elim body as
          (λ x. ScopeVerdict) [ unbound at ↦ unbound_name at | scoped tree ↦ bound_as tree ]
    ] ≡ bound_as tree
    → body ≡ scoped tree
names_bound (Some at) body tree e = cc
names_bound None (unbound at) tree e = cc
names_bound None (scoped other) tree e = cc

keeps_body : (params : List Param) (body tree : Tree) → scope_verdict params body ≡ bound_as tree → Keeps (length params) body tree
keeps_body params body tree e =
    let names = map (λ (p : Param). p.name) params in
    let all : length (nearer names []) ≡ length {A = List ℕ} [] + length names = nearer-length names [] in
    let count : length (params_scope params) ≡ length params = omega (arith, length-map params (λ (p : Param). p.name)) in
    subst (λ n. Keeps n body tree) count
    (keeps (params_scope params) body tree (names_bound (second_of _ params) (scoped_tree (params_scope params) body) tree e))

no_two_ends : (o : Outcome Bool (List (Stamped Bool))) (outputs : List (Stamped Bool)) (s : State Bool) (why : Cause) (at : Place) → o ≡ went outputs s
    → o ≡ stuck why at → ⊥
no_two_ends o outputs s why at e f = absurd cc

-- a run that ends on every input is not stuck on the one of zeros
never_stuck : (params : List Param) (body : Tree) (why : Cause) (at : Place) → EndsOnAll params body
    → ((input : List Bool) → IsInput params input → IsStuck params body input why at) → ⊥
never_stuck params body why at ends is =
    let input : List Bool = replicate (sum (widths_of params)) false in
    let whole : IsInput params input = length-replicate (sum (widths_of params)) false in
    let one = ends.ends input whole in
    no_two_ends (run_of_program params body input) one.1.outputs one.1.state why at one.1.ends (is input whole)

-- a run without bits that ends leaves the tape, which has an output
some_left : (params : List Param) (body : Tree) (t : TapeView) (run : Outcome (Unit {0}) (List (Stamped (Unit {0})))) → run_without_bits params body ≡ run
    → AreParams params → IsTrue (is_formed body) → IsTapeOf params body t → EndsOnAll params body → 1 ≤ length t.outputs
some_left params body t (stuck why at) e are formed of ends =
    absurd (never_stuck params body why at ends ((same_for_all params body).0 why at e))
some_left params body t (went outputs s) e are formed of ends =
    let mine : IsTapeOf params body (tape_of params outputs s) = (same_for_all params body).1 outputs s e in
    let same : tape_of params outputs s ≡ t = one_tape_at_most params body t (tape_of params outputs s) of mine in
    let some : 1 ≤ length outputs = has_outputs params body outputs s are formed e in
    let count : length (map (λ (o : Stamped (Unit {0})). o.stamp) outputs) ≡ length t.outputs = ap (λ (x : TapeView). length x.outputs) same in
    omega (arith, length-map outputs (λ (o : Stamped (Unit {0})). o.stamp))

pub some_output : (text : List ℕ) (p : ProgramView) (t : TapeView) → IsWellFormed text p → IsTapeOf p.params p.body t → 1 ≤ length t.outputs
some_output text p t w of =
    let kept = keeps_body p.params w.unbound p.body w.bound in
    let body : IsBody w.unbound = body_kept (closed text w.text_of.tokens) p.params w.unbound w.text_of.sentence.sentence in
    some_left p.params p.body t (run_without_bits p.params p.body) refl w.text_of.sentence.inputs (kept.formed ∙ body.formed) of w.run
