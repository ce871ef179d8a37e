-- From the run of a body to the program, and to its text.
use Rattle.std.proofs.Common.{◌≡◌, ℕ, zero, suc, ◌+◌, ◌≤◌, leb, Bool, false, List, [], ◌∷◌, length, map, take, drop, get_or, sum, replicate, Option, Some, None}
use Rattle.std.proofs.Common.{refl, ap, sym, ◌∙◌, subst, arith}
use Rattle.std.specs.Prelude.{slice_get}
use Rattle.std.proofs.lemmas.Bool.{le-leb}
use Rattle.std.proofs.lemmas.List.{length-replicate, drop-drop}
use Rattle.std.proofs.lemmas.List.Sums.{sum_by-cons}
use Rattle.std.proofs.lemmas.Option.{slice_get-get_or}
use Rattle.list_facts.proofs.CutLemmas.{drop_got}
use Rattle.revc_base.specs.declared.place.Place.{Place}
use Rattle.revs_lexer.specs.declared.token.Tok.TheVariants as toks
use Rattle.revs_tape.specs.declared.tape.Ref.TheVariants as refs
use Rattle.revs_tape.specs.Tapes.{TapeView}
use Rattle.text_places.specs.Places.{place_after}
use Rattle.text_places.specs.Places as texts
use Rattle.revs_terms.specs.declared.cause.Cause.TheVariants as causes
use Rattle.revs_terms.specs.declared.program.Param.{Param}
use Rattle.revs_terms.specs.Programs.{width_of, widths_of}
use Rattle.revs_terms.specs.Trees.{Tree}
use Rattle.revs_terms.specs.Terms.{place_of}
use Rattle.revs_terms.specs.Running.{Value, unit, bit, register, number, closure, Environment, nothing, bound, Stamped, State, Outcome, went, after}
use Rattle.revs_terms.specs.Runs.{real_bits, inputs_from, start, from, param_value, params_in, locations_of, read_all, run_of_program, IsInput, HasOutput}
use Rattle.revs_terms.specs.Runs.{IsTapeOf}
use Rattle.revs_terms.specs.Scopes.{Scoped, unbound, scoped, nearer, scoped_tree, second_of, params_scope, two_params, unbound_name, scope_verdict, bound_as}
use Rattle.built_texts.specs.Meanings.{Meaning, Scope, of_bit, of_bits, of_function, no_names, named, names_in, Holds, AreHeld, Agrees, AgreesIn, Goes}
use Rattle.built_texts.specs.Meanings.{IsRun}
use Rattle.built_texts.specs.Pieces.{text_of, tokens_at}
use Rattle.built_texts.specs.Programs.{param_meaning, inputs_of, output_of, IsOutput, IsBodyRun, Puts, ProgramGives, TextGives}
use Rattle.built_texts.proofs.MeaningLemmas.{length-held, goes_on, next, where_so, such, reads}
use Rattle.built_texts.proofs.PieceLemmas.{cut_of}
use Rattle.built_texts.proofs.RunLemmas.{same_scoped}

-- ---- inputs

got_input : (i : ℕ) (bs : List Bool) (k : ℕ) (b : Bool) → slice_get bs k ≡ Some b → Holds (inputs_from i bs) b k
got_input i [] k b e = cc
got_input i (c ∷ bs) zero b e = let same : c ≡ b = cc in record { stamped = record { bit = c; stamp = refs.Input i }; there = refl; is = same }
got_input i (c ∷ bs) (suc k) b e = let h = got_input (i + 1) bs k b e in record { stamped = h.stamped; there = h.there; is = h.is }

module _ (whole : List Bool) where
  -- the bits of a register of inputs
  held_from : (first width : ℕ) → first + width ≤ length whole → AreHeld (inputs_from 0 whole) (take width (drop first whole)) (from first width)
  held_from first zero low = tt
  held_from first (suc width) low =
      let b = get_or whole first false in
      let got : slice_get whole first ≡ Some b = slice_get-get_or whole first false (omega arith) in
      let cut : b ∷ drop (first + 1) whole ≡ drop first whole = sym (drop_got whole first b got) in
      subst (λ (bs : List Bool). AreHeld (inputs_from 0 whole) (take (suc width) bs) (from first (suc width))) cut
      (got_input 0 whole first b got, held_from (first + 1) width (omega arith))

  param_agrees : (first : ℕ) (width : Option ℕ) → first + width_of width ≤ length whole
      → Agrees (inputs_from 0 whole) (param_meaning width (drop first whole)) (param_value first width)
  param_agrees first None low =
      let b = get_or whole first false in
      let got : slice_get whole first ≡ Some b = slice_get-get_or whole first false (omega arith) in
      let cut : b ∷ drop (first + 1) whole ≡ drop first whole = sym (drop_got whole first b got) in
      subst (λ (bs : List Bool). Holds (inputs_from 0 whole) (get_or bs 0 false) first) cut (got_input 0 whole first b got)
  param_agrees first (Some width) low = held_from first width low

  inputs_agree : (first : ℕ) (ps : List Param) (sc : Scope) (env : Environment) → AgreesIn (inputs_from 0 whole) sc env
      → first + sum (widths_of ps) ≤ length whole → AgreesIn (inputs_from 0 whole) (inputs_of ps (drop first whole) sc) (params_in first ps env)
  inputs_agree first [] sc env h low = h
  inputs_agree first (p ∷ ps) sc env h low =
      let w = width_of p.width in
      subst (λ (bs : List Bool). AgreesIn (inputs_from 0 whole) (inputs_of ps bs (named p.name.text (param_meaning p.width (drop first whole)) sc))
      (params_in (first + w) ps (bound (param_value first p.width) env))) (drop_twice first w whole)
      (inputs_agree (first + w) ps (named p.name.text (param_meaning p.width (drop first whole)) sc) (bound (param_value first p.width) env)
      (param_agrees first p.width (omega (arith, first_width p ps)), h) (omega (arith, first_width p ps)))
    where
      drop_twice : (i j : ℕ) (bs : List Bool) → drop (i + j) bs ≡ drop j (drop i bs)
      drop_twice i j bs = sym (drop-drop j i bs)

      first_width : (p : Param) (ps : List Param) → sum (widths_of (p ∷ ps)) ≡ width_of p.width + sum (widths_of ps)
      first_width p ps = sum_by-cons (λ w. w) (width_of p.width) (widths_of ps)

-- ---- names

params_names : (ps : List Param) (input : List Bool) (sc : Scope) → names_in (inputs_of ps input sc) ≡ nearer (map (λ p. p.name) ps) (names_in sc)
params_names [] input sc = refl
params_names (p ∷ ps) input sc = params_names ps (drop (width_of p.width) input) (named p.name.text (param_meaning p.width input) sc)

-- ---- outputs

-- the outputs have these bits, and nothing else happened
abbrev AreOutputs : List Bool → State Bool → List (Stamped Bool) → State Bool → Type 0
AreOutputs bs s outputs u = (map (λ o. o.bit) outputs ≡ bs) × (s ≡ u)

read_held : (at : Place) (bs : List Bool) (ls : List ℕ) (s : State Bool) → AreHeld s.store bs ls → Goes (AreOutputs bs s) (read_all real_bits at ls s)
read_held at [] [] s h = goes_on [] s (refl, refl)
read_held at [] (l ∷ ls) s h = absurd h
read_held at (b ∷ bs) [] s h = absurd h
read_held at (b ∷ bs) (l ∷ ls) s h =
    next _ (reads b l at s h.0) (λ first u is.
    next _ (read_held at bs ls u (subst (λ (q : State Bool). AreHeld q.store bs ls) is.1 h.1)) (λ more v are.
    goes_on (first ∷ more) v (ap (λ (c : Bool). c ∷ map (λ o. o.bit) more) is.0 ∙ ap (λ (cs : List Bool). b ∷ cs) are.0, is.1 ∙ are.1)))

outputs_read : (at : Place) (m : Meaning) (v : Value) (s : State Bool) → Agrees s.store m v → IsOutput m
    → Goes (AreOutputs (output_of m) s) (after (locations_of at v s) (read_all real_bits at))
outputs_read at (of_bit b) (bit l) s h out = read_held at (b ∷ []) (l ∷ []) s (h, tt)
outputs_read at (of_bit b) unit s h out = absurd h
outputs_read at (of_bit b) (register ls) s h out = absurd h
outputs_read at (of_bit b) (number k) s h out = absurd h
outputs_read at (of_bit b) (closure names body env) s h out = absurd h
outputs_read at (of_bits bs) (register ls) s h out =
    let same = length-held s.store bs ls h in
    next (read_all real_bits at) (where_so {P = λ found u. (found ≡ ls) × (s ≡ u)} (leb (length ls) 1024) causes.Outputs at
    (le-leb (length ls) 1024 (omega arith)) (goes_on ls s (refl, refl))) (λ found u is.
    such (read_held at bs found u (subst (λ (q : State Bool). AreHeld q.store bs found) is.1 (subst (AreHeld s.store bs) (sym is.0) h)))
    (λ outputs w are. (are.0, is.1 ∙ are.1)))
outputs_read at (of_bits bs) unit s h out = absurd h
outputs_read at (of_bits bs) (bit l) s h out = absurd h
outputs_read at (of_bits bs) (number k) s h out = absurd h
outputs_read at (of_bits bs) (closure names body env) s h out = absurd h
outputs_read at (of_function names body sc) v s h out = absurd out

-- ---- the whole run

abbrev PutsOut : List Bool → List (Stamped Bool) → State Bool → Type 0
PutsOut bs outputs s = (map (λ o. o.bit) outputs ≡ bs) × (s.claims ≡ [])

whole_run : (params : List Param) (term : Tree) (input : List Bool) (m : Meaning) (units : ℕ) (r : IsRun 400 (inputs_of params input no_names) term m units)
    → units ≤ 262144 → IsOutput m → IsInput params input → Goes (PutsOut (output_of m)) (run_of_program params r.tree input)
whole_run params term input m units r few out is =
    next _ (r.goes (params_in 0 params nothing) (start input) (inputs_agree input 0 params no_names nothing tt (omega arith))
    (record { work = omega arith; writes = omega arith }))
    (λ value s means. such (outputs_read (place_of r.tree) m value s means.agrees out)
    (λ outputs u are. (are.0, sym (ap (λ (q : State Bool). q.claims) are.1) ∙ means.grew.claims)))

zeros : List Param → List Bool
zeros params = replicate (sum (widths_of params)) false

zeros_are_input : (params : List Param) → IsInput params (zeros params)
unfolding zeros
zeros_are_input params = length-replicate (sum (widths_of params)) false

same_end : (o : Outcome Bool (List (Stamped Bool))) (a b : List (Stamped Bool)) (s t : State Bool) → o ≡ went a s → o ≡ went b t → s ≡ t
same_end o a b s t e f = cc

-- the verdict on a body whose names are bound
verdict_of : (params : List Param) (term body : Tree) → second_of [] params ≡ None → scoped_tree (params_scope params) term ≡ scoped body
    → scope_verdict params term ≡ bound_as body
verdict_of params term body e f =
    ap (λ (o : Option Place). elim o [
      | Some at ↦ two_params at
      | None ↦ elim (scoped_tree (params_scope params) term) [ unbound at ↦ unbound_name at | scoped tree ↦ bound_as tree ]
    ]) e
    ∙ ap (λ (o : Scoped Tree). elim o [ unbound at ↦ unbound_name at | scoped tree ↦ bound_as tree ]) f

scoped_body : (params : List Param) (term : Tree) (input : List Bool) (m : Meaning) (units : ℕ) (r : IsRun 400 (inputs_of params input no_names) term m units)
    → scoped_tree (params_scope params) term ≡ scoped r.tree
scoped_body params term input m units r =
    ap (λ (names : List (List ℕ)). scoped_tree names term) (sym (params_names params input no_names)) ∙ r.scoped_as

puts : (params : List Param) (term body : Tree) (means : List Bool → Meaning) → IsBodyRun params term means
    → scoped_tree (params_scope params) term ≡ scoped body → Puts params body means
puts params term body means runs names = record { gives = gives; no_claims = no_claims }
  where
    out : (input : List Bool) → IsInput params input → Goes (PutsOut (output_of (means input))) (run_of_program params body input)
    out input is =
        let r = runs.runs input is in
        let same : r.tree ≡ body = same_scoped (sym (scoped_body params term input (means input) runs.units r) ∙ names) in
        subst (λ (t : Tree). Goes (PutsOut (output_of (means input))) (run_of_program params t input)) same
        (whole_run params term input (means input) runs.units r runs.few (runs.outputs input is) is)

    gives : (input : List Bool) → IsInput params input → HasOutput params body input (output_of (means input))
    gives input is = let o = out input is in record { outputs = o.answer; state = o.state; ends = o.is; bits = sym o.holds.0 }

    no_claims : (t : TapeView) → IsTapeOf params body t → t.claims ≡ []
    no_claims t is =
        let o = out (zeros params) (zeros_are_input params) in
        let l = is.left (zeros params) (zeros_are_input params) in
        let same = same_end (run_of_program params body (zeros params)) l.outputs o.answer l.state o.state l.ends o.is in
        sym l.claims ∙ ap (λ (s : State Bool). map (λ m. m.claim) s.claims) same ∙ ap (map (λ m. m.claim)) o.holds.1

pub program_gives : ProgramGives
program_gives params term means different runs =
    let first = runs.runs (zeros params) (zeros_are_input params) in
    let names = scoped_body params term (zeros params) (means (zeros params)) runs.units first in
    (first.tree, verdict_of params term first.tree different names, puts params term first.tree means runs names)

-- ---- texts

pub text_gives : TextGives
text_gives ps params term means built runs =
    let p = program_gives params term means built.different runs in (
      p.0,
      record {
        unbound = term;
        text_of = record {
          short = built.short;
          tokens = tokens_at texts.start ps;
          cut = cut_of ps texts.start built.good built.fit;
          sentence = record {
            sentence = record {
              sentence = tokens_at texts.start ps;
              end = record { tok = toks.End; at = place_after texts.start (text_of ps) };
              cut = refl;
              ended = refl;
              spelled = built.sentence;
            };
            inputs = built.inputs;
          };
        };
        bound = p.1;
        run = record { ends = λ input is. (output_of (means input), p.2.gives input is) };
      },
      p.2,
    )
