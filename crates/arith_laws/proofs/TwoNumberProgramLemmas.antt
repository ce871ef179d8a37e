-- The text of two numbers that ripple is that of a program that puts out what ripples.
use Rattle.std.proofs.Common.{◌≡◌, ℕ, suc, ◌+◌, ◌*◌, ◌≤◌, Bool, false, List, length, take, drop, Some, refl, ap, sym, ◌∙◌, subst, arith}
use Rattle.std.specs.Prelude.{codes}
use Rattle.revc_base.specs.declared.place.Place.{Place}
use Rattle.text_places.specs.Places.{start}
use Rattle.revs_grammar.specs.Forms.{name_of}
use Rattle.revs_terms.specs.declared.term.Name.{Name}
use Rattle.revs_terms.specs.declared.program.Param.{Param}
use Rattle.revs_terms.specs.Runs.{IsInput}
use Rattle.built_texts.specs.Meanings.{Scope, of_bits, no_names, named, meaning_of, RunsBody, let_is}
use Rattle.built_texts.specs.Pieces.{Piece, text_of}
use Rattle.built_texts.specs.Programs.{IsBodyRun, IsBuilt}
use Rattle.built_texts.proofs.PlaceLemmas.{token_place}
use Rattle.built_texts.proofs.RunLemmas.{run_function, run_block}
use Rattle.arith_templates.specs.declared.kind.Kind.{Kind}
use Rattle.arith_templates.specs.Meets.{inputs_of, outputs_of, Meets}
use Rattle.arith_laws.specs.Computes.{Computes}
use Rattle.arith_laws.proofs.NameLemmas.{past, nearest}
use Rattle.arith_laws.proofs.ProgramLemmas.{text_computes, is_built, number_inputs, two_numbers, are_params}
use Rattle.arith_laws.proofs.TwoNumberPieces.{TwoNumbers, pieces}
use Rattle.arith_laws.proofs.TwoNumberTextLemmas.{IsFineLine, IsFineFunction, two_fits, two_good, two_is_short}
use Rattle.arith_laws.proofs.TwoNumberReadingLemmas.{ReadsLine, ReadsFunction, taken, two_params, at_function, at_sum, two_inner, two_body, two_sentence}
use Rattle.arith_laws.proofs.TwoNumberLemmas.{AreApart, Known, WorksFunction, function_meaning, function_is, WorksLine, two_rippled, length-two_rippled}
use Rattle.arith_laws.proofs.TwoNumberLemmas.{two_units, two_run}

-- the names in front of the first line
abbrev pub scope_in : List Bool → List Bool → Scope
scope_in us vs = named (codes "b") (of_bits vs) (named (codes "a") (of_bits us) no_names)

-- two numbers a and b
pub record HasParams (T : TwoNumbers) : Type 0 where
  pub first_in : (us vs : List Bool) → meaning_of T.first (scope_in us vs) ≡ Some (of_bits us)
  pub second_in : (us vs : List Bool) → meaning_of T.second (scope_in us vs) ≡ Some (of_bits vs)

module _ (T : TwoNumbers) (N : AreApart T) (P : HasParams T) (line : List Piece) (G : ReadsFunction T.function_name line)
    (next : Bool → Bool → Bool → Bool) (W : WorksFunction T.function_name line G next) where
  -- the names behind the function, whose line begins at these places
  abbrev pub scope_one : (ℕ → Place) → List Bool → List Bool → Scope
  scope_one q us vs = named T.function_name (function_meaning T.function_name line G next W q (scope_in us vs)) (scope_in us vs)

  pub known_one : (d : ℕ) (q : ℕ → Place) (us vs : List Bool) → Known T N d next us vs (scope_one q us vs)
  known_one d q us vs =
      let own = scope_in us vs in
      let function = function_meaning T.function_name line G next W q own in
      record {
        function = function;
        is_next = function_is T.function_name line G next W d q own;
        first_is = past T.first T.function_name function own N.first_function (P.first_in us vs);
        second_is = past T.second T.function_name function own N.second_function (P.second_in us vs);
        function_is = nearest T.function_name function own;
      }

  module _ (R : ReadsLine T 2) (L : WorksLine T 2 R next) (F : IsFineLine T) (E : IsFineFunction line) (m : ℕ) (few : m ≤ 199) where
    abbrev p : ℕ → Place
    p = token_place start (pieces T line m)

    abbrev q : ℕ → Place
    q = at_function T R line G m p

    abbrev all_units : ℕ
    all_units = 1 + two_units T N 2 R next L 394 m few

    body_runs : (us vs : List Bool) → length us ≡ suc m → length vs ≡ suc m
        → RunsBody 399 (scope_in us vs) (two_inner T R line G m p).items (two_inner T R line G m p).last (of_bits (two_rippled next false us vs)) all_units
    body_runs us vs one two =
        let inner = W.body_works 394 q false false false (scope_in us vs) in
        let_is {name = name_of T.function_name (q 1)} (run_function (taken q) (G.function_body q) inner.tree (q 2) inner.scoped_as)
        (two_run T N 2 R next L 394 m few us vs one two (at_sum T R line G m p) (scope_one q us vs) (known_one 394 q us vs))

    abbrev params_here : List Param
    params_here = two_params (suc m) p

    abbrev first_name : Name
    first_name = name_of (codes "a") (p 2)

    abbrev second_name : Name
    second_name = name_of (codes "b") (p 10)

    -- what ripples of an input
    abbrev sum_of : List Bool → List Bool
    sum_of input = two_rippled next false (take (suc m) input) (take (suc m) (drop (suc m) input))

    built : IsBuilt (pieces T line m) params_here (two_body T R line G m p)
    built =
        is_built (two_good T F line E m (omega arith)) (two_fits T F line E m) (two_is_short T F line E m few) (two_sentence T R line G m p)
        (are_params (suc m) first_name second_name (omega arith) (omega arith)) refl

    length-sum : (input : List Bool) → IsInput params_here input → length (sum_of input) ≡ suc m + 1
    length-sum input is =
        let two = two_numbers (suc m) first_name second_name input is in
        length-two_rippled next false (take (suc m) input) (take (suc m) (drop (suc m) input)) (two.first ∙ sym two.second) ∙ ap (λ (k : ℕ). k + 1) two.first

    runs : IsBodyRun params_here (two_body T R line G m p) (λ input. of_bits (sum_of input))
    runs = record {
      units = 1 + all_units;
      few = omega arith;
      runs = λ input is. let two = two_numbers (suc m) first_name second_name input is in
          run_block (p 18) (body_runs (take (suc m) input) (take (suc m) (drop (suc m) input)) two.first two.second);
      outputs = λ input is. let long = length-sum input is in omega arith;
    }

    -- a text of a kind with these inputs and outputs, which computes what the kind does
    pub two_computes : (kind : Kind) (by : ℕ) (text : List ℕ) → text ≡ text_of (pieces T line m) → inputs_of kind (suc m) ≡ 2 * suc m
        → outputs_of kind (suc m) by ≡ suc m + 1
        → ((input : List Bool) → length (take (suc m) input) ≡ suc m → length (drop (suc m) input) ≡ suc m
        → Meets kind (suc m) by input (two_rippled next false (take (suc m) input) (drop (suc m) input))) → Computes kind (suc m) by text
    two_computes kind by text spelled ins outs meets =
        text_computes kind (suc m) by text (pieces T line m) params_here (two_body T R line G m p) (λ input. of_bits (sum_of input)) built runs spelled
        (number_inputs (suc m) first_name second_name ∙ sym ins) (λ input is. (length-sum input is ∙ sym outs, it_meets input is))
      where
        it_meets : (input : List Bool) → IsInput params_here input → Meets kind (suc m) by input (sum_of input)
        it_meets input is =
            let two = two_numbers (suc m) first_name second_name input is in
            subst (λ (bits : List Bool). Meets kind (suc m) by input bits)
            (sym (ap (two_rippled next false (take (suc m) input)) two.rest)) (meets input two.first (sym (ap length two.rest) ∙ two.second))
