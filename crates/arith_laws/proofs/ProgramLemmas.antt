-- What texts compute whose programs have one number, or two.
use Rattle.std.proofs.Common.{◌≡◌, ℕ, ◌+◌, ◌*◌, ◌≤◌, Bool, true, ◌&&◌, List, [], ◌∷◌, length, map, take, drop, sum, Some, None, refl, ap, sym, ◌∙◌, subst, arith}
use Rattle.std.specs.Prelude.{leb}
use Rattle.std.proofs.lemmas.Bool.{le-leb, and_from}
use Rattle.std.proofs.lemmas.List.{length-drop, length-take-le, take_all}
use Rattle.std.proofs.lemmas.List.Sums.{sum_by-cons}
use Rattle.text_places.specs.Places.{start}
use Rattle.revs_lexer.specs.declared.token.Token.{Token}
use Rattle.revs_grammar.specs.Sentences.{few_levels, IsSentenceOf}
use Rattle.revs_terms.specs.declared.term.Name.{Name}
use Rattle.revs_terms.specs.declared.program.Param.{Param}
use Rattle.revs_terms.specs.Programs.{widths_of, AreParams}
use Rattle.revs_terms.specs.Running.{Stamped, State, Outcome, went}
use Rattle.revs_terms.specs.Runs.{run_of_program, IsInput, HasOutput}
use Rattle.revs_terms.specs.Scopes.{second_of}
use Rattle.revs_terms.specs.Trees.{Tree}
use Rattle.revs_parser.specs.declared.limits.TheConstants.{MOST_BYTES}
use Rattle.revs_parser.specs.WellFormed.{IsWellFormed}
use Rattle.built_texts.specs.Meanings.{Meaning}
use Rattle.built_texts.specs.Pieces.{Piece, text_of, toks_of, fits, AreGood}
use Rattle.built_texts.specs.Programs.{IsBodyRun, IsBuilt, output_of}
use Rattle.built_texts.specs.Ways.{placed}
use Rattle.built_texts.proofs.PlaceLemmas.{token_place, tokens_placed}
use Rattle.built_texts.proofs.ProgramLemmas.{text_gives}
use Rattle.arith_templates.specs.declared.kind.Kind.{Kind}
use Rattle.arith_templates.specs.Meets.{inputs_of, outputs_of, Meets}
use Rattle.arith_laws.specs.Computes.{Computes}

one_width : (a : ℕ) → sum (a ∷ []) ≡ a
one_width a = let one = sum_by-cons (λ (n : ℕ). n) a [] in omega arith

two_widths : (a b : ℕ) → sum (a ∷ b ∷ []) ≡ a + b
two_widths a b = let one = sum_by-cons (λ (n : ℕ). n) a (b ∷ []) in let two = sum_by-cons (λ (n : ℕ). n) b [] in omega arith

same_outputs : (o : Outcome Bool (List (Stamped Bool))) (a b : List (Stamped Bool)) (s u : State Bool) → o ≡ went a s → o ≡ went b u → a ≡ b
same_outputs o a b s u e f = cc

-- a program has one output on an input
one_output : (params : List Param) (body : Tree) (input a b : List Bool) → HasOutput params body input a → HasOutput params body input b → a ≡ b
one_output params body input a b h g =
    h.bits ∙ ap (map (λ o. o.bit)) (same_outputs (run_of_program params body input) h.outputs g.outputs h.state g.state h.ends g.ends) ∙ sym g.bits

-- pieces that are read at the places of their tokens are those of a built text
pub is_built : {ps : List Piece} {params : List Param} {body : Tree} → AreGood (toks_of ps) → fits ps ≡ true → length (text_of ps) ≤ MOST_BYTES
    → IsSentenceOf few_levels (placed (token_place start ps) (toks_of ps)) params body → AreParams params → second_of [] params ≡ None
    → IsBuilt ps params body
is_built {ps} {params} {body} good fit short reads inputs different = record {
  good = good;
  fit = fit;
  short = short;
  sentence = subst (λ (ts : List Token). IsSentenceOf few_levels ts params body) (sym (tokens_placed start ps)) reads;
  inputs = inputs;
  different = different;
}

-- A text computes what its kind does that is built for a body of such a meaning.
pub text_computes : (kind : Kind) (n by : ℕ) (text : List ℕ) (ps : List Piece) (params : List Param) (unbound : Tree) (means : List Bool → Meaning)
    → IsBuilt ps params unbound → IsBodyRun params unbound means → text ≡ text_of ps → sum (widths_of params) ≡ inputs_of kind n
    → ((input : List Bool) → IsInput params input
    → (length (output_of (means input)) ≡ outputs_of kind n by) × Meets kind n by input (output_of (means input)))
    → Computes kind n by text
text_computes kind n by text ps params unbound means built runs spelled wide meets =
    let whole = text_gives ps params unbound means built runs in
    record {
      program = record { params = params; body = whole.0 };
      formed = subst (λ (bytes : List ℕ). IsWellFormed bytes (record { params = params; body = whole.0 })) (sym spelled) whole.1;
      no_claims = whole.2.no_claims;
      inputs = wide;
      outputs = λ input output is h. ap length (one_output params whole.0 input output (output_of (means input)) h (whole.2.gives input is))
          ∙ (meets input is).0;
      meets = λ input output is h. subst (Meets kind n by input)
          (sym (one_output params whole.0 input output (output_of (means input)) h (whole.2.gives input is))) (meets input is).1;
    }

-- one number of so many bits
abbrev pub one_param : ℕ → Name → List Param
one_param n one = record { name = one; width = Some n } ∷ []

module _ (n : ℕ) (one : Name) where
  pub one_input : sum (widths_of (one_param n one)) ≡ n
  one_input = one_width n

  pub is_param : 1 ≤ n → n ≤ 200 → AreParams (one_param n one)
  is_param some few = record {
    bits = and_from (leb 1 n) true (le-leb 1 n some) refl;
    inputs = let all = one_width n in omega arith;
  }

  -- the number has its bits, which are the whole input
  pub record IsOne (input : List Bool) : Type 0 where
    pub size : length (take n input) ≡ n
    pub all : take n input ≡ input

  pub one_number : (input : List Bool) → IsInput (one_param n one) input → IsOne input
  one_number input is =
      let width = one_width n in record { size = length-take-le n input (omega arith); all = take_all n input (omega arith) }

-- two numbers of so many bits
abbrev pub number_params : ℕ → Name → Name → List Param
number_params n one two = record { name = one; width = Some n } ∷ record { name = two; width = Some n } ∷ []

module _ (n : ℕ) (one two : Name) where
  pub number_inputs : sum (widths_of (number_params n one two)) ≡ 2 * n
  number_inputs = let both = two_widths n n in omega arith

  -- both numbers have their bits
  pub record IsTwo (input : List Bool) : Type 0 where
    pub first : length (take n input) ≡ n
    pub second : length (take n (drop n input)) ≡ n
    pub rest : take n (drop n input) ≡ drop n input

  pub two_numbers : (input : List Bool) → IsInput (number_params n one two) input → IsTwo input
  two_numbers input is =
      let both = two_widths n n in
      let behind = length-drop n input in
      record {
        first = length-take-le n input (omega arith);
        second = length-take-le n (drop n input) (omega arith);
        rest = take_all n (drop n input) (omega arith);
      }

  pub are_params : 1 ≤ n → n ≤ 200 → AreParams (number_params n one two)
  are_params some few = record {
    bits = and_from (leb 1 n) (leb 1 n && true) (le-leb 1 n some) (and_from (leb 1 n) true (le-leb 1 n some) refl);
    inputs = let both = two_widths n n in omega arith;
  }
