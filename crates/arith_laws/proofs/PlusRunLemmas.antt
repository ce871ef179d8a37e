-- What the function that adds two numbers means.
use Rattle.std.proofs.Common.{◌≡◌, ℕ, suc, ◌+◌, ◌*◌, ◌≤◌, Bool, false, List, [], ◌∷◌, length, Some, refl, sym, subst}
use Rattle.std.specs.Prelude.{codes}
use Rattle.revc_base.specs.declared.place.Place.{Place}
use Rattle.revs_grammar.specs.Forms.{name_of}
use Rattle.revs_terms.specs.Trees as t
use Rattle.revs_terms.specs.Trees.{Tree, trees}
use Rattle.built_texts.specs.Meanings.{Meaning, Scope, of_bits, of_function, named, meaning_of, IsRun, all_taken, takes, takes_last}
use Rattle.built_texts.proofs.RunLemmas.{run_name, run_apply, run_block}
use Rattle.arith_templates.specs.Places.{carry, sums}
use Rattle.arith_laws.proofs.TwoNumberPieces.{carry_function}
use Rattle.arith_laws.proofs.TwoNumberReadingLemmas.{carry_reads, sums_read}
use Rattle.arith_laws.proofs.TwoNumberLemmas.{AreApart, Known, function_meaning, function_is, two_run}
use Rattle.arith_laws.proofs.AdderLemmas.{carry_works, sums_apart, sums_work, sums_ripple}
use Rattle.arith_laws.proofs.ProductPieces.{plus}
use Rattle.arith_laws.proofs.PlusReadingLemmas.{plus_names, at_sum, plus_body}

plus_apart : AreApart plus
plus_apart = sums_apart 112 113 refl refl refl refl

-- what the carry means in its scope
abbrev pub carry_meaning : (ℕ → Place) → Scope → Meaning
carry_meaning g own = function_meaning (codes "carry") carry_function carry_reads carry carry_works g own

module _ (m : ℕ) (p g : ℕ → Place) (few : m ≤ 199) (base own : Scope) (carry_is : meaning_of (codes "carry") own ≡ Some (carry_meaning g base)) where
  abbrev pub inside : List Bool → List Bool → Scope
  inside us vs = named (codes "q") (of_bits vs) (named (codes "p") (of_bits us) own)

  known : (d : ℕ) (us vs : List Bool) → Known plus plus_apart d carry us vs (inside us vs)
  known d us vs = record {
    function = carry_meaning g base;
    is_next = function_is (codes "carry") carry_function carry_reads carry carry_works d g base;
    first_is = refl;
    second_is = refl;
    function_is = carry_is;
  }

  abbrev pub plus_units : ℕ
  plus_units = 1 + (8 + (27 + (35 * m + (1 + (suc m + 1 + (suc m + 1))))))

  pub plus_body_run : (d : ℕ) (us vs : List Bool) → length us ≡ suc m → length vs ≡ suc m
      → IsRun (suc (suc (suc (suc (suc (suc d)))))) (inside us vs) (plus_body m p) (of_bits (sums false us vs)) plus_units
  plus_body_run d us vs one two =
      let runs = two_run plus plus_apart 3 (sums_read (codes "p") (codes "q") 3) carry (sums_work (codes "p") (codes "q") 3) d m few us vs one two (at_sum m p)
      (inside us vs) (known d us vs) in
      subst (λ (bs : List Bool). IsRun (suc (suc (suc (suc (suc (suc d)))))) (inside us vs) (plus_body m p) (of_bits bs) plus_units)
      (sym (sums_ripple false us vs)) (run_block (p 5) runs)

  -- what the function means behind its line
  abbrev pub plus_meaning : Meaning
  plus_meaning = of_function (plus_names p) (plus_body m p) own

  pub plus_run : (d j k : ℕ) (sc : Scope) (at : Place) (one other : Tree) (us vs : List Bool) → length us ≡ suc m → length vs ≡ suc m
      → meaning_of (codes "plus") sc ≡ Some plus_meaning
      → IsRun (suc (suc (suc (suc (suc (suc d)))))) sc one (of_bits us) j → IsRun (suc (suc (suc (suc (suc (suc d)))))) sc other (of_bits vs) k
      → IsRun (suc (suc (suc (suc (suc (suc (suc d))))))) sc (t.apply (t.used (name_of (codes "plus") at)) (trees (one ∷ other ∷ [])))
      (of_bits (sums false us vs)) (1 + (1 + (j + length us + (k + length vs + plus_units + 0))))
  plus_run d j k sc at one other us vs us_size vs_size is first second =
      run_apply (run_name (name_of (codes "plus") at) is)
      (takes first (takes_last second (plus_body_run d us vs us_size vs_size) all_taken))
