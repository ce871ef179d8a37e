-- Lines that keep the rules begin a file.
use Rattle.std.proofs.Common.{◌≡◌, ℕ, ◌≤◌, List, [], ◌∷◌, codes, Option, Some, None, IfSome, refl, sym, ap, ◌∙◌, subst, arith}
use Rattle.circuit_plans.specs.declared.plan.TheConstants.{MOST_LINES}
use Rattle.real_format.specs.declared.header.Head.TheVariants.{Lines, Names}
use Rattle.real_format.specs.Header.{HeaderView, nothing_said}
use Rattle.real_format.specs.Real.{Place, in_header, in_gates, at_end, says_more, begins_gates, ends_file, LeadTo, GoesOn, FrontsGoOn}
use Rattle.format_parts.specs.Readings.{nothing_left, one_more}
use Rattle.real_format.specs.Written.{names_by}
use Rattle.real_format.specs.Converted.{numbered_name}
use Rattle.real_format.specs.inside.Says.{IsSound}
use Rattle.real_format.specs.inside.Reading.{file_of}
use Rattle.real_format.proofs.NameLemmas.{good_by_number, length-names_by, names_are_good}
use Rattle.real_format.proofs.LineLemmas.{IsFit}
use Rattle.real_format.proofs.VerdictLemmas.{passed, sound_at_first}

-- one line more
behind : (line : List (List ℕ)) (place next : Place) → LeadTo (line ∷ []) place next → GoesOn next → GoesOn place
behind line place next leads on = by leads on
  where
    by : LeadTo (line ∷ []) place next → GoesOn next → GoesOn place
    by (one_more step nothing_left) later = record { lines = line ∷ later.lines; file = later.file; leads = one_more step later.leads }

names_said : (said : HeaderView) (names : List (List ℕ)) → said.names ≡ Some names → GoesOn (in_header said)
names_said said names e = record {
  lines = (codes ".begin" ∷ []) ∷ (codes ".end" ∷ []) ∷ [];
  file = file_of said names;
  leads = one_more (begins_gates refl (record { names = e; constants = refl; garbage = refl; gates = refl })) (one_more (ends_file refl) nothing_left);
}

lines_said : (said : HeaderView) (n : ℕ) → said.lines ≡ Some n → n ≤ MOST_LINES → said.names ≡ None → GoesOn (in_header said)
lines_said said n e few none =
    let names = names_by numbered_name n in
    let after : HeaderView = record said { names = Some names } in
    behind (codes ".variables" ∷ names) (in_header said) (in_header after)
    (one_more (says_more Names names refl (record {
      once = none;
      counted = e ∙ ap Some (sym (length-names_by numbered_name n));
      good = names_are_good numbered_name n (good_by_number n few);
      adds = refl;
    })) nothing_left)
    (names_said after names refl)

nothing_counted : (said : HeaderView) → said.lines ≡ None → said.names ≡ None → GoesOn (in_header said)
nothing_counted said none nameless =
    let after : HeaderView = record said { lines = Some 1 } in
    behind (codes ".numvars" ∷ codes "1" ∷ []) (in_header said) (in_header after)
    (one_more (says_more Lines (codes "1" ∷ []) refl (record {
      number = codes "1";
      count = 1;
      once = none;
      alone = refl;
      counted = record { digits = (omega arith, (omega arith, tt)); value = refl };
      some = omega arith;
      few = omega arith;
      adds = refl;
    })) nothing_left)
    (lines_said after 1 refl (omega arith) nameless)

header_goes_on : (said : HeaderView) (lines : Option ℕ) (names : Option (List (List ℕ))) → said.lines ≡ lines → said.names ≡ names → IsSound said
    → GoesOn (in_header said)
header_goes_on said lines (Some names) e f sound = names_said said names f
header_goes_on said (Some n) None e f sound = lines_said said n e (subst (λ o. IfSome o (λ k. k ≤ MOST_LINES)) e sound.few) f
header_goes_on said None None e f sound = nothing_counted said e f

goes_on : (place : Place) → IsFit place → GoesOn place
goes_on (in_header said) fit = header_goes_on said said.lines said.names refl refl fit
goes_on (in_gates file) fit = record { lines = (codes ".end" ∷ []) ∷ []; file = file; leads = one_more (ends_file refl) nothing_left }
goes_on (at_end file) fit = record { lines = []; file = file; leads = nothing_left }

pub fronts_go_on : FrontsGoOn
fronts_go_on lines place leads = goes_on place (passed (in_header nothing_said) place lines [] 1 sound_at_first leads).1
