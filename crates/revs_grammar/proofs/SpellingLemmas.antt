-- What a sentence spells is formed, has few levels, and has no more names than tokens.
use Rattle.std.proofs.Common.{◌≡◌, ℕ, ◌+◌, ◌≤◌, ◌<◌, Bool, true, false, ◌&&◌, leb, Option, Some, None, List}
use Rattle.std.proofs.Common.{[], ◌∷◌, length, length-append, if◌then◌else◌, refl, ap, subst, arith}
use Rattle.std.proofs.lemmas.Bool.Decides.{nat_tests}
use Rattle.revs_lexer.specs.declared.token.Token.{Token}
use Rattle.revs_terms.specs.declared.term.Name.{Name}
use Rattle.revc_base.specs.declared.place.Place.{Place}
use Rattle.revs_terms.specs.declared.term.Step.{Step}
use Rattle.revs_terms.specs.declared.term.Part.{Part}
use Rattle.revs_terms.specs.declared.program.Param.{Param}
use Rattle.revs_terms.specs.Trees.{Tree, ItemTree, trees, item_trees}
use Rattle.revs_terms.specs.Trees as t
use Rattle.revs_terms.specs.Terms.{is_formed, are_formed, item_is_formed, items_are_formed, form_of, levels_as, levels_of, levels_of_all}
use Rattle.revs_terms.specs.Terms.{levels_of_item, levels_of_items, names_of, names_of_all, names_of_item, names_of_items}
use Rattle.revs_terms.specs.Terms.{num_is_formed, part_is_formed, parts_are_formed, names_of_unit, names_of_num, names_of_part, names_of_parts}
use Rattle.revs_terms.specs.Terms as forms
use Rattle.revs_terms.specs.Programs.{IsBody}
use Rattle.std.proofs.lemmas.Bool.{and_from}
use Rattle.revs_grammar.specs.declared.profile.Profile.{Profile}
use Rattle.revs_grammar.specs.declared.profile.Profile.TheVariants as profiles
use Rattle.revs_grammar.specs.Forms.{Kind, Form, in_profile, KindVal, Val, BodyTree}
use Rattle.revs_grammar.specs.Forms as g
use Rattle.revs_grammar.specs.Productions.{productions, assign_of, xor_of, and_of, apply_of, parts_of, bound_of, index_of, in_front, body_of}
use Rattle.revs_grammar.specs.Sentences.{IsSentenceOf, few_levels, value}
use Rattle.revs_grammar.specs.Answers.{HasSentence}
use Rattle.revs_grammar.proofs.KeepingLemmas.{LinesKeep, values_kept}

-- ---- what is kept

-- A term at a level in a place for a form, for which so many tokens stand.
record IsKept (place l : ℕ) (term : Tree) (n : ℕ) : Type 0 where
  formed : is_formed term ≡ true
  few : l ≤ 100 → l + levels_as place term (levels_of term) ≤ 101
  names : names_of term ≤ n

record AreKept (place l : ℕ) (terms : List Tree) (n : ℕ) : Type 0 where
  formed : are_formed (trees terms) ≡ true
  few : l ≤ 100 → l + levels_of_all place (trees terms) ≤ 101
  names : names_of_all (trees terms) ≤ n

-- A number, and the parts of a term.
record IsNumKept (steps : List Step) (n : ℕ) : Type 0 where
  formed : num_is_formed steps ≡ true
  names : names_of_num steps ≤ n

record ArePartsKept (ps : List Part) (n : ℕ) : Type 0 where
  formed : parts_are_formed ps ≡ true
  names : names_of_parts ps ≤ n

record IsPartKept (p : Part) (n : ℕ) : Type 0 where
  formed : part_is_formed p ≡ true
  names : names_of_part p ≤ n

record AreItemsKept (l : ℕ) (items : List ItemTree) (n : ℕ) : Type 0 where
  formed : items_are_formed (item_trees items) ≡ true
  few : l ≤ 100 → l + levels_of_items (item_trees items) ≤ 101
  names : names_of_items (item_trees items) ≤ n

record IsItemKept (l : ℕ) (i : ItemTree) (n : ℕ) : Type 0 where
  formed : item_is_formed i ≡ true
  few : l ≤ 100 → l + levels_of_item i ≤ 101
  names : names_of_item i ≤ n

record IsBodyKept (l : ℕ) (inside : BodyTree) (n : ℕ) : Type 0 where
  formed : items_are_formed (item_trees inside.items) ≡ true
  last_formed : is_formed inside.last ≡ true
  few : l ≤ 100 → l + levels_of_items (item_trees inside.items) ≤ 101
  last_few : l ≤ 100 → l + levels_of inside.last ≤ 101
  names : names_of_items (item_trees inside.items) + names_of inside.last ≤ n

record IsProgramKept (l : ℕ) (params : List Param) (term : Tree) (n : ℕ) : Type 0 where
  formed : is_formed term ≡ true
  few : l ≡ 0 → levels_of term ≤ 100
  names : length params + names_of term ≤ n

abbrev IfThere : {A : Type 0} → (A → Type 0) → Option A → Type 0
IfThere P None = Unit {0}
IfThere P (Some x) = P x

abbrev KeepsKind : (k : Kind) → ℕ → KindVal k → ℕ → Type 0
KeepsKind g.program l p n = IsProgramKept l p.params p.body n
KeepsKind g.parameter l p n = 1 ≤ n
KeepsKind g.parameters l ps n = length ps ≤ n
KeepsKind g.width l w n = Unit {0}
KeepsKind g.names l ns n = length ns ≤ n
KeepsKind g.number l n k = Unit {0}
KeepsKind g.unit l this n = names_of_unit this ≤ n
KeepsKind g.units l steps n = names_of_num steps ≤ n
KeepsKind g.num l steps n = IsNumKept steps n
KeepsKind g.expression l term n = IsKept forms.expression l term n
KeepsKind g.assigned l right n = IfThere (λ term. IsKept forms.sum l term n) right
KeepsKind g.sum l term n = IsKept forms.sum l term n
KeepsKind g.sums l terms n = AreKept forms.product l terms n
KeepsKind g.product l term n = IsKept forms.product l term n
KeepsKind g.products l terms n = AreKept forms.application l terms n
KeepsKind g.application l term n = IsKept forms.application l term n
KeepsKind g.atom l term n = IsKept forms.atom l term n
KeepsKind g.atoms l terms n = AreKept forms.atom l terms n
KeepsKind g.part l p n = IsPartKept p n
KeepsKind g.part_end l end n = IfThere (λ steps. IsNumKept steps n) end
KeepsKind g.parts l ps n = ArePartsKept ps n
KeepsKind g.base l term n = IsKept forms.base l term n
KeepsKind g.elements l terms n = AreKept forms.expression l terms n
KeepsKind g.item l this n = IsItemKept l this n
KeepsKind g.loop_item l this n = IsItemKept l this n
KeepsKind g.loop_items l items n = AreItemsKept l items n
KeepsKind g.body l inside n = IsBodyKept l inside n
KeepsKind g.body_end l rest n = IfThere (λ inside. IsBodyKept l inside n) rest

abbrev Keeps : (f : Form) → ℕ → Val f → ℕ → Type 0
Keeps f = KeepsKind f.kind

-- ---- levels in a place for a form

as_up : (form next : ℕ) (term : Tree) (n : ℕ) → form ≤ next → levels_as next term n ≤ levels_as form term n
as_up form next term n e = go (leb (form_of term) form) refl (leb (form_of term) next) refl
  where
    go : (b : Bool) → leb (form_of term) form ≡ b → (c : Bool) → leb (form_of term) next ≡ c → (if c then n else n + 1) ≤ (if b then n else n + 1)
    go true f true g = omega arith
    go true f false g = absurd (let h : form_of term ≤ next = grind (arith, nat_tests) in grind (arith, nat_tests))
    go false f true g = omega arith
    go false f false g = omega arith

as_most : (form : ℕ) (term : Tree) (n : ℕ) → levels_as form term n ≤ n + 1
as_most form term n = go (leb (form_of term) form)
  where
    go : (b : Bool) → (if b then n else n + 1) ≤ n + 1
    go true = omega arith
    go false = omega arith

as_least : (form : ℕ) (term : Tree) (n : ℕ) → n ≤ levels_as form term n
as_least form term n = go (leb (form_of term) form)
  where
    go : (b : Bool) → n ≤ (if b then n else n + 1)
    go true = omega arith
    go false = omega arith

allowed : (l : ℕ) → few_levels (l + 1) ≡ true → l + 1 ≤ 100
allowed l e = grind (arith, nat_tests)

-- ---- what is put together

more : {place l i j n : ℕ} (next : Tree) (rest : List Tree) → IsKept place l next i → AreKept place l rest j → i + j ≤ n → AreKept place l (next ∷ rest) n
more next rest h k e = record {
  formed = and_from (is_formed next) (are_formed (trees rest)) h.formed k.formed;
  few = λ low. omega (arith, h.few low, k.few low);
  names = omega (arith, h.names, k.names, e);
}

none : {place l n : ℕ} → AreKept place l [] n
none = record { formed = refl; few = λ low. omega arith; names = omega arith }

-- one operand alone in a looser place
looser : {l i n : ℕ} (place next : ℕ) (term : Tree) → place ≤ next → IsKept place l term i → i ≤ n → IsKept next l term n
looser place next term up h e = record {
  formed = h.formed;
  few = λ low. omega (arith, h.few low, as_up place next term (levels_of term) up);
  names = omega (arith, h.names, e);
}

assigned : {l i n : ℕ} (j : ℕ) (left : Tree) (right : Option Tree) → IsKept forms.sum l left i → IfThere (λ term. IsKept forms.sum l term j) right → i + j ≤ n
    → IsKept forms.expression l (assign_of left right) n
assigned j left None h k e = looser forms.sum forms.expression left (omega arith) h (omega (arith, e))
assigned j left (Some right) h k e = record {
  formed = and_from (is_formed left) (is_formed right) h.formed k.formed;
  few = λ low. omega (arith, h.few low, k.few low);
  names = omega (arith, h.names, k.names, e);
}

sum_kept : {l i j n : ℕ} (first : Tree) (rest : List Tree) → IsKept forms.product l first i → AreKept forms.product l rest j → i + j ≤ n
    → IsKept forms.sum l (xor_of first rest) n
sum_kept first [] h k e = looser forms.product forms.sum first (omega arith) h (omega (arith, e))
sum_kept first (next ∷ rest) h k e = let a = more first (next ∷ rest) h k e in record { formed = a.formed; few = a.few; names = a.names }

product_kept : {l i j n : ℕ} (first : Tree) (rest : List Tree) → IsKept forms.application l first i → AreKept forms.application l rest j → i + j ≤ n
    → IsKept forms.product l (and_of first rest) n
product_kept first [] h k e = looser forms.application forms.product first (omega arith) h (omega (arith, e))
product_kept first (next ∷ rest) h k e = let a = more first (next ∷ rest) h k e in record { formed = a.formed; few = a.few; names = a.names }

application_kept : {l i j n : ℕ} (head : Tree) (rest : List Tree) → IsKept forms.atom l head i → AreKept forms.atom l rest j → i + j ≤ n
    → IsKept forms.application l (apply_of head rest) n
application_kept head [] h k e = looser forms.atom forms.application head (omega arith) h (omega (arith, e))
application_kept head (next ∷ rest) h k e = record {
  formed = and_from (is_formed head) (are_formed (trees (next ∷ rest))) h.formed k.formed;
  few = λ low. omega (arith, h.few low, k.few low);
  names = omega (arith, h.names, k.names, e);
}

atom_kept : {l i j n : ℕ} (inner : Tree) (ps : List Part) → IsKept forms.base l inner i → ArePartsKept ps j → i + j ≤ n
    → IsKept forms.atom l (parts_of inner ps) n
atom_kept inner [] h k e = looser forms.base forms.atom inner (omega arith) h (omega (arith, e))
atom_kept inner (next ∷ rest) h k e = record {
  formed = and_from (parts_are_formed (next ∷ rest)) (is_formed inner) k.formed h.formed;
  few = λ low. omega (arith, h.few low);
  names = omega (arith, h.names, k.names, e);
}

part_kept : {i n : ℕ} (j : ℕ) (at : Place) (first : List Step) (end : Option (List Step)) → IsNumKept first i → IfThere (λ steps. IsNumKept steps j) end
    → i + j ≤ n
    → IsPartKept (index_of at first end) n
part_kept j at first None h k e = record { formed = h.formed; names = omega (arith, h.names, e) }
part_kept j at first (Some last) h k e = record {
  formed = and_from (num_is_formed first) (num_is_formed last) h.formed k.formed;
  names = omega (arith, h.names, k.names, e);
}

item_least : (bound : Name) (term : Tree) → levels_of_item (t.bind bound term) ≤ levels_of term
item_least bound (t.used name) = omega arith
item_least bound (t.function names body at) = omega arith
item_least bound _ = omega arith

let_kept : {l i j n : ℕ} (bound : Name) (names : List Name) (term : Tree) → length names ≤ i → IsKept forms.expression l term j → i + j + 1 ≤ n
    → IsItemKept l (t.bind bound (bound_of names term)) n
let_kept bound [] term m h e = record {
  formed = h.formed;
  few = λ low. omega (arith, h.few low, item_least bound term, as_least forms.expression term (levels_of term));
  names = omega (arith, h.names, e);
}
let_kept bound (first ∷ names) term m h e = record {
  formed = h.formed;
  few = λ low. omega (arith, h.few low, as_least forms.expression term (levels_of term));
  names = omega (arith, m, h.names, e);
}

run_kept : {l i n : ℕ} (term : Tree) → IsKept forms.expression l term i → i ≤ n → IsItemKept l (t.run term) n
run_kept term h e = record {
  formed = h.formed;
  few = λ low. omega (arith, h.few low, as_least forms.expression term (levels_of term));
  names = omega (arith, h.names, e);
}

more_items : {l i j n : ℕ} (this : ItemTree) (rest : List ItemTree) → IsItemKept l this i → AreItemsKept l rest j → i + j ≤ n
    → AreItemsKept l (this ∷ rest) n
more_items this rest h k e = record {
  formed = and_from (item_is_formed this) (items_are_formed (item_trees rest)) h.formed k.formed;
  few = λ low. omega (arith, h.few low, k.few low);
  names = omega (arith, h.names, k.names, e);
}

for_kept : {l h i j n : ℕ} (name : Name) (low high : List Step) (this : ItemTree) (rest : List ItemTree) (at : Place) → l + 1 ≤ 100 → IsNumKept low h
    → IsNumKept high i → AreItemsKept (l + 1) (this ∷ rest) j → h + i + j + 1 ≤ n
    → IsItemKept l (t.run (t.loop name low high (item_trees (this ∷ rest)) at)) n
for_kept name low high this rest at few h i k e = record {
  formed = and_from (num_is_formed low && num_is_formed high) (items_are_formed (item_trees (this ∷ rest)))
      (and_from (num_is_formed low) (num_is_formed high) h.formed i.formed) k.formed;
  few = λ _. omega (arith, few, k.few few);
  names = omega (arith, h.names, i.names, k.names, e);
}

front_kept : {l i j n : ℕ} (this : ItemTree) (rest : BodyTree) → IsItemKept l this i → IsBodyKept l rest j → i + j ≤ n → IsBodyKept l (in_front this rest) n
front_kept this rest h k e = record {
  formed = and_from (item_is_formed this) (items_are_formed (item_trees rest.items)) h.formed k.formed;
  last_formed = k.last_formed;
  few = λ low. omega (arith, h.few low, k.few low);
  last_few = k.last_few;
  names = omega (arith, h.names, k.names, e);
}

body_kept_by : {l i n : ℕ} (j : ℕ) (term : Tree) (rest : Option BodyTree) → IsKept forms.expression l term i → IfThere (λ inside. IsBodyKept l inside j) rest
    → i + j ≤ n
    → IsBodyKept l (body_of term rest) n
body_kept_by j term None h k e = record {
  formed = refl;
  last_formed = h.formed;
  few = λ low. omega arith;
  last_few = λ low. omega (arith, h.few low, as_least forms.expression term (levels_of term));
  names = omega (arith, h.names, e);
}
body_kept_by {l} {i} j term (Some rest) h k e = front_kept (t.run term) rest (run_kept term h (omega arith)) k e

program_kept : {l i j k n : ℕ} (first : Param) (rest : List Param) (term : Tree) → 1 ≤ i → length rest ≤ j → IsKept forms.expression (l + 1) term k
    → i + j + k ≤ n → IsProgramKept l (first ∷ rest) term n
program_kept first rest term hi hj h e = record {
  formed = h.formed;
  few = λ at_start. omega (arith, at_start, h.few (omega (arith, at_start)), as_least forms.expression term (levels_of term));
  names = omega (arith, hi, hj, h.names, e);
}

-- ---- each line keeps it

kind_keeps : (p : Profile) (k : Kind) → LinesKeep few_levels Keeps (in_profile p k) (productions (in_profile p k))
kind_keeps p g.program = (
  λ l first i hi rest j hj term k h. program_kept first rest term hi hj h (omega arith),
  (λ l first i hi rest j hj term k h. program_kept first rest term hi hj h (omega arith), tt),
)
kind_keeps p g.parameter = (λ l n w i hi. omega arith, tt)
kind_keeps p g.width = (λ l. tt, (λ l w i k. tt, tt))
kind_keeps p g.parameters = (λ l. omega arith, (λ l p i hi rest j hj. omega (arith, hi, hj), tt))
kind_keeps p g.names = (λ l. omega arith, (λ l n rest j hj. omega (arith, hj), tt))
kind_keeps p g.number = (λ l n. tt, (λ l n. tt, tt))
kind_keeps p g.unit = (λ l n i h. omega arith, (λ l n. omega arith, tt))
kind_keeps p g.units = (λ l. omega arith, (λ l next i h more j k. omega (arith, h, k), (λ l next i h more j k. omega (arith, h, k), tt)))
kind_keeps profiles.One g.num = (λ l n i k. record { formed = refl; names = omega arith }, tt)
kind_keeps profiles.Two g.num = (λ l first i h more j k. record { formed = refl; names = omega (arith, h, k) }, tt)
kind_keeps p g.expression = (
  λ l at ok first rest j hj term k h. let x : IsKept forms.expression (l + 1) term k = h in record {
    formed = x.formed;
    few = λ low. omega (arith, x.few (allowed l ok), as_least forms.expression term (levels_of term));
    names = omega (arith, hj, x.names);
  },
  (λ l left i h right j k. assigned j left right h k (omega arith), tt),
)
kind_keeps p g.assigned = (λ l. tt, (λ l right i h. looser forms.sum forms.sum right (omega arith) h (omega arith), tt))
kind_keeps p g.sum = (λ l first i h rest j k. sum_kept first rest h k (omega arith), tt)
kind_keeps p g.sums = (λ l. none, (λ l next i h rest j k. more next rest h k (omega arith), tt))
kind_keeps p g.product = (λ l first i h rest j k. product_kept first rest h k (omega arith), tt)
kind_keeps p g.products = (λ l. none, (λ l next i h rest j k. more next rest h k (omega arith), tt))
kind_keeps p g.application = (
  λ l at operand i h. record { formed = h.formed; few = h.few; names = omega (arith, h.names) },
  (
    λ l at operand i h. record { formed = h.formed; few = h.few; names = omega (arith, h.names) },
    (
      λ l at first i h second j k. record {
        formed = and_from (is_formed first) (is_formed second) h.formed k.formed;
        few = λ low. omega (arith, h.few low, k.few low);
        names = omega (arith, h.names, k.names);
      },
      (
        λ l at by i h operand j k. record {
          formed = and_from (num_is_formed by) (is_formed operand) h.formed k.formed;
          few = k.few;
          names = omega (arith, h.names, k.names);
        },
        (λ l head i h rest j k. application_kept head rest h k (omega arith), tt),
      ),
    ),
  ),
)
kind_keeps p g.atom = (λ l inner i h ps j k. atom_kept inner ps h k (omega arith), tt)
kind_keeps p g.atoms = (λ l. none, (λ l next i h rest j k. more next rest h k (omega arith), tt))
kind_keeps p g.part = (λ l at first i h end j k. part_kept j at first end h k (omega arith), tt)
kind_keeps p g.part_end = (λ l. tt, (λ l last i h. record { formed = h.formed; names = omega (arith, h.names) }, tt))
kind_keeps p g.parts = (
  λ l. record { formed = refl; names = omega arith },
  (
    λ l this i h ps j k. record { formed = and_from (part_is_formed this) (parts_are_formed ps) h.formed k.formed; names = omega (arith, h.names, k.names) },
    tt,
  ),
)
kind_keeps p g.base = (
  λ l n. record { formed = refl; few = λ low. omega arith; names = omega arith },
  (
    λ l at. record { formed = refl; few = λ low. omega arith; names = omega arith },
    (
      λ l at. record { formed = refl; few = λ low. omega arith; names = omega arith },
      (
        λ l at ok first i h rest j k. let x : AreKept forms.expression (l + 1) (first ∷ rest) (i + j) = more first rest h k (omega arith) in record {
          formed = x.formed;
          few = λ low. omega (arith, x.few (allowed l ok));
          names = omega (arith, x.names);
        },
        (
          λ l at ok inner i h. let x : IsKept forms.expression (l + 1) inner i = h in record {
            formed = x.formed;
            few = λ low. omega (arith, x.few (allowed l ok), as_most forms.base inner (levels_of inner), as_least forms.expression inner (levels_of inner));
            names = omega (arith, x.names);
          },
          (
            λ l at ok inside i h. let x : IsBodyKept (l + 1) inside i = h in record {
              formed = and_from (items_are_formed (item_trees inside.items)) (is_formed inside.last) x.formed x.last_formed;
              few = λ low. omega (arith, x.few (allowed l ok), x.last_few (allowed l ok));
              names = omega (arith, x.names);
            },
            tt,
          ),
        ),
      ),
    ),
  ),
)
kind_keeps p g.elements = (λ l. none, (λ l next i h rest j k. more next rest h k (omega arith), tt))
kind_keeps profiles.One g.item = (λ l bound names i hi term j h. let_kept bound names term hi h (omega arith), tt)
kind_keeps profiles.Two g.item = (
  λ l bound names i hi term j h. let_kept bound names term hi h (omega arith),
  (
    λ l at name low h hh high i hi curly ok this j hj rest k hk. let items : AreItemsKept (l + 1) (this ∷ rest) (j + k) = more_items this rest hj hk
        (omega arith) in
        for_kept name low high this rest at (allowed l ok) hh hi items (omega arith),
    tt,
  ),
)
kind_keeps p g.loop_item = (
  λ l this i h. record { formed = h.formed; few = h.few; names = omega (arith, h.names) },
  (λ l term i h. run_kept term h (omega arith), tt),
)
kind_keeps p g.loop_items = (
  λ l. record { formed = refl; few = λ low. omega arith; names = omega arith },
  (λ l this i h rest j k. more_items this rest h k (omega arith), tt),
)
kind_keeps p g.body = (
  λ l this i h rest k hk. front_kept this rest h hk (omega arith),
  (λ l term i h rest j k. body_kept_by j term rest h k (omega arith), tt),
)
kind_keeps p g.body_end = (
  λ l rest k h. record { formed = h.formed; last_formed = h.last_formed; few = h.few; last_few = h.last_few; names = omega (arith, h.names) },
  (λ l. tt, tt),
)

lines_keep : (f : Form) → LinesKeep few_levels Keeps f (productions f)
lines_keep f = kind_keeps f.profile f.kind

-- ---- what a program keeps

sentence_kept : {ts : List Token} {params : List Param} {body : Tree} → IsSentenceOf few_levels ts params body → IsProgramKept 0 params body (length ts)
sentence_kept {ts} {params} {body} d =
    let k = values_kept few_levels Keeps lines_keep d.reading tt 0 (length ts) (omega arith) tt in
    let h = k.3 in
    subst (λ (ps : List Param). IsProgramKept 0 ps body (length ts)) d.params_are
    (subst (λ (x : Tree). IsProgramKept 0 (value d.reading tt).0.params x (length ts)) d.body_is
    (record { formed = h.formed; few = h.few; names = (let few = h.names in let e = k.2 in omega (arith, few, e)) }))

-- What a program keeps of its body.
pub body_kept : (tokens : List Token) (params : List Param) (body : Tree) → HasSentence tokens params body → IsBody body
body_kept tokens params body h = let k = sentence_kept h.spelled in record { formed = k.formed; nesting = k.few refl }

-- A program has fewer names than tokens.
pub names_kept : (tokens : List Token) (params : List Param) (body : Tree) → HasSentence tokens params body → length params + names_of body < length tokens
names_kept tokens params body h =
    let k = sentence_kept h.spelled in let few = k.names in omega (arith, few, ap length h.cut, length-append h.sentence (h.end ∷ []))
