-- What is computed of the table is what tokens lead to.
use Rattle.std.proofs.Common.{◌≡◌, ℕ, zero, suc, Bool, true, false, ◌&&◌, Option, Some, None, List, [], ◌∷◌, ◌++◌, length, refl, ap, sym, ◌∙◌, subst}
use Rattle.std.proofs.Common.{inl, inr}
use Rattle.revc_base.specs.declared.place.Place.{Place}
use Rattle.std.specs.Prelude.{◌==◌, IfSome}
use Rattle.std.proofs.lemmas.Bool.{and_parts, eqb-true, cases_Bool, false≢true, cond-true, cond-false}
use Rattle.revs_lexer.specs.declared.token.Tok.{Tok}
use Rattle.revs_lexer.specs.declared.token.Tok.TheVariants as toks
use Rattle.revs_lexer.specs.declared.token.Token.{Token}
use Rattle.revs_grammar.specs.declared.profile.Profile.{Profile}
use Rattle.revs_grammar.specs.Forms.{Mark, two, other_number, code, mark_code, numeral_in, Kind, number}
use Rattle.revs_grammar.specs.Forms.{Form, in_profile, Val, level, Piece, one, kept, opening}
use Rattle.revs_grammar.specs.Forms.{sub, Builds, Production, IsOneOf, line}
use Rattle.revs_grammar.specs.Productions.{productions}
use Rattle.revs_grammar.specs.Sentences.{Symbol, token, kept_token, opening_token, form, symbols, done, read, keep, open_level, by_line, Vals, value}
use Rattle.revs_grammar.specs.Sentences.{few_levels, at_start, IsSentenceOf}
use Rattle.revs_terms.specs.declared.program.Param.{Param}
use Rattle.revs_terms.specs.Trees.{Tree}
use Rattle.revs_grammar.proofs.LeadsLemmas.{leads-then, folded, value-then}
use Rattle.built_texts.specs.Ways.{Way, Turns, is_of, way_if, dropped, kept_way, opened, numeral_way, way_line, way_lines, way_form, empty_line}
use Rattle.built_texts.specs.Ways.{left_out, way_one, way, way_end, WaysTurn, EndsTurn, placed, shifted}
use Rattle.built_texts.specs.Pieces as built
use Rattle.built_texts.specs.Pieces.{toks_of}
use Rattle.built_texts.proofs.PlaceLemmas.{placed-append, toks_of-append}

of_code : (m : Mark) (t : Tok) → is_of m t ≡ true → code t ≡ mark_code m
of_code m (toks.Number n) e = absurd (false≢true e)
of_code m (toks.Name text) e = eqb-true _ _ e
of_code m (toks.Word w) e = eqb-true _ _ e
of_code m (toks.Sign s) e = eqb-true _ _ e
of_code m toks.End e = absurd (false≢true e)

-- a way that leads
abbrev Sound : (ss : List Symbol) → List Token → Option (Way ss) → Type 0
Sound ss ts o = IfSome o (λ w. Turns ss ts w.left w.turn)

if_so : {ss : List Symbol} (ts : List Token) (b : Bool) (w : Way ss) → (b ≡ true → Turns ss ts w.left w.turn) → Sound ss ts (way_if b w)
if_so ts true w f = f refl
if_so ts false w f = tt

module _ (t : Token) where
  sound_dropped : (m : Mark) (ss : List Symbol) → Sound (token m ∷ ss) (t ∷ []) (dropped t m ss)
  sound_dropped m ss = if_so (t ∷ []) (is_of m t.tok) _ (λ e. record { leads = read (of_code m t.tok e) done; turned = λ vs. refl })

  sound_kept : (m : Mark) (ss : List Symbol) → Sound (kept_token m ∷ ss) (t ∷ []) (kept_way t m ss)
  sound_kept m ss = if_so (t ∷ []) (is_of m t.tok) _ (λ e. record { leads = keep (of_code m t.tok e) done; turned = λ vs. refl })

  sound_opened : (m : Mark) (l : ℕ) (ss : List Symbol) → Sound (opening_token m l ∷ ss) (t ∷ []) (opened t m l ss)
  sound_opened m l ss = if_so (t ∷ []) (is_of m t.tok && few_levels l) _ (λ e.
      let h = and_parts (is_of m t.tok) (few_levels l) e in
      record { leads = open_level (of_code m t.tok h.0) h.1 done; turned = λ vs. refl })

  -- a line of a form, from its pieces
  by_this : (f : Form) (l : ℕ) (ss : List Symbol) (p : Production (Val f)) (w : Way (symbols l p.pieces ++ ss)) → IsOneOf p (productions f)
      → Turns (symbols l p.pieces ++ ss) (t ∷ []) w.left w.turn → Turns (form f l ∷ ss) (t ∷ []) w.left (λ vs. folded f l ss p (w.turn vs))
  by_this f l ss p w is h = record { leads = by_line p is h.leads; turned = λ vs. ap (folded f l ss p) (h.turned vs) }

  abbrev SoundInto : ((f : Form) (l : ℕ) (ss : List Symbol) → Option (Way (form f l ∷ ss))) → Type 0
  SoundInto into = (f : Form) (l : ℕ) (ss : List Symbol) → Sound (form f l ∷ ss) (t ∷ []) (into f l ss)

  sound_line : (into : (f : Form) (l : ℕ) (ss : List Symbol) → Option (Way (form f l ∷ ss))) → SoundInto into → (l : ℕ) (ps : List Piece) (ss : List Symbol)
      → Sound (symbols l ps ++ ss) (t ∷ []) (way_line t into l ps ss)
  sound_line into h l [] ss = tt
  sound_line into h l (one m ∷ ps) ss = sound_dropped m (symbols l ps ++ ss)
  sound_line into h l (kept m ∷ ps) ss = sound_kept m (symbols l ps ++ ss)
  sound_line into h l (opening m ∷ ps) ss = sound_opened m _ (symbols l ps ++ ss)
  sound_line into h l (sub d f ∷ ps) ss = h f (level d l) (symbols l ps ++ ss)

  this_or_later : (f : Form) (l : ℕ) (ss : List Symbol) (p : Production (Val f)) → IsOneOf p (productions f) → (o : Option (Way (symbols l p.pieces ++ ss)))
      (other : Option (Way (form f l ∷ ss))) → Sound (symbols l p.pieces ++ ss) (t ∷ []) o → Sound (form f l ∷ ss) (t ∷ []) other
      → Sound (form f l ∷ ss) (t ∷ [])
      (elim o [ Some w ↦ Some (record { left = w.left; turn = λ vs. folded f l ss p (w.turn vs) }) | None ↦ other ])
  this_or_later f l ss p is (Some w) other h k = by_this f l ss p w is h
  this_or_later f l ss p is None other h k = k

  sound_lines : (into : (f : Form) (l : ℕ) (ss : List Symbol) → Option (Way (form f l ∷ ss))) → SoundInto into → (f : Form) (l : ℕ) (ss : List Symbol)
      (ps : List (Production (Val f))) → ((p : Production (Val f)) → IsOneOf p ps → IsOneOf p (productions f))
      → Sound (form f l ∷ ss) (t ∷ []) (way_lines t into f l ss ps)
  sound_lines into h f l ss [] among = tt
  sound_lines into h f l ss (p ∷ ps) among =
      this_or_later f l ss p (among p (inl refl)) (way_line t into l p.pieces ss) (way_lines t into f l ss ps)
      (sound_line into h l p.pieces ss) (sound_lines into h f l ss ps (λ q is. among q (inr is)))

  -- the number 2 and any other are read by two lines that stand for the same
  sound_number : (n : ℕ) (p : Profile) (l : ℕ) (ss : List Symbol) → t.tok ≡ toks.Number n
      → Turns (form (in_profile p number) l ∷ ss) (t ∷ []) ss (λ vs. (numeral_in t, vs))
  sound_number n p l ss e = elim (cases_Bool (n == 2)) [
    | inl is ↦ record {
      leads = by_line (line (kept two ∷ []) (λ n. n)) (inr (inl refl)) (keep (ap code e ∙ cond-true (n == 2) 35 2 is) done);
      turned = λ vs. refl;
    }
    | inr not ↦ record {
      leads = by_line (line (kept other_number ∷ []) (λ n. n)) (inl refl) (keep (ap code e ∙ cond-false (n == 2) 35 2 not) done);
      turned = λ vs. refl;
    }
  ]

  sound_numeral : (s : Tok) (p : Profile) (l : ℕ) (ss : List Symbol) → t.tok ≡ s → Sound (form (in_profile p number) l ∷ ss) (t ∷ []) (numeral_way t s p l ss)
  sound_numeral (toks.Number n) p l ss e = sound_number n p l ss e
  sound_numeral (toks.Name text) p l ss e = tt
  sound_numeral (toks.Word w) p l ss e = tt
  sound_numeral (toks.Sign s) p l ss e = tt
  sound_numeral toks.End p l ss e = tt

  sound_form : (n : ℕ) (k : Kind) (p : Profile) (l : ℕ) (ss : List Symbol) → Sound (form (in_profile p k) l ∷ ss) (t ∷ []) (way_form t n k p l ss)
  sound_form zero k p l ss = tt
  sound_form (suc n) number p l ss = sound_numeral t.tok p l ss refl
  sound_form (suc n) k p l ss =
      sound_lines (λ f l ss. way_form t n f.kind f.profile l ss) (λ f l ss. sound_form n f.kind f.profile l ss) (in_profile p k) l ss
      (productions (in_profile p k)) (λ q is. is)

-- ---- forms that are left out

empty_turns : (f : Form) (l : ℕ) (ss : List Symbol) (ps : List Piece) (b : Builds (Val f) ps) → IsOneOf (line ps b) (productions f)
    → IfSome (empty_line ps b) (λ v. Turns (form f l ∷ ss) [] ss (λ vs. (v, vs)))
empty_turns f l ss [] b is = record { leads = by_line (line [] b) is done; turned = λ vs. refl }
empty_turns f l ss (p ∷ ps) b is = tt

either : {A : Type 0} (P : A → Type 0) (o other : Option A) → IfSome o P → IfSome other P → IfSome (elim o [ Some v ↦ Some v | None ↦ other ]) P
either P (Some v) other h k = h
either P None other h k = k

left_out_turns : (f : Form) (l : ℕ) (ss : List Symbol) (ps : List (Production (Val f)))
    → ((p : Production (Val f)) → IsOneOf p ps → IsOneOf p (productions f)) → IfSome (left_out ps) (λ v. Turns (form f l ∷ ss) [] ss (λ vs. (v, vs)))
left_out_turns f l ss [] among = tt
left_out_turns f l ss (p ∷ ps) among =
    either (λ v. Turns (form f l ∷ ss) [] ss (λ vs. (v, vs))) (empty_line p.pieces p.build) (left_out ps)
    (empty_turns f l ss p.pieces p.build (among p (inl refl)))
    (left_out_turns f l ss ps (λ q is. among q (inr is)))

-- one reading behind the other
pub turns-then : {ss mid left : List Symbol} {ts us : List Token} {f : Vals mid → Vals ss} {g : Vals left → Vals mid}
    → Turns ss ts mid f → Turns mid us left g → Turns ss (ts ++ us) left (λ vs. f (g vs))
turns-then {f = f} {g = g} h k = record {
  leads = leads-then h.leads k.leads;
  turned = λ vs. value-then h.leads k.leads vs ∙ ap (value h.leads) (k.turned vs) ∙ h.turned (g vs);
}

-- one built text behind the other
pub built_then : {ss mid left : List Symbol} {g : Vals mid → Vals ss} {h : Vals left → Vals mid} (xs ys : List built.Piece) (p : ℕ → Place)
    → Turns ss (placed p (toks_of xs)) mid g → Turns mid (placed (shifted (length (toks_of xs)) p) (toks_of ys)) left h
    → Turns ss (placed p (toks_of (xs ++ ys))) left (λ vs. g (h vs))
built_then {ss} {mid} {left} {g} {h} xs ys p a b =
    subst (λ (ts : List Token). Turns ss ts left (λ vs. g (h vs)))
    (sym (ap (placed p) (toks_of-append xs ys) ∙ placed-append p (toks_of xs) (toks_of ys))) (turns-then a b)

-- tokens that lead over a program are the sentence of it
pub is_sentence : {ts : List Token} {params : List Param} {body : Tree} → Turns at_start ts [] (λ _. (record { params = params; body = body }, tt))
    → IsSentenceOf few_levels ts params body
is_sentence h = record {
  reading = h.leads;
  params_are = ap (λ (v : Vals at_start). v.0.params) (h.turned tt);
  body_is = ap (λ (v : Vals at_start). v.0.body) (h.turned tt);
}

-- ---- all tokens

dropping : (t : Token) (f : Form) (l : ℕ) (ss : List Symbol) (o : Option (Val f)) (rest : Option (Way ss))
    → IfSome o (λ v. Turns (form f l ∷ ss) [] ss (λ vs. (v, vs))) → Sound ss (t ∷ []) rest
    → Sound (form f l ∷ ss) (t ∷ [])
    (elim o [
      | None ↦ None
      | Some v ↦ elim rest [ None ↦ None | Some w ↦ Some (record { left = w.left; turn = λ vs. (v, w.turn vs) }) ]
    ])
dropping t f l ss None rest h k = tt
dropping t f l ss (Some v) None h k = tt
dropping t f l ss (Some v) (Some w) h k = turns-then h k

sound_one : (t : Token) (ss : List Symbol) → Sound ss (t ∷ []) (way_one t ss)
sound_one t [] = tt
sound_one t (token m ∷ ss) = sound_dropped t m ss
sound_one t (kept_token m ∷ ss) = sound_kept t m ss
sound_one t (opening_token m l ∷ ss) = sound_opened t m l ss
sound_one t (form f l ∷ ss) =
    either (λ w. Turns (form f l ∷ ss) (t ∷ []) w.left w.turn) (way_form t 9 f.kind f.profile l ss) _ (sound_form t 9 f.kind f.profile l ss)
    (dropping t f l ss (left_out (productions f)) (way_one t ss) (left_out_turns f l ss (productions f) (λ p is. is)) (sound_one t ss))

behind : (t : Token) (ts : List Token) (ss : List Symbol) (o : Option (Way ss)) (rest : (ns : List Symbol) → Option (Way ns))
    → Sound ss (t ∷ []) o → ((ns : List Symbol) → Sound ns ts (rest ns))
    → Sound ss (t ∷ ts)
    (elim o [
      | None ↦ None
      | Some w ↦ elim (rest w.left) [ None ↦ None | Some v ↦ Some (record { left = v.left; turn = λ vs. w.turn (v.turn vs) }) ]
    ])
behind t ts ss None rest h k = tt
behind t ts ss (Some w) rest h k = last (rest w.left) (k w.left)
  where
    last : (o : Option (Way w.left)) → Sound w.left ts o
        → Sound ss (t ∷ ts) (elim o [ None ↦ None | Some v ↦ Some (record { left = v.left; turn = λ vs. w.turn (v.turn vs) }) ])
    last None g = tt
    last (Some v) g = turns-then h g

pub ways_turn : WaysTurn
ways_turn [] ss = record { leads = done; turned = λ vs. refl }
ways_turn (t ∷ ts) ss = behind t ts ss (way_one t ss) (λ ns. way ts ns) (sound_one t ss) (λ ns. ways_turn ts ns)

ending : (f : Form) (l : ℕ) (ss : List Symbol) (o : Option (Val f)) (rest : Option (Vals ss))
    → IfSome o (λ v. Turns (form f l ∷ ss) [] ss (λ vs. (v, vs))) → IfSome rest (λ vs. Turns ss [] [] (λ _. vs))
    → IfSome (elim o [ None ↦ None | Some v ↦ elim rest [ None ↦ None | Some vs ↦ Some (v, vs) ] ]) (λ vs. Turns (form f l ∷ ss) [] [] (λ _. vs))
ending f l ss None rest h k = tt
ending f l ss (Some v) None h k = tt
ending f l ss (Some v) (Some vs) h k = turns-then h k

pub ends_turn : EndsTurn
ends_turn [] = record { leads = done; turned = λ vs. refl }
ends_turn (form f l ∷ ss) = ending f l ss (left_out (productions f)) (way_end ss) (left_out_turns f l ss (productions f) (λ p is. is)) (ends_turn ss)
ends_turn (token m ∷ ss) = tt
ends_turn (kept_token m ∷ ss) = tt
ends_turn (opening_token m l ∷ ss) = tt

-- what computes, turns
pub turns : {ss left : List Symbol} {ts : List Token} (turn : Vals left → Vals ss) → way ts ss ≡ Some (record { left = left; turn = turn })
    → Turns ss ts left turn
turns {ss} {left} {ts} turn e = subst (Sound ss ts) e (ways_turn ts ss)

pub ended : {ss : List Symbol} (vs : Vals ss) → way_end ss ≡ Some vs → Turns ss [] [] (λ _. vs)
ended {ss} vs e = subst (λ (o : Option (Vals ss)). IfSome o (λ vs. Turns ss [] [] (λ _. vs))) e (ends_turn ss)
