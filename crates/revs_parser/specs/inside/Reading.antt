-- What reading forms off the front of a list of tokens does to the machine, and what the tokens
-- stand for.
use Rattle.std.specs.Prelude.{◌≡◌, ◌<◌, ℕ, Bool, true, false, List, [], ◌∷◌, ◌++◌, length, Result, Ok, Err, ◌⊎◌, MatchResult}
use Rattle.revc_base.specs.declared.place.Place.{Place}
use Rattle.revs_lexer.specs.declared.sign.Sign.TheVariants as signs
use Rattle.revs_lexer.specs.declared.word.Word.TheVariants as words
use Rattle.revs_lexer.specs.declared.token.Tok.{Tok}
use Rattle.revs_lexer.specs.declared.token.Tok.TheVariants as toks
use Rattle.revs_lexer.specs.declared.token.Token.{Token}
use Rattle.revs_lexer.specs.declared.packed.Rest.{Rest}
use Rattle.revs_lexer.specs.Rest.{left}
use Rattle.revs_grammar.specs.declared.profile.Profile.{Profile}
use Rattle.revs_grammar.specs.declared.profile.Profile.TheVariants as profiles
use Rattle.revs_grammar.specs.Forms.{Kind, KindVal, Form, Val, in_profile}
use Rattle.revs_grammar.specs.Sentences.{token, kept_token, opening_token, form, Leads, Vals, value, few_levels}
use Rattle.revs_grammar.specs.inside.Machine.{Stack, Outcome, no_syntax, too_deep, is_end, outcome}
use Rattle.revs_parser.specs.declared.stop.Stop.{Stop}
use Rattle.revs_parser.specs.declared.stop.Stop.TheVariants as stops

-- what two lists of symbols stand for, one behind the other
abbrev pub put : (ss ns : Stack) → Vals ss → Vals ns → Vals (ss ++ ns)
put [] ns vs ws = ws
put (token m ∷ ss) ns vs ws = put ss ns vs ws
put (kept_token m ∷ ss) ns vs ws = (vs.0, put ss ns vs.1 ws)
put (opening_token m l ∷ ss) ns vs ws = (vs.0, put ss ns vs.1 ws)
put (form f l ∷ ss) ns vs ws = (vs.0, put ss ns vs.1 ws)

-- The machine that expects the first symbols in front of anything comes over the tokens to the
-- second, and the tokens in front of the rest turn what the second stand for into what the first
-- do.
pub record Passes (es fs : Stack) (turn : Vals fs → Vals es) (ts rest : List Token) : Type 0 where
  pub goes_on : (ms : Stack) → outcome ts (es ++ ms) ≡ outcome rest (fs ++ ms)
  pub front : List Token
  pub cut : ts ≡ front ++ rest
  pub leads : (ms : Stack) → Leads few_levels (es ++ ms) front (fs ++ ms)
  pub stands_for : (ms : Stack) (us : Vals fs) (ws : Vals ms) → value (leads ms) (put fs ms us ws)
      ≡ put es ms (turn us) ws

-- The machine that expects these symbols comes over them, and the tokens in front of the rest, one
-- at least, stand for these values.
pub record Reads (es : Stack) (vs : Vals es) (ts rest : List Token) : Type 0 where
  pub passes : Passes es [] (λ _. vs) ts rest
  pub shorter : length rest < length ts

-- The same where there may be no such token.
pub record Skips (es : Stack) (vs : Vals es) (ts rest : List Token) : Type 0 where
  pub passes : Passes es [] (λ _. vs) ts rest

-- A form at a level was read, and stands for this value.
abbrev pub ReadsForm : (f : Form) → ℕ → Val f → List Token → List Token → Type 0
ReadsForm f l v ts rest = Reads (form f l ∷ []) (v, tt) ts rest

-- The outcome is this halt.
abbrev pub IsHalt : Stop → Outcome → Type 0
IsHalt (stops.Syntax left) o = o ≡ no_syntax left
IsHalt (stops.Nesting left) o = o ≡ too_deep left
IsHalt (stops.Memory _) o = Unit {0}

-- The machine that expects these symbols in front of anything halts so.
pub record Halts (es : Stack) (ts : List Token) (stop : Stop) : Type 0 where
  pub halt : (ms : Stack) → IsHalt stop (outcome ts (es ++ ms))

abbrev pub HaltsIn : Form → ℕ → List Token → Stop → Type 0
HaltsIn f l ts stop = Halts (form f l ∷ []) ts stop

-- What stands first is read as this relation says, or the machine that expects these symbols halts
-- there.
abbrev pub Gives : {T : Type 0} → (T → List Token → List Token → Type 0) → Stack → Rest
    → Result (T × Rest) Stop → Type 0
Gives reads es tokens result =
    MatchResult result (λ read. reads read.0 (left tokens) (left read.1))
    (λ stop. Halts es (left tokens) stop)

-- So it is with a form, as which a value is seen.
abbrev pub GivesForm : {T : Type 0} (f : Form) (l : ℕ) → (T → Val f) → Rest
    → Result (T × Rest) Stop → Type 0
GivesForm f l seen tokens result = Gives (λ x. ReadsForm f l (seen x)) (form f l ∷ []) tokens result

-- What is made is as it says, or memory is wanting.
abbrev pub Makes : {T : Type 0} → (T → Type 0) → Result T Stop → Type 0
Makes made result = MatchResult result made (λ stop. stop ≡ stops.Memory _)

-- A form of this kind was read, whatever its profile and its level.
pub record ReadsAnywhere (k : Kind) (v : KindVal k) (ts rest : List Token) : Type 0 where
  pub at_level : (p : Profile) (level : ℕ) → ReadsForm (in_profile p k) level v ts rest

-- The machine that expects such a form halts so, whatever the profile and the level.
pub record HaltsAnywhere (k : Kind) (ts : List Token) (stop : Stop) : Type 0 where
  pub at_level : (p : Profile) (level : ℕ) → HaltsIn (in_profile p k) level ts stop

-- The machine that expects this form halts so, whatever the level.
pub record HaltsAtLevels (f : Form) (ts : List Token) (stop : Stop) : Type 0 where
  pub at_level : (level : ℕ) → HaltsIn f level ts stop

-- What was read was put behind the others.
pub record Puts {T R : Type 0} (old new : List T) (read : Result (T × R) Stop)
    (rest : R) : Type 0 where
  pub next : T
  pub was_read : read ≡ Ok (next, rest)
  pub all : new ≡ old ++ next ∷ []

-- Nothing was read, or the memory for it was wanting.
abbrev pub Lacks : {A : Type 0} → Result A Stop → Stop → Type 0
Lacks read stop = (read ≡ Err stop) ⊎ (stop ≡ stops.Memory _)

-- A token of this kind and this place stands first, and the rest behind it.
pub record Heads (k : Tok) (at : Place) (ts rest : List Token) : Type 0 where
  pub cut : ts ≡ record { tok = k; at = at } ∷ rest

-- No token of this kind stands first.
abbrev pub NotFirst : Tok → List Token → Type 0
NotFirst k [] = Unit {0}
NotFirst k (t ∷ ts) = ¬ (t.tok ≡ k)

-- No number stands first.
abbrev pub NoNumber : List Token → Type 0
NoNumber [] = Unit {0}
NoNumber (t ∷ ts) = (n : ℕ) → ¬ (t.tok ≡ toks.Number n)

-- whether the token begins a base
abbrev pub begins_base : Tok → Bool
begins_base (toks.Name text) = true
begins_base (toks.Word words.True) = true
begins_base (toks.Word words.False) = true
begins_base (toks.Word words.Reg) = true
begins_base (toks.Sign signs.OpenRound) = true
begins_base (toks.Sign signs.OpenCurly) = true
begins_base _ = false

abbrev pub base_first : List Token → Bool
base_first [] = false
base_first (t ∷ ts) = begins_base t.tok

-- whether the token is a name
abbrev pub is_name : Tok → Bool
is_name (toks.Name text) = true
is_name _ = false

abbrev pub name_first : List Token → Bool
name_first [] = false
name_first (t ∷ ts) = is_name t.tok

-- whether the token begins an item that is no expression: a `let`, or in profile 2 a `for`
abbrev pub begins_item : Profile → Tok → Bool
begins_item p (toks.Word words.Let) = true
begins_item profiles.Two (toks.Word words.For) = true
begins_item p t = false

abbrev pub item_first : Profile → List Token → Bool
item_first p [] = false
item_first p (t ∷ ts) = begins_item p t.tok

-- whether the end stands first
abbrev pub end_first : List Token → Bool
end_first [] = false
end_first (t ∷ ts) = is_end t.tok
