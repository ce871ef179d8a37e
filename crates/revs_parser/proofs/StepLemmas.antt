-- Single steps of the machine: a form is read as its line, or left out.
use Rattle.std.proofs.Common.{◌≡◌, ℕ, ◌+◌, ◌==◌, Bool, true, false, not, ◌&&◌, ◌||◌, cond, is_some, leb, Option, Some, None}
use Rattle.std.proofs.Common.{List, [], ◌∷◌, ◌++◌, inl, inr, refl, sym, ◌∙◌, ap, length, get_or, append_assoc, arith}
use Rattle.std.proofs.lemmas.Bool.Decides.{nat_tests}
use Rattle.revc_base.specs.declared.place.Place.{Place}
use Rattle.revs_lexer.specs.declared.sign.Sign.{Sign}
use Rattle.revs_lexer.specs.declared.word.Word.{Word}
use Rattle.revs_lexer.specs.declared.sign.Sign.TheVariants as signs
use Rattle.revs_lexer.specs.declared.word.Word.TheVariants as words
use Rattle.revs_lexer.specs.declared.token.Tok.{Tok}
use Rattle.revs_lexer.specs.declared.token.Tok.TheVariants as toks
use Rattle.revs_lexer.specs.declared.token.Token.{Token}
use Rattle.std.proofs.lemmas.Bool.{and_parts}
use Rattle.revs_grammar.specs.declared.profile.Profile.{Profile}
use Rattle.revs_grammar.specs.declared.profile.Profile.TheVariants as profiles
use Rattle.revs_grammar.specs.Forms.{Mark, any_name, two, word, sign, word_code, sign_code, code, mark_code, in_profile, common, Form, Val, Depth}
use Rattle.revs_grammar.specs.Forms.{level, Piece, one, kept, opening, sub, Production, IsOneOf}
use Rattle.revs_grammar.specs.Forms as g
use Rattle.revs_grammar.specs.Productions.{productions, shared, here, plain}
use Rattle.revs_grammar.specs.Sentences.{token, kept_token, opening_token, form, symbols, any_level, few_levels}
use Rattle.revs_grammar.specs.inside.Machine.{Stack, Opening, first_some, behind, begun, table, is_empty, is_optional}
use Rattle.revs_grammar.specs.inside.Machine.{at_level, taken, step, is_done, too_deep, is_end, at_token, outcome}
use Rattle.revs_grammar.proofs.CheckHints.{rank, may_follow}
use Rattle.revs_grammar.proofs.CheckLemmas.{begin, starts_well, starts}
use Rattle.revs_grammar.proofs.LineLemmas.{word_low, sign_low, code_low, not_true, all_lines-at, table_is, table_line}
use Rattle.revs_parser.specs.inside.Reading.{Heads, NotFirst, begins_base, base_first, is_name, name_first, begins_item, item_first}

-- ---- outcomes

-- Two stacks that take the next token in the same way have the same outcome.
pub alike : (t : Token) (rest : List Token) (ms ns : Stack) → ((a : ℕ → Bool) → step a (code t.tok) ms ≡ step a (code t.tok) ns) → is_done ms ≡ is_done ns
    → outcome (t ∷ rest) ms ≡ outcome (t ∷ rest) ns
alike t rest ms ns e h = rw (e few_levels, e any_level, h)

-- At a token that is no `End` only the steps count.
alike_on : (t : Token) (rest : List Token) (ms ns : Stack) → is_end t.tok ≡ false → ((a : ℕ → Bool) → step a (code t.tok) ms ≡ step a (code t.tok) ns)
    → outcome (t ∷ rest) ms ≡ outcome (t ∷ rest) ns
alike_on t rest ms ns n e = rw (n, e few_levels, e any_level)

-- the outcome where a token of a known kind stands first
abbrev pub headed : {k : Tok} {at : Place} {ts rest : List Token} → Heads k at ts rest → (ms : Stack) → outcome ts ms
    ≡ outcome (record { tok = k; at = at } ∷ rest) ms
headed h ms = ap (λ (z : List Token). outcome z ms) h.cut

-- A fact of the kind of the first token, if there is one.
abbrev pub AtFirst : (Tok → Type 0) → List Token → Type 0
AtFirst P [] = Unit {0}
AtFirst P (t ∷ ts) = P t.tok

pub at_first : {P : Tok → Type 0} {k : Tok} (ts : List Token) → NotFirst k ts → ((t : Tok) → ¬ (t ≡ k) → P t) → AtFirst P ts
at_first [] h f = tt
at_first (t ∷ ts) h f = f t.tok h

-- ---- single tokens

module _ {k : Tok} {at : Place} {ts rest : List Token} (m : Mark) (same : code k == mark_code m ≡ true) (n : is_end k ≡ false) (h : Heads k at ts rest) where
  -- The machine comes over a token that it expects.
  pub token_goes : (ms : Stack) → outcome ts (token m ∷ ms) ≡ outcome rest ms
  token_goes ms = rw (h.cut, n, same)

  pub kept_goes : (ms : Stack) → outcome ts (kept_token m ∷ ms) ≡ outcome rest ms
  kept_goes ms = rw (h.cut, n, same)

  opening_at : (l : ℕ) (few : Bool) → few_levels l ≡ few → (ms : Stack)
      → outcome ts (opening_token m l ∷ ms) ≡ at_token (cond few (Some ms) None) (Some ms) (length rest + 1) (outcome rest)
  opening_at l few e ms = rw (h.cut, n, same, e)

  pub opening_goes : (l : ℕ) → few_levels l ≡ true → (ms : Stack) → outcome ts (opening_token m l ∷ ms) ≡ outcome rest ms
  opening_goes l ok ms = opening_at l true ok ms

  pub opening_deepens : (l : ℕ) → few_levels l ≡ false → (ms : Stack) → outcome ts (opening_token m l ∷ ms) ≡ too_deep (length ts)
  opening_deepens l deep ms = let e = ap length h.cut in opening_at l false deep ms ∙ ap too_deep (omega (arith, e))

-- ---- a form and its line

-- The pieces of a line step as their front does.
front_step : (a : ℕ → Bool) (c l r : ℕ) (ps : List Piece) (ms : Stack) → starts_well r ps ≡ true → is_empty ps ≡ false
    → taken a l ms (begun (table c) c ps) None ≡ step a c (symbols l ps ++ ms)
front_step a c l r [] ms w e = cc
front_step a c l r (one m ∷ ps) ms w e = go (c == mark_code m)
  where
    go : (b : Bool) → taken a l ms (cond b (Some (record { opens = λ l. None; rest = λ l. symbols l ps })) None) None ≡ cond b (Some (symbols l ps ++ ms)) None
    go true = refl
    go false = refl
front_step a c l r (kept m ∷ ps) ms w e = go (c == mark_code m)
  where
    go : (b : Bool) → taken a l ms (cond b (Some (record { opens = λ l. None; rest = λ l. symbols l ps })) None) None ≡ cond b (Some (symbols l ps ++ ms)) None
    go true = refl
    go false = refl
front_step a c l r (opening m ∷ ps) ms w e = go (c == mark_code m)
  where
    go : (b : Bool) → taken a l ms (cond b (Some (record { opens = λ l. Some (l + 1); rest = λ l. symbols l ps })) None) None
        ≡ cond b (at_level a (Some (l + 1)) (symbols l ps ++ ms)) None
    go true = refl
    go false = refl
front_step a c l r (sub d f ∷ ps) ms w e =
    let must = not_true (is_optional f) (and_parts (not (is_optional f)) (leb (rank f + 1) r) w).0 in
    rw must (go (table c f))
  where
    go : (o : Option Opening) → taken a l ms (behind d ps o) None ≡ taken a (level d l) (symbols l ps ++ ms) o None
    go None = refl
    go (Some o) = ap (at_level a (o.opens (level d l))) (append_assoc (o.rest (level d l)) (symbols l ps) ms)

-- The table says of the form what this line says.
abbrev pub IsRead : (f : Form) → List Piece → Tok → Type 0
IsRead f ps t = table (code t) f ≡ begun (table (code t)) (code t) ps

abbrev pub IsLeftOut : Form → Tok → Type 0
IsLeftOut f t = table (code t) f ≡ None

-- a test that says both
impossible : {P : Type 0} → true ≡ false → P
impossible e = cc

-- A form that may not be left out is read as the one line that is left.
pub as_line : (f : Form) (l : ℕ) (p : Production (Val f)) → IsOneOf p (productions f) → is_optional f ≡ false → is_empty p.pieces ≡ false
    → (ts : List Token) → AtFirst (IsRead f p.pieces) ts → (ms : Stack) → outcome ts (form f l ∷ ms) ≡ outcome ts (symbols l p.pieces ++ ms)
as_line f l p i must some [] h ms = refl
as_line f l p i must some (t ∷ ts) h ms =
    alike t ts (form f l ∷ ms) (symbols l p.pieces ++ ms) (λ a. rw (must, h) (front_step a (code t.tok) l (rank f) p.pieces ms starts_so some))
    (rw (must, not_done p.pieces starts_so some))
  where
    starts_so : starts_well (rank f) p.pieces ≡ true
    starts_so = all_lines-at (starts_well (rank f)) (productions f) p (starts f) i

    not_done : (ps : List Piece) → starts_well (rank f) ps ≡ true → is_empty ps ≡ false → is_done (symbols l ps ++ ms) ≡ false
    not_done [] w e = impossible e
    not_done (one m ∷ ps) w e = refl
    not_done (kept m ∷ ps) w e = refl
    not_done (opening m ∷ ps) w e = refl
    not_done (sub d g ∷ ps) w e =
        let must = not_true (is_optional g) (and_parts (not (is_optional g)) (leb (rank g + 1) (rank f)) w).0 in rw must

if_some : (x : Opening) (b : Bool) → b ≡ true → is_some (cond b (Some x) None) ≡ true
if_some x true e = refl
if_some x false e = cc

front_some : (next : ℕ → Bool) (c r : ℕ) (ps : List Piece) → starts_well r ps ≡ true → is_empty ps ≡ false → begin next c ps ≡ true
    → is_some (begun (table c) c ps) ≡ true
front_some next c r [] w e b = cc
front_some next c r (one m ∷ ps) w e b = if_some _ (c == mark_code m) b
front_some next c r (kept m ∷ ps) w e b = if_some _ (c == mark_code m) b
front_some next c r (opening m ∷ ps) w e b = if_some _ (c == mark_code m) b
front_some next c r (sub d f ∷ ps) w e b =
    go (table c f) (is_optional f) (not_true (is_optional f) (and_parts (not (is_optional f)) (leb (rank f + 1) r) w).0) b
  where
    go : (o : Option Opening) (may : Bool) → may ≡ false → is_some o || (may && begin next c ps) ≡ true → is_some (behind d ps o) ≡ true
    go (Some o) may must b = refl
    go None false must b = cc
    go None true must b = cc

taken_some : (a : ℕ → Bool) (l : ℕ) (ms : Stack) (other : Option Stack) (o : Option Opening) → is_some o ≡ true → taken a l ms o other ≡ taken a l ms o None
taken_some a l ms other None e = cc
taken_some a l ms other (Some o) e = refl

-- A form is read as the line that the first token begins.
pub by_first : (f : Form) (l : ℕ) (p : Production (Val f)) → IsOneOf p (productions f) → {k : Tok} {at : Place} {ts rest : List Token} → Heads k at ts rest
    → is_end k ≡ false → begin (may_follow f) (code k) p.pieces ≡ true → is_empty p.pieces ≡ false
    → (ms : Stack) → outcome ts (form f l ∷ ms) ≡ outcome ts (symbols l p.pieces ++ ms)
by_first f l p i {k} {at} {rest} h n b some ms =
    headed h (form f l ∷ ms)
    ∙ alike_on (record { tok = k; at = at }) rest (form f l ∷ ms) (symbols l p.pieces ++ ms) n (λ a. taken_so a (table_line (code k) f p (code_low k) i b))
    ∙ sym (headed h (symbols l p.pieces ++ ms))
  where
    starts_so : starts_well (rank f) p.pieces ≡ true
    starts_so = all_lines-at (starts_well (rank f)) (productions f) p (starts f) i

    taken_so : (a : ℕ → Bool) → table (code k) f ≡ begun (table (code k)) (code k) p.pieces → step a (code k) (form f l ∷ ms)
        ≡ step a (code k) (symbols l p.pieces ++ ms)
    taken_so a is =
        rw is (taken_some a l ms (cond (is_optional f) (step a (code k) ms) None) (begun (table (code k)) (code k) p.pieces)
        (front_some (may_follow f) (code k) (rank f) p.pieces starts_so some b)
        ∙ front_step a (code k) l (rank f) p.pieces ms starts_so some)

-- A form that the first token does not begin is left out.
pub as_none : (f : Form) (l : ℕ) → is_optional f ≡ true → (ts : List Token) → AtFirst (IsLeftOut f) ts → (ms : Stack) → outcome ts (form f l ∷ ms)
    ≡ outcome ts ms
as_none f l may [] h ms = refl
as_none f l may (t ∷ ts) h ms = alike t ts (form f l ∷ ms) ms (λ a. rw (may, h)) (rw may)

-- ---- tokens of another kind

-- What holds of the kinds of both sorts of numbers holds of that of each.
pub at_number : (P : ℕ → Type 0) → P 2 → P 35 → (n : ℕ) → P (code (toks.Number n))
at_number P other this n = go (n == 2)
  where
    go : (b : Bool) → P (cond b 35 2)
    go true = this
    go false = other

abbrev all_words : List Word
all_words =
    words.Main ∷ words.Let ∷ words.Fun ∷ words.Clean ∷ words.Assert ∷ words.Append ∷ words.Rotate ∷ words.Reg ∷ words.True ∷ words.False
    ∷ words.Bool ∷ words.For ∷ words.In ∷ words.Do ∷ words.Revs ∷ []

word_back : (w : Word) → get_or all_words (word_code w) words.Main ≡ w
word_back words.Main = refl
word_back _ = refl

abbrev all_signs : List Sign
all_signs =
    signs.OpenRound ∷ signs.CloseRound ∷ signs.OpenSquare ∷ signs.CloseSquare ∷ signs.OpenCurly ∷ signs.CloseCurly ∷ signs.Colon
    ∷ signs.Semi ∷ signs.Equal ∷ signs.Xor ∷ signs.And ∷ signs.Assign ∷ signs.Arrow ∷ signs.Dot ∷ signs.DotDot ∷ signs.Plus ∷ signs.Minus ∷ []

sign_back : (s : Sign) → get_or all_signs (sign_code s) signs.Plus ≡ s
sign_back signs.Dot = refl
sign_back _ = refl

is_word : (t : Tok) (w : Word) → code t ≡ 3 + word_code w → t ≡ toks.Word w
is_word toks.End w e = absurd (omega (arith, e))
is_word (toks.Name text) w e = absurd (omega (arith, e))
is_word (toks.Number n) w e = at_number (λ c. c ≡ 3 + word_code w → toks.Number n ≡ toks.Word w)
    (λ k. absurd (omega (arith, k))) (λ k. absurd (omega (arith, k, word_low w))) n e
is_word (toks.Word v) w e =
    let same : word_code v ≡ word_code w = omega (arith, e) in
    rw (← (word_back v), same, word_back w)
is_word (toks.Sign s) w e = absurd (omega (arith, e, word_low w))

is_sign : (t : Tok) (s : Sign) → code t ≡ 18 + sign_code s → t ≡ toks.Sign s
is_sign toks.End s e = absurd (omega (arith, e))
is_sign (toks.Name text) s e = absurd (omega (arith, e))
is_sign (toks.Number n) s e = at_number (λ c. c ≡ 18 + sign_code s → toks.Number n ≡ toks.Sign s)
    (λ k. absurd (omega (arith, k))) (λ k. absurd (omega (arith, k, sign_low s))) n e
is_sign (toks.Word w) s e = absurd (omega (arith, e, word_low w))
is_sign (toks.Sign r) s e =
    let same : sign_code r ≡ sign_code s = omega (arith, e) in
    rw (← (sign_back r), same, sign_back s)

pub differs : (c k : ℕ) → ¬ (c ≡ k) → c == k ≡ false
differs c k h = go (c == k) refl
  where
    go : (b : Bool) → c == k ≡ b → c == k ≡ false
    go false e = e
    go true e = absurd (h (grind (arith, nat_tests)))

pub is_two : (t : Tok) → code t ≡ 35 → t ≡ toks.Number 2
is_two toks.End e = absurd (omega (arith, e))
is_two (toks.Name text) e = absurd (omega (arith, e))
is_two (toks.Number n) e = go (n == 2) refl e
  where
    go : (b : Bool) → n == 2 ≡ b → ◌≡◌ {A = ℕ} (cond b 35 2) 35 → toks.Number n ≡ toks.Number 2
    go true is k = ap (λ z. toks.Number z) (grind (arith, nat_tests))
    go false is k = absurd (omega (arith, k))
is_two (toks.Word w) e = absurd (omega (arith, e, word_low w))
is_two (toks.Sign s) e = absurd (omega (arith, e, sign_low s))

pub no_two : (t : Tok) → ¬ (t ≡ toks.Number 2) → code t == mark_code two ≡ false
no_two t h = differs (code t) 35 (λ e. h (is_two t e))

pub no_word : (t : Tok) (w : Word) → ¬ (t ≡ toks.Word w) → code t == mark_code (word w) ≡ false
no_word t w h = differs (code t) (3 + word_code w) (λ e. h (is_word t w e))

pub no_sign : (t : Tok) (s : Sign) → ¬ (t ≡ toks.Sign s) → code t == mark_code (sign s) ≡ false
no_sign t s h = differs (code t) (18 + sign_code s) (λ e. h (is_sign t s e))

-- ---- where a form is read as the line that is left

pub first_less : (b : Bool) (x : Opening) {o : Option Opening} → b ≡ false → first_some (cond b (Some x) None) o ≡ o
first_less true x e = cc
first_less false x e = refl

pub first_only : (o : Option Opening) → first_some o None ≡ o
first_only None = refl
first_only (Some o) = refl

pub first_none : {o other : Option Opening} → o ≡ None → first_some o other ≡ other
first_none e = rw e

-- behind a form that does not begin here
behind_none : (d : Depth) (ps : List Piece) {o : Option Opening} → o ≡ None → behind d ps o ≡ None
behind_none d ps e = rw e

not_behind : (d : Depth) (ps : List Piece) {o : Option Opening} → o ≡ None → first_some (behind d ps o) None ≡ None
not_behind d ps e = rw e

-- a form with one line
pub only_line : (f : Form) (l : ℕ) (p : Production (Val f)) → IsOneOf p (productions f) → is_optional f ≡ false → is_empty p.pieces ≡ false
    → ((t : Tok) → IsRead f p.pieces t) → (ts : List Token) (ms : Stack) → outcome ts (form f l ∷ ms) ≡ outcome ts (symbols l p.pieces ++ ms)
only_line f l p i must some is [] ms = refl
only_line f l p i must some is (t ∷ ts) ms = as_line f l p i must some (t ∷ ts) (is t.tok) ms

-- a program that does not begin with `main`
pub as_program : (ts : List Token) → NotFirst (toks.Word words.Main) ts → (ms : Stack)
    → outcome ts (form (common g.program) 0 ∷ ms)
    ≡ outcome ts (token (word words.Revs) ∷ token two ∷ token (word words.Main) ∷ form (common g.parameter) 0 ∷ form (common g.parameters) 0
    ∷ token (sign signs.Equal) ∷ form (in_profile profiles.Two g.expression) 1 ∷ ms)
as_program ts h =
    as_line (common g.program) 0 _ (inr (inl refl)) refl refl ts
    (at_first ts h (λ t k. table_is (code t) (common g.program) ∙ first_less (code t == 3) _ (no_word t words.Main k) ∙ first_only _))

pub as_parameter : (ts : List Token) (ms : Stack)
    → outcome ts (form (common g.parameter) 0 ∷ ms)
    ≡ outcome ts (token (sign signs.OpenRound) ∷ kept_token any_name ∷ token (sign signs.Colon) ∷ token (word words.Bool) ∷ form (common g.width) 0 ∷ ms)
as_parameter ts ms = only_line (common g.parameter) 0 _ (inl refl) refl refl (λ t. table_is (code t) (common g.parameter) ∙ first_only _) ts ms

-- ---- items

-- An item that is no expression begins with none of the other tokens.
no_item : (p : Profile) (t : Tok) → begins_item p t ≡ false → IsLeftOut (in_profile p g.item) t
no_item profiles.One (toks.Word words.Let) h = impossible h
no_item profiles.One (toks.Number n) h = at_number (λ c. table c (in_profile profiles.One g.item) ≡ None) refl refl n
no_item profiles.One (toks.Sign signs.Dot) h = refl
no_item profiles.One _ h = refl
no_item profiles.Two (toks.Word words.Let) h = impossible h
no_item profiles.Two (toks.Word words.For) h = impossible h
no_item profiles.Two (toks.Number n) h = at_number (λ c. table c (in_profile profiles.Two g.item) ≡ None) refl refl n
no_item profiles.Two (toks.Sign signs.Dot) h = refl
no_item profiles.Two _ h = refl

-- A token that begins an item begins a body, and an item of a `for`.
abbrev Begun : Profile → Tok → Type 0
Begun p t = (is_end t ≡ false) × (begin (may_follow (in_profile p g.body)) (code t) (here p g.item ∷ here p g.body ∷ []) ≡ true)
    × (begin (may_follow (in_profile p g.loop_item)) (code t) (here p g.item ∷ []) ≡ true)

item_begins : (p : Profile) (t : Tok) → begins_item p t ≡ true → Begun p t
item_begins p (toks.Word words.Let) h = (refl, refl, refl)
item_begins profiles.Two (toks.Word words.For) h = (refl, refl, refl)
item_begins p t h = impossible (sym h)

curly_ends : (p : Profile) → table 23 (in_profile p g.loop_items) ≡ None
curly_ends profiles.One = refl
curly_ends profiles.Two = refl

-- ---- forms with one line

module _ (p : Profile) where
  pub as_sum : (l : ℕ) (ts : List Token) (ms : Stack) → outcome ts (form (in_profile p g.sum) l ∷ ms)
      ≡ outcome ts (form (in_profile p g.product) l ∷ form (in_profile p g.sums) l ∷ ms)
  as_sum l ts ms = only_line (in_profile p g.sum) l _ (inl refl) refl refl (λ t. table_is (code t) (in_profile p g.sum) ∙ first_only _) ts ms

  pub as_product : (l : ℕ) (ts : List Token) (ms : Stack) → outcome ts (form (in_profile p g.product) l ∷ ms)
      ≡ outcome ts (form (in_profile p g.application) l ∷ form (in_profile p g.products) l ∷ ms)
  as_product l ts ms = only_line (in_profile p g.product) l _ (inl refl) refl refl (λ t. table_is (code t) (in_profile p g.product) ∙ first_only _) ts ms

  pub as_atom : (l : ℕ) (ts : List Token) (ms : Stack) → outcome ts (form (in_profile p g.atom) l ∷ ms)
      ≡ outcome ts (form (in_profile p g.base) l ∷ form (in_profile p g.parts) 0 ∷ ms)
  as_atom l ts ms = only_line (in_profile p g.atom) l _ (inl refl) refl refl (λ t. table_is (code t) (in_profile p g.atom) ∙ first_only _) ts ms

  -- forms with other lines, which the first token does not begin
  pub as_expression : (l : ℕ) (ts : List Token) → NotFirst (toks.Word words.Fun) ts → (ms : Stack)
      → outcome ts (form (in_profile p g.expression) l ∷ ms) ≡ outcome ts (form (in_profile p g.sum) l ∷ form (in_profile p g.assigned) l ∷ ms)
  as_expression l ts h =
      as_line (in_profile p g.expression) l _ (inr (inl refl)) refl refl ts
      (at_first ts h (λ t k. table_is (code t) (in_profile p g.expression) ∙ first_less (code t == 5) _ (no_word t words.Fun k) ∙ first_only _))

  pub as_body : (l : ℕ) (ts : List Token) → item_first p ts ≡ false → (ms : Stack)
      → outcome ts (form (in_profile p g.body) l ∷ ms) ≡ outcome ts (form (in_profile p g.expression) l ∷ form (in_profile p g.body_end) l ∷ ms)
  as_body l [] h ms = refl
  as_body l (t ∷ ts) h ms =
      as_line (in_profile p g.body) l _ (inr (inl refl)) refl refl (t ∷ ts)
      (table_is (code t.tok) (in_profile p g.body) ∙ first_none (behind_none g.same (here p g.body ∷ []) (no_item p t.tok h)) ∙ first_only _) ms

  pub as_loop_item : (l : ℕ) (ts : List Token) → item_first p ts ≡ false → (ms : Stack)
      → outcome ts (form (in_profile p g.loop_item) l ∷ ms) ≡ outcome ts (form (in_profile p g.expression) l ∷ token (sign signs.Semi) ∷ ms)
  as_loop_item l [] h ms = refl
  as_loop_item l (t ∷ ts) h ms =
      as_line (in_profile p g.loop_item) l _ (inr (inl refl)) refl refl (t ∷ ts)
      (table_is (code t.tok) (in_profile p g.loop_item) ∙ first_none (behind_none g.same [] (no_item p t.tok h)) ∙ first_only _) ms

  -- a body, and an item of a `for`, that begin with an item
  pub body_item : (l : ℕ) (ts : List Token) → item_first p ts ≡ true → (ms : Stack)
      → outcome ts (form (in_profile p g.body) l ∷ ms) ≡ outcome ts (form (in_profile p g.item) l ∷ form (in_profile p g.body) l ∷ ms)
  body_item l [] h ms = cc
  body_item l (t ∷ ts) h ms =
      let b = item_begins p t.tok h in
      by_first (in_profile p g.body) l _ (inl refl) {k = t.tok} {at = t.at} {rest = ts} (record { cut = refl }) b.0 b.1 refl ms

  pub loop_item_item : (l : ℕ) (ts : List Token) → item_first p ts ≡ true → (ms : Stack)
      → outcome ts (form (in_profile p g.loop_item) l ∷ ms) ≡ outcome ts (form (in_profile p g.item) l ∷ ms)
  loop_item_item l [] h ms = cc
  loop_item_item l (t ∷ ts) h ms =
      let b = item_begins p t.tok h in
      by_first (in_profile p g.loop_item) l _ (inl refl) {k = t.tok} {at = t.at} {rest = ts} (record { cut = refl }) b.0 b.2 refl ms

  -- { item } of a `for`, whose end does not stand first
  pub more_loop_items : (l : ℕ) (ts : List Token) → NotFirst (toks.Sign signs.CloseCurly) ts → (ms : Stack)
      → outcome ts (form (in_profile p g.loop_items) l ∷ token (sign signs.CloseCurly) ∷ ms)
      ≡ outcome ts (form (in_profile p g.loop_item) l ∷ form (in_profile p g.loop_items) l ∷ token (sign signs.CloseCurly) ∷ ms)
  more_loop_items l [] h ms = refl
  more_loop_items l (t ∷ ts) h ms =
      alike t ts (form (in_profile p g.loop_items) l ∷ token (sign signs.CloseCurly) ∷ ms)
      (form (in_profile p g.loop_item) l ∷ form (in_profile p g.loop_items) l ∷ token (sign signs.CloseCurly) ∷ ms)
      (λ a. rw (table_is (code t.tok) (in_profile p g.loop_items), no_sign t.tok signs.CloseCurly h)
      (ap (λ (o : Option Opening). taken a l (token (sign signs.CloseCurly) ∷ ms) o None)
      (first_only (begun (table (code t.tok)) (code t.tok) (here p g.loop_item ∷ here p g.loop_items ∷ [])))
      ∙ front_step a (code t.tok) l 8 (here p g.loop_item ∷ here p g.loop_items ∷ []) (token (sign signs.CloseCurly) ∷ ms) refl refl)) refl

  pub no_loop_items : (l : ℕ) {at : Place} {ts rest : List Token} → Heads (toks.Sign signs.CloseCurly) at ts rest → (ms : Stack)
      → outcome ts (form (in_profile p g.loop_items) l ∷ ms) ≡ outcome ts ms
  no_loop_items l {at} {ts} {rest} h ms =
      headed h (form (in_profile p g.loop_items) l ∷ ms)
      ∙ as_none (in_profile p g.loop_items) l refl (record { tok = toks.Sign signs.CloseCurly; at = at } ∷ rest) (curly_ends p) ms ∙ sym (headed h ms)

  pub as_body_end : (l : ℕ) (ts : List Token) → NotFirst (toks.Sign signs.Semi) ts → (ms : Stack)
      → outcome ts (form (in_profile p g.body_end) l ∷ ms) ≡ outcome ts (token (sign signs.CloseCurly) ∷ ms)
  as_body_end l ts h =
      as_line (in_profile p g.body_end) l _ (inr (inl refl)) refl refl ts
      (at_first ts h (λ t k. table_is (code t) (in_profile p g.body_end) ∙ first_less (code t == 25) _ (no_sign t signs.Semi k) ∙ first_only _))

  pub as_part_end : (ts : List Token) → NotFirst (toks.Sign signs.DotDot) ts → (ms : Stack)
      → outcome ts (form (in_profile p g.part_end) 0 ∷ ms) ≡ outcome ts (token (sign signs.CloseSquare) ∷ ms)
  as_part_end ts h =
      as_line (in_profile p g.part_end) 0 _ (inl refl) refl refl ts
      (at_first ts h (λ t k. table_is (code t) (in_profile p g.part_end) ∙ ap (first_some _) (first_less (code t == 32) _ (no_sign t signs.DotDot k))
      ∙ first_only _))

pub as_width : (ts : List Token) → NotFirst (toks.Sign signs.OpenSquare) ts → (ms : Stack)
    → outcome ts (form (common g.width) 0 ∷ ms) ≡ outcome ts (token (sign signs.CloseRound) ∷ ms)
as_width ts h =
    as_line (common g.width) 0 _ (inl refl) refl refl ts
    (at_first ts h (λ t k. table_is (code t) (common g.width) ∙ ap (first_some _) (first_less (code t == 20) _ (no_sign t signs.OpenSquare k)) ∙ first_only _))

-- None of the words that begin an application stands first.
pub record IsPlain (ts : List Token) : Type 0 where
  pub no_clean : NotFirst (toks.Word words.Clean) ts
  pub no_assert : NotFirst (toks.Word words.Assert) ts
  pub no_append : NotFirst (toks.Word words.Append) ts
  pub no_rotate : NotFirst (toks.Word words.Rotate) ts

module _ (p : Profile) where
  pub as_application : (l : ℕ) (ts : List Token) → IsPlain ts → (ms : Stack)
      → outcome ts (form (in_profile p g.application) l ∷ ms) ≡ outcome ts (form (in_profile p g.atom) l ∷ form (in_profile p g.atoms) l ∷ ms)
  as_application l [] h ms = refl
  as_application l (t ∷ ts) h ms =
      as_line (in_profile p g.application) l _ (inr (inr (inr (inr (inl refl))))) refl refl (t ∷ ts)
      (table_is (code t.tok) (in_profile p g.application) ∙ first_less (code t.tok == 6) _ (no_word t.tok words.Clean h.no_clean)
      ∙ first_less (code t.tok == 7) _ (no_word t.tok words.Assert h.no_assert) ∙ first_less (code t.tok == 8) _ (no_word t.tok words.Append h.no_append)
      ∙ first_less (code t.tok == 9) _ (no_word t.tok words.Rotate h.no_rotate) ∙ first_only _) ms

-- None of the tokens that begin a base stands first, but for a name.
pub record IsUse (ts : List Token) : Type 0 where
  pub no_true : NotFirst (toks.Word words.True) ts
  pub no_false : NotFirst (toks.Word words.False) ts
  pub no_reg : NotFirst (toks.Word words.Reg) ts
  pub no_round : NotFirst (toks.Sign signs.OpenRound) ts
  pub no_curly : NotFirst (toks.Sign signs.OpenCurly) ts

module _ (p : Profile) where
  pub as_use : (l : ℕ) (ts : List Token) → IsUse ts → (ms : Stack) → outcome ts (form (in_profile p g.base) l ∷ ms) ≡ outcome ts (kept_token any_name ∷ ms)
  as_use l [] h ms = refl
  as_use l (t ∷ ts) h ms =
      as_line (in_profile p g.base) l _ (inl refl) refl refl (t ∷ ts)
      (table_is (code t.tok) (in_profile p g.base)
      ∙ ap (first_some _) (first_less (code t.tok == 11) _ (no_word t.tok words.True h.no_true)
      ∙ first_less (code t.tok == 12) _ (no_word t.tok words.False h.no_false)
      ∙ first_less (code t.tok == 10) _ (no_word t.tok words.Reg h.no_reg) ∙ first_less (code t.tok == 18) _ (no_sign t.tok signs.OpenRound h.no_round)
      ∙ first_less (code t.tok == 22) _ (no_sign t.tok signs.OpenCurly h.no_curly)) ∙ first_only _) ms

-- ---- forms that are left out

pub no_parameters : (ts : List Token) → NotFirst (toks.Sign signs.OpenRound) ts → (ms : Stack) → outcome ts (form (common g.parameters) 0 ∷ ms) ≡ outcome ts ms
no_parameters ts h =
    as_none (common g.parameters) 0 refl ts (at_first ts h (λ t k. table_is (code t) (common g.parameters)
    ∙ not_behind g.outside (shared g.parameters ∷ []) (table_is (code t) (common g.parameter) ∙ first_less (code t == 18) _ (no_sign t signs.OpenRound k))))

module _ (p : Profile) where
  pub no_parts : (ts : List Token) → NotFirst (toks.Sign signs.Dot) ts → (ms : Stack) → outcome ts (form (in_profile p g.parts) 0 ∷ ms) ≡ outcome ts ms
  no_parts ts h =
      as_none (in_profile p g.parts) 0 refl ts (at_first ts h (λ t k. table_is (code t) (in_profile p g.parts)
      ∙ not_behind g.outside (plain p g.parts ∷ []) (table_is (code t) (in_profile p g.part) ∙ first_less (code t == 31) _ (no_sign t signs.Dot k))))

  pub no_assigned : (l : ℕ) (ts : List Token) → NotFirst (toks.Sign signs.Assign) ts → (ms : Stack) → outcome ts (form (in_profile p g.assigned) l ∷ ms)
      ≡ outcome ts ms
  no_assigned l ts h =
      as_none (in_profile p g.assigned) l refl ts (at_first ts h
      (λ t k. table_is (code t) (in_profile p g.assigned) ∙ first_less (code t == 29) _ (no_sign t signs.Assign k)))

  pub no_sums : (l : ℕ) (ts : List Token) → NotFirst (toks.Sign signs.Xor) ts → (ms : Stack) → outcome ts (form (in_profile p g.sums) l ∷ ms) ≡ outcome ts ms
  no_sums l ts h = as_none (in_profile p g.sums) l refl ts (at_first ts h
      (λ t k. table_is (code t) (in_profile p g.sums) ∙ first_less (code t == 27) _ (no_sign t signs.Xor k)))

  pub no_products : (l : ℕ) (ts : List Token) → NotFirst (toks.Sign signs.And) ts → (ms : Stack) → outcome ts (form (in_profile p g.products) l ∷ ms)
      ≡ outcome ts ms
  no_products l ts h =
      as_none (in_profile p g.products) l refl ts (at_first ts h
      (λ t k. table_is (code t) (in_profile p g.products) ∙ first_less (code t == 28) _ (no_sign t signs.And k)))

  pub no_elements : (l : ℕ) (ts : List Token) → NotFirst (toks.Sign signs.Semi) ts → (ms : Stack) → outcome ts (form (in_profile p g.elements) l ∷ ms)
      ≡ outcome ts ms
  no_elements l ts h =
      as_none (in_profile p g.elements) l refl ts (at_first ts h
      (λ t k. table_is (code t) (in_profile p g.elements) ∙ first_less (code t == 25) _ (no_sign t signs.Semi k)))

-- { name }
pub not_name : (t : Tok) → is_name t ≡ false → code t == 1 ≡ false
not_name (toks.Name text) h = cc
not_name toks.End h = refl
not_name (toks.Number n) h = at_number (λ c. c == 1 ≡ false) refl refl n
not_name (toks.Word w) h = differs (3 + word_code w) 1 (λ e. omega (arith, e))
not_name (toks.Sign s) h = differs (18 + sign_code s) 1 (λ e. omega (arith, e))

pub no_names : (ts : List Token) → name_first ts ≡ false → (ms : Stack) → outcome ts (form (common g.names) 0 ∷ ms) ≡ outcome ts ms
no_names [] h ms = refl
no_names (t ∷ ts) h ms =
    as_none (common g.names) 0 refl (t ∷ ts) (table_is (code t.tok) (common g.names) ∙ first_less (code t.tok == 1) _ (not_name t.tok h)) ms

pub names_begin : (t : Tok) → is_name t ≡ true → (is_end t ≡ false) ×
    (begin (may_follow (common g.names)) (code t) (kept any_name ∷ shared g.names ∷ []) ≡ true)
names_begin (toks.Name text) h = (refl, refl)
names_begin _ h = cc

pub more_names : (ts : List Token) → name_first ts ≡ true → (ms : Stack) → outcome ts (form (common g.names) 0 ∷ ms)
    ≡ outcome ts (kept_token any_name ∷ form (common g.names) 0 ∷ ms)
more_names [] h ms = cc
more_names (t ∷ ts) h ms =
    let b = names_begin t.tok h in by_first (common g.names) 0 _ (inr (inl refl)) {k = t.tok} {at = t.at} {rest = ts} (record { cut = refl }) b.0 b.1 refl ms

module _ (p : Profile) where
  -- { atom }
  not_base : (t : Tok) → begins_base t ≡ false → IsLeftOut (in_profile p g.atoms) t
  not_base (toks.Name text) h = impossible h
  not_base (toks.Word words.True) h = impossible h
  not_base (toks.Word words.False) h = impossible h
  not_base (toks.Word words.Reg) h = impossible h
  not_base (toks.Sign signs.OpenRound) h = impossible h
  not_base (toks.Sign signs.OpenCurly) h = impossible h
  not_base (toks.Number n) h = at_number (λ c. table c (in_profile p g.atoms) ≡ None) refl refl n
  not_base _ h = refl

  pub no_atoms : (l : ℕ) (ts : List Token) → base_first ts ≡ false → (ms : Stack) → outcome ts (form (in_profile p g.atoms) l ∷ ms) ≡ outcome ts ms
  no_atoms l [] h ms = refl
  no_atoms l (t ∷ ts) h ms = as_none (in_profile p g.atoms) l refl (t ∷ ts) (not_base t.tok h) ms

  atoms_begin : (t : Tok) → begins_base t ≡ true → (is_end t ≡ false) ×
      (begin (may_follow (in_profile p g.atoms)) (code t) (here p g.atom ∷ here p g.atoms ∷ []) ≡ true)
  atoms_begin (toks.Name text) h = (refl, refl)
  atoms_begin (toks.Word words.True) h = (refl, refl)
  atoms_begin (toks.Word words.False) h = (refl, refl)
  atoms_begin (toks.Word words.Reg) h = (refl, refl)
  atoms_begin (toks.Sign signs.OpenRound) h = (refl, refl)
  atoms_begin (toks.Sign signs.OpenCurly) h = (refl, refl)
  atoms_begin _ h = impossible (sym h)

  pub more_atoms : (l : ℕ) (ts : List Token) → base_first ts ≡ true → (ms : Stack)
      → outcome ts (form (in_profile p g.atoms) l ∷ ms) ≡ outcome ts (form (in_profile p g.atom) l ∷ form (in_profile p g.atoms) l ∷ ms)
  more_atoms l [] h ms = cc
  more_atoms l (t ∷ ts) h ms =
      let b = atoms_begin t.tok h in by_first (in_profile p g.atoms) l _ (inr (inl refl)) {k = t.tok} {at = t.at} {rest = ts}
      (record { cut = refl }) b.0 b.1 refl ms
