-- Single tokens, and forms by the lines that they begin.
use Rattle.std.proofs.Common.{◌≡◌, ℕ, ◌+◌, ◌==◌, Bool, true, false, cond, List, [], ◌∷◌, ◌++◌}
use Rattle.std.proofs.Common.{refl, sym, subst, ap, ◌∙◌, length, arith, inl, inr}
use Rattle.std.proofs.lemmas.Bool.Decides.{nat_tests}
use Rattle.revc_base.specs.declared.place.Place.{Place}
use Rattle.revs_lexer.specs.declared.sign.Sign.{Sign}
use Rattle.revs_lexer.specs.declared.sign.Sign.TheVariants as signs
use Rattle.revs_lexer.specs.declared.word.Word.{Word}
use Rattle.revs_lexer.specs.declared.word.Word.TheVariants as words
use Rattle.revs_lexer.specs.declared.token.Tok.{Tok}
use Rattle.revs_lexer.specs.declared.token.Tok.TheVariants as toks
use Rattle.revs_lexer.specs.declared.token.Token.{Token}
use Rattle.revs_lexer.specs.Kinds.{tok_of}
use Rattle.revs_lexer.specs.Rest.{Begins, BeginsName, NoName}
use Rattle.revs_lexer.specs.declared.token.Kind.{Kind}
use Rattle.revs_lexer.specs.declared.token.Kind.TheVariants as kinds
use Rattle.revs_grammar.specs.Forms.{Mark, any_name, two, other_number, word, sign, held, mark_code, code, common, Form, Val, Production, IsOneOf, name_of}
use Rattle.revs_grammar.specs.Forms as g
use Rattle.revs_grammar.specs.Productions.{productions}
use Rattle.revs_grammar.specs.Sentences.{token, kept_token, opening_token, form, symbols, Vals, fill, few_levels}
use Rattle.revs_grammar.specs.inside.Machine.{Stack, Outcome, no_syntax, is_empty, is_optional, is_end, outcome}
use Rattle.revs_grammar.proofs.CheckHints.{may_follow}
use Rattle.revs_grammar.proofs.CheckLemmas.{begin}
use Rattle.revs_parser.specs.declared.stop.Stop.{Stop}
use Rattle.revs_parser.specs.declared.stop.Stop.TheVariants as stops
use Rattle.revs_parser.specs.declared.leaf.Fixed.{Fixed}
use Rattle.revs_parser.specs.declared.leaf.Fixed.TheVariants as fixed
use Rattle.revs_parser.specs.inside.Forms.{fixed_tok, fixed_mark}
use Rattle.revs_parser.specs.inside.Reading.{Passes, Reads, Skips, ReadsForm, Halts, HaltsIn, Heads, NotFirst, NoNumber, is_name, name_first}
use Rattle.revs_parser.proofs.PassingLemmas.{passes_reads, line_passes, token_passes}
use Rattle.revs_parser.proofs.PassingLemmas.{kept_passes, opening_passes, one_token, halts_there}
use Rattle.revs_parser.proofs.StepLemmas.{no_sign, no_word, no_two, not_name, AtFirst, IsLeftOut}
use Rattle.revs_parser.proofs.StepLemmas.{by_first, token_goes, kept_goes, opening_goes, opening_deepens}

-- ---- single tokens

-- a code is itself
same_code : (n : ℕ) → n == n ≡ true
same_code n = grind (arith, nat_tests)

pub a_sign : {k : Sign} {at : Place} {ts rest : List Token} → Heads (toks.Sign k) at ts rest → Reads (token (sign k) ∷ []) tt ts rest
a_sign {k} h = one_token h (token_passes (sign k) refl h (token_goes (sign k) (same_code (18 + g.sign_code k)) refl h))

-- a word that stands for nothing
pub bare_word : {w : Word} {at : Place} {ts rest : List Token} → Heads (toks.Word w) at ts rest → Reads (token (word w) ∷ []) tt ts rest
bare_word {w} h = one_token h (token_passes (word w) refl h (token_goes (word w) (same_code (3 + g.word_code w)) refl h))

pub a_name : {text : List ℕ} {at : Place} {ts rest : List Token} → Heads (toks.Name text) at ts rest
    → Reads (kept_token any_name ∷ []) (name_of text at, tt) ts rest
a_name h = one_token h (kept_passes any_name refl h (kept_goes any_name refl refl h))

-- a word that counts, whose kind is known
pub a_word : (w : Word) {at : Place} {ts rest : List Token} → Heads (toks.Word w) at ts rest → Reads (kept_token (word w) ∷ []) (at, tt) ts rest
a_word w h = one_token h (kept_passes (word w) refl h (kept_goes (word w) (same_code (3 + g.word_code w)) refl h))

-- a token that opens an allowed level
pub opened : {k : Tok} {at : Place} {ts rest : List Token} (m : Mark) (l : ℕ) → few_levels l ≡ true → Heads k at ts rest
    → code k ≡ mark_code m → code k == mark_code m ≡ true → is_end k ≡ false → Reads (opening_token m l ∷ []) (held m (record { tok = k; at = at }), tt) ts rest
opened m l ok h e same n = one_token h (opening_passes m l e ok h (opening_goes m same n h l ok))

-- The machine stops at a token that opens a level too many.
pub opens_too_many : {k : Tok} {at : Place} {ts rest : List Token} (m : Mark) (l : ℕ) (ss : Stack) → few_levels l ≡ false → Heads k at ts rest
    → code k == mark_code m ≡ true → is_end k ≡ false → (stop : Stop) → stop ≡ stops.Nesting (length ts) → Halts (opening_token m l ∷ ss) ts stop
opens_too_many {ts = ts} m l ss deep h same n stop e =
    rw e (record { halt = λ ms. opening_deepens m same n h l deep (ss ++ ms) })

both : (b : Bool) {x : Outcome} → cond b x x ≡ x
both true = refl
both false = refl

-- The machine stops where a sign or a word is wanted that does not stand first.
pub sign_stops : (s : Sign) (ts : List Token) → NotFirst (toks.Sign s) ts → Halts (token (sign s) ∷ []) ts (stops.Syntax (length ts))
sign_stops s [] h = record { halt = λ ms. refl }
sign_stops s (t ∷ ts) h = record { halt = λ ms. rw (no_sign t.tok s h) (both (is_end t.tok) ∙ ap no_syntax (omega arith)) }

-- So it is with one that would open a level, and with a form that must stand there.
pub opening_stops : (s : Sign) (l : ℕ) (ts : List Token) → NotFirst (toks.Sign s) ts → Halts (opening_token (sign s) l ∷ []) ts (stops.Syntax (length ts))
opening_stops s l [] h = record { halt = λ ms. refl }
opening_stops s l (t ∷ ts) h = record { halt = λ ms. rw (no_sign t.tok s h) (both (is_end t.tok) ∙ ap no_syntax (omega arith)) }

pub stops_at : (f : Form) (l : ℕ) → is_optional f ≡ false → (ts : List Token) → AtFirst (IsLeftOut f) ts → Halts (form f l ∷ []) ts (stops.Syntax (length ts))
stops_at f l must [] h = record { halt = λ ms. refl }
stops_at f l must (t ∷ ts) h = record { halt = λ ms. rw (must, h) (both (is_end t.tok) ∙ ap no_syntax (omega arith)) }

pub two_stops : (ts : List Token) → NotFirst (toks.Number 2) ts → Halts (token two ∷ []) ts (stops.Syntax (length ts))
two_stops [] h = record { halt = λ ms. refl }
two_stops (t ∷ ts) h = record { halt = λ ms. rw (no_two t.tok h) (both (is_end t.tok) ∙ ap no_syntax (omega arith)) }

pub word_stops : (w : Word) (ts : List Token) → NotFirst (toks.Word w) ts → Halts (token (word w) ∷ []) ts (stops.Syntax (length ts))
word_stops w [] h = record { halt = λ ms. refl }
word_stops w (t ∷ ts) h = record { halt = λ ms. rw (no_word t.tok w h) (both (is_end t.tok) ∙ ap no_syntax (omega arith)) }

-- So it is with either of them.
pub fixed_read : (x : Fixed) {at : Place} {ts rest : List Token} → Heads (fixed_tok x) at ts rest → Reads (token (fixed_mark x) ∷ []) tt ts rest
fixed_read (fixed.Sign s) h = a_sign h
fixed_read (fixed.Word w) h = bare_word h

pub fixed_stops : (x : Fixed) (ts : List Token) → NotFirst (fixed_tok x) ts → Halts (token (fixed_mark x) ∷ []) ts (stops.Syntax (length ts))
fixed_stops (fixed.Sign s) ts h = sign_stops s ts h
fixed_stops (fixed.Word w) ts h = word_stops w ts h

-- the number 2, of which nothing counts but that it stands there
at_two : {at : Place} {ts rest : List Token} → Heads (toks.Number 2) at ts rest → Reads (token two ∷ []) tt ts rest
at_two h = one_token h (token_passes two refl h (token_goes two refl refl h))

pub bare_two : (n : ℕ) {at : Place} {ts rest : List Token} → n ≡ 2 → Heads (toks.Number n) at ts rest → Reads (token two ∷ []) tt ts rest
bare_two n {at} {ts} {rest} same =
    subst (λ (k : ℕ). Heads (toks.Number k) at ts rest → Reads (token two ∷ []) tt ts rest) (sym same) at_two

-- ---- what stands first, by its kind

pub heads : {kind : Kind} {k : Tok} {at : Place} {ts rest : List Token} → Begins ts kind at rest → ((bytes : List ℕ) → tok_of kind bytes ≡ k)
    → Heads k at ts rest
heads {at = at} {ts} {rest} b same = record { cut = subst (λ (t : Tok). ts ≡ record { tok = t; at = at } ∷ rest) (same b.bytes) b.cut }

pub not_first : {kind : Kind} {at : Place} {ts rest : List Token} (k : Tok) → Begins ts kind at rest → ((bytes : List ℕ) → ¬ (tok_of kind bytes ≡ k))
    → NotFirst k ts
not_first k b other = subst (NotFirst k) (sym b.cut) (other b.bytes)

pub nothing_first : (k : Tok) (ts : List Token) → ts ≡ [] → NotFirst k ts
nothing_first k ts none = subst (NotFirst k) (sym none) tt

-- the name that stands first
pub reads_name : {text : List ℕ} {at : Place} {ts rest : List Token} (bytes : List ℕ) → BeginsName ts bytes at rest → text ≡ bytes
    → Reads (kept_token any_name ∷ []) (name_of text at, tt) ts rest
reads_name bytes h same = a_name (record { cut = rw same h.cut })

pub name_stands : {bytes : List ℕ} {at : Place} {ts rest : List Token} → BeginsName ts bytes at rest → name_first ts ≡ true
name_stands h = ap name_first h.cut

is_no_name : (t : Tok) → ((bytes : List ℕ) → ¬ (t ≡ toks.Name bytes)) → is_name t ≡ false
is_no_name (toks.Name bytes) h = absurd (h bytes refl)
is_no_name (toks.Number n) h = refl
is_no_name (toks.Word w) h = refl
is_no_name (toks.Sign s) h = refl
is_no_name toks.End h = refl

pub name_stops : (ts : List Token) → NoName ts → Halts (kept_token any_name ∷ []) ts (stops.Syntax (length ts))
name_stops [] h = record { halt = λ ms. refl }
name_stops (t ∷ ts) h = record { halt = λ ms. rw (not_name t.tok (is_no_name t.tok h)) (both (is_end t.tok) ∙ ap no_syntax (omega arith)) }

-- the kind of what stands first decides whether it is a number
no_number_kind : (kind : Kind) (bytes : List ℕ) → ((n : ℕ) → ¬ (kind ≡ kinds.Number n)) → (n : ℕ) → ¬ (tok_of kind bytes ≡ toks.Number n)
no_number_kind (kinds.Name len start) bytes h n same = absurd cc
no_number_kind (kinds.Number m) bytes h n same = h m refl
no_number_kind (kinds.Word w) bytes h n same = absurd cc
no_number_kind (kinds.Sign s) bytes h n same = absurd cc
no_number_kind kinds.End bytes h n same = absurd cc

pub begins_no_number : {kind : Kind} {at : Place} {ts rest : List Token} → Begins ts kind at rest → ((n : ℕ) → ¬ (kind ≡ kinds.Number n)) → NoNumber ts
begins_no_number {kind} b other = subst NoNumber (sym b.cut) (no_number_kind kind b.bytes other)

pub nothing_no_number : (ts : List Token) → ts ≡ [] → NoNumber ts
nothing_no_number ts none = subst NoNumber (sym none) tt

other_is_not_two : (n : ℕ) → ¬ (n ≡ 2) → ¬ (◌≡◌ {A = Tok} (toks.Number n) (toks.Number 2))
other_is_not_two n other same = other cc

pub other_two : {n : ℕ} {at : Place} {ts rest : List Token} → Heads (toks.Number n) at ts rest → ¬ (n ≡ 2)
    → Halts (token two ∷ []) ts (stops.Syntax (length ts))
other_two {n} {at} {ts} {rest} h other = two_stops ts (subst (NotFirst (toks.Number 2)) (sym h.cut) (other_is_not_two n other))

pub no_number_two : (ts : List Token) → NoNumber ts → Halts (token two ∷ []) ts (stops.Syntax (length ts))
no_number_two [] h = two_stops [] tt
no_number_two (t ∷ ts) h = two_stops (t ∷ ts) (h 2)

-- ---- forms by their lines

-- A form is read where its line is.
pub by_pieces : (f : Form) (l : ℕ) (p : Production (Val f)) {ts rest : List Token} {vs : Vals (symbols l p.pieces)} → IsOneOf p (productions f)
    → ((ms : Stack) → outcome ts (form f l ∷ ms) ≡ outcome ts (symbols l p.pieces ++ ms)) → Reads (symbols l p.pieces) vs ts rest
    → ReadsForm f l (fill l p.pieces p.build vs) ts rest
by_pieces f l p i goes r = passes_reads (line_passes f l p i goes) r

-- So it is with the line that the first token begins.
pub by_token : (f : Form) (l : ℕ) (p : Production (Val f)) {k : Tok} {at : Place} {ts mid rest : List Token} {vs : Vals (symbols l p.pieces)}
    → IsOneOf p (productions f) → Heads k at ts mid → is_end k ≡ false → begin (may_follow f) (code k) p.pieces ≡ true → is_empty p.pieces ≡ false
    → Reads (symbols l p.pieces) vs ts rest → ReadsForm f l (fill l p.pieces p.build vs) ts rest
by_token f l p i h n b some r = by_pieces f l p i (by_first f l p i h n b some) r

-- A form halts where its line does.
pub halts_by_pieces : (f : Form) (l : ℕ) (p : Production (Val f)) {ts : List Token} {stop : Stop} → IsOneOf p (productions f)
    → ((ms : Stack) → outcome ts (form f l ∷ ms) ≡ outcome ts (symbols l p.pieces ++ ms)) → Halts (symbols l p.pieces) ts stop → HaltsIn f l ts stop
halts_by_pieces f l p i goes h = halts_there (form f l ∷ []) (symbols l p.pieces) goes h

pub halts_by_token : (f : Form) (l : ℕ) (p : Production (Val f)) {k : Tok} {at : Place} {ts mid : List Token} {stop : Stop}
    → IsOneOf p (productions f) → Heads k at ts mid → is_end k ≡ false → begin (may_follow f) (code k) p.pieces ≡ true → is_empty p.pieces ≡ false
    → Halts (symbols l p.pieces) ts stop → HaltsIn f l ts stop
halts_by_token f l p i h n b some r = halts_by_pieces f l p i (by_first f l p i h n b some) r

-- An optional form is left out.
pub left_out : (f : Form) (l : ℕ) (p : Production (Val f)) {ts : List Token} → IsOneOf p (productions f)
    → ((ms : Stack) → outcome ts (form f l ∷ ms) ≡ outcome ts (symbols l p.pieces ++ ms))
    → Passes (form f l ∷ []) (symbols l p.pieces) (λ vs. (fill l p.pieces p.build vs, tt)) ts ts
left_out f l p i goes = line_passes f l p i goes

pub skips : {es : Stack} {vs : Vals es} {ts rest : List Token} → Passes es [] (λ _. vs) ts rest → Skips es vs ts rest
skips a = record { passes = a }

-- ---- numbers

-- A number is read, 2 by a line of its own.
pub a_number : {n : ℕ} {at : Place} {ts rest : List Token} → Heads (toks.Number n) at ts rest
    → ReadsForm (common g.number) 0 (record { value = n; at = at }) ts rest
a_number {n} {at} {ts} {rest} h = go (n == 2) refl
  where
    go : (b : Bool) → n == 2 ≡ b → ReadsForm (common g.number) 0 (record { value = n; at = at }) ts rest
    go true e = by_token (common g.number) 0 _ (inr (inl refl)) h refl (rw e refl) refl
        (one_token h (kept_passes two (rw e refl) h (kept_goes two (rw e refl) refl h)))
    go false e = by_token (common g.number) 0 _ (inl refl) h refl (rw e refl) refl
        (one_token h (kept_passes other_number (rw e refl) h (kept_goes other_number (rw e refl) refl h)))

is_no_number : (t : Tok) → ((n : ℕ) → ¬ (t ≡ toks.Number n)) → IsLeftOut (common g.number) t
is_no_number (toks.Number n) h = absurd (h n refl)
is_no_number (toks.Word words.Let) h = refl
is_no_number (toks.Sign signs.Dot) h = refl
is_no_number _ h = refl

-- The machine stops where a number is wanted.
pub number_stops : (ts : List Token) → AtFirst (λ t. (n : ℕ) → ¬ (t ≡ toks.Number n)) ts → HaltsIn (common g.number) 0 ts (stops.Syntax (length ts))
number_stops [] h = stops_at (common g.number) 0 refl [] tt
number_stops (t ∷ ts) h = stops_at (common g.number) 0 refl (t ∷ ts) (is_no_number t.tok h)

pub no_number_stops : (ts : List Token) → NoNumber ts → HaltsIn (common g.number) 0 ts (stops.Syntax (length ts))
no_number_stops [] h = number_stops [] tt
no_number_stops (t ∷ ts) h = number_stops (t ∷ ts) h
