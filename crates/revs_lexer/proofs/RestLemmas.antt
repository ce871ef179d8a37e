-- The tokens that are left of a list.
use Rattle.std.proofs.Common.{◌≡◌, ◌≢◌, ℕ, ◌+◌, ◌-◌, ◌≤◌, ◌<◌, List, [], ◌∷◌, length, take, drop, refl, sym, ap, ◌∙◌, subst, zero, suc, arith}
use Rattle.std.specs.Prelude.{get_or}
use Rattle.std.proofs.lemmas.List.{length-drop, length-take-le, drop_more, drop_all, length-map, get_or-map}
use Rattle.revs_lexer.specs.Kinds.{tok_of}
use Rattle.revs_lexer.specs.Rest.{left, Begins, BeginsName, NoName}
use Rattle.revs_lexer.specs.declared.packed.Packed.{Packed}
use Rattle.revs_lexer.specs.declared.packed.Rest.{Rest}
use Rattle.revs_lexer.specs.declared.token.Kind.{Kind}
use Rattle.revs_lexer.specs.declared.token.Kind.TheVariants as kinds
use Rattle.revs_lexer.specs.declared.token.Tok.TheVariants as toks
use Rattle.revs_lexer.specs.declared.token.Token.{Token}
use Rattle.revs_lexer.specs.inside.Packed.{bytes_of, token_of, tokens_of, IsWithin, AreWithin}

pub left_length : (r : Rest) → length (left r) ≡ length r.list.now - r.from
unfolding left
left_length r = length-drop r.from r.list.now

-- from the first one on all are left
pub left_all : (r : Rest) → r.from ≡ 0 → left r ≡ r.list.now
unfolding left
left_all r first = rw first refl

-- behind the last none is
pub none_left : (r : Rest) (text : List ℕ) (ps : List Packed) → tokens_of text ps ≡ r.list.now → length ps ≤ r.from → left r ≡ []
unfolding left
none_left r text ps view past = drop_all r.from r.list.now (omega (arith, ap length view, length-map ps (token_of text)))

-- the token at a place
at_place : (text : List ℕ) (ps : List Packed) (i : ℕ) (p : Packed) (other : Token) → i < length ps → p ≡ get_or ps i p
    → get_or (tokens_of text ps) i other ≡ token_of text p
at_place text ps i p other low is = get_or-map (token_of text) ps i p other low ∙ ap (token_of text) (sym is)

pub placed : (text : List ℕ) (ps : List Packed) (ts : List Token) (i : ℕ) (p : Packed) (other : Token) → tokens_of text ps ≡ ts → i < length ts
    → p ≡ get_or ps i p → p.at ≡ (get_or ts i other).at
placed text ps ts i p other view low is =
    let within : i < length ps = omega (arith, ap length view, length-map ps (token_of text)) in
    subst (λ (us : List Token). p.at ≡ (get_or us i other).at) view (sym (ap (λ (t : Token). t.at) (at_place text ps i p other within is)))

-- the first of those that are left, and the others
first_left : (r : Rest) (text : List ℕ) (ps : List Packed) (p : Packed) → tokens_of text ps ≡ r.list.now → r.from < length ps → p ≡ get_or ps r.from p
    → left r ≡ token_of text p ∷ left (record { list = r.list; from = r.from + 1 })
unfolding left
first_left r text ps p view low is =
    let t = token_of text p in
    let within : r.from < length (tokens_of text ps) = omega (arith, low, length-map ps (token_of text)) in
    subst (λ (ts : List Token). drop r.from ts ≡ t ∷ drop (r.from + 1) ts) view
    (drop_more (tokens_of text ps) r.from t within ∙ ap (λ (u : Token). u ∷ drop (r.from + 1) (tokens_of text ps)) (at_place text ps r.from p t low is))

pub begins : (r : Rest) (text : List ℕ) (ps : List Packed) (p : Packed) → tokens_of text ps ≡ r.list.now → r.from < length ps → p ≡ get_or ps r.from p
    → Begins (left r) p.kind p.at (left (record { list = r.list; from = r.from + 1 }))
begins r text ps p view low is = record { bytes = bytes_of text p.kind; cut = first_left r text ps p view low is }

-- a name stands in the text
pub within_at : (text : List ℕ) (ps : List Packed) (i : ℕ) (p : Packed) → AreWithin text ps → i < length ps → p ≡ get_or ps i p → IsWithin text p.kind
within_at text [] i p h low is = absurd (omega arith)
within_at text (q ∷ ps) zero p h low is = subst (λ (o : Packed). IsWithin text o.kind) (sym is) h.0
within_at text (q ∷ ps) (suc i) p h low is = within_at text ps i p h.1 (omega arith) is

pub begins_name : (r : Rest) (text : List ℕ) (ps : List Packed) (p : Packed) (len start : ℕ) (bytes : List ℕ) → tokens_of text ps ≡ r.list.now
    → r.from < length ps → p ≡ get_or ps r.from p → p.kind ≡ kinds.Name len start → IsWithin text (kinds.Name len start) → bytes ≡ take len (drop start text)
    → BeginsName (left r) bytes p.at (left (record { list = r.list; from = r.from + 1 }))
begins_name r text ps p len start bytes view low is kind within same =
    let cut = rw kind at (first_left r text ps p view low is) in
    let room = length-drop start text in
    let size = ap length same ∙ length-take-le len (drop start text) (omega (arith, within.2, room)) in
    record {
      cut = rw same cut;
      some = omega (arith, within.0, size);
      few = omega (arith, within.1, size);
    }

-- another token is no name
no_name : (kind : Kind) (text bytes : List ℕ) → ((len start : ℕ) → kind ≢ kinds.Name len start) → tok_of kind (bytes_of text kind) ≢ toks.Name bytes
no_name (kinds.Name len start) text bytes other same = other len start refl
no_name (kinds.Number n) text bytes other same = absurd cc
no_name (kinds.Word w) text bytes other same = absurd cc
no_name (kinds.Sign s) text bytes other same = absurd cc
no_name kinds.End text bytes other same = absurd cc

pub begins_no_name : (r : Rest) (text : List ℕ) (ps : List Packed) (p : Packed) → tokens_of text ps ≡ r.list.now → r.from < length ps
    → p ≡ get_or ps r.from p → ((len start : ℕ) → p.kind ≢ kinds.Name len start) → NoName (left r)
begins_no_name r text ps p view low is other =
    subst NoName (sym (first_left r text ps p view low is)) (λ bytes. no_name p.kind text bytes other)

pub none_is_no_name : (ts : List Token) → ts ≡ [] → NoName ts
none_is_no_name ts none = subst NoName (sym none) tt
