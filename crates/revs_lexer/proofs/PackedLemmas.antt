-- Packed tokens: what is put behind them, and what is read of them.
use Rattle.std.proofs.Common.{◌≡◌, ℕ, ◌≤◌, List, [], ◌∷◌, ◌++◌, length, take, drop, refl, sym, ap, ◌∙◌, inl, inr, arith}
use Rattle.std.proofs.lemmas.List.{map-append, length-drop}
use Rattle.revc_base.specs.declared.place.Place.{Place}
use Rattle.text_places.specs.Gaps.{IsGap}
use Rattle.revs_lexer.specs.Kinds.{tok_of}
use Rattle.revs_lexer.specs.Spelling.{IsWithinLimits}
use Rattle.revs_lexer.specs.Tokens.{IsLongest}
use Rattle.revs_lexer.specs.declared.packed.Packed.{Packed}
use Rattle.revs_lexer.specs.declared.token.Kind.{Kind}
use Rattle.revs_lexer.specs.declared.token.Kind.TheVariants as kinds
use Rattle.revs_lexer.specs.declared.token.Tok.TheVariants as toks
use Rattle.revs_lexer.specs.inside.Packed.{bytes_of, token_of, tokens_of, IsWithin, AreWithin}
use Rattle.revs_lexer.specs.inside.Pieces.{StandsSo, TakesFrom}

-- the token is the one that stands at the end of the text
same_token : (whole text : List ℕ) (start len : ℕ) (kind : Kind) → drop start whole ≡ text → StandsSo start len kind
    → tok_of kind (bytes_of whole kind) ≡ tok_of kind (take len text)
same_token whole text start len (kinds.Name n s) end h = ap toks.Name (rw (h.0, h.1) (ap (take len) end))
same_token whole text start len (kinds.Number n) end h = refl
same_token whole text start len (kinds.Word w) end h = refl
same_token whole text start len (kinds.Sign s) end h = refl
same_token whole text start len kinds.End end h = refl

-- a name stands in the whole
stands_in : (whole text : List ℕ) (start len : ℕ) (kind : Kind) → drop start whole ≡ text → StandsSo start len kind → len ≤ length text
    → IsWithin whole kind
stands_in whole text start len (kinds.Name n s) end h fits =
    let room = sym (length-drop start whole) ∙ ap length end in (omega arith, omega arith, omega arith)
stands_in whole text start len (kinds.Number n) end h fits = tt
stands_in whole text start len (kinds.Word w) end h fits = tt
stands_in whole text start len (kinds.Sign s) end h fits = tt
stands_in whole text start len kinds.End end h fits = tt

pub within-push : (text : List ℕ) (ps : List Packed) (p : Packed) → AreWithin text ps → IsWithin text p.kind → AreWithin text (ps ++ p ∷ [])
within-push text [] p h k = (k, tt)
within-push text (q ∷ ps) p h k = (h.0, within-push text ps p h.1 k)

pub takes_gap : (start : ℕ) (at : Place) (text : List ℕ) (len : ℕ) (old : List Packed) → IsGap (take len text) (drop len text)
    → TakesFrom start at text len old old
takes_gap start at text len old gap =
    record { in_whole = λ whole end. record { takes = inl record { gap = gap; kept = refl }; within = λ h. h } }

pub takes_token : (start : ℕ) (at : Place) (text : List ℕ) (len : ℕ) (kind : Kind) (old new : List Packed)
    → IsLongest text (take len text) (drop len text) (tok_of kind (take len text)) → IsWithinLimits (take len text) (tok_of kind (take len text))
    → StandsSo start len kind → len ≤ length text → new ≡ old ++ record { kind = kind; at = at } ∷ [] → TakesFrom start at text len old new
takes_token start at text len kind old new longest within stands fits added =
    let p : Packed = record { kind = kind; at = at } in
    record {
      in_whole = λ whole end.
          let same = same_token whole text start len kind end stands in
          record {
            takes = inr record {
              tok = tok_of kind (take len text);
              longest = longest;
              within = within;
              added = rw (added, map-append (token_of whole) old (p ∷ []), same) refl;
            };
            within = λ h. rw added (within-push whole old p h (stands_in whole text start len kind end stands fits));
          };
    }

-- so it is with the end of the tokens
pub ends_packed : (text : List ℕ) (at : Place) (old new : List Packed) → new ≡ old ++ record { kind = kinds.End; at = at } ∷ []
    → tokens_of text new ≡ tokens_of text old ++ record { tok = toks.End; at = at } ∷ []
ends_packed text at old new added =
    let p : Packed = record { kind = kinds.End; at = at } in rw (added, map-append (token_of text) old (p ∷ [])) refl
