-- Names that a text lends, in a set.
use Rattle.std.proofs.Common.{◌≡◌, ℕ, zero, suc, ◌+◌, ◌<◌, not, ◌||◌, cond, List, [], ◌∷◌, ◌++◌, length, take}
use Rattle.std.proofs.Common.{get_or, position, slice_get, Some, refl, sym, ap, ◌∙◌, arith, Bor}
use Rattle.std.specs.List.{list_any, prefix_len, AllByRecursion}
use Rattle.std.specs.Str.{bytes_eq}
use Rattle.std.proofs.lemmas.List.{length-map, get_or-map, take_more, map-append}
use Rattle.std.proofs.lemmas.Option.{slice_get-get_or}
use Rattle.format_parts.specs.Names.{names_in, has_word, IsText}

pub has_in : (word : List ℕ) (keys : List (Bor (List ℕ)))
    → list_any (λ (key : Bor (List ℕ)). bytes_eq word key.now) keys ≡ has_word (names_in keys) word
has_in word [] = refl
has_in word (k ∷ ks) = ap (λ t. bytes_eq word k.now || t) (has_in word ks)

prefix_in : (word : List ℕ) (keys : List (Bor (List ℕ)))
    → prefix_len (λ (key : Bor (List ℕ)). not (bytes_eq word key.now)) keys ≡ prefix_len (λ name. not (bytes_eq word name)) (names_in keys)
prefix_in word [] = refl
prefix_in word (k ∷ ks) = ap (λ n. cond (not (bytes_eq word k.now)) (1 + n) 0) (prefix_in word ks)

pub position_in : (word : List ℕ) (keys : List (Bor (List ℕ)))
    → position (λ (key : Bor (List ℕ)). bytes_eq word key.now) keys ≡ position (bytes_eq word) (names_in keys)
position_in word keys =
    rw (prefix_in word keys, length-map keys (λ (key : Bor (List ℕ)). key.now)) refl

-- each of them can be copied
pub text_in : (keys : List (Bor (List ℕ))) (i : ℕ) (d : Bor (List ℕ)) → AllByRecursion IsText (names_in keys)
    → i < length keys → IsText (get_or keys i d).now
text_in [] i d all h = absurd (omega arith)
text_in (k ∷ ks) zero d all h = all.0
text_in (k ∷ ks) (suc i) d all h = text_in ks i d all.1 (omega arith)

-- the name at a place
pub name_in : (keys : List (Bor (List ℕ))) (i : ℕ) (d : Bor (List ℕ)) (names : List (List ℕ)) → names_in keys ≡ names → i < length names
    → slice_get names i ≡ Some (get_or keys i d).now
name_in keys i d names is low =
    let within : i < length keys = omega (arith, ap length is, length-map keys (λ (key : Bor (List ℕ)). key.now)) in
    slice_get-get_or names i d.now low ∙ ap (λ ns. Some (get_or ns i d.now)) (sym is)
    ∙ ap Some (get_or-map (λ (key : Bor (List ℕ)). key.now) keys i d d.now within)

-- one more was copied
pub text_more : (keys : List (Bor (List ℕ))) (i : ℕ) (d : Bor (List ℕ)) (text : List ℕ) (texts more : List (List ℕ)) → i < length keys
    → text ≡ (get_or keys i d).now → more ≡ texts ++ text ∷ [] → texts ≡ names_in (take i keys) → more ≡ names_in (take (i + 1) keys)
text_more keys i d text texts more low same grown so_far =
    grown ∙ ap (λ t. texts ++ t ∷ []) same ∙ ap (λ ts. ts ++ (get_or keys i d).now ∷ []) so_far
    ∙ sym (ap names_in (take_more keys i d low) ∙ map-append (λ (key : Bor (List ℕ)). key.now) (take i keys) (get_or keys i d ∷ []))
