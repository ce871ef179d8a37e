-- Tokens that are taken one after another.
use Rattle.std.proofs.Common.{◌≡◌, ℕ, zero, suc, ◌<◌, ◌≤◌, inl, inr, List, [], ◌∷◌, ◌++◌, length, take, drop, refl, sym, ap, ◌∙◌, subst, arith, append_assoc}
use Rattle.std.proofs.Common.{append-nil, ◌+◌}
use Rattle.std.specs.List.{concat}
use Rattle.std.proofs.lemmas.List.{take-append-drop, length-take-le, length-append}
use Rattle.revc_base.specs.declared.place.Place.{Place}
use Rattle.text_places.specs.Gaps.{IsGap, HasNoGap}
use Rattle.text_places.specs.Places.{place_after}
use Rattle.text_places.proofs.PlaceLemmas.{place_after-append}
use Rattle.qasm_lexer.specs.Tokens.{IsNext, Cuts, nothing_taken, gap_dropped, token_taken, Left, Moves, Takes}

pub cuts_then : {text mid last : List ℕ} {tokens others : List (List ℕ)} → Cuts text tokens mid → Cuts mid others last → Cuts text (tokens ++ others) last
cuts_then nothing_taken k = k
cuts_then (gap_dropped piece rest e g more) k = gap_dropped piece rest e g (cuts_then more k)
cuts_then (token_taken word rest next more) k = token_taken word rest next (cuts_then more k)

pub moves_none : (left : Left) → Moves left left []
moves_none left = record { front = []; parts = refl; place = refl; cuts = nothing_taken }

pub moves_then : {old mid new : Left} {tokens others : List (List ℕ)} → Moves old mid tokens → Moves mid new others → Moves old new (tokens ++ others)
moves_then {old} {mid} {new} h k = record {
  front = h.front ++ k.front;
  parts = h.parts ∙ ap (λ (t : List ℕ). h.front ++ t) k.parts ∙ sym (append_assoc h.front k.front new.bytes);
  place = k.place ∙ ap (λ at. place_after at k.front) h.place ∙ sym (place_after-append old.at h.front k.front);
  cuts = cuts_then h.cuts k.cuts;
}

-- a piece at the front was taken
moved_by : (old new : Left) (len : ℕ) (tokens : List (List ℕ)) → new.bytes ≡ drop len old.bytes → new.at ≡ place_after old.at (take len old.bytes)
    → Cuts old.bytes tokens (drop len old.bytes) → Moves old new tokens
moved_by old new len tokens rest place cuts = record {
  front = take len old.bytes;
  parts = sym (take-append-drop len old.bytes) ∙ ap (λ (t : List ℕ). take len old.bytes ++ t) (sym rest);
  place = place;
  cuts = subst (λ (t : List ℕ). Cuts old.bytes tokens t) (sym rest) cuts;
}

pub gap_moved : (old new : Left) (len : ℕ) → new.bytes ≡ drop len old.bytes → new.at ≡ place_after old.at (take len old.bytes)
    → IsGap (take len old.bytes) (drop len old.bytes) → Moves old new []
gap_moved old new len rest place gap =
    moved_by old new len [] rest place (gap_dropped (take len old.bytes) (drop len old.bytes) (sym (take-append-drop len old.bytes)) gap nothing_taken)

token_moved : (old new : Left) (len : ℕ) → new.bytes ≡ drop len old.bytes → new.at ≡ place_after old.at (take len old.bytes)
    → IsNext old.bytes (take len old.bytes) (drop len old.bytes) → Moves old new (take len old.bytes ∷ [])
token_moved old new len rest place next =
    moved_by old new len (take len old.bytes ∷ []) rest place (token_taken (take len old.bytes) (drop len old.bytes) next nothing_taken)

-- how many bytes the gap at the front has
pub record IsGapLen (bytes : List ℕ) (len : ℕ) : Type 0 where
  pub within : len ≤ length bytes
  pub found : 0 < len → IsGap (take len bytes) (drop len bytes)
  pub none : len ≡ 0 → HasNoGap bytes

pub same_left : (a b : Left) → a.at ≡ b.at → a.bytes ≡ b.bytes → a ≡ b
same_left a b p q = ap (λ (at : Place). record { at = at; bytes = a.bytes }) p ∙ ap (λ (bytes : List ℕ). record { at = b.at; bytes = bytes }) q

taken_front : (mid new : Left) (word : List ℕ) (len : ℕ) → word ≡ take len mid.bytes → new.bytes ≡ drop len mid.bytes → mid.bytes ≡ word ++ new.bytes
taken_front mid new word len spelled rest =
    sym (take-append-drop len mid.bytes) ∙ ap (λ (w : List ℕ). w ++ drop len mid.bytes) (sym spelled) ∙ ap (λ (bs : List ℕ). word ++ bs) (sym rest)

-- the bytes of the token at the front were taken, behind the gaps
pub token_taken_out : (old mid new : Left) (word : List ℕ) (at : Place) (len : ℕ) → Moves old mid [] → at ≡ mid.at → word ≡ take len mid.bytes
    → new.bytes ≡ drop len mid.bytes → new.at ≡ place_after mid.at (take len mid.bytes) → len ≤ length mid.bytes → (len ≡ 0 → mid.bytes ≡ [])
    → (0 < len → IsNext mid.bytes (take len mid.bytes) (drop len mid.bytes)) → Takes old new word at
token_taken_out old mid new word at zero gaps here spelled rest place within end next = record {
  mid = mid;
  gaps = gaps;
  place = here;
  begins = inl (spelled, end refl);
  behind = taken_front mid new word zero spelled rest;
  moved = place ∙ ap (place_after mid.at) (sym spelled);
  taken = λ some. let none = ap length spelled in absurd (omega arith);
  ended = λ e. same_left new mid place rest;
}
token_taken_out old mid new word at (suc k) gaps here spelled rest place within end next =
    let found = next (omega arith) in
    record {
      mid = mid;
      gaps = gaps;
      place = here;
      behind = taken_front mid new word (suc k) spelled rest;
      moved = place ∙ ap (place_after mid.at) (sym spelled);
      begins = inr (drop (suc k) mid.bytes, subst (λ (w : List ℕ). IsNext mid.bytes w (drop (suc k) mid.bytes)) (sym spelled) found);
      taken = λ some. moves_then gaps (subst (λ (w : List ℕ). Moves mid new (w ∷ [])) (sym spelled) (token_moved mid new (suc k) rest place found));
      ended = λ e. let long = length-take-le (suc k) mid.bytes within in let none = ap length (sym spelled ∙ e) in absurd (omega arith);
    }

-- ---- how much is left

pub next_cut : (text word rest : List ℕ) → IsNext text word rest → text ≡ word ++ rest
next_cut text word rest (inl longest) = longest.cut
next_cut text word rest (inr (b, same, cut, stray)) = cut ∙ ap (λ (w : List ℕ). w ++ rest) (sym same)

cuts_length : {text last : List ℕ} {tokens : List (List ℕ)} → Cuts text tokens last → length (concat tokens) + length last ≤ length text
cuts_length nothing_taken = omega arith
cuts_length {text} (gap_dropped piece rest e gap more) =
    let less = cuts_length more in let long = ap length e ∙ length-append piece rest in omega arith
cuts_length {text} (token_taken {tokens = others} word rest next more) =
    let less = cuts_length more in
    let long = ap length (next_cut text word rest next) ∙ length-append word rest in
    let both = length-append word (concat others) in
    omega arith

pub moves_within : {old new : Left} {tokens : List (List ℕ)} → Moves old new tokens → length new.bytes ≤ length old.bytes
moves_within {old} {new} h = let long = ap length h.parts ∙ length-append h.front new.bytes in omega arith

pub takes_within : (old new : Left) (word : List ℕ) (at : Place) → Takes old new word at → length new.bytes ≤ length old.bytes
takes_within old new [] at h =
    let same = ap (λ (left : Left). length left.bytes) (h.ended refl) in let within = moves_within h.gaps in omega arith
takes_within old new (b ∷ bs) at h = moves_within (h.taken (omega arith))

pub takes_fewer : (old new : Left) (word : List ℕ) (at : Place) → Takes old new word at → 0 < length word → length new.bytes < length old.bytes
takes_fewer old new word at h some =
    let less = cuts_length (h.taken some).cuts in let long = ap length (append-nil word) in omega arith
