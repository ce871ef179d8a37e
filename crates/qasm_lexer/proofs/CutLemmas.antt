-- A text is cut in one way.
use Rattle.std.proofs.Common.{◌≡◌, ℕ, ◌<◌, eqb, Bool, true, false, ◌||◌, inl, inr, List, [], ◌∷◌, ◌++◌, length, refl, sym, ap, ◌∙◌, subst, arith, length-append}
use Rattle.std.specs.List.{list_all}
use Rattle.std.specs.Char.{is_ascii_alphabetic, is_ascii_digit}
use Rattle.std.proofs.lemmas.Bool.{false≢true, and_parts, or_parts}
use Rattle.std.proofs.lemmas.Bool.Decides.{nat_tests}
use Rattle.list_facts.specs.Lists.{IsAmong}
use Rattle.list_facts.proofs.AmongLemmas.{all_among}
use Rattle.text_places.specs.Bytes.{is_blank, is_name_byte}
use Rattle.text_places.specs.Gaps.{IsGap}
use Rattle.text_places.specs.Places.{place_after}
use Rattle.text_places.proofs.ByteLemmas.{first_of, same_first}
use Rattle.text_places.proofs.GapLemmas.{gap_begins, same_gap, some_gap}
use Rattle.text_places.proofs.RunLemmas.{same_split}
use Rattle.qasm_lexer.specs.Tokens.{fixed_words, IsWord, IsNext, Cuts, nothing_taken, gap_dropped, token_taken, Left, Moves, BeginsWith, TokensAreDetermined}
use Rattle.qasm_lexer.proofs.LexingLemmas.{empty_is_no_word}
use Rattle.qasm_lexer.proofs.MoveLemmas.{next_cut, same_left}

-- ---- the token at the front

-- what gaps begin with
abbrev opens_gap : ℕ → Bool
opens_gap b = is_blank b || eqb b 47

letter_opens_none : (b : ℕ) → is_ascii_alphabetic b ≡ true → opens_gap b ≡ false
letter_opens_none b e = grind (arith, nat_tests)

digit_opens_none : (b : ℕ) → is_ascii_digit b ≡ true → opens_gap b ≡ false
digit_opens_none b e = grind (arith, nat_tests)

fixed_opens_none : (word : List ℕ) → IsAmong word fixed_words → opens_gap (first_of word) ≡ false
fixed_opens_none word among =
    all_among (λ w. opens_gap (first_of w) ≡ false) fixed_words (refl, (refl, (refl, (refl, (refl, (refl, tt)))))) word among

word_opens_none : (word : List ℕ) → IsWord word → opens_gap (first_of word) ≡ false
word_opens_none [] h = absurd (empty_is_no_word h)
word_opens_none (b ∷ bs) (inl e) = letter_opens_none b (and_parts (is_ascii_alphabetic b) (list_all is_name_byte bs) e).0
word_opens_none (b ∷ bs) (inr (inl e)) = digit_opens_none b (and_parts (is_ascii_digit b) (list_all is_ascii_digit bs) e).0
word_opens_none (b ∷ bs) (inr (inr fixed)) = fixed_opens_none (b ∷ bs) fixed

some_word : (word : List ℕ) → IsWord word → 0 < length word
some_word [] h = absurd (empty_is_no_word h)
some_word (b ∷ bs) h = omega arith

-- a token at the front is not empty
pub some_next : (text word rest : List ℕ) → IsNext text word rest → 0 < length word
some_next text word rest (inl longest) = some_word word longest.spelled
some_next text word rest (inr (b, same, cut, stray)) = let one = ap length same in omega arith

-- no gap stands where a token does
pub no_gap_before_next : (text word rest gap behind : List ℕ) → IsNext text word rest → text ≡ gap ++ behind → IsGap gap behind → ⊥
no_gap_before_next text word rest gap behind (inl longest) cut g =
    let same : first_of word ≡ first_of (gap ++ behind) =
    same_first text word rest longest.cut (some_word word longest.spelled) ∙ ap first_of cut in
    let none = or_parts (is_blank (first_of word)) (eqb (first_of word) 47) (word_opens_none word longest.spelled) in
    elim (gap_begins gap behind g) [
      | inl blank ↦ false≢true (sym none.0 ∙ ap is_blank same ∙ blank)
      | inr slash ↦ false≢true (sym none.1 ∙ ap (λ b. eqb b 47) (same ∙ slash))
    ]
no_gap_before_next text word rest gap behind (inr (b, same, begins, stray)) cut g = stray.no_gap gap behind cut g

-- one token stands at the front
pub same_next : (text word rest other behind : List ℕ) → IsNext text word rest → IsNext text other behind → (word ≡ other) × (rest ≡ behind)
same_next text word rest other behind (inl h) (inl k) =
    let le = k.longest word rest h.cut h.spelled in
    let ge = h.longest other behind k.cut k.spelled in
    same_split text word rest other behind h.cut k.cut (omega arith)
same_next text word rest other behind (inl h) (inr (c, same', cut', stray)) = absurd (stray.no_word word rest h.cut h.spelled)
same_next text word rest other behind (inr (b, same, cut, stray)) (inl k) = absurd (stray.no_word other behind k.cut k.spelled)
same_next text word rest other behind (inr (b, same, cut, stray)) (inr (c, same', cut', stray')) =
    same_split text word rest other behind (next_cut text word rest (inr (b, same, cut, stray)))
    (next_cut text other behind (inr (c, same', cut', stray'))) (ap length same ∙ sym (ap length same'))

nothing_begins : (text word rest : List ℕ) → text ≡ [] → IsNext text word rest → ⊥
nothing_begins text word rest e next =
    let some = some_next text word rest next in
    let none = ap length (sym e ∙ next_cut text word rest next) ∙ length-append word rest in
    absurd (omega arith)

nothing_opens : (text gap behind : List ℕ) → text ≡ [] → text ≡ gap ++ behind → IsGap gap behind → ⊥
nothing_opens text gap behind e cut g =
    let some = some_gap gap behind g in
    let none = ap length (sym e ∙ cut) ∙ length-append gap behind in
    absurd (omega arith)

-- a text that begins with a token or ends begins with no gap, and with no other token
no_gap_where_begins : (text word gap behind : List ℕ) → BeginsWith text word → text ≡ gap ++ behind → IsGap gap behind → ⊥
no_gap_where_begins text word gap behind (inl (none, ends)) cut g = nothing_opens text gap behind ends cut g
no_gap_where_begins text word gap behind (inr (rest, next)) cut g = no_gap_before_next text word rest gap behind next cut g

begins_next : (text word other behind : List ℕ) → BeginsWith text word → IsNext text other behind → word ≡ other
begins_next text word other behind (inl (none, ends)) next = absurd (nothing_begins text other behind ends next)
begins_next text word other behind (inr (rest, first)) next = (same_next text word rest other behind first next).0

pub same_begins : (text word other : List ℕ) → BeginsWith text word → BeginsWith text other → word ≡ other
same_begins text word other (inl (none, ends)) (inl (none', ends')) = none ∙ sym none'
same_begins text word other (inl (none, ends)) (inr (rest, next)) = absurd (nothing_begins text other rest ends next)
same_begins text word other (inr (rest, next)) k = sym (begins_next text other word rest k next)

-- ---- two cuts of one text

-- Tokens of one text up to a token, and others up to another: they are the same, or one goes on where the other ends.
pub data Meet : List (List ℕ) → List ℕ → List ℕ → List (List ℕ) → List ℕ → List ℕ → Type 0 where
  at_one : {tokens others : List (List ℕ)} {word left other behind : List ℕ}
      → tokens ≡ others → word ≡ other → left ≡ behind → Meet tokens word left others other behind
  goes_on : {tokens others : List (List ℕ)} {word left other behind : List ℕ} (more : List (List ℕ))
      → 0 < length word → others ≡ tokens ++ word ∷ more → Meet tokens word left others other behind
  falls_short : {tokens others : List (List ℕ)} {word left other behind : List ℕ} (more : List (List ℕ))
      → 0 < length other → tokens ≡ others ++ other ∷ more → Meet tokens word left others other behind

meet_behind : (first : List ℕ) (tokens : List (List ℕ)) (word left : List ℕ) (others : List (List ℕ)) (other behind : List ℕ)
    → Meet tokens word left others other behind → Meet (first ∷ tokens) word left (first ∷ others) other behind
meet_behind first tokens word left others other behind (at_one same here end) = at_one (ap (λ (ts : List (List ℕ)). first ∷ ts) same) here end
meet_behind first tokens word left others other behind (goes_on more some same) = goes_on more some (ap (λ (ts : List (List ℕ)). first ∷ ts) same)
meet_behind first tokens word left others other behind (falls_short more some same) =
    falls_short more some (ap (λ (ts : List (List ℕ)). first ∷ ts) same)

-- the other cut, where the first has taken nothing, a gap or a token
meet_nothing : (text word : List ℕ) (others : List (List ℕ)) (other behind : List ℕ) → BeginsWith text word → Cuts text others behind
    → BeginsWith behind other → Meet [] word text others other behind
meet_nothing text word others other behind h nothing_taken k = at_one refl (same_begins text word other h k) refl
meet_nothing text word others other behind h (gap_dropped piece rest cut gap more) k = absurd (no_gap_where_begins text word piece rest h cut gap)
meet_nothing text word others other behind h (token_taken {tokens = later} found rest next more) k =
    let same = begins_next text word found rest h next in
    goes_on later (subst (λ (w : List ℕ). 0 < length w) (sym same) (some_next text found rest next)) (ap (λ (w : List ℕ). w ∷ later) (sym same))

behind_gap : (text gap left : List ℕ) (others : List (List ℕ)) (other behind : List ℕ) → text ≡ gap ++ left → IsGap gap left → Cuts text others behind
    → BeginsWith behind other → Cuts left others behind
behind_gap text gap left others other behind begins g nothing_taken k = absurd (no_gap_where_begins text other gap left k begins g)
behind_gap text gap left others other behind begins g (gap_dropped piece rest cut g' more) k =
    let same = same_gap text piece rest gap left cut g' begins g in subst (λ (t : List ℕ). Cuts t others behind) same.1 more
behind_gap text gap left others other behind begins g (token_taken word rest next more) k =
    absurd (no_gap_before_next text word rest gap left next begins g)

meet_token : (text first rest word left : List ℕ) (tokens others : List (List ℕ)) (other behind : List ℕ) → IsNext text first rest
    → ((later : List (List ℕ)) → Cuts rest later behind → Meet tokens word left later other behind) → Cuts text others behind → BeginsWith behind other
    → Meet (first ∷ tokens) word left others other behind
meet_token text first rest word left tokens others other behind next rec nothing_taken k =
    let same = begins_next text other first rest k next in
    falls_short tokens (subst (λ (w : List ℕ). 0 < length w) (sym same) (some_next text first rest next)) (ap (λ (w : List ℕ). w ∷ tokens) (sym same))
meet_token text first rest word left tokens others other behind next rec (gap_dropped piece after cut gap more) k =
    absurd (no_gap_before_next text first rest piece after next cut gap)
meet_token text first rest word left tokens others other behind next rec (token_taken {tokens = later} found after next' more) k =
    let same = same_next text first rest found after next next' in
    subst (λ (w : List ℕ). Meet (first ∷ tokens) word left (w ∷ later) other behind) same.0
    (meet_behind first tokens word left later other behind (rec later (subst (λ (t : List ℕ). Cuts t later behind) (sym same.1) more)))

-- two cuts meet
pub cuts_meet : (text : List ℕ) (tokens : List (List ℕ)) (word left : List ℕ) (others : List (List ℕ)) (other behind : List ℕ) → Cuts text tokens left
    → BeginsWith left word → Cuts text others behind → BeginsWith behind other → Meet tokens word left others other behind
cuts_meet text tokens word left others other behind nothing_taken b k c = meet_nothing text word others other behind b k c
cuts_meet text tokens word left others other behind (gap_dropped piece rest cut gap more) b k c =
    cuts_meet rest tokens word left others other behind more b (behind_gap text piece rest others other behind cut gap k c) c
cuts_meet text tokens word left others other behind (token_taken {tokens = later} first rest next more) b k c =
    meet_token text first rest word left later others other behind next (λ ts l. cuts_meet rest later word left ts other behind more b l c) k c

-- so do two readings from one place, and where they are the same the same is left
pub moves_meet : (old mid end : Left) (tokens : List (List ℕ)) (word : List ℕ) (others : List (List ℕ)) (other : List ℕ) → Moves old mid tokens
    → BeginsWith mid.bytes word → Moves old end others → BeginsWith end.bytes other → Meet tokens word mid.bytes others other end.bytes
moves_meet old mid end tokens word others other h b k c = cuts_meet old.bytes tokens word mid.bytes others other end.bytes h.cuts b k.cuts c

pub moves_end_same : (old mid end : Left) (tokens others : List (List ℕ)) → Moves old mid tokens → Moves old end others → mid.bytes ≡ end.bytes → mid ≡ end
moves_end_same old mid end tokens others h k same =
    let len = ap length (sym h.parts ∙ k.parts) in
    let one = length-append h.front mid.bytes in
    let other = length-append k.front end.bytes in
    let left = ap length same in
    let fronts = same_split old.bytes h.front mid.bytes k.front end.bytes h.parts k.parts (omega arith) in
    same_left mid end (h.place ∙ ap (λ (front : List ℕ). place_after old.at front) fronts.0 ∙ sym k.place) same

-- ---- whole texts

no_word_at_end : (tokens others : List (List ℕ)) → Meet tokens [] [] others [] [] → tokens ≡ others
no_word_at_end tokens others (at_one same here end) = same
no_word_at_end tokens others (goes_on more some same) = absurd (omega arith)
no_word_at_end tokens others (falls_short more some same) = absurd (omega arith)

pub one_way : TokensAreDetermined
one_way text tokens others h k = no_word_at_end tokens others (cuts_meet text tokens [] [] others [] [] h (inl (refl, refl)) k (inl (refl, refl)))
