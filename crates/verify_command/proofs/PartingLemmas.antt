-- A source parts in one way, and a walk over its lines finds it.
use Rattle.std.proofs.Common.{◌≡◌, ◌≢◌, inl, inr, ℕ, zero, suc, ◌+◌, ◌-◌, ◌<◌, ◌≤◌, List}
use Rattle.std.proofs.Common.{[], ◌∷◌, ◌++◌, codes, length, take, drop, get_or, length-append, append_assoc, append-nil}
use Rattle.std.proofs.Common.{refl, sym, ap, ◌∙◌, subst, arith, length-drop, Bool, true, false}
use Rattle.std.specs.Prelude.{◌↔◌, IsTrue}
use Rattle.std.specs.List.{AllByRecursion}
use Rattle.list_facts.proofs.AllLemmas.{AllByRecursion-append, AllByRecursion-right}
use Rattle.list_facts.proofs.CutLemmas.{cut_at, length-take_below}
use Rattle.verify_command.specs.Parting.{HasNoPart, IsMark, IsOneLine, IsParted, IsPassed, SourcesPartInOneWay, ended}

-- ---- lines

-- the parts of two texts that are cut at their first line feed are the same
record SameLine (line other rest behind : List ℕ) : Type 0 where
  same : line ≡ other
  rests : rest ≡ behind

more_line : (b c : ℕ) (line other rest behind : List ℕ) → b ≡ c → SameLine line other rest behind → SameLine (b ∷ line) (c ∷ other) rest behind
more_line b c line other rest behind e s = record { same = let tails = s.same in cc; rests = s.rests }

cut_line : (line other rest behind : List ℕ) → IsOneLine line → IsOneLine other → line ++ 10 ∷ rest ≡ other ++ 10 ∷ behind
    → SameLine line other rest behind
cut_line [] [] rest behind h k e = record { same = refl; rests = cc }
cut_line [] (c ∷ other) rest behind h k e =
    let is : c ≡ 10 = cc in
    absurd (k.0 is)
cut_line (b ∷ line) [] rest behind h k e =
    let is : b ≡ 10 = cc in
    absurd (h.0 is)
cut_line (b ∷ line) (c ∷ other) rest behind h k e =
    let first : b ≡ c = cc in
    let tails : line ++ 10 ∷ rest ≡ other ++ 10 ∷ behind = cc in
    more_line b c line other rest behind first (cut_line line other rest behind h.1 k.1 tails)

no_feed : (line before rest : List ℕ) → IsOneLine line → before ++ 10 ∷ rest ≡ line → ⊥
no_feed line before rest one e = (AllByRecursion-right (λ byte. byte ≢ 10) before (10 ∷ rest) (subst IsOneLine (sym e) one)).0 refl

plain_mark : IsOneLine (codes "---")
plain_mark = (λ e. absurd cc, (λ e. absurd cc, (λ e. absurd cc, tt)))

returned_mark : IsOneLine (codes "---\r")
returned_mark = (λ e. absurd cc, (λ e. absurd cc, (λ e. absurd cc, (λ e. absurd cc, tt))))

mark_is_line : (mark : List ℕ) → IsMark mark → IsOneLine mark
mark_is_line mark (inl e) = subst IsOneLine (sym e) plain_mark
mark_is_line mark (inr e) = subst IsOneLine (sym e) returned_mark

first_line : (line rest tail : List ℕ) → ((line ++ 10 ∷ []) ++ rest) ++ tail ≡ line ++ 10 ∷ (rest ++ tail)
first_line line rest tail = simp append_assoc

-- ---- one way

same_parts : (lines others : List (List ℕ)) (mark other rest behind : List ℕ) → AllByRecursion IsPassed lines → AllByRecursion IsPassed others
    → IsMark mark → IsMark other → ended lines ++ (mark ++ 10 ∷ rest) ≡ ended others ++ (other ++ 10 ∷ behind)
    → SameLine (ended lines) (ended others) rest behind
same_parts [] [] mark other rest behind h k m n e =
    record { same = refl; rests = (cut_line mark other rest behind (mark_is_line mark m) (mark_is_line other n) e).rests }
same_parts [] (line ∷ others) mark other rest behind h k m n e =
    let cut = cut_line mark line rest (ended others ++ (other ++ 10 ∷ behind)) (mark_is_line mark m) k.0.one
    (e ∙ first_line line (ended others) (other ++ 10 ∷ behind)) in
    absurd (k.0.unmarked (subst IsMark cut.same m))
same_parts (line ∷ lines) [] mark other rest behind h k m n e =
    let cut = cut_line other line behind (ended lines ++ (mark ++ 10 ∷ rest)) (mark_is_line other n) h.0.one
    (sym e ∙ first_line line (ended lines) (mark ++ 10 ∷ rest)) in
    absurd (h.0.unmarked (subst IsMark cut.same n))
same_parts (line ∷ lines) (second ∷ others) mark other rest behind h k m n e =
    let cut = cut_line line second (ended lines ++ (mark ++ 10 ∷ rest)) (ended others ++ (other ++ 10 ∷ behind)) h.0.one k.0.one
    (sym (first_line line (ended lines) (mark ++ 10 ∷ rest)) ∙ e ∙ first_line second (ended others) (other ++ 10 ∷ behind)) in
    let tails = same_parts lines others mark other rest behind h.1 k.1 m n cut.rests in
    record { same = ap (λ l. (l ++ 10 ∷ []) ++ ended lines) cut.same ∙ ap (λ l. (second ++ 10 ∷ []) ++ l) tails.same; rests = tails.rests }

parted_or_not : (lines others : List (List ℕ)) (mark rest last : List ℕ) → AllByRecursion IsPassed lines → AllByRecursion IsPassed others
    → IsMark mark → IsOneLine last → ended lines ++ (mark ++ 10 ∷ rest) ≡ ended others ++ last → ⊥
parted_or_not [] [] mark rest last h k m one e = no_feed last mark rest one e
parted_or_not [] (line ∷ others) mark rest last h k m one e =
    let cut = cut_line mark line rest (ended others ++ last) (mark_is_line mark m) k.0.one (e ∙ first_line line (ended others) last) in
    k.0.unmarked (subst IsMark cut.same m)
parted_or_not (line ∷ lines) [] mark rest last h k m one e =
    no_feed last line (ended lines ++ (mark ++ 10 ∷ rest)) one (sym (first_line line (ended lines) (mark ++ 10 ∷ rest)) ∙ e)
parted_or_not (line ∷ lines) (second ∷ others) mark rest last h k m one e =
    let cut = cut_line line second (ended lines ++ (mark ++ 10 ∷ rest)) (ended others ++ last) h.0.one k.0.one
    (sym (first_line line (ended lines) (mark ++ 10 ∷ rest)) ∙ e ∙ first_line second (ended others) last) in
    parted_or_not lines others mark rest last h.1 k.1 m one cut.rests

-- a source as its lines, its mark and its circuit
as_lines : (source program circuit : List ℕ) (p : IsParted source program circuit) → source ≡ ended p.lines ++ (p.mark ++ 10 ∷ circuit)
as_lines source program circuit p = p.cut ∙ ap (λ l. l ++ (p.mark ++ 10 ∷ circuit)) p.before

both_parted : (source program other circuit behind : List ℕ) (p : IsParted source program circuit) (q : IsParted source other behind)
    → SameLine (ended p.lines) (ended q.lines) circuit behind
both_parted source program other circuit behind p q =
    same_parts p.lines q.lines p.mark q.mark circuit behind p.each q.each p.is_mark q.is_mark
    (sym (as_lines source program circuit p) ∙ as_lines source other behind q)

pub one_way : SourcesPartInOneWay
one_way source = record {
  one_program = λ program other circuit behind p q. p.before ∙ (both_parted source program other circuit behind p q).same ∙ sym q.before;
  one_circuit = λ program other circuit behind p q. (both_parted source program other circuit behind p q).rests;
  never_both = λ program circuit p n. parted_or_not p.lines n.lines p.mark circuit n.last p.each n.each p.is_mark n.unended
      (sym (as_lines source program circuit p) ∙ n.cut);
}

-- ---- fronts of a source

take_front : (front rest : List ℕ) → take (length front) (front ++ rest) ≡ front
take_front [] rest = refl
take_front (b ∷ front) rest = ap (λ l. b ∷ l) (take_front front rest)

drop_front : (front rest : List ℕ) → drop (length front) (front ++ rest) ≡ rest
drop_front [] rest = refl
drop_front (b ∷ front) rest = drop_front front rest

take_all : (source : List ℕ) (place : ℕ) → length source ≤ place → take place source ≡ source
take_all [] zero over = refl
take_all [] (suc place) over = refl
take_all (b ∷ source) zero over = absurd (omega (arith, over))
take_all (b ∷ source) (suc place) over = ap (λ l. b ∷ l) (take_all source place (omega (arith, over)))

-- the rest behind a place, as a slice to the end gives it
rest_of : (source : List ℕ) (place : ℕ) → take (length source - place) (drop place source) ≡ drop place source
rest_of source place = take_all (drop place source) (length source - place) (omega (arith, length-drop place source))

take_further : (source : List ℕ) (place d : ℕ) → place < length source → take (suc place) source ≡ take place source ++ get_or source place d ∷ []
take_further [] place d lt = absurd (omega (arith, lt))
take_further (b ∷ source) zero d lt = refl
take_further (b ∷ source) (suc place) d lt = ap (λ l. b ∷ l) (take_further source place d (omega (arith, lt)))

-- ---- a walk over the lines

-- what was walked over has no parting line, and the line under way begins here
pub record IsUnparted (front : List ℕ) (start : ℕ) : Type 0 where
  pub lines : List (List ℕ)
  pub each : AllByRecursion IsPassed lines
  pub line : List ℕ
  pub unended : IsOneLine line
  pub cut : front ≡ ended lines ++ line
  pub begins : length (ended lines) ≡ start

pub begun : IsUnparted [] 0
begun = record { lines = []; each = tt; line = []; unended = tt; cut = refl; begins = refl }

further : (front : List ℕ) (start byte : ℕ) → IsUnparted front start → byte ≢ 10 → IsUnparted (front ++ byte ∷ []) start
further front start byte u other = record {
  lines = u.lines;
  each = u.each;
  line = u.line ++ byte ∷ [];
  unended = AllByRecursion-append (λ b. b ≢ 10) u.line (byte ∷ []) u.unended (other, tt);
  cut = ap (λ f. f ++ byte ∷ []) u.cut ∙ append_assoc (ended u.lines) u.line (byte ∷ []);
  begins = u.begins;
}

last_ended : (line : List ℕ) → (line ++ 10 ∷ []) ++ [] ≡ line ++ 10 ∷ []
last_ended line = simp append-nil

one_more_ended : (first rest line : List ℕ) → first ++ ((rest ++ line) ++ 10 ∷ []) ≡ ((first ++ rest) ++ line) ++ 10 ∷ []
one_more_ended first rest line = simp append_assoc

more_ended : (lines : List (List ℕ)) (line : List ℕ) → ended (lines ++ line ∷ []) ≡ (ended lines ++ line) ++ 10 ∷ []
more_ended [] line = last_ended line
more_ended (first ∷ lines) line =
    ap (λ l. (first ++ 10 ∷ []) ++ l) (more_ended lines line) ∙ one_more_ended (first ++ 10 ∷ []) (ended lines) line

passed_line : (front : List ℕ) (start : ℕ) (u : IsUnparted front start) → ¬ IsMark u.line → IsUnparted (front ++ 10 ∷ []) (length front + 1)
passed_line front start u none =
    let whole : front ++ 10 ∷ [] ≡ ended (u.lines ++ u.line ∷ []) = ap (λ f. f ++ 10 ∷ []) u.cut ∙ sym (more_ended u.lines u.line) in
    record {
      lines = u.lines ++ u.line ∷ [];
      each = AllByRecursion-append IsPassed u.lines (u.line ∷ []) u.each (record { one = u.unended; unmarked = none }, tt);
      line = [];
      unended = tt;
      cut = whole ∙ sym (append-nil (ended (u.lines ++ u.line ∷ [])));
      begins = sym (ap length whole) ∙ length-append front (10 ∷ []);
    }

-- ---- a step of the walk

-- the line under way, in front of the byte at this place
line_of_slice : (source : List ℕ) (place start d : ℕ) → place < length source → (u : IsUnparted (take place source) start)
    → take (place - start) (drop start source) ≡ u.line
line_of_slice source place start d lt u =
    let front = ended u.lines in
    let behind = get_or source place d ∷ drop (suc place) source in
    let cut : source ≡ front ++ (u.line ++ behind) =
    cut_at source place d lt ∙ ap (λ f. f ++ behind) u.cut ∙ append_assoc front u.line behind in
    let dropped : drop start source ≡ u.line ++ behind =
    ap (λ n. drop n source) (sym u.begins) ∙ ap (drop (length front)) cut ∙ drop_front front (u.line ++ behind) in
    let whole = sym (length-take_below source place lt) ∙ ap length u.cut ∙ length-append front u.line in
    let begins = u.begins in
    let size : place - start ≡ length u.line = omega arith in
    ap (λ n. take n (drop start source)) size ∙ ap (take (length u.line)) dropped ∙ take_front u.line behind

pub next_byte : (source : List ℕ) (place start d : ℕ) → place < length source → IsUnparted (take place source) start → get_or source place d ≢ 10
    → IsUnparted (take (place + 1) source) start
next_byte source place start d lt u other =
    let one : place + 1 ≡ suc place = omega arith in
    subst (λ f. IsUnparted f start) (sym (ap (λ n. take n source) one ∙ take_further source place d lt))
    (further (take place source) start (get_or source place d) u other)

pub next_line : (source : List ℕ) (place start d : ℕ) → place < length source → IsUnparted (take place source) start → get_or source place d ≡ 10
    → ¬ IsMark (take (place - start) (drop start source)) → IsUnparted (take (place + 1) source) (place + 1)
next_line source place start d lt u feed none =
    let front = take place source in
    let one : place + 1 ≡ suc place = omega arith in
    let cut : take (place + 1) source ≡ front ++ 10 ∷ [] =
    ap (λ n. take n source) one ∙ take_further source place d lt ∙ ap (λ b. front ++ b ∷ []) feed in
    let passed = passed_line front start u (λ mark. none (subst IsMark (sym (line_of_slice source place start d lt u)) mark)) in
    subst (λ f. IsUnparted f (place + 1)) (sym cut)
    (subst (λ n. IsUnparted (front ++ 10 ∷ []) (n + 1)) (length-take_below source place lt) passed)

parted_here : (source : List ℕ) (place start d : ℕ) → place < length source → IsUnparted (take place source) start → get_or source place d ≡ 10
    → IsMark (take (place - start) (drop start source)) → IsParted source (take start source) (drop (place + 1) source)
parted_here source place start d lt u feed mark =
    let front = ended u.lines in
    let behind = drop (place + 1) source in
    let one : suc place ≡ place + 1 = omega arith in
    let cut : source ≡ front ++ (u.line ++ 10 ∷ behind) =
    cut_at source place d lt ∙ ap (λ b. take place source ++ b ∷ drop (suc place) source) feed
    ∙ ap (λ n. take place source ++ 10 ∷ drop n source) one ∙ ap (λ f. f ++ 10 ∷ behind) u.cut ∙ append_assoc front u.line (10 ∷ behind) in
    let before : take start source ≡ front =
    ap (λ n. take n source) (sym u.begins) ∙ ap (take (length front)) cut ∙ take_front front (u.line ++ 10 ∷ behind) in
    record {
      lines = u.lines;
      each = u.each;
      mark = u.line;
      is_mark = subst IsMark (line_of_slice source place start d lt u) mark;
      before = before;
      cut = cut ∙ ap (λ f. f ++ (u.line ++ 10 ∷ behind)) (sym before);
    }

pub parts_here : (source : List ℕ) (place start d : ℕ) (is : Bool) → place < length source → IsUnparted (take place source) start
    → get_or source place d ≡ 10 → IsTrue is ↔ IsMark (take (place - start) (drop start source)) → is ≡ true
    → IsParted source (take start source) (take (length source - (place + 1)) (drop (place + 1) source))
parts_here source place start d is lt u feed says marked =
    subst (IsParted source (take start source)) (sym (rest_of source (place + 1)))
    (parted_here source place start d lt u feed (says.0 marked))

unmarked : (line : List ℕ) (is : Bool) → IsTrue is ↔ IsMark line → is ≡ false → ¬ IsMark line
unmarked line is says other mark =
    let both : true ≡ false = sym (says.1 mark) ∙ other in
    absurd cc

pub next_start : (source : List ℕ) (place start next d : ℕ) (is : Bool) → place < length source → IsUnparted (take place source) start
    → get_or source place d ≡ 10 → IsTrue is ↔ IsMark (take (place - start) (drop start source)) → is ≡ false → next ≡ place + 1
    → IsUnparted (take (place + 1) source) next
next_start source place start next d is lt u feed says other same =
    subst (IsUnparted (take (place + 1) source)) (sym same)
    (next_line source place start d lt u feed (unmarked (take (place - start) (drop start source)) is says other))

pub same_start : (source : List ℕ) (place start next d : ℕ) → place < length source → IsUnparted (take place source) start
    → get_or source place d ≢ 10 → next ≡ start → IsUnparted (take (place + 1) source) next
same_start source place start next d lt u other same =
    subst (IsUnparted (take (place + 1) source)) (sym same) (next_byte source place start d lt u other)

pub ends_unparted : (source : List ℕ) (place start : ℕ) → length source ≤ place → IsUnparted (take place source) start → HasNoPart source
ends_unparted source place start over u = record {
  lines = u.lines;
  each = u.each;
  last = u.line;
  unended = u.unended;
  cut = sym (take_all source place over) ∙ u.cut;
}

-- the line under way begins within what was walked over
pub starts_within : (source : List ℕ) (place start : ℕ) → place < length source → IsUnparted (take place source) start → start ≤ place
starts_within source place start lt u =
    let whole = sym (length-take_below source place lt) ∙ ap length u.cut ∙ length-append (ended u.lines) u.line in
    let begins = u.begins in
    omega arith
