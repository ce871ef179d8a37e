-- What is checked of the lines of the grammar, by computing.
use Rattle.std.proofs.Common.{◌≡◌, ℕ, zero, suc, ◌+◌, ◌==◌, Bool, true, ◌&&◌, ◌||◌, not, cond, leb, Option, Some, None, List, [], ◌∷◌, ◌++◌, refl, is_some}
use Rattle.revs_lexer.specs.declared.token.Tok.TheVariants as toks
use Rattle.revs_lexer.specs.declared.token.Tok.{Tok}
use Rattle.revs_lexer.specs.declared.token.Token.{Token}
use Rattle.revs_grammar.specs.Forms.{Mark, any_name, two, other_number, word, sign, mark_code, Kind}
use Rattle.revs_grammar.specs.Forms.{Form, in_profile, Piece, one, kept, opening, sub, Production}
use Rattle.revs_grammar.specs.Forms as g
use Rattle.revs_grammar.specs.declared.profile.Profile.{Profile}
use Rattle.revs_grammar.specs.declared.profile.Profile.TheVariants as profiles
use Rattle.revs_grammar.specs.Productions.{productions}
use Rattle.revs_grammar.specs.inside.Machine.{table, is_empty, is_optional}
use Rattle.revs_grammar.proofs.CheckHints.{rank_of, rank, may_follow}

-- ---- tests of lists and of kinds of tokens

abbrev pub all_below : ℕ → (ℕ → Bool) → Bool
all_below zero f = true
all_below (suc n) f = f n && all_below n f

abbrev pub all_lines : {V : Type 0} → (List Piece → Bool) → List (Production V) → Bool
all_lines f [] = true
all_lines f (p ∷ ps) = f p.pieces && all_lines f ps

abbrev pub no_line : {V : Type 0} → (List Piece → Bool) → List (Production V) → Bool
no_line f [] = true
no_line f (p ∷ ps) = not (f p.pieces) && no_line f ps

abbrev pub one_line_at_most : {V : Type 0} → (List Piece → Bool) → List (Production V) → Bool
one_line_at_most f [] = true
one_line_at_most f (p ∷ ps) = cond (f p.pieces) (no_line f ps) (one_line_at_most f ps)

-- ---- what begins a line

-- Whether a token of this kind begins these pieces, or what stands behind them where they may be left out.
abbrev pub begin : (ℕ → Bool) → ℕ → List Piece → Bool
begin behind c [] = behind c
begin behind c (one m ∷ ps) = c == mark_code m
begin behind c (kept m ∷ ps) = c == mark_code m
begin behind c (opening m ∷ ps) = c == mark_code m
begin behind c (sub d f ∷ ps) = is_some (table c f) || (is_optional f && begin behind c ps)

-- ---- the checks

-- A line is empty, or begins with a token or with a form of a lesser rank that cannot be left out.
abbrev pub starts_well : ℕ → List Piece → Bool
starts_well n (sub d f ∷ ps) = not (is_optional f) && leb (rank f + 1) n
starts_well n _ = true

-- What may stand behind a form, as far as its lines show, is in its hint.
abbrev pub is_closed : (ℕ → Bool) → List Piece → Bool
is_closed behind [] = true
is_closed behind (sub d f ∷ ps) = all_below 36 (λ c. not (begin behind c ps) || may_follow f c) && is_closed behind ps
is_closed behind (p ∷ ps) = is_closed behind ps

abbrev pub Starts : Form → Type 0
Starts f = all_lines (starts_well (rank f)) (productions f) ≡ true

abbrev pub Closes : Form → Type 0
Closes f = all_lines (is_closed (may_follow f)) (productions f) ≡ true

-- No two lines of a form begin with the same token, or may both be left out, and no line begins with what may stand behind
-- the form where it may be left out.
abbrev pub Parts : Form → Type 0
Parts f = all_below 36 (λ c. one_line_at_most (begin (may_follow f) c) (productions f)) ≡ true

abbrev pub LeftOutOnce : Form → Type 0
LeftOutOnce f = one_line_at_most is_empty (productions f) ≡ true

-- What holds of each kind of form in each profile holds of each form.
pub each_form : (P : Form → Type 0) → ((k : Kind) → P (in_profile profiles.One k)) → ((k : Kind) → P (in_profile profiles.Two k)) → (f : Form) → P f
each_form P first second f = go f.profile
  where
    go : (p : Profile) → P (in_profile p f.kind)
    go profiles.One = first f.kind
    go profiles.Two = second f.kind

low_ranks : (k : Kind) → leb (rank_of k) 8 ≡ true
low_ranks g.atom = refl
low_ranks _ = refl

pub low_rank : (f : Form) → leb (rank f) 8 ≡ true
low_rank f = low_ranks f.kind

-- ---- the shortest completion of a form

abbrev pub sample_of : Mark → Tok
sample_of any_name = toks.Name []
sample_of two = toks.Number 2
sample_of other_number = toks.Number 0
sample_of (word w) = toks.Word w
sample_of (sign s) = toks.Sign s

abbrev pub sample : Mark → Token
sample m = record { tok = sample_of m; at = record { line = 0; column = 0 } }

abbrev pub onto : Token → Option (List Token) → Option (List Token)
onto t None = None
onto t (Some ts) = Some (t ∷ ts)

abbrev pub both_lists : Option (List Token) → Option (List Token) → Option (List Token)
both_lists None other = None
both_lists (Some ts) None = None
both_lists (Some ts) (Some us) = Some (ts ++ us)

abbrev pub fill_pieces : (Form → Option (List Token)) → List Piece → Option (List Token)
fill_pieces whole [] = Some []
fill_pieces whole (one m ∷ ps) = onto (sample m) (fill_pieces whole ps)
fill_pieces whole (kept m ∷ ps) = onto (sample m) (fill_pieces whole ps)
fill_pieces whole (opening m ∷ ps) = onto (sample m) (fill_pieces whole ps)
fill_pieces whole (sub d f ∷ ps) = both_lists (whole f) (fill_pieces whole ps)

abbrev pub first_filled : {V : Type 0} → (Form → Option (List Token)) → List (Production V) → Option (List Token)
first_filled whole [] = None
first_filled whole (p ∷ ps) = elim (fill_pieces whole p.pieces) [ None ↦ first_filled whole ps | Some ts ↦ Some ts ]

-- the tokens of a form in which forms stand in one another at most so deep
abbrev pub completion : ℕ → Form → Option (List Token)
completion zero f = None
completion (suc n) f = first_filled (completion n) (productions f)

abbrev IsCompleted : Form → Type 0
IsCompleted f = is_some (completion 9 f) ≡ true

-- ---- what passes

-- The lines of a form pass the checks.
record Passes (f : Form) : Type 0 where
  starts : Starts f
  closes : Closes f
  parts : Parts f
  once : LeftOutOnce f
  completes : IsCompleted f

pass_1 : (k : Kind) → Passes (in_profile profiles.One k)
pass_1 g.program = record { starts = refl; closes = refl; parts = refl; once = refl; completes = refl }
pass_1 _ = record { starts = refl; closes = refl; parts = refl; once = refl; completes = refl }

pass_2 : (k : Kind) → Passes (in_profile profiles.Two k)
pass_2 g.program = record { starts = refl; closes = refl; parts = refl; once = refl; completes = refl }
pass_2 _ = record { starts = refl; closes = refl; parts = refl; once = refl; completes = refl }

passes : (f : Form) → Passes f
passes = each_form Passes pass_1 pass_2

pub starts : (f : Form) → Starts f
starts f = (passes f).starts

pub closes : (f : Form) → Closes f
closes f = (passes f).closes

pub lines_part : (f : Form) → Parts f
lines_part f = (passes f).parts

pub left_out_once : (f : Form) → LeftOutOnce f
left_out_once f = (passes f).once

pub completes : (f : Form) → is_some (completion 9 f) ≡ true
completes f = (passes f).completes
