-- What each way through a function reads, and where it halts.
use Rattle.std.proofs.Common.{◌≡◌, ℕ, ◌+◌, ◌<◌, true, false, Some, None, List, [], ◌∷◌, ◌++◌, inl}
use Rattle.std.proofs.Common.{inr, refl, sym, length, append_assoc, map, arith, append-nil, Result, Ok, Err, MatchResult}
use Rattle.std.proofs.lemmas.List.{map-append}
use Rattle.revc_base.specs.declared.place.Place.{Place}
use Rattle.revs_lexer.specs.declared.sign.Sign.{Sign}
use Rattle.revs_lexer.specs.declared.sign.Sign.TheVariants as signs
use Rattle.revs_lexer.specs.declared.word.Word.TheVariants as words
use Rattle.revs_lexer.specs.declared.token.Tok.TheVariants as toks
use Rattle.revs_lexer.specs.declared.token.Token.{Token}
use Rattle.revs_lexer.specs.declared.packed.Rest.{Rest}
use Rattle.revs_lexer.specs.Rest.{left}
use Rattle.revs_grammar.specs.declared.profile.Profile.{Profile}
use Rattle.revs_grammar.specs.Forms.{any_name, word, sign, code, held, in_profile, common, Form, Val, IsOneOf, line, one, sub, same}
use Rattle.revs_grammar.specs.Forms as g
use Rattle.revs_grammar.specs.Productions.{productions, xor_of, and_of, bound_of, parts_of, apply_of, in_front}
use Rattle.revs_grammar.specs.Sentences.{Symbol, token, kept_token, form, Vals, few_levels}
use Rattle.revs_grammar.specs.inside.Machine.{Stack}
use Rattle.revs_grammar.proofs.CheckHints.{may_follow}
use Rattle.revs_grammar.proofs.CheckLemmas.{begin}
use Rattle.revs_terms.specs.Trees.{Tree, ItemTree, trees, item_trees, used, bool, reg, block, function, parts, apply, append}
use Rattle.revs_terms.specs.Trees.{ands, xors, assign, bind, tree_of, item_tree_of}
use Rattle.revs_terms.specs.declared.term.Name.{Name}
use Rattle.revs_terms.specs.declared.term.Step.{Step}
use Rattle.revs_terms.specs.declared.term.Part.{Part}
use Rattle.revs_terms.specs.declared.term.Part.TheVariants as part_of
use Rattle.revs_terms.specs.declared.term.Item.{Item}
use Rattle.revs_terms.specs.declared.term.Term.{Term}
use Rattle.revs_parser.specs.declared.stop.Stop.{Stop}
use Rattle.revs_parser.specs.declared.stop.Stop.TheVariants as stops
use Rattle.revs_parser.specs.declared.expression.Infix.{Infix}
use Rattle.revs_parser.specs.declared.expression.Infix.TheVariants as infixes
use Rattle.revs_parser.specs.declared.front.Operator.{Operator}
use Rattle.revs_parser.specs.declared.front.Operator.TheVariants as operators
use Rattle.revs_parser.specs.declared.front.Opener.{Opener}
use Rattle.revs_parser.specs.declared.front.Opener.TheVariants as openers
use Rattle.revs_parser.specs.inside.Reading.{Passes, Reads, Skips, ReadsForm, Halts, HaltsIn, Heads, NotFirst, base_first, name_first}
use Rattle.revs_parser.specs.inside.Reading.{ReadsAnywhere, HaltsAnywhere, HaltsAtLevels}
use Rattle.revs_parser.specs.inside.Forms.{NoPartBehind}
use Rattle.revs_parser.specs.inside.Forms.{ReadsNames, names_rest, in_part, ReadsPart, in_function, ReadsFunction, in_application, ReadsAtoms}
use Rattle.revs_parser.specs.inside.Forms.{in_register, ReadsRegister, ReadsBlock, ReadsItem, ReadsBinding}
use Rattle.revs_parser.specs.inside.Forms.{ReadsFunctionNames, in_bound_names, closed_by, operated, ReadsOperator, NoOperator, in_append, ReadsAppend}
use Rattle.revs_parser.specs.inside.Forms.{opening, NoOpener, infix_sign, infix_term, in_chain, in_operand, ReadsChain, ReadsOperand, in_block}
use Rattle.revs_parser.specs.inside.Forms.{in_opened, ReadsOpened}
use Rattle.revs_parser.proofs.PassingLemmas.{stays, passes_then, turned, beside, passes_reads, and_then, and_maybe, line_passes}
use Rattle.revs_parser.proofs.PassingLemmas.{kept_passes, one_token, smaller_behind, halts_first, halts_there, halts_behind, halts_past}
use Rattle.revs_parser.proofs.StepLemmas as m
use Rattle.revs_parser.proofs.StepLemmas.{by_first, kept_goes}
use Rattle.revs_parser.proofs.TokenLemmas.{a_sign, a_word, opened, opens_too_many}
use Rattle.revs_parser.proofs.TokenLemmas.{by_pieces, by_token, halts_by_pieces, halts_by_token, left_out, skips}

-- ---- expressions

module _ {p : Profile} where
  module _ (l : ℕ) {at : Place} {ts mid : List Token} (h : Heads (toks.Word words.Fun) at ts mid) where
    pub expression_function : {t : Tree} {rest : List Token} {inner : ℕ} → inner ≡ l + 1 → few_levels (l + 1) ≡ true → ReadsFunction p inner at t mid rest
        → ReadsForm (in_profile p g.expression) l t ts rest
    expression_function e ok r =
        let r' = rw e at r in
        rw r'.is (by_token (in_profile p g.expression) l _ (inl refl) h refl refl refl
        (and_then (opened (word words.Fun) (l + 1) ok h refl refl refl) r'.reads))

    pub expression_in_function : {stop : Stop} {inner : ℕ} → inner ≡ l + 1 → few_levels (l + 1) ≡ true → Halts (in_function p inner) mid stop
        → HaltsIn (in_profile p g.expression) l ts stop
    expression_in_function e ok r =
        halts_by_token (in_profile p g.expression) l _ (inl refl) h refl refl refl
        (halts_behind (in_function p (l + 1)) (opened (word words.Fun) (l + 1) ok h refl refl refl) (rw e at r))

  module _ (l : ℕ) {ts : List Token} (h : NotFirst (toks.Word words.Fun) ts) where
    pub expression_in_sum : {stop : Stop} → HaltsIn (in_profile p g.sum) l ts stop → HaltsIn (in_profile p g.expression) l ts stop
    expression_in_sum r = halts_there (form (in_profile p g.expression) l ∷ []) (form (in_profile p g.sum) l ∷ form (in_profile p g.assigned) l ∷ [])
        (m.as_expression p l ts h)
        (halts_first (form (in_profile p g.assigned) l ∷ []) r)

    pub expression_sum : {left : Tree} {rest : List Token} → ReadsForm (in_profile p g.sum) l left ts rest → NotFirst (toks.Sign signs.Assign) rest
        → ReadsForm (in_profile p g.expression) l left ts rest
    expression_sum {rest} r k =
        by_pieces (in_profile p g.expression) l _ (inr (inl refl)) (m.as_expression p l ts h)
        (and_maybe r (skips (left_out (in_profile p g.assigned) l _ (inl refl) (m.no_assigned p l rest k))))

    pub expression_in_assigned : {left : Tree} {at : Place} {mid behind : List Token} {stop : Stop} → ReadsForm (in_profile p g.sum) l left ts mid
        → Heads (toks.Sign signs.Assign) at mid behind → HaltsIn (in_profile p g.sum) l behind stop → HaltsIn (in_profile p g.expression) l ts stop
    expression_in_assigned r k hs =
        halts_there (form (in_profile p g.expression) l ∷ []) (form (in_profile p g.sum) l ∷ form (in_profile p g.assigned) l ∷ []) (m.as_expression p l ts h)
        (halts_behind (form (in_profile p g.assigned) l ∷ []) r (halts_by_token (in_profile p g.assigned) l _ (inr (inl refl)) k refl refl refl
        (halts_behind (form (in_profile p g.sum) l ∷ []) (a_sign k) hs)))

    pub expression_assign : {left right whole : Tree} {at : Place} {mid behind rest : List Token} → ReadsForm (in_profile p g.sum) l left ts mid
        → Heads (toks.Sign signs.Assign) at mid behind → ReadsForm (in_profile p g.sum) l right behind rest → whole ≡ assign left right
        → ReadsForm (in_profile p g.expression) l whole ts rest
    expression_assign r k q w =
        rw w (by_pieces (in_profile p g.expression) l _ (inr (inl refl)) (m.as_expression p l ts h)
        (and_then r (by_token (in_profile p g.assigned) l _ (inr (inl refl)) k refl refl refl (and_then (a_sign k) q))))

-- ---- a form that repeats

-- { name }, { part }, { param }: what was read so far stands in front of what more comes.
pub record Repeats (f : Form) (l : ℕ) (onto : Val f → Val f) (ts rest : List Token) : Type 0 where
  pub passes : Passes (form f l ∷ []) (form f l ∷ []) (λ us. (onto us.0, tt)) ts rest

pub repeats_begun : (f : Form) (l : ℕ) (onto : Val f → Val f) (ts : List Token) → ((v : Val f) → v ≡ onto v) → Repeats f l onto ts ts
repeats_begun f l onto ts e = record {
  passes = turned (λ us. (onto us.0, tt)) (λ us. rw (← (e us.0))) (stays (form f l ∷ []) ts);
}

-- One element more was read.
pub repeats_more : {f : Form} {l : ℕ} {onto one : Val f → Val f} (new : Val f → Val f) {ts mid rest : List Token} → Repeats f l onto ts mid
    → Repeats f l one mid rest → ((v : Val f) → onto (one v) ≡ new v) → Repeats f l new ts rest
repeats_more new r q e = record {
  passes = turned (λ us. (new us.0, tt)) (λ us. rw (e us.0)) (passes_then r.passes q.passes);
}

-- No element comes any more.
pub repeats_done : {f : Form} {l : ℕ} {onto : Val f → Val f} {ts rest : List Token} (none : Val f) → Repeats f l onto ts rest
    → Passes (form f l ∷ []) [] (λ _. (none, tt)) rest rest → Skips (form f l ∷ []) (onto none, tt) ts rest
repeats_done none r d = record { passes = passes_then r.passes d }

pub repeats_halts : {f : Form} {l : ℕ} {onto : Val f → Val f} {ts mid : List Token} {stop : Stop} → Repeats f l onto ts mid → HaltsIn f l mid stop
    → HaltsIn f l ts stop
repeats_halts r h = halts_past r.passes h

-- The names so far, behind those before.
pub record Names (before all : List Name) (ts rest : List Token) : Type 0 where
  pub read : List Name
  pub all_names : all ≡ before ++ read
  pub repeats : Repeats (common g.names) 0 (λ more. read ++ more) ts rest

pub names_begun : (names : List Name) (ts : List Token) → Names names names ts ts
names_begun names ts = record { read = []; all_names = sym (append-nil names); repeats = repeats_begun (common g.names) 0 (λ more. [] ++ more) ts (λ v. refl) }

pub names_more : {before all new : List Name} {next : Name} {ts mid rest : List Token} → Names before all ts mid → name_first mid ≡ true
    → Reads (kept_token any_name ∷ []) (next, tt) mid rest → new ≡ all ++ next ∷ [] → Names before new ts rest
names_more {next} {mid} {rest} n f r e = record {
  read = n.read ++ next ∷ [];
  all_names = rw (e, n.all_names, append_assoc);
  repeats = repeats_more (λ more. (n.read ++ next ∷ []) ++ more) n.repeats (one mid rest f r) (λ more. rw append_assoc);
}
  where
    one : (mid rest : List Token) → name_first mid ≡ true → Reads (kept_token any_name ∷ []) (next, tt) mid rest
        → Repeats (common g.names) 0 (λ more. next ∷ more) mid rest
    one mid rest f r = record {
      passes = passes_then (line_passes (common g.names) 0 _ (inr (inl refl)) (m.more_names mid f))
          (beside (form (common g.names) 0 ∷ []) r.passes);
    }

module _ {before all : List Name} {ts mid : List Token} (n : Names before all ts mid) where
  names_passed : name_first mid ≡ false → Passes (form (common g.names) 0 ∷ []) [] (λ _. (n.read, tt)) ts mid
  names_passed f =
      let skips = rw (append-nil n.read) at (repeats_done [] n.repeats (left_out (common g.names) 0 _ (inl refl) (m.no_names mid f))) in skips.passes

  pub names_done : {end : Sign} {rest : List Token} → name_first mid ≡ false → Reads (token (sign end) ∷ []) tt mid rest → ReadsNames before all end ts rest
  names_done {end} f r = record {
    more = n.read;
    all_names = n.all_names;
    reads = passes_reads (beside (token (sign end) ∷ []) (names_passed f)) r;
  }

  pub names_unended : (end : Sign) {stop : Stop} → name_first mid ≡ false → Halts (token (sign end) ∷ []) mid stop → Halts (names_rest end) ts stop
  names_unended end f h = halts_past (beside (token (sign end) ∷ []) (names_passed f)) h

  pub names_halt : (end : Sign) {stop : Stop} → name_first mid ≡ true → Halts (kept_token any_name ∷ []) mid stop → Halts (names_rest end) ts stop
  names_halt end f h =
      halts_first (token (sign end) ∷ [])
      (repeats_halts n.repeats (halts_there (form (common g.names) 0 ∷ []) (kept_token any_name ∷ form (common g.names) 0 ∷ []) (m.more_names mid f)
      (halts_first (form (common g.names) 0 ∷ []) h)))

-- ---- a part, behind its dot

module _ (p : Profile) where
  -- The parts so far.
  pub record Parts (read : List Part) (ts rest : List Token) : Type 0 where
    pub repeats : Repeats (in_profile p g.parts) 0 (λ more. read ++ more) ts rest

module _ {p : Profile} where
  module _ {i : List Step} {ts a b : List Token} (r : Reads (token (sign signs.OpenSquare) ∷ []) tt ts a) (n : ReadsForm (in_profile p g.num) 0 i a b) where
    pub part_index : (at : Place) {rest : List Token} → NotFirst (toks.Sign signs.DotDot) b → Reads (token (sign signs.CloseSquare) ∷ []) tt b rest
        → ReadsPart p at (part_of.Index i at) ts rest
    part_index at k q = record {
      first = i;
      last = None;
      is = refl;
      reads = and_then r (and_then n (by_pieces (in_profile p g.part_end) 0 _ (inl refl) (m.as_part_end p b k) q));
    }

    pub part_slice : (at : Place) {by : Place} {j : List Step} {c d rest : List Token} → Heads (toks.Sign signs.DotDot) by b c
        → ReadsForm (in_profile p g.num) 0 j c d → Reads (token (sign signs.CloseSquare) ∷ []) tt d rest → ReadsPart p at (part_of.Slice i j at) ts rest
    part_slice at {j} k o q = record {
      first = i;
      last = Some j;
      is = refl;
      reads = and_then r (and_then n (by_token (in_profile p g.part_end) 0 _ (inr (inl refl)) k refl refl refl (and_then (a_sign k) (and_then o q))));
    }

    in_end : {stop : Stop} → HaltsIn (in_profile p g.part_end) 0 b stop → Halts (in_part p) ts stop
    in_end h = halts_behind (form (in_profile p g.part_end) 0 ∷ []) (and_then r n) h

    pub part_unclosed : {stop : Stop} → NotFirst (toks.Sign signs.DotDot) b → Halts (token (sign signs.CloseSquare) ∷ []) b stop → Halts (in_part p) ts stop
    part_unclosed k h = in_end (halts_by_pieces (in_profile p g.part_end) 0 _ (inl refl) (m.as_part_end p b k) h)

    pub part_in_last : {by : Place} {c : List Token} {stop : Stop} → Heads (toks.Sign signs.DotDot) by b c → HaltsIn (in_profile p g.num) 0 c stop
        → Halts (in_part p) ts stop
    part_in_last k h = in_end (halts_by_token (in_profile p g.part_end) 0 _ (inr (inl refl)) k refl refl refl
        (halts_behind (form (in_profile p g.num) 0 ∷ token (sign signs.CloseSquare) ∷ []) (a_sign k) (halts_first (token (sign signs.CloseSquare) ∷ []) h)))

    pub slice_unclosed : {by : Place} {j : List Step} {c d : List Token} {stop : Stop} → Heads (toks.Sign signs.DotDot) by b c
        → ReadsForm (in_profile p g.num) 0 j c d → Halts (token (sign signs.CloseSquare) ∷ []) d stop → Halts (in_part p) ts stop
    slice_unclosed k o h = in_end (halts_by_token (in_profile p g.part_end) 0 _ (inr (inl refl)) k refl refl refl
        (halts_behind (token (sign signs.CloseSquare) ∷ []) (and_then (a_sign k) o) h))

  pub part_unopened : {ts : List Token} {stop : Stop} → Halts (token (sign signs.OpenSquare) ∷ []) ts stop → Halts (in_part p) ts stop
  part_unopened h = halts_first (form (in_profile p g.num) 0 ∷ form (in_profile p g.part_end) 0 ∷ []) h

  pub part_in_first : {ts a : List Token} {stop : Stop} → Reads (token (sign signs.OpenSquare) ∷ []) tt ts a → HaltsIn (in_profile p g.num) 0 a stop
      → Halts (in_part p) ts stop
  part_in_first r h = halts_first (form (in_profile p g.part_end) 0 ∷ []) (halts_behind (form (in_profile p g.num) 0 ∷ []) r h)

  pub parts_begun : (items : List Part) (ts : List Token) → items ≡ [] → Parts p items ts ts
  parts_begun items ts e = rw e (record { repeats = repeats_begun (in_profile p g.parts) 0 (λ more. [] ++ more) ts (λ v. refl) })

  pub parts_more : {items new : List Part} {next : Part} {at : Place} {ts mid behind rest : List Token} → Parts p items ts mid
      → Heads (toks.Sign signs.Dot) at mid behind → ReadsPart p at next behind rest → new ≡ items ++ next ∷ [] → Parts p new ts rest
  parts_more {items} {next} {mid} {rest} r h q e =
      rw e (record { repeats = repeats_more (λ more. (items ++ next ∷ []) ++ more) r.repeats one (λ more. rw append_assoc) })
    where
      a_part : ReadsForm (in_profile p g.part) 0 next mid rest
      a_part =
          rw q.is (by_token (in_profile p g.part) 0 _ (inl refl) h refl refl refl
          (and_then (one_token h (kept_passes (sign signs.Dot) refl h (kept_goes (sign signs.Dot) refl refl h))) q.reads))

      one : Repeats (in_profile p g.parts) 0 (λ more. next ∷ more) mid rest
      one = record {
        passes = passes_then (line_passes (in_profile p g.parts) 0 _ (inr (inl refl)) (by_first (in_profile p g.parts) 0 _ (inr (inl refl)) h refl refl refl))
            (beside (form (in_profile p g.parts) 0 ∷ []) a_part.passes);
      }

  pub parts_halt : {items : List Part} {at : Place} {ts mid behind : List Token} {stop : Stop} → Parts p items ts mid
      → Heads (toks.Sign signs.Dot) at mid behind
      → Halts (in_part p) behind stop → HaltsIn (in_profile p g.parts) 0 ts stop
  parts_halt r h k =
      repeats_halts r.repeats (halts_by_token (in_profile p g.parts) 0 _ (inr (inl refl)) h refl refl refl (halts_first (form (in_profile p g.parts) 0 ∷ [])
      (halts_by_token (in_profile p g.part) 0 _ (inl refl) h refl refl refl
      (halts_behind (in_part p) (one_token h (kept_passes (sign signs.Dot) refl h (kept_goes (sign signs.Dot) refl refl h))) k))))

  pub parts_done : {items : List Part} {ts rest : List Token} → Parts p items ts rest → NotFirst (toks.Sign signs.Dot) rest
      → Skips (form (in_profile p g.parts) 0 ∷ []) (items, tt) ts rest
  parts_done {items} {rest} r k = rw (append-nil items) at (repeats_done [] r.repeats (left_out (in_profile p g.parts) 0 _ (inl refl) (m.no_parts p rest k)))

-- ---- chains

-- A chain before its next element: what was read so far stands in front of it and of what more comes. The symbols `es` are left
-- with the next element, the rest of the chain and `end`.
pub record Chain (es : Stack) (one more : Symbol) (end : Stack) (turn : Vals (one ∷ more ∷ end) → Vals es) (ts behind : List Token) : Type 0 where
  pub passes : Passes es (one ∷ more ∷ end) turn ts behind

pub chain_halts : {es : Stack} {one more : Symbol} {end : Stack} {turn : Vals (one ∷ more ∷ end) → Vals es} {ts behind : List Token} {stop : Stop}
    → Chain es one more end turn ts behind → Halts (one ∷ []) behind stop → Halts es ts stop
chain_halts {more = more} {end = end} c h = halts_past c.passes (halts_first (more ∷ end) h)

-- The next element of a chain is read, and another is behind it, or none.
module _ {es : Stack} {f more : Form} {l : ℕ} {turn : Vals (form f l ∷ form more l ∷ []) → Vals es} {v : Val f} {ts behind rest : List Token}
    (c : Passes es (form f l ∷ form more l ∷ []) turn ts behind) (r : ReadsForm f l v behind rest) where
  another_behind : {next : Vals (form f l ∷ form more l ∷ []) → Vals (form more l ∷ [])} {mid : List Token}
      → Passes (form more l ∷ []) (form f l ∷ form more l ∷ []) next rest mid
      → Passes es (form f l ∷ form more l ∷ []) (λ us. turn (v, next us)) ts mid
  another_behind n = passes_then c (passes_then (beside (form more l ∷ []) r.passes) n)

  none_behind : {none : Val more} → Passes (form more l ∷ []) [] (λ _. (none, tt)) rest rest → Reads es (turn (v, (none, tt))) ts rest
  none_behind d = passes_reads c (and_maybe r (skips d))

-- A sign stands in front of another element.
behind_sign : {f more : Form} (s : Sign) (build : Val f → Val more → Val more) (l : ℕ) {at : Place} {ts rest : List Token}
    → IsOneOf (line (one (sign s) ∷ sub same f ∷ sub same more ∷ []) build) (productions more) → Heads (toks.Sign s) at ts rest
    → begin (may_follow more) (code (toks.Sign s)) (one (sign s) ∷ sub same f ∷ sub same more ∷ []) ≡ true
    → Passes (form more l ∷ []) (form f l ∷ form more l ∷ []) (λ us. (build us.0 us.1.0, tt)) ts rest
behind_sign {f} {more} s build l i h b =
    passes_then (line_passes more l _ i (by_first more l _ i h refl b refl)) (beside (form f l ∷ form more l ∷ []) (a_sign h).passes)

-- ---- sums and products

module _ {p : Profile} where
  sum_line : (l : ℕ) (ts : List Token) → Passes (form (in_profile p g.sum) l ∷ []) (form (in_profile p g.product) l ∷ form (in_profile p g.sums) l ∷ [])
      (λ us. (xor_of us.0 us.1.0, tt)) ts ts
  sum_line l ts = line_passes (in_profile p g.sum) l _ (inl refl) (m.as_sum p l ts)

  product_line : (l : ℕ) (ts : List Token)
      → Passes (form (in_profile p g.product) l ∷ []) (form (in_profile p g.application) l ∷ form (in_profile p g.products) l ∷ [])
      (λ us. (and_of us.0 us.1.0, tt)) ts ts
  product_line l ts = line_passes (in_profile p g.product) l _ (inl refl) (m.as_product p l ts)

  another_product : (l : ℕ) {at : Place} {ts rest : List Token} → Heads (toks.Sign signs.Xor) at ts rest
      → Passes (form (in_profile p g.sums) l ∷ []) (form (in_profile p g.product) l ∷ form (in_profile p g.sums) l ∷ []) (λ us. (us.0 ∷ us.1.0, tt)) ts rest
  another_product l h = behind_sign signs.Xor (λ next more. next ∷ more) l (inr (inl refl)) h refl

  another_application : (l : ℕ) {at : Place} {ts rest : List Token} → Heads (toks.Sign signs.And) at ts rest
      → Passes (form (in_profile p g.products) l ∷ []) (form (in_profile p g.application) l ∷ form (in_profile p g.products) l ∷ [])
      (λ us. (us.0 ∷ us.1.0, tt)) ts rest
  another_application l h = behind_sign signs.And (λ next more. next ∷ more) l (inr (inl refl)) h refl

  no_product : (l : ℕ) (ts : List Token) → NotFirst (toks.Sign signs.Xor) ts → Passes (form (in_profile p g.sums) l ∷ []) [] (λ _. ([], tt)) ts ts
  no_product l ts k = left_out (in_profile p g.sums) l _ (inl refl) (m.no_sums p l ts k)

  no_application : (l : ℕ) (ts : List Token) → NotFirst (toks.Sign signs.And) ts → Passes (form (in_profile p g.products) l ∷ []) [] (λ _. ([], tt)) ts ts
  no_application l ts k = left_out (in_profile p g.products) l _ (inl refl) (m.no_products p l ts k)

module _ (p : Profile) where
  abbrev SoFar : Infix → ℕ → List Tree → List Token → List Token → Type 0
  SoFar infixes.Xor l read ts behind = Chain (in_chain infixes.Xor p l) (form (in_profile p g.product) l) (form (in_profile p g.sums) l) []
      (λ us. (xors (trees (read ++ us.0 ∷ us.1.0)), tt)) ts behind
  SoFar infixes.And l read ts behind = Chain (in_chain infixes.And p l) (form (in_profile p g.application) l) (form (in_profile p g.products) l) []
      (λ us. (ands (trees (read ++ us.0 ∷ us.1.0)), tt)) ts behind

  -- The operands so far.
  pub record InChain (x : Infix) (l : ℕ) (read : List Tree) (ts behind : List Token) : Type 0 where
    pub so_far : SoFar x l read ts behind

module _ {p : Profile} where
  -- A chain has begun: the first operand was read, and a sign stood behind it.
  pub chain_begun : (x : Infix) (l : ℕ) {t : Term} {items : List Term} {at : Place} {ts rest behind : List Token} → ReadsOperand x p l (tree_of t) ts rest
      → Heads (toks.Sign (infix_sign x)) at rest behind → items ≡ t ∷ [] → InChain p x l (map tree_of items) ts behind
  chain_begun infixes.Xor l {ts = ts} r h e = rw e (record { so_far = record { passes = another_behind (sum_line l ts) r.reads (another_product l h) } })
  chain_begun infixes.And l {ts = ts} r h e =
      rw e (record { so_far = record { passes = another_behind (product_line l ts) r.reads (another_application l h) } })

  pub chain_more : (x : Infix) (l : ℕ) (items : List Term) (t : Term) {new : List Term} {at : Place} {ts behind rest mid : List Token}
      → InChain p x l (map tree_of items) ts behind → ReadsOperand x p l (tree_of t) behind rest → Heads (toks.Sign (infix_sign x)) at rest mid
      → new ≡ items ++ t ∷ [] → InChain p x l (map tree_of new) ts mid
  chain_more infixes.Xor l items t c r h e =
      rw (e, map-append) (record {
        so_far = record { passes = turned _ (λ us. rw append_assoc) (another_behind c.so_far.passes r.reads (another_product l h)) };
      })
  chain_more infixes.And l items t c r h e =
      rw (e, map-append) (record {
        so_far = record { passes = turned _ (λ us. rw append_assoc) (another_behind c.so_far.passes r.reads (another_application l h)) };
      })

  pub chain_done : (x : Infix) (l : ℕ) (items : List Term) (t : Term) {new : List Term} {whole : Tree} {ts behind rest : List Token}
      → InChain p x l (map tree_of items) ts behind → ReadsOperand x p l (tree_of t) behind rest → NotFirst (toks.Sign (infix_sign x)) rest
      → new ≡ items ++ t ∷ [] → whole ≡ infix_term x (map tree_of new) → ReadsChain x p l whole ts rest
  chain_done infixes.Xor l items t {rest = rest} c r k e w =
      rw (w, e, map-append) (record { reads = none_behind c.so_far.passes r.reads (no_product l rest k) })
  chain_done infixes.And l items t {rest = rest} c r k e w =
      rw (w, e, map-append) (record { reads = none_behind c.so_far.passes r.reads (no_application l rest k) })

  -- an operand alone
  pub chain_alone : (x : Infix) (l : ℕ) {t : Tree} {ts rest : List Token} → ReadsOperand x p l t ts rest → NotFirst (toks.Sign (infix_sign x)) rest
      → ReadsChain x p l t ts rest
  chain_alone infixes.Xor l {ts = ts} {rest = rest} r k = record { reads = none_behind (sum_line l ts) r.reads (no_product l rest k) }
  chain_alone infixes.And l {ts = ts} {rest = rest} r k = record { reads = none_behind (product_line l ts) r.reads (no_application l rest k) }

  pub chain_no_next : (x : Infix) (l : ℕ) {read : List Tree} {ts behind : List Token} {stop : Stop} → InChain p x l read ts behind
      → Halts (in_operand x p l) behind stop → Halts (in_chain x p l) ts stop
  chain_no_next infixes.Xor l c h = chain_halts c.so_far h
  chain_no_next infixes.And l c h = chain_halts c.so_far h

  pub chain_no_first : (x : Infix) (l : ℕ) {ts : List Token} {stop : Stop} → Halts (in_operand x p l) ts stop → Halts (in_chain x p l) ts stop
  chain_no_first infixes.Xor l {ts = ts} h = halts_past (sum_line l ts) (halts_first (form (in_profile p g.sums) l ∷ []) h)
  chain_no_first infixes.And l {ts = ts} h = halts_past (product_line l ts) (halts_first (form (in_profile p g.products) l ∷ []) h)

  pub chain_shorter : (x : Infix) (l : ℕ) {s : Sign} {t : Tree} {at : Place} {ts mid rest : List Token} → ReadsOperand x p l t ts mid
      → Heads (toks.Sign s) at mid rest → length rest < length ts
  chain_shorter infixes.Xor l r h = smaller_behind r.reads h
  chain_shorter infixes.And l r h = smaller_behind r.reads h

-- ---- an atom and its arguments

module _ (p : Profile) where
  abbrev pub InArguments : ℕ → Tree → List Tree → List Token → List Token → Type 0
  InArguments l head read ts behind = Chain (in_application p l) (form (in_profile p g.atom) l) (form (in_profile p g.atoms) l) []
      (λ us. (head, (read ++ us.0 ∷ us.1.0, tt))) ts behind

module _ {p : Profile} where
  another_atom : (l : ℕ) (ts : List Token) → base_first ts ≡ true
      → Passes (form (in_profile p g.atoms) l ∷ []) (form (in_profile p g.atom) l ∷ form (in_profile p g.atoms) l ∷ []) (λ us. (us.0 ∷ us.1.0, tt)) ts ts
  another_atom l ts h = line_passes (in_profile p g.atoms) l _ (inr (inl refl)) (m.more_atoms p l ts h)

  pub arguments_begun : (l : ℕ) (head held : Term) {items : List Term} {ts rest : List Token} → ReadsForm (in_profile p g.atom) l (tree_of head) ts rest
      → base_first rest ≡ true → items ≡ [] → held ≡ head → InArguments p l (tree_of held) (map tree_of items) ts rest
  arguments_begun l head held {rest} r h e w =
      rw e (rw w
      (record { passes = passes_then (beside (form (in_profile p g.atoms) l ∷ []) r.passes) (another_atom l rest h) }))

  pub arguments_more : (l : ℕ) (head : Tree) (items : List Term) (t : Term) {new : List Term} {ts behind rest : List Token}
      → InArguments p l head (map tree_of items) ts behind
      → ReadsForm (in_profile p g.atom) l (tree_of t) behind rest → base_first rest ≡ true → new ≡ items ++ t ∷ []
      → InArguments p l head (map tree_of new) ts rest
  arguments_more l head items t {rest} c r h e =
      rw (e, map-append) (record { passes = turned _ (λ us. rw append_assoc) (another_behind c.passes r (another_atom l rest h)) })

apply_more : (head : Tree) (read : List Tree) (t : Tree) → apply head (trees (read ++ t ∷ [])) ≡ apply_of head (read ++ t ∷ [])
apply_more head [] t = refl
apply_more head (x ∷ xs) t = refl

module _ {p : Profile} where
  pub arguments_done : (l : ℕ) (head : Tree) (items : List Term) (t : Term) {new : List Term} {whole : Tree} {ts behind rest : List Token}
      → InArguments p l head (map tree_of items) ts behind
      → ReadsForm (in_profile p g.atom) l (tree_of t) behind rest → base_first rest ≡ false → new ≡ items ++ t ∷ []
      → whole ≡ apply head (trees (map tree_of new)) → ReadsAtoms p l whole ts rest
  arguments_done l head items t {rest} c r k e w = record {
    head = head;
    more = map tree_of items ++ tree_of t ∷ [];
    is = rw (w, e, map-append) (apply_more head (map tree_of items) (tree_of t));
    reads = none_behind c.passes r (left_out (in_profile p g.atoms) l _ (inl refl) (m.no_atoms p l rest k));
  }

  -- an atom with no argument
  pub atom_alone : (l : ℕ) {t : Tree} {ts rest : List Token} → ReadsForm (in_profile p g.atom) l t ts rest → base_first rest ≡ false → ReadsAtoms p l t ts rest
  atom_alone l {t} {rest} r k = record {
    head = t;
    more = [];
    is = refl;
    reads = and_maybe r (skips (left_out (in_profile p g.atoms) l _ (inl refl) (m.no_atoms p l rest k)));
  }

-- ---- the elements of a register

module _ (p : Profile) where
  -- what is read of a register between its brackets
  abbrev between : ℕ → Stack
  between l = form (in_profile p g.expression) l ∷ form (in_profile p g.elements) l ∷ []

-- the elements so far, and more
abbrev pub elements_of : {A : Type 0} → List A → A → List A → A × (List A × Unit {0})
elements_of [] next more = (next, (more, tt))
elements_of (first ∷ read) next more = (first, (read ++ next ∷ more, tt))

pub elements_more : {A : Type 0} (read : List A) (t next : A) (more : List A) → elements_of read t (next ∷ more) ≡ elements_of (read ++ t ∷ []) next more
elements_more [] t next more = refl
elements_more (first ∷ read) t next more = rw (append_assoc read (t ∷ []) (next ∷ more))

module _ (p : Profile) where
  pub record InRegister (l : ℕ) (read : List Tree) (ts behind : List Token) : Type 0 where
    pub mid : List Token
    pub bracket : Reads (token (sign signs.OpenSquare) ∷ []) tt ts mid
    pub chain : Chain (between p l) (form (in_profile p g.expression) l) (form (in_profile p g.elements) l) [] (λ us. elements_of read us.0 us.1.0) mid behind

module _ {p : Profile} where
  another_element : (l : ℕ) {at : Place} {ts rest : List Token} → Heads (toks.Sign signs.Semi) at ts rest
      → Passes (form (in_profile p g.elements) l ∷ []) (form (in_profile p g.expression) l ∷ form (in_profile p g.elements) l ∷ [])
      (λ us. (us.0 ∷ us.1.0, tt)) ts rest
  another_element l h = behind_sign signs.Semi (λ next more. next ∷ more) l (inr (inl refl)) h refl

  pub register_begun : (l : ℕ) {items : List Term} {ts rest : List Token} → Reads (token (sign signs.OpenSquare) ∷ []) tt ts rest
      → items ≡ [] → InRegister p l (map tree_of items) ts rest
  register_begun l {rest} r e = rw e (record { mid = rest; bracket = r; chain = record { passes = turned _ (λ us. refl) (stays (between p l) rest) } })

  pub register_more : (l : ℕ) (items : List Term) (t : Term) {new : List Term} {at : Place} {ts behind rest mid : List Token}
      → InRegister p l (map tree_of items) ts behind
      → ReadsForm (in_profile p g.expression) l (tree_of t) behind rest → Heads (toks.Sign signs.Semi) at rest mid → new ≡ items ++ t ∷ []
      → InRegister p l (map tree_of new) ts mid
  register_more l items t {mid} c r h e =
      rw (e, map-append) (record {
        mid = c.mid;
        bracket = c.bracket;
        chain = record {
          passes = turned _ (λ us. elements_more (map tree_of items) (tree_of t) us.0 us.1.0)
              (another_behind c.chain.passes r (another_element l h));
        };
      })

  read_register : (l : ℕ) (at : Place) (read : List Tree) (t whole : Tree) (ts rest : List Token) → whole ≡ reg (trees (read ++ t ∷ [])) at
      → Reads (in_register p l) (elements_of read t []) ts rest → ReadsRegister p l at whole ts rest
  read_register l at [] t whole ts rest e r = record { first = t; more = []; is = e; reads = r }
  read_register l at (x ∷ xs) t whole ts rest e r = record { first = x; more = xs ++ t ∷ []; is = e; reads = r }

  pub register_done : (l : ℕ) (at : Place) (items : List Term) (t : Term) {new : List Term} {whole : Tree} {ts behind rest final : List Token}
      → InRegister p l (map tree_of items) ts behind
      → ReadsForm (in_profile p g.expression) l (tree_of t) behind rest → NotFirst (toks.Sign signs.Semi) rest → new ≡ items ++ t ∷ []
      → Reads (token (sign signs.CloseSquare) ∷ []) tt rest final → whole ≡ reg (trees (map tree_of new)) at → ReadsRegister p l at whole ts final
  register_done l at items t {whole} {ts} {rest} {final} c r k e q w =
      read_register l at (map tree_of items) (tree_of t) whole ts final (rw (w, e, map-append))
      (and_then c.bracket (and_then (passes_reads c.chain.passes
      (and_maybe r (skips (left_out (in_profile p g.elements) l _ (inl refl) (m.no_elements p l rest k))))) q))

  pub register_unclosed : (l : ℕ) {read : List Tree} {t : Tree} {ts behind rest : List Token} {stop : Stop} → InRegister p l read ts behind
      → ReadsForm (in_profile p g.expression) l t behind rest → NotFirst (toks.Sign signs.Semi) rest → Halts (token (sign signs.CloseSquare) ∷ []) rest stop
      → Halts (in_register p l) ts stop
  register_unclosed l {rest} c r k h =
      halts_behind (token (sign signs.CloseSquare) ∷ [])
      (and_then c.bracket (passes_reads c.chain.passes (and_maybe r (skips (left_out (in_profile p g.elements) l _ (inl refl) (m.no_elements p l rest k)))))) h

-- ---- the items of a block

module _ (p : Profile) where
  -- The items so far.
  pub record InBlock (l : ℕ) (read : List ItemTree) (ts rest : List Token) : Type 0 where
    pub repeats : Repeats (in_profile p g.body) l (λ b. record { items = read ++ b.items; last = b.last }) ts rest

module _ {p : Profile} where
  pub block_begun : (l : ℕ) (ts : List Token) {items : List Item} → items ≡ [] → InBlock p l (map item_tree_of items) ts ts
  block_begun l ts {items} e = rw e (record {
    repeats = repeats_begun (in_profile p g.body) l (λ b. record { items = [] ++ b.items; last = b.last }) ts
        (λ v. refl);
  })

  pub block_more : (l : ℕ) (items : List Item) (item : Item) {new : List Item} {ts mid rest : List Token} → InBlock p l (map item_tree_of items) ts mid
      → ReadsItem p l (item_tree_of item) mid rest → new ≡ items ++ item ∷ [] → InBlock p l (map item_tree_of new) ts rest
  block_more l items item {mid} {rest} b r e =
      rw (e, map-append) (record {
        repeats = repeats_more _ b.repeats one (λ v. rw append_assoc);
      })
    where
      one : Repeats (in_profile p g.body) l (in_front (item_tree_of item)) mid rest
      one = record { passes = r.passes }

  pub block_done : (l : ℕ) (at : Place) {read : List ItemTree} {last whole : Tree} {ts mid rest : List Token} → InBlock p l read ts mid
      → ReadsForm (in_profile p g.body) l (record { items = []; last = last }) mid rest → whole ≡ block (item_trees read) last at
      → ReadsBlock p l at whole ts rest
  block_done l at {read} {last} b r w = record {
    inside = record { items = read ++ []; last = last };
    is = rw (w, append-nil);
    reads = passes_reads b.repeats.passes r;
  }

-- ---- the rest of a function behind its `fun`, and of a binding behind its `let`

pub function_names_read : {first : Name} {before all : List Name} {ts mid rest : List Token} → Reads (kept_token any_name ∷ []) (first, tt) ts mid
    → before ≡ first ∷ [] → ReadsNames before all signs.Arrow mid rest → ReadsFunctionNames all ts rest
function_names_read {first} r e n = record { first = first; more = n.more; all_names = rw (n.all_names, e); reads = and_then r n.reads }

pub bound_names_read : {first : Name} {before all : List Name} {ts mid rest : List Token} → Reads (kept_token any_name ∷ []) (first, tt) ts mid
    → before ≡ [] → ReadsNames before all signs.Equal mid rest → Reads in_bound_names (first, (all, tt)) ts rest
bound_names_read r e n = rw (n.all_names, e) (and_then r n.reads)

module _ {p : Profile} where
  module _ (l : ℕ) {all : List Name} {ts a : List Token} (n : ReadsFunctionNames all ts a) where
    pub function_reads : (at : Place) {t inner : Tree} {rest : List Token} → ReadsForm (in_profile p g.expression) l inner a rest → t ≡ function all inner at
        → ReadsFunction p l at t ts rest
    function_reads at {inner} q w = record { first = n.first; more = n.more; inner = inner; is = rw (w, n.all_names); reads = and_then n.reads q }

  module _ (l : ℕ) {bound : Name} {all : List Name} {ts a : List Token} (n : Reads in_bound_names (bound, (all, tt)) ts a) where
    pub binding_reads : {item : ItemTree} {inner : Tree} {rest : List Token} → Reads (closed_by p signs.Semi l) (inner, tt) a rest
        → item ≡ bind bound (bound_of all inner) → ReadsBinding p l item ts rest
    binding_reads {inner} q w = record { bound = bound; more = all; inner = inner; is = w; reads = and_then n q }

-- ---- applications

module _ {p : Profile} where
  module _ {at : Place} {ts mid : List Token} (h : Heads (toks.Word words.Clean) at ts mid) where
    pub operator_clean : ReadsOperator p (operators.Clean at) ts mid
    operator_clean = record {
      passes = λ l. passes_then (line_passes (in_profile p g.application) l _ (inl refl)
          (by_first (in_profile p g.application) l _ (inl refl) h refl refl refl))
          (beside (form (in_profile p g.atom) l ∷ []) (a_word words.Clean h).passes);
    }

  module _ {at : Place} {ts mid : List Token} (h : Heads (toks.Word words.Assert) at ts mid) where
    pub operator_assert : ReadsOperator p (operators.Assert at) ts mid
    operator_assert = record {
      passes = λ l. passes_then (line_passes (in_profile p g.application) l _ (inr (inl refl))
          (by_first (in_profile p g.application) l _ (inr (inl refl)) h refl refl refl))
          (beside (form (in_profile p g.atom) l ∷ []) (a_word words.Assert h).passes);
    }

  module _ {at : Place} {ts a : List Token} (h : Heads (toks.Word words.Rotate) at ts a) where
    pub operator_rotate : {by : List Step} {rest : List Token} → ReadsForm (in_profile p g.num) 0 by a rest → ReadsOperator p (operators.Rotate by at) ts rest
    operator_rotate r = record {
      passes = λ l. passes_then (line_passes (in_profile p g.application) l _ (inr (inr (inr (inl refl))))
          (by_first (in_profile p g.application) l _ (inr (inr (inr (inl refl)))) h refl refl refl))
          (beside (form (in_profile p g.atom) l ∷ []) (and_then (a_word words.Rotate h) r).passes);
    }

    pub rotate_halts : {stop : Stop} → HaltsIn (in_profile p g.num) 0 a stop → HaltsAtLevels (in_profile p g.application) ts stop
    rotate_halts k = record {
      at_level = λ l. halts_by_token (in_profile p g.application) l _ (inr (inr (inr (inl refl)))) h refl refl refl
          (halts_behind (form (in_profile p g.num) 0 ∷ form (in_profile p g.atom) l ∷ []) (a_word words.Rotate h)
          (halts_first (form (in_profile p g.atom) l ∷ []) k));
    }

  pub application_operator : (l : ℕ) {operator : Operator} {t whole : Tree} {ts mid rest : List Token} → ReadsOperator p operator ts mid
      → ReadsForm (in_profile p g.atom) l t mid rest → whole ≡ operated operator t → ReadsForm (in_profile p g.application) l whole ts rest
  application_operator l o r w = rw w (passes_reads (o.passes l) r)

  pub operand_halts : (l : ℕ) {operator : Operator} {ts mid : List Token} {stop : Stop} → ReadsOperator p operator ts mid
      → HaltsIn (in_profile p g.atom) l mid stop
      → HaltsIn (in_profile p g.application) l ts stop
  operand_halts l o k = halts_past (o.passes l) k

  module _ (l : ℕ) {at : Place} {ts a : List Token} (h : Heads (toks.Word words.Append) at ts a) where
    pub application_append : {t : Tree} {rest : List Token} → ReadsAppend p l at t a rest → ReadsForm (in_profile p g.application) l t ts rest
    application_append r = rw r.is (by_token (in_profile p g.application) l _ (inr (inr (inl refl))) h refl refl refl
        (and_then (a_word words.Append h) r.reads))

    pub append_halts : {stop : Stop} → Halts (in_append p l) a stop → HaltsIn (in_profile p g.application) l ts stop
    append_halts k = halts_by_token (in_profile p g.application) l _ (inr (inr (inl refl))) h refl refl refl
        (halts_behind (in_append p l) (a_word words.Append h) k)

  pub append_reads : (l : ℕ) (at : Place) {t u whole : Tree} {ts mid rest : List Token} → ReadsForm (in_profile p g.atom) l t ts mid
      → ReadsForm (in_profile p g.atom) l u mid rest
      → whole ≡ append t u at → ReadsAppend p l at whole ts rest
  append_reads l at {t} {u} r q w = record { first = t; second = u; is = w; reads = and_then r q }

pub plain : {ts : List Token} → NotFirst (toks.Word words.Append) ts → NoOperator ts → m.IsPlain ts
plain k n = record { no_clean = n.no_clean; no_assert = n.no_assert; no_append = k; no_rotate = n.no_rotate }

module _ {p : Profile} where
  pub application_plain : (l : ℕ) {t : Tree} {ts rest : List Token} → m.IsPlain ts → ReadsAtoms p l t ts rest
      → ReadsForm (in_profile p g.application) l t ts rest
  application_plain l {ts} k r = rw r.is (by_pieces (in_profile p g.application) l _ (inr (inr (inr (inr (inl refl))))) (m.as_application p l ts k) r.reads)

  pub plain_halts : (l : ℕ) {ts : List Token} {stop : Stop} → m.IsPlain ts → Halts (in_application p l) ts stop → HaltsIn (in_profile p g.application) l ts stop
  plain_halts l {ts} k h = halts_there (form (in_profile p g.application) l ∷ []) (in_application p l) (m.as_application p l ts k) h

-- ---- atoms

module _ {p : Profile} where
  pub atom_reads : (l : ℕ) {inner whole : Tree} {all : List Part} {ts mid rest : List Token} → ReadsForm (in_profile p g.base) l inner ts mid
      → Skips (form (in_profile p g.parts) 0 ∷ []) (all, tt) mid rest → whole ≡ parts_of inner all → ReadsForm (in_profile p g.atom) l whole ts rest
  atom_reads l {ts} r k w = rw w (by_pieces (in_profile p g.atom) l _ (inl refl) (m.as_atom p l ts) (and_maybe r k))

pub no_part : (inner : Tree) (all : List Part) → length all ≡ 0 → inner ≡ parts_of inner all
no_part inner [] e = refl
no_part inner (p ∷ all) e = absurd (omega (arith, e))

pub some_part : (inner : Tree) (all : List Part) → ¬ (length all ≡ 0) → parts inner all ≡ parts_of inner all
some_part inner [] e = absurd (e refl)
some_part inner (p ∷ all) e = refl

module _ {p : Profile} where
  pub atom_in_base : (l : ℕ) {ts : List Token} {stop : Stop} → HaltsIn (in_profile p g.base) l ts stop → HaltsIn (in_profile p g.atom) l ts stop
  atom_in_base l {ts} h = halts_there (form (in_profile p g.atom) l ∷ []) (form (in_profile p g.base) l ∷ form (in_profile p g.parts) 0 ∷ [])
      (m.as_atom p l ts) (halts_first (form (in_profile p g.parts) 0 ∷ []) h)

  pub atom_in_parts : (l : ℕ) {inner : Tree} {ts mid : List Token} {stop : Stop} → ReadsForm (in_profile p g.base) l inner ts mid
      → HaltsIn (in_profile p g.parts) 0 mid stop
      → HaltsIn (in_profile p g.atom) l ts stop
  atom_in_parts l {ts} r h =
      halts_there (form (in_profile p g.atom) l ∷ []) (form (in_profile p g.base) l ∷ form (in_profile p g.parts) 0 ∷ []) (m.as_atom p l ts)
      (halts_behind (form (in_profile p g.parts) 0 ∷ []) r h)

-- A base with no part behind it is an atom.
pub base_alone : (p : Profile) (l : ℕ) (ts : List Token) (read : Result (Term × Rest) Stop)
    → MatchResult read (λ found. ReadsForm (in_profile p g.base) l (tree_of found.0) ts (left found.1)) (λ stop. HaltsIn (in_profile p g.base) l ts stop)
    → NoPartBehind read
    → MatchResult read (λ found. ReadsForm (in_profile p g.atom) l (tree_of found.0) ts (left found.1)) (λ stop. HaltsIn (in_profile p g.atom) l ts stop)
base_alone p l ts (Ok found) r k = atom_reads l r (parts_done (parts_begun [] (left found.1) refl) k) refl
base_alone p l ts (Err stop) h k = atom_in_base l h

-- ---- bases

pub base_true : {at : Place} {whole : Tree} {ts rest : List Token} → Heads (toks.Word words.True) at ts rest → whole ≡ bool true at
    → ReadsAnywhere g.base whole ts rest
base_true h w = record { at_level = λ p l. rw w (by_token (in_profile p g.base) l _ (inr (inl refl)) h refl refl refl (a_word words.True h)) }

pub base_false : {at : Place} {whole : Tree} {ts rest : List Token} → Heads (toks.Word words.False) at ts rest → whole ≡ bool false at
    → ReadsAnywhere g.base whole ts rest
base_false h w = record { at_level = λ p l. rw w (by_token (in_profile p g.base) l _ (inr (inr (inl refl))) h refl refl refl (a_word words.False h)) }

module _ {ts : List Token} (o : NoOpener ts) (no_true : NotFirst (toks.Word words.True) ts) (no_false : NotFirst (toks.Word words.False) ts) where
  is_use : m.IsUse ts
  is_use = record { no_true = no_true; no_false = no_false; no_reg = o.no_reg; no_round = o.no_round; no_curly = o.no_curly }

  pub base_use : {n : Name} {whole : Tree} {rest : List Token} → Reads (kept_token any_name ∷ []) (n, tt) ts rest → whole ≡ used n
      → ReadsAnywhere g.base whole ts rest
  base_use r w = record { at_level = λ p l. rw w (by_pieces (in_profile p g.base) l _ (inl refl) (m.as_use p l ts is_use) r) }

  pub base_no_use : {stop : Stop} → Halts (kept_token any_name ∷ []) ts stop → HaltsAnywhere g.base ts stop
  base_no_use h = record { at_level = λ p l. halts_there (form (in_profile p g.base) l ∷ []) (kept_token any_name ∷ []) (m.as_use p l ts is_use) h }

module _ {p : Profile} where
  -- A base that opens a level, with the level inside.
  module _ (l : ℕ) {at : Place} {ts mid : List Token} where
    -- A level too many is refused at any token that opens one.
    pub base_no_level : (o : Opener) → Heads (opening o) at ts mid → few_levels (l + 1) ≡ false
        → (stop : Stop) → stop ≡ stops.Nesting (length ts) → HaltsIn (in_profile p g.base) l ts stop
    base_no_level openers.Register h deep stop e =
        halts_by_token (in_profile p g.base) l _ (inr (inr (inr (inl refl)))) h refl refl refl
        (opens_too_many (word words.Reg) (l + 1) (in_register p (l + 1)) deep h refl refl stop e)
    base_no_level openers.Bracket h deep stop e =
        halts_by_token (in_profile p g.base) l _ (inr (inr (inr (inr (inl refl))))) h refl refl refl
        (opens_too_many (sign signs.OpenRound) (l + 1) (closed_by p signs.CloseRound (l + 1)) deep h refl refl stop e)
    base_no_level openers.Block h deep stop e =
        halts_by_token (in_profile p g.base) l _ (inr (inr (inr (inr (inr (inl refl)))))) h refl refl refl
        (opens_too_many (sign signs.OpenCurly) (l + 1) (in_block p (l + 1)) deep h refl refl stop e)

    at_next : (o : Opener) {t : Tree} {rest : List Token} → Heads (opening o) at ts mid → few_levels (l + 1) ≡ true
        → ReadsOpened o p (l + 1) at t mid rest → ReadsForm (in_profile p g.base) l t ts rest
    at_next openers.Register h ok r =
        let q = r.reads in
        rw q.is (by_token (in_profile p g.base) l _ (inr (inr (inr (inl refl)))) h refl refl refl
        (and_then (opened (word words.Reg) (l + 1) ok h refl refl refl) q.reads))
    at_next openers.Bracket h ok r =
        by_token (in_profile p g.base) l _ (inr (inr (inr (inr (inl refl))))) h refl refl refl
        (and_then (opened (sign signs.OpenRound) (l + 1) ok h refl refl refl) r.reads)
    at_next openers.Block h ok r =
        let q = r.reads in
        rw q.is (by_token (in_profile p g.base) l _ (inr (inr (inr (inr (inr (inl refl)))))) h refl refl refl
        (and_then (opened (sign signs.OpenCurly) (l + 1) ok h refl refl refl) q.reads))

    halts_next : (o : Opener) {stop : Stop} → Heads (opening o) at ts mid → few_levels (l + 1) ≡ true → Halts (in_opened o p (l + 1)) mid stop
        → HaltsIn (in_profile p g.base) l ts stop
    halts_next openers.Register h ok k =
        halts_by_token (in_profile p g.base) l _ (inr (inr (inr (inl refl)))) h refl refl refl
        (halts_behind (in_register p (l + 1)) (opened (word words.Reg) (l + 1) ok h refl refl refl) k)
    halts_next openers.Bracket h ok k =
        halts_by_token (in_profile p g.base) l _ (inr (inr (inr (inr (inl refl))))) h refl refl refl
        (halts_behind (closed_by p signs.CloseRound (l + 1)) (opened (sign signs.OpenRound) (l + 1) ok h refl refl refl) k)
    halts_next openers.Block h ok k =
        halts_by_token (in_profile p g.base) l _ (inr (inr (inr (inr (inr (inl refl)))))) h refl refl refl
        (halts_behind (in_block p (l + 1)) (opened (sign signs.OpenCurly) (l + 1) ok h refl refl refl) k)

    pub base_opened : (o : Opener) → Heads (opening o) at ts mid → {inner : ℕ} → inner ≡ l + 1 → few_levels (l + 1) ≡ true → {t : Tree} {rest : List Token}
        → ReadsOpened o p inner at t mid rest → ReadsForm (in_profile p g.base) l t ts rest
    base_opened o h e ok r = at_next o h ok (rw e at r)

    pub opened_halts : (o : Opener) → Heads (opening o) at ts mid → {inner : ℕ} → inner ≡ l + 1 → few_levels (l + 1) ≡ true → {stop : Stop}
        → Halts (in_opened o p inner) mid stop → HaltsIn (in_profile p g.base) l ts stop
    opened_halts o h e ok k = halts_next o h ok (rw e at k)

  pub closed_reads : (l : ℕ) {end : Sign} {t : Tree} {ts mid rest : List Token} → ReadsForm (in_profile p g.expression) l t ts mid
      → Reads (token (sign end) ∷ []) tt mid rest
      → Reads (closed_by p end l) (t, tt) ts rest
  closed_reads l r q = and_then r q

  pub unclosed : (l : ℕ) {end : Sign} {t : Tree} {ts mid : List Token} {stop : Stop} → ReadsForm (in_profile p g.expression) l t ts mid
      → Halts (token (sign end) ∷ []) mid stop → Halts (closed_by p end l) ts stop
  unclosed l {end} r k = halts_behind (token (sign end) ∷ []) r k

-- ---- what stands behind the first thing that a function expects

module _ (p : Profile) where
  abbrev pub function_rest : ℕ → Stack
  function_rest l = form (in_profile p g.expression) l ∷ []
