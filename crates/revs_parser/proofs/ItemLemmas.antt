-- Items: those of a block, the item that a word begins, and a `for` with its items.
use Rattle.std.proofs.Common.{◌≡◌, ℕ, ◌+◌, ◌==◌, true, false, List, [], ◌∷◌, ◌++◌, inl, inr, refl, sym, arith, ◌∙◌, subst, map, length}
use Rattle.std.proofs.lemmas.List.{map-append}
use Rattle.revc_base.specs.declared.place.Place.{Place}
use Rattle.revs_lexer.specs.declared.sign.Sign.TheVariants as signs
use Rattle.revs_lexer.specs.declared.word.Word.TheVariants as words
use Rattle.revs_lexer.specs.declared.token.Tok.TheVariants as toks
use Rattle.revs_lexer.specs.declared.token.Token.{Token}
use Rattle.revs_grammar.specs.declared.profile.Profile.{Profile}
use Rattle.revs_grammar.specs.declared.profile.Profile.TheVariants as profiles
use Rattle.revs_grammar.specs.Forms.{any_name, word, sign, code, in_profile}
use Rattle.revs_grammar.specs.Forms as g
use Rattle.revs_grammar.specs.Sentences.{token, kept_token, opening_token, form, by_line, done, few_levels}
use Rattle.revs_grammar.specs.inside.Machine.{Stack, is_optional}
use Rattle.revs_grammar.proofs.LineLemmas.{table_is}
use Rattle.revs_terms.specs.Trees.{Tree, ItemTree, item_trees, loop, run, item_tree_of}
use Rattle.revs_terms.specs.declared.term.Name.{Name}
use Rattle.revs_terms.specs.declared.term.Step.{Step}
use Rattle.revs_terms.specs.declared.term.Item.{Item}
use Rattle.revs_parser.specs.declared.stop.Stop.{Stop}
use Rattle.revs_parser.specs.declared.stop.Stop.TheVariants as stops
use Rattle.revs_parser.specs.declared.expression.Piece.{Piece}
use Rattle.revs_parser.specs.declared.expression.Piece.TheVariants as pieces
use Rattle.revs_parser.specs.inside.Reading.{HaltsAnywhere}
use Rattle.revs_parser.specs.inside.Forms.{ReadsItem, ReadsPiece, EndsItem, EndsBlock, EndsPiece}
use Rattle.revs_parser.specs.inside.Reading.{Passes, Reads, ReadsForm, Halts, HaltsIn, Heads, NotFirst, item_first}
use Rattle.revs_parser.specs.inside.Forms.{in_binding, ReadsBinding, closed_by, HeadsFor, NoFor, in_for, in_range, ReadsFor, in_loop, ReadsLoop}
use Rattle.revs_parser.proofs.PassingLemmas.{stays, passes_then, turned, beside, passes_reads, and_then, and_maybe, halts_first, halts_behind}
use Rattle.revs_parser.proofs.PassingLemmas.{line_passes, no_longer, halts_there}
use Rattle.revs_parser.proofs.StepLemmas as m
use Rattle.revs_parser.proofs.StepLemmas.{by_first}
use Rattle.revs_parser.proofs.StepLemmas.{AtFirst, IsLeftOut, first_less, no_word}
use Rattle.revs_parser.proofs.TokenLemmas.{a_sign, bare_word, a_word, opened, opens_too_many, opening_stops, stops_at}
use Rattle.revs_parser.proofs.TokenLemmas.{by_pieces, by_token, halts_by_pieces, halts_by_token, left_out, skips}
use Rattle.revs_parser.proofs.ReadingLemmas.{Chain, elements_of, elements_more}

-- ---- the items of a block

-- a `;` behind a term, and a `}`
pub ends_item : {item : ItemTree} {t : Tree} {at : Place} {ts rest : List Token} → Heads (toks.Sign signs.Semi) at ts rest → item ≡ run t
    → EndsItem t item ts rest
ends_item h w = record {
  is = w;
  passes = λ p l. passes_then (line_passes (in_profile p g.body_end) l _ (inl refl) (by_first (in_profile p g.body_end) l _ (inl refl) h refl refl refl))
      (beside (form (in_profile p g.body) l ∷ []) (a_sign h).passes);
}

module _ {ts : List Token} (n : NotFirst (toks.Sign signs.Semi) ts) where
  pub ends_block : (t : Tree) {rest : List Token} → Reads (token (sign signs.CloseCurly) ∷ []) tt ts rest → EndsBlock t t ts rest
  ends_block t q = record {
    is = refl;
    reads = record { at_level = λ p l. by_pieces (in_profile p g.body_end) l _ (inr (inl refl)) (m.as_body_end p l ts n) q };
  }

  pub block_unclosed : {stop : Stop} → Halts (token (sign signs.CloseCurly) ∷ []) ts stop → HaltsAnywhere g.body_end ts stop
  block_unclosed h = record { at_level = λ p l. halts_by_pieces (in_profile p g.body_end) l _ (inr (inl refl)) (m.as_body_end p l ts n) h }

module _ {p : Profile} where
  module _ (l : ℕ) {ts : List Token} (k : item_first p ts ≡ true) where
    pub item_in_body : {item : ItemTree} {rest : List Token} → ReadsForm (in_profile p g.item) l item ts rest → ReadsItem p l item ts rest
    item_in_body r = record {
      passes = passes_then (line_passes (in_profile p g.body) l _ (inl refl) (m.body_item p l ts k)) (beside (form (in_profile p g.body) l ∷ []) r.passes);
      shorter = r.shorter;
    }

    pub item_halts : {stop : Stop} → HaltsIn (in_profile p g.item) l ts stop → HaltsIn (in_profile p g.body) l ts stop
    item_halts h =
        halts_there (form (in_profile p g.body) l ∷ []) (form (in_profile p g.item) l ∷ form (in_profile p g.body) l ∷ []) (m.body_item p l ts k)
        (halts_first (form (in_profile p g.body) l ∷ []) h)

  module _ (l : ℕ) {ts : List Token} (k : item_first p ts ≡ false) where
    pub do_halts : {stop : Stop} → HaltsIn (in_profile p g.expression) l ts stop → HaltsIn (in_profile p g.body) l ts stop
    do_halts h =
        halts_there (form (in_profile p g.body) l ∷ []) (form (in_profile p g.expression) l ∷ form (in_profile p g.body_end) l ∷ []) (m.as_body p l ts k)
        (halts_first (form (in_profile p g.body_end) l ∷ []) h)

    module _ {t : Tree} {mid : List Token} (r : ReadsForm (in_profile p g.expression) l t ts mid) where
      pub piece_reads : (piece : Piece) (rest : List Token) → EndsPiece t piece mid rest → ReadsPiece p l piece ts rest
      piece_reads (pieces.Item item) rest e =
          rw e.is (record {
            passes = passes_then (line_passes (in_profile p g.body) l _ (inr (inl refl)) (m.as_body p l ts k))
                (passes_then (beside (form (in_profile p g.body_end) l ∷ []) r.passes) (e.passes p l));
            shorter = let x = r.shorter in let y = no_longer (e.passes p l) in omega (arith, x, y);
          })
      piece_reads (pieces.Last last) rest e =
          rw e.is (by_pieces (in_profile p g.body) l _ (inr (inl refl)) (m.as_body p l ts k) (and_then r (e.reads.at_level p l)))

      pub piece_halts : {stop : Stop} → HaltsAnywhere g.body_end mid stop → HaltsIn (in_profile p g.body) l ts stop
      piece_halts h =
          halts_there (form (in_profile p g.body) l ∷ []) (form (in_profile p g.expression) l ∷ form (in_profile p g.body_end) l ∷ []) (m.as_body p l ts k)
          (halts_behind (form (in_profile p g.body_end) l ∷ []) r (h.at_level p l))

-- ---- the item that a word begins

for_in_two : (l : ℕ) {item : ItemTree} {at : Place} {ts mid rest : List Token} → Heads (toks.Word words.For) at ts mid
    → ReadsFor profiles.Two l at item mid rest → ReadsForm (in_profile profiles.Two g.item) l item ts rest
for_in_two l h r = rw r.is (by_token (in_profile profiles.Two g.item) l _ (inr (inl refl)) h refl refl refl (and_then (a_word words.For h) r.reads))

for_stops_in_two : (l : ℕ) {at : Place} {ts mid : List Token} {stop : Stop} → Heads (toks.Word words.For) at ts mid
    → Halts (in_for profiles.Two (l + 1)) mid stop → HaltsIn (in_profile profiles.Two g.item) l ts stop
for_stops_in_two l h k =
    halts_by_token (in_profile profiles.Two g.item) l _ (inr (inl refl)) h refl refl refl
    (halts_behind (in_for profiles.Two (l + 1)) (a_word words.For h) k)

-- Neither a `let` nor a `for` of the profile begins the token.
no_item_at : (p : Profile) (ts : List Token) → NotFirst (toks.Word words.Let) ts → NoFor p ts → AtFirst (IsLeftOut (in_profile p g.item)) ts
no_item_at p [] h k = tt
no_item_at profiles.One (t ∷ ts) h k =
    table_is (code t.tok) (in_profile profiles.One g.item) ∙ first_less (code t.tok == 4) _ (no_word t.tok words.Let h)
no_item_at profiles.Two (t ∷ ts) h k =
    table_is (code t.tok) (in_profile profiles.Two g.item) ∙ first_less (code t.tok == 4) _ (no_word t.tok words.Let h)
    ∙ first_less (code t.tok == 14) _ (no_word t.tok words.For k)

must_in : (p : Profile) → is_optional (in_profile p g.item) ≡ false
must_in profiles.One = refl
must_in profiles.Two = refl

module _ {p : Profile} where
  pub item_let : (l : ℕ) {item : ItemTree} {at : Place} {ts mid rest : List Token} → Heads (toks.Word words.Let) at ts mid → ReadsBinding p l item mid rest
      → ReadsForm (in_profile p g.item) l item ts rest
  item_let l h r = rw r.is (by_token (in_profile p g.item) l _ (inl refl) h refl refl refl (and_then (bare_word h) r.reads))

  pub let_halts : (l : ℕ) {at : Place} {ts mid : List Token} {stop : Stop} → Heads (toks.Word words.Let) at ts mid → Halts (in_binding p l) mid stop
      → HaltsIn (in_profile p g.item) l ts stop
  let_halts l h k = halts_by_token (in_profile p g.item) l _ (inl refl) h refl refl refl (halts_behind (in_binding p l) (bare_word h) k)

  pub item_for : (l : ℕ) {item : ItemTree} {at : Place} {ts mid rest : List Token} → HeadsFor p at ts mid → ReadsFor p l at item mid rest
      → ReadsForm (in_profile p g.item) l item ts rest
  item_for l {item} {at} {ts} {mid} {rest} h =
      subst (λ (q : Profile). ReadsFor q l at item mid rest → ReadsForm (in_profile q g.item) l item ts rest) (sym h.in_two) (for_in_two l h.heads)

  pub for_halts : (l : ℕ) {at : Place} {ts mid : List Token} {stop : Stop} → HeadsFor p at ts mid → Halts (in_for p (l + 1)) mid stop
      → HaltsIn (in_profile p g.item) l ts stop
  for_halts l {at} {ts} {mid} {stop} h =
      subst (λ (q : Profile). Halts (in_for q (l + 1)) mid stop → HaltsIn (in_profile q g.item) l ts stop) (sym h.in_two) (for_stops_in_two l h.heads)

  pub item_stops : (l : ℕ) {ts : List Token} → NotFirst (toks.Word words.Let) ts → NoFor p ts
      → HaltsIn (in_profile p g.item) l ts (stops.Syntax (length ts))
  item_stops l {ts} h k = stops_at (in_profile p g.item) l (must_in p) ts (no_item_at p ts h k)

-- ---- the front of a `for`

-- what stands behind its first number, and behind its `in`
abbrev range_high : Profile → Stack
range_high p = token (sign signs.DotDot) ∷ form (in_profile p g.num) 0 ∷ token (word words.Do) ∷ []

abbrev range_numbers : Profile → Stack
range_numbers p = form (in_profile p g.num) 0 ∷ range_high p

module _ {p : Profile} {name : Name} {ts a : List Token} (n : Reads (kept_token any_name ∷ []) (name, tt) ts a) where
  pub range_no_in : {stop : Stop} → Halts (token (word words.In) ∷ []) a stop → Halts (in_range p) ts stop
  range_no_in k = halts_first (range_numbers p) (halts_behind (token (word words.In) ∷ []) n k)

  module _ {b : List Token} (i : Reads (token (word words.In) ∷ []) tt a b) where
    pub range_in_low : {stop : Stop} → HaltsIn (in_profile p g.num) 0 b stop → Halts (in_range p) ts stop
    range_in_low k = halts_first (range_high p) (halts_behind (form (in_profile p g.num) 0 ∷ []) (and_then n i) k)

    module _ {low : List Step} {c : List Token} (x : ReadsForm (in_profile p g.num) 0 low b c) where
      pub range_no_dots : {stop : Stop} → Halts (token (sign signs.DotDot) ∷ []) c stop → Halts (in_range p) ts stop
      range_no_dots k = halts_first (form (in_profile p g.num) 0 ∷ token (word words.Do) ∷ [])
          (halts_behind (token (sign signs.DotDot) ∷ []) (and_then (and_then n i) x) k)

      module _ {d : List Token} (j : Reads (token (sign signs.DotDot) ∷ []) tt c d) where
        pub range_in_high : {stop : Stop} → HaltsIn (in_profile p g.num) 0 d stop → Halts (in_range p) ts stop
        range_in_high k = halts_first (token (word words.Do) ∷ [])
            (halts_behind (form (in_profile p g.num) 0 ∷ []) (and_then (and_then (and_then n i) x) j) k)

        module _ {high : List Step} {e : List Token} (y : ReadsForm (in_profile p g.num) 0 high d e) where
          pub range_no_do : {stop : Stop} → Halts (token (word words.Do) ∷ []) e stop → Halts (in_range p) ts stop
          range_no_do k = halts_behind (token (word words.Do) ∷ []) (and_then (and_then (and_then (and_then n i) x) j) y) k

          pub range_reads : {rest : List Token} → Reads (token (word words.Do) ∷ []) tt e rest → Reads (in_range p) (name, (low, (high, tt))) ts rest
          range_reads q = and_then (and_then (and_then (and_then (and_then n i) x) j) y) q

pub range_no_name : (p : Profile) {ts : List Token} {stop : Stop} → Halts (kept_token any_name ∷ []) ts stop → Halts (in_range p) ts stop
range_no_name p k = halts_first (token (word words.In) ∷ range_numbers p) k

-- ---- a `for`

module _ {p : Profile} (l : ℕ) where
  pub for_no_range : {ts : List Token} {stop : Stop} → Halts (in_range p) ts stop → Halts (in_for p (l + 1)) ts stop
  for_no_range k = halts_first (opening_token (sign signs.OpenCurly) (l + 1) ∷ in_loop p (l + 1)) k

  module _ {name : Name} {low high : List Step} {ts a : List Token} (r : Reads (in_range p) (name, (low, (high, tt))) ts a) where
    pub for_no_curly : NotFirst (toks.Sign signs.OpenCurly) a → Halts (in_for p (l + 1)) ts (stops.Syntax (length a))
    for_no_curly k = halts_behind (opening_token (sign signs.OpenCurly) (l + 1) ∷ in_loop p (l + 1)) r
        (halts_first (in_loop p (l + 1)) (opening_stops signs.OpenCurly (l + 1) a k))

    module _ {curly : Place} {b : List Token} (h : Heads (toks.Sign signs.OpenCurly) curly a b) where
      pub for_no_level : few_levels (l + 1) ≡ false → (stop : Stop) → stop ≡ stops.Nesting (length a) → Halts (in_for p (l + 1)) ts stop
      for_no_level deep stop e = halts_behind (opening_token (sign signs.OpenCurly) (l + 1) ∷ in_loop p (l + 1)) r
          (opens_too_many (sign signs.OpenCurly) (l + 1) (in_loop p (l + 1)) deep h refl refl stop e)

      pub for_reads : (at : Place) {inner : ℕ} → inner ≡ l + 1 → {items : List ItemTree} {item : ItemTree} {rest : List Token} → few_levels (l + 1) ≡ true
          → ReadsLoop p inner items b rest → item ≡ run (loop name low high (item_trees items) at) → ReadsFor p l at item ts rest
      for_reads at e ok q w =
          let q' = rw e at q in record {
            name = name;
            low = low;
            high = high;
            curly = curly;
            first = q'.first;
            more = q'.more;
            is = rw (w, q'.all_items);
            reads = and_then r (and_then (opened (sign signs.OpenCurly) (l + 1) ok h refl refl refl) q'.reads);
          }

-- ---- the items of a `for`

module _ (p : Profile) (l : ℕ) where
  -- what is expected of the items, with the `}` behind them
  abbrev between_curly : Stack
  between_curly = form (in_profile p g.loop_item) l ∷ form (in_profile p g.loop_items) l ∷ token (sign signs.CloseCurly) ∷ []

  -- The items so far.
  pub record InLoop (read : List ItemTree) (ts behind : List Token) : Type 0 where
    pub chain : Chain between_curly (form (in_profile p g.loop_item) l) (form (in_profile p g.loop_items) l) (token (sign signs.CloseCurly) ∷ [])
        (λ us. elements_of read us.0 us.1.0) ts behind

module _ {p : Profile} (l : ℕ) where
  -- an item of a `for`
  module _ {ts : List Token} (k : item_first p ts ≡ true) where
    pub item_in_loop : {item : ItemTree} {rest : List Token} → ReadsForm (in_profile p g.item) l item ts rest
        → ReadsForm (in_profile p g.loop_item) l item ts rest
    item_in_loop r = by_pieces (in_profile p g.loop_item) l _ (inl refl) (m.loop_item_item p l ts k) r

    pub item_halts_in_loop : {stop : Stop} → HaltsIn (in_profile p g.item) l ts stop → HaltsIn (in_profile p g.loop_item) l ts stop
    item_halts_in_loop h = halts_by_pieces (in_profile p g.loop_item) l _ (inl refl) (m.loop_item_item p l ts k) h

  module _ {ts : List Token} (k : item_first p ts ≡ false) where
    pub do_in_loop : {t : Tree} {item : ItemTree} {rest : List Token} → Reads (closed_by p signs.Semi l) (t, tt) ts rest → item ≡ run t
        → ReadsForm (in_profile p g.loop_item) l item ts rest
    do_in_loop r w = rw w (by_pieces (in_profile p g.loop_item) l _ (inr (inl refl)) (m.as_loop_item p l ts k) r)

    pub do_halts_in_loop : {stop : Stop} → Halts (closed_by p signs.Semi l) ts stop → HaltsIn (in_profile p g.loop_item) l ts stop
    do_halts_in_loop h = halts_by_pieces (in_profile p g.loop_item) l _ (inr (inl refl)) (m.as_loop_item p l ts k) h

  another_item : (ts : List Token) → NotFirst (toks.Sign signs.CloseCurly) ts
      → Passes (form (in_profile p g.loop_items) l ∷ token (sign signs.CloseCurly) ∷ []) (between_curly p l) (λ us. (us.0 ∷ us.1.0, tt)) ts ts
  another_item ts h = record {
    goes_on = m.more_loop_items p l ts h;
    front = [];
    cut = refl;
    leads = λ ms. by_line _ (inr (inl refl)) done;
    stands_for = λ ms us ws. refl;
  }

  pub loop_begun : (ts : List Token) {items : List Item} → items ≡ [] → InLoop p l (map item_tree_of items) ts ts
  loop_begun ts e = rw e (record { chain = record { passes = turned _ (λ us. refl) (stays (between_curly p l) ts) } })

  pub loop_more : (items : List Item) (this : Item) {new : List Item} {ts behind rest : List Token} → InLoop p l (map item_tree_of items) ts behind
      → ReadsForm (in_profile p g.loop_item) l (item_tree_of this) behind rest → NotFirst (toks.Sign signs.CloseCurly) rest → new ≡ items ++ this ∷ []
      → InLoop p l (map item_tree_of new) ts rest
  loop_more items this {rest = rest} c r h e =
      rw (e, map-append) (record {
        chain = record {
          passes = turned _ (λ us. elements_more (map item_tree_of items) (item_tree_of this) us.0 us.1.0)
              (passes_then c.chain.passes
              (passes_then (beside (form (in_profile p g.loop_items) l ∷ token (sign signs.CloseCurly) ∷ []) r.passes) (another_item rest h)));
        };
      })

  closed_items : {read : List ItemTree} {this : ItemTree} {at : Place} {ts behind rest b : List Token} → InLoop p l read ts behind
      → ReadsForm (in_profile p g.loop_item) l this behind rest → Heads (toks.Sign signs.CloseCurly) at rest b
      → Reads (between_curly p l) (elements_of read this []) ts b
  closed_items c r h =
      passes_reads c.chain.passes
      (and_then (and_maybe r (skips (left_out (in_profile p g.loop_items) l _ (inl refl) (m.no_loop_items p l h)))) (a_sign h))

  read_loop : (read : List ItemTree) (this : ItemTree) {whole : List ItemTree} {ts rest : List Token} → whole ≡ read ++ this ∷ []
      → Reads (in_loop p l) (elements_of read this []) ts rest → ReadsLoop p l whole ts rest
  read_loop [] this e r = record { first = this; more = []; all_items = e; reads = r }
  read_loop (x ∷ xs) this e r = record { first = x; more = xs ++ this ∷ []; all_items = e; reads = r }

  pub loop_done : (items : List Item) (this : Item) {new : List Item} {at : Place} {ts behind rest b end : List Token}
      → InLoop p l (map item_tree_of items) ts behind
      → ReadsForm (in_profile p g.loop_item) l (item_tree_of this) behind rest → Heads (toks.Sign signs.CloseCurly) at rest b → new ≡ items ++ this ∷ []
      → Reads (token (sign signs.Semi) ∷ []) tt b end → ReadsLoop p l (map item_tree_of new) ts end
  loop_done items this c r h e q =
      read_loop (map item_tree_of items) (item_tree_of this) (rw (e, map-append) refl) (and_then (closed_items c r h) q)
