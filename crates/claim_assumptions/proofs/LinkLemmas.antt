-- The bits of what is put behind a tape.
use Rattle.std.proofs.Common.{◌≡◌, ℕ, ◌+◌, ◌*◌, ◌<◌, Bool, true, false, not, ◌&&◌, List, [], ◌∷◌, ◌++◌, length, refl, sym, ap, ap₂, ◌∙◌, subst, arith}
use Rattle.std.specs.Bool.{xor}
use Rattle.std.specs.List.{AllByRecursion}
use Rattle.std.proofs.lemmas.Bool.{and_from, and_parts, true≢false}
use Rattle.std.proofs.lemmas.List.{get_or_append_left, get_or_at, length-append}
use Rattle.list_facts.specs.Bits.{bit_of}
use Rattle.list_facts.specs.Lists.{AllFrom}
use Rattle.revs_tape.specs.declared.tape.Claim.{Claim}
use Rattle.revs_tape.specs.declared.tape.Entry.{Entry}
use Rattle.revs_tape.specs.declared.tape.Entry.TheVariants as entries
use Rattle.revs_tape.specs.declared.tape.Ref.{Ref}
use Rattle.revs_tape.specs.declared.tape.Ref.TheVariants as refs
use Rattle.revs_tape.specs.Tapes.{IsKnown, IsMet, bit_at, claimed, entry_bit, written_by}
use Rattle.claim_assumptions.specs.Assumptions.{claim_at, constant_at, failing_links, met_at, met_links}

-- ---- bits stay as more is written

pub bit_kept : (input written : List Bool) (es : List Entry) (i : ℕ) → i < length written → bit_of (written_by input written es) i ≡ bit_of written i
bit_kept input written [] i low = refl
bit_kept input written (e ∷ es) i low =
    let bit : Bool = entry_bit input written e in
    bit_kept input (written ++ bit ∷ []) es i (omega (arith, low, length-append written (bit ∷ [])))
    ∙ get_or_append_left written (bit ∷ []) false i low

pub written-append : (input written : List Bool) (es fs : List Entry) → written_by input written (es ++ fs) ≡ written_by input (written_by input written es) fs
written-append input written [] fs = refl
written-append input written (e ∷ es) fs = written-append input (written ++ entry_bit input written e ∷ []) es fs

pub length-written : (input written : List Bool) (es : List Entry) → length (written_by input written es) ≡ length written + length es
length-written input written [] = omega arith
length-written input written (e ∷ es) =
    let bit : Bool = entry_bit input written e in
    length-written input (written ++ bit ∷ []) es ∙ omega (arith, length-append written (bit ∷ []))

-- ---- behind the constants

-- behind so many bits stand the two constants and the links of k claims
pub record Stands (w : ℕ) (first bits : List Bool) (k : ℕ) : Type 0 where
  pub size : length bits ≡ w + 2 + 2 * k
  pub same : (j : ℕ) → j < w → bit_of bits j ≡ bit_of first j
  pub low : bit_of bits w ≡ false
  pub high : bit_of bits (w + 1) ≡ true

pub begun : (w : ℕ) (first : List Bool) → length first ≡ w → Stands w first ((first ++ false ∷ []) ++ true ∷ []) 0
begun w first size =
    let one : length (first ++ false ∷ []) ≡ w + 1 = length-append first (false ∷ []) ∙ omega (arith, size) in
    record {
      size = length-append (first ++ false ∷ []) (true ∷ []) ∙ omega (arith, one);
      same = λ j low. get_or_append_left (first ++ false ∷ []) (true ∷ []) false j (omega (arith, low, one))
          ∙ get_or_append_left first (false ∷ []) false j (omega (arith, low, size));
      low = get_or_append_left (first ++ false ∷ []) (true ∷ []) false w (omega (arith, one)) ∙ get_or_at first false [] false w size;
      high = get_or_at (first ++ false ∷ []) true [] false (w + 1) one;
    }

module _ (n w : ℕ) (input first : List Bool) where
  pub stays : (bits : List Bool) (k : ℕ) → Stands w first bits k → (of : Ref) → IsKnown n w of → bit_at input bits of ≡ bit_at input first of
  stays bits k so (refs.Input i) known = refl
  stays bits k so (refs.Write j) known = so.same j known

  constant_bit : (bits : List Bool) (k : ℕ) → Stands w first bits k → (bit : Bool) → bit_at input bits (constant_at w bit) ≡ bit
  constant_bit bits k so true = so.high
  constant_bit bits k so false = ap (bit_of bits) (omega arith) ∙ so.low

  -- the bits behind one more link
  pub more_bits : (bits : List Bool) (one two : Bool) → List Bool
  more_bits bits one two = (bits ++ one ∷ []) ++ two ∷ []

  -- one more link stands, and its second bit is so
  pub record Linked (bits more : List Bool) (k : ℕ) (value : Bool) : Type 0 where
    pub stands : Stands w first more (k + 1)
    pub bit : bit_of more (w + 3 + 2 * k) ≡ value
    pub kept : (j : ℕ) → j < length bits → bit_of more j ≡ bit_of bits j

  pub linked : (bits : List Bool) (k : ℕ) (of : Ref) (bit : Bool) (p : ℕ) (m : Bool) → Stands w first bits k → IsKnown n w of → p < w + 2 + 2 * k
      → bit_of bits p ≡ m
      → Linked bits (written_by input bits (entries.Xor of (constant_at w bit) ∷ entries.And (refs.Write p) (claim_at w k) ∷ [])) k
      (m && xor (bit_at input first of) bit)
  linked bits k of bit p m so known below is =
      let one : Bool = xor (bit_at input bits of) (bit_at input bits (constant_at w bit)) in
      let bits1 : List Bool = bits ++ one ∷ [] in
      let two : Bool = bit_of bits1 p && bit_of bits1 (w + 2 + 2 * k) in
      let bits2 : List Bool = bits1 ++ two ∷ [] in
      let size1 : length bits1 ≡ w + 3 + 2 * k = length-append bits (one ∷ []) ∙ omega (arith, so.size) in
      let kept : (j : ℕ) → j < length bits → bit_of bits2 j ≡ bit_of bits j =
      λ j low. get_or_append_left bits1 (two ∷ []) false j (omega (arith, low, size1, so.size)) ∙ get_or_append_left bits (one ∷ []) false j low in
      let first_bit : one ≡ xor (bit_at input first of) bit = ap₂ xor (stays bits k so of known) (constant_bit bits k so bit) in
      let left : bit_of bits1 p ≡ m = get_or_append_left bits (one ∷ []) false p (omega (arith, below, so.size)) ∙ is in
      let right : bit_of bits1 (w + 2 + 2 * k) ≡ xor (bit_at input first of) bit = get_or_at bits one [] false (w + 2 + 2 * k) so.size ∙ first_bit in
      record {
        stands = record {
          size = length-append bits1 (two ∷ []) ∙ omega (arith, size1);
          same = λ j low. kept j (omega (arith, low, so.size)) ∙ so.same j low;
          low = kept w (omega (arith, so.size)) ∙ so.low;
          high = kept (w + 1) (omega (arith, so.size)) ∙ so.high;
        };
        bit = get_or_at bits1 two [] false (w + 3 + 2 * k) size1 ∙ ap₂ ◌&&◌ left right;
        kept = kept;
      }

  -- ---- the bit that claims are met

  pub met_bit : Claim → Bool
  met_bit c = xor (bit_at input first c.of) (not (claimed c.kind))

  pub met_behind : Bool → List Claim → Bool
  met_behind m [] = m
  met_behind m (c ∷ cs) = met_behind (m && met_bit c) cs

  pub record MetBehind (bits : List Bool) (k : ℕ) (value : Bool) : Type 0 where
    pub stands : Stands w first bits k
    pub bit : bit_of bits (w + 1 + 2 * k) ≡ value

  pub met_written : (bits : List Bool) (k : ℕ) (m : Bool) (cs : List Claim) → AllByRecursion (λ c. IsKnown n w c.of) cs → MetBehind bits k m
      → MetBehind (written_by input bits (met_links w k cs)) (k + length cs) (met_behind m cs)
  unfolding met_behind met_bit
  met_written bits k m [] known so = subst (λ (z : ℕ). MetBehind bits z m) (omega arith) so
  met_written bits k m (c ∷ cs) known so =
      let link : List Entry = entries.Xor c.of (constant_at w (not (claimed c.kind))) ∷ entries.And (met_at w k) (claim_at w k) ∷ [] in
      let more : List Bool = written_by input bits link in
      let next = linked bits k c.of (not (claimed c.kind)) (w + 1 + 2 * k) m so.stands known.0 (omega arith) so.bit in
      let here : MetBehind more (k + 1) (m && met_bit c) =
      record { stands = next.stands; bit = ap (bit_of more) (omega arith) ∙ next.bit } in
      subst (λ (z : ℕ). MetBehind (written_by input bits (met_links w k (c ∷ cs))) z (met_behind m (c ∷ cs))) (omega arith)
      (met_written more (k + 1) (m && met_bit c) cs known.1 here)

  -- ---- the bits that claims do not fail

  abbrev pub fails_bit : Bool → Claim → Bool
  fails_bit m c = m && xor (bit_at input first c.of) (claimed c.kind)

  pub record FailingBehind (bits : List Bool) (k met : ℕ) (m : Bool) : Type 0 where
    pub stands : Stands w first bits k
    pub all : bit_of bits (w + 1 + 2 * met) ≡ m
    pub behind : met < k + 1

  pub failing_written : (bits : List Bool) (k met : ℕ) (m : Bool) (cs : List Claim) → AllByRecursion (λ c. IsKnown n w c.of) cs → FailingBehind bits k met m
      → AllFrom (λ j c. bit_of (written_by input bits (failing_links w met k cs)) (w + 3 + 2 * j) ≡ fails_bit m c) k cs
      × (bit_of (written_by input bits (failing_links w met k cs)) w ≡ false)
  failing_written bits k met m [] known so = (tt, so.stands.low)
  failing_written bits k met m (c ∷ cs) known so =
      let link : List Entry = entries.Xor c.of (constant_at w (claimed c.kind)) ∷ entries.And (met_at w met) (claim_at w k) ∷ [] in
      let more : List Bool = written_by input bits link in
      let next = linked bits k c.of (claimed c.kind) (w + 1 + 2 * met) m so.stands known.0 (omega (arith, so.behind)) so.all in
      let here : FailingBehind more (k + 1) met m = record {
        stands = next.stands;
        all = next.kept (w + 1 + 2 * met) (omega (arith, so.behind, so.stands.size)) ∙ so.all;
        behind = omega (arith, so.behind);
      } in
      let rest = failing_written more (k + 1) met m cs known.1 here in
      ((bit_kept input more (failing_links w met (k + 1) cs) (w + 3 + 2 * k) (omega (arith, next.stands.size)) ∙ next.bit, rest.0), rest.1)

-- ---- what the bits say

differs : (x y : Bool) → xor x (not y) ≡ true → x ≡ y
unfolding mathlib.Core.Bool.xor
differs true true e = refl
differs true false e = absurd (true≢false (sym e))
differs false true e = absurd (true≢false (sym e))
differs false false e = refl

agrees : (x y : Bool) → x ≡ y → xor x (not y) ≡ true
unfolding mathlib.Core.Bool.xor
agrees true true e = refl
agrees true false e = absurd (true≢false e)
agrees false true e = absurd (true≢false (sym e))
agrees false false e = refl

-- where m is met, the bits are equal, exactly where this bit is false
pub fails_says : (m x y : Bool) → (m && xor x y) ≡ false → m ≡ true → x ≡ y
unfolding mathlib.Core.Bool.xor
fails_says true true true e is = refl
fails_says true true false e is = absurd (true≢false e)
fails_says true false true e is = absurd (true≢false e)
fails_says true false false e is = refl
fails_says false x y e is = absurd (true≢false (sym is))

pub fails_not : (m x y : Bool) → (m ≡ true → x ≡ y) → (m && xor x y) ≡ false
unfolding mathlib.Core.Bool.xor
fails_not true true true h = refl
fails_not true true false h = absurd (true≢false (h refl))
fails_not true false true h = absurd (true≢false (sym (h refl)))
fails_not true false false h = refl
fails_not false x y h = refl

module _ (n w : ℕ) (input first : List Bool) where
  pub met_says : (m : Bool) (cs : List Claim) → met_behind n w input first m cs ≡ true → (m ≡ true) × AllByRecursion (IsMet input first) cs
  unfolding met_behind met_bit
  met_says m [] is = (is, tt)
  met_says m (c ∷ cs) is =
      let rest = met_says (m && xor (bit_at input first c.of) (not (claimed c.kind))) cs is in
      let both = and_parts m (xor (bit_at input first c.of) (not (claimed c.kind))) rest.0 in
      (both.0, (differs (bit_at input first c.of) (claimed c.kind) both.1, rest.1))

  pub met_so : (m : Bool) (cs : List Claim) → m ≡ true → AllByRecursion (IsMet input first) cs → met_behind n w input first m cs ≡ true
  unfolding met_behind met_bit
  met_so m [] is all = is
  met_so m (c ∷ cs) is all =
      met_so (m && xor (bit_at input first c.of) (not (claimed c.kind))) cs
      (and_from m (xor (bit_at input first c.of) (not (claimed c.kind))) is (agrees (bit_at input first c.of) (claimed c.kind) all.0)) all.1
