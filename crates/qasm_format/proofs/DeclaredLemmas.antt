-- Names that were declared, and the registers among them.
use Rattle.std.proofs.Common.{◌≡◌, ℕ, zero, suc, ◌+◌, ◌<◌, ◌≤◌, Bool, true, false, not, ◌||◌, List, [], ◌∷◌, ◌++◌, length, get_or, drop, slice_get}
use Rattle.std.proofs.Common.{append_assoc, position, cond, ltb, Option, Some, None, refl, sym, ap, ◌∙◌, subst, inl, inr, arith, append-nil}
use Rattle.std.specs.Option.{IfSome}
use Rattle.std.specs.List.{AllByRecursion, list_any, prefix_len}
use Rattle.std.proofs.lemmas.List.Quantifiers.{position-Some}
use Rattle.std.specs.Str.{bytes_eq}
use Rattle.std.proofs.lemmas.Bool.{false≢true, or_parts, cond-true, lt-ltb}
use Rattle.std.proofs.lemmas.Option.{none-some, same_Some, slice_get_within, get_or_from_slice_get}
use Rattle.std.proofs.lemmas.List.{length-append, drop_more}
use Rattle.list_facts.proofs.CutLemmas.{drop_got}
use Rattle.list_facts.specs.Lists.{IsAmong, AreApart}
use Rattle.list_facts.proofs.AllLemmas.{AllByRecursion-push, AllByRecursion-at}
use Rattle.qasm_format.specs.declared.file.Register.{Register}
use Rattle.qasm_format.specs.declared.names.Span.{Span}
use Rattle.qasm_format.specs.declared.words.RegisterKind.{RegisterKind}
use Rattle.qasm_format.specs.declared.words.RegisterKind.TheVariants.{Qubits, Bits}
use Rattle.qasm_format.specs.Registers.{IsLaid, lines_of_all}
use Rattle.qasm_format.specs.Stages.{HasRoom, kind_registers}
use Rattle.qasm_format.specs.inside.Names.{registers_in, registers_at, AreLaid, AreDeclared, DeclaredView}
use Rattle.format_parts.specs.Names.{has_word, IsText}
use Rattle.qasm_format.proofs.ReadingLemmas.{other_word, same_word}
use Rattle.qasm_format.proofs.RegisterLemmas.{lines_of_all-append}

-- ---- names

-- a name that is not among the names
pub none_has : (names : List (List ℕ)) (name : List ℕ) → has_word names name ≡ false → AllByRecursion (λ other. ¬ (other ≡ name)) names
none_has [] name e = tt
none_has (n ∷ ns) name e =
    let parts = or_parts (bytes_eq name n) (list_any (bytes_eq name) ns) e in
    ((λ same. other_word name n parts.0 (sym same)), none_has ns name parts.1)

pub not_among : (names : List (List ℕ)) (name : List ℕ) → AllByRecursion (λ other. ¬ (other ≡ name)) names → ¬ IsAmong name names
not_among [] name all k = k
not_among (n ∷ ns) name all (inl e) = all.0 (sym e)
not_among (n ∷ ns) name all (inr k) = not_among ns name all.1 k

pub among_has : (names : List (List ℕ)) (name : List ℕ) → has_word names name ≡ true → IsAmong name names
among_has [] name e = absurd (false≢true e)
among_has (n ∷ ns) name e = by (bytes_eq name n) refl (among_has ns name)
  where
    by : (t : Bool) → bytes_eq name n ≡ t → (has_word ns name ≡ true → IsAmong name ns) → IsAmong name (n ∷ ns)
    by true same more = inl (same_word name n same)
    by false other more = inr (more (sym (ap (λ (t : Bool). t || has_word ns name) other) ∙ e))

apart_push : (names : List (List ℕ)) (name : List ℕ) → AreApart (λ one other. one ≡ other) names → AllByRecursion (λ other. ¬ (other ≡ name)) names
    → AreApart (λ one other. one ≡ other) (names ++ name ∷ [])
apart_push [] name apart all = (tt, tt)
apart_push (n ∷ ns) name apart all =
    (AllByRecursion-push (λ y. ¬ (n ≡ y)) ns name apart.0 all.0, apart_push ns name apart.1 all.1)

-- ---- registers

abbrev pub registers_of_one : List ℕ → Option Span → List Register
registers_of_one name None = []
registers_of_one name (Some span) = record { name = name; size = span.size } ∷ []

pub registers_pushed : (names : List (List ℕ)) (spans : List (Option Span)) (name : List ℕ) (span : Option Span) → length spans ≡ length names
    → registers_in (names ++ name ∷ []) (spans ++ span ∷ []) ≡ registers_in names spans ++ registers_of_one name span
registers_pushed [] [] name None same = refl
registers_pushed [] [] name (Some span) same = refl
registers_pushed [] (s ∷ ss) name span same = absurd (omega arith)
registers_pushed (n ∷ ns) [] name span same = absurd (omega arith)
registers_pushed (n ∷ ns) (None ∷ ss) name span same = registers_pushed ns ss name span (omega arith)
registers_pushed (n ∷ ns) (Some s ∷ ss) name span same =
    ap (λ (rs : List Register). record { name = n; size = s.size } ∷ rs) (registers_pushed ns ss name span (omega arith))

laid_pushed : (at : ℕ) (names : List (List ℕ)) (spans : List (Option Span)) (span : Option Span) → length spans ≡ length names → AreLaid at spans
    → AreLaid (at + lines_of_all (registers_in names spans)) (span ∷ []) → AreLaid at (spans ++ span ∷ [])
laid_pushed at [] [] span same laid one = subst (λ (n : ℕ). AreLaid n (span ∷ [])) (omega arith) one
laid_pushed at [] (s ∷ ss) span same laid one = absurd (omega arith)
laid_pushed at (n ∷ ns) [] span same laid one = absurd (omega arith)
laid_pushed at (n ∷ ns) (None ∷ ss) span same laid one = laid_pushed at ns ss span (omega arith) laid one
laid_pushed at (n ∷ ns) (Some s ∷ ss) span same laid one =
    (laid.0, laid_pushed (at + s.size) ns ss span (omega arith) laid.1 (subst (λ (k : ℕ). AreLaid k (span ∷ [])) (omega arith) one))

abbrev pub span_of : RegisterKind → (first size : ℕ) → Option Span
span_of Qubits first size = Some (record { first = first; size = size })
span_of Bits first size = None

abbrev pub lines_with : RegisterKind → (lines size : ℕ) → ℕ
lines_with Qubits lines size = lines + size
lines_with Bits lines size = lines

one_laid : (kind : RegisterKind) (lines size : ℕ) → AreLaid lines (span_of kind lines size ∷ [])
one_laid Qubits lines size = (refl, tt)
one_laid Bits lines size = tt

one_registered : (kind : RegisterKind) (registers : List Register) (name : List ℕ) (lines size : ℕ)
    → registers ++ registers_of_one name (span_of kind lines size) ≡ kind_registers kind name size registers
one_registered Qubits registers name lines size = refl
one_registered Bits registers name lines size = append-nil registers

one_total : (kind : RegisterKind) (registers : List Register) (name : List ℕ) (lines size : ℕ) → lines ≡ lines_of_all registers
    → lines_with kind lines size ≡ lines_of_all (kind_registers kind name size registers)
one_total Qubits registers name lines size same =
    let more = lines_of_all-append registers (record { name = name; size = size } ∷ []) in omega arith
one_total Bits registers name lines size same = same

one_few : (kind : RegisterKind) (lines size : ℕ) → HasRoom kind size lines → lines ≤ 16384 → lines_with kind lines size ≤ 16384
one_few Qubits lines size room few = room
one_few Bits lines size room few = few

pub registers_with : (kind : RegisterKind) (names : List (List ℕ)) (spans : List (Option Span)) (name : List ℕ) (lines size : ℕ) → length spans ≡ length names
    → registers_in (names ++ name ∷ []) (spans ++ span_of kind lines size ∷ []) ≡ kind_registers kind name size (registers_in names spans)
registers_with kind names spans name lines size same =
    registers_pushed names spans name (span_of kind lines size) same ∙ one_registered kind (registers_in names spans) name lines size

pub declared_with : (kind : RegisterKind) (names : List (List ℕ)) (spans : List (Option Span)) (name : List ℕ) (lines size : ℕ) → AreDeclared names spans lines
    → has_word names name ≡ false → IsText name → HasRoom kind size lines
    → AreDeclared (names ++ name ∷ []) (spans ++ span_of kind lines size ∷ []) (lines_with kind lines size)
declared_with kind names spans name lines size h fresh text room =
    let others = none_has names name fresh in
    record {
      counted = let a = length-append spans (span_of kind lines size ∷ []) in let b = length-append names (name ∷ []) in
          let same = h.counted in omega arith;
      texts = AllByRecursion-push IsText names name h.texts text;
      different = apart_push names name h.different others;
      laid = laid_pushed 0 names spans (span_of kind lines size) h.counted h.laid
          (subst (λ (n : ℕ). AreLaid n (span_of kind lines size ∷ [])) (h.total ∙ omega arith) (one_laid kind lines size));
      total = one_total kind (registers_in names spans) name lines size h.total
          ∙ ap lines_of_all (sym (registers_with kind names spans name lines size h.counted));
      few = one_few kind lines size room h.few;
    }

-- ---- where a register stands

pub record Stands (registers : List Register) (name : List ℕ) (at : ℕ) (span : Span) : Type 0 where
  pub before : List Register
  pub behind : List Register
  pub among : registers ≡ before ++ record { name = name; size = span.size } ∷ behind
  pub place : span.first ≡ at + lines_of_all before

pub stands : (names : List (List ℕ)) (spans : List (Option Span)) (at i : ℕ) (span : Span) → length spans ≡ length names → AreLaid at spans → i < length names
    → get_or spans i None ≡ Some span → Stands (registers_in names spans) (get_or names i []) at span
stands [] spans at i span same laid inside e = absurd (omega arith)
stands (n ∷ ns) [] at i span same laid inside e = absurd (omega arith)
stands (n ∷ ns) (None ∷ ss) at zero span same laid inside e = absurd (none-some span e)
stands (n ∷ ns) (Some s ∷ ss) at zero span same laid inside e =
    let equal = same_Some s span e in
    subst (Stands (registers_in (n ∷ ns) (Some s ∷ ss)) n at) equal
    (record { before = []; behind = registers_in ns ss; among = refl; place = laid.0 ∙ omega arith })
stands (n ∷ ns) (None ∷ ss) at (suc i) span same laid inside e = stands ns ss at i span (omega arith) laid (omega arith) e
stands (n ∷ ns) (Some s ∷ ss) at (suc i) span same laid inside e =
    let rest = stands ns ss (at + s.size) i span (omega arith) laid.1 (omega arith) e in
    record {
      before = record { name = n; size = s.size } ∷ rest.before;
      behind = rest.behind;
      among = ap (λ (rs : List Register). record { name = n; size = s.size } ∷ rs)
          {y = rest.before ++ record { name = get_or ns i []; size = span.size } ∷ rest.behind} rest.among;
      place = rest.place ∙ omega arith;
    }

pub laid_at : (registers : List Register) (name : List ℕ) (span : Span) → Stands registers name 0 span → IsLaid registers name span.first span.size
laid_at registers name span h = record { before = h.before; behind = h.behind; among = h.among; place = h.place ∙ omega arith }

pub laid_within : (registers : List Register) (name : List ℕ) (first size : ℕ) → IsLaid registers name first size → first + size ≤ lines_of_all registers
laid_within registers name first size h =
    let all = ap lines_of_all h.among in
    let two = lines_of_all-append h.before (record { name = name; size = size } ∷ h.behind) in
    let place = h.place in omega arith

-- ---- names of no register

among_registers : (names : List (List ℕ)) (spans : List (Option Span)) (register : Register) → IsAmong register (registers_in names spans)
    → IsAmong register.name names
among_registers [] spans register k = k
among_registers (n ∷ ns) [] register k = absurd k
among_registers (n ∷ ns) (None ∷ ss) register k = inr (among_registers ns ss register k)
among_registers (n ∷ ns) (Some s ∷ ss) register (inl e) = inl (ap (λ (r : Register). r.name) e)
among_registers (n ∷ ns) (Some s ∷ ss) register (inr k) = inr (among_registers ns ss register k)

among_middle : (before : List Register) (register : Register) (behind : List Register) → IsAmong register (before ++ register ∷ behind)
among_middle [] register behind = inl refl
among_middle (b ∷ bs) register behind = inr (among_middle bs register behind)

laid_among : (registers : List Register) (name : List ℕ) (first size : ℕ) → IsLaid registers name first size
    → IsAmong (record { name = name; size = size }) registers
laid_among registers name first size h =
    subst (IsAmong (record { name = name; size = size })) (sym h.among) (among_middle h.before (record { name = name; size = size }) h.behind)

-- a name that was not declared
pub undeclared : (names : List (List ℕ)) (spans : List (Option Span)) (name : List ℕ) → has_word names name ≡ false → (first size : ℕ)
    → ¬ IsLaid (registers_in names spans) name first size
undeclared names spans name fresh first size h =
    not_among names name (none_has names name fresh)
    (among_registers names spans (record { name = name; size = size }) (laid_among (registers_in names spans) name first size h))

all_among : (P : List ℕ → Type 0) (names : List (List ℕ)) (name : List ℕ) → AllByRecursion P names → IsAmong name names → P name
all_among P [] name all k = absurd k
all_among P (n ∷ ns) name all (inl e) = subst P (sym e) all.0
all_among P (n ∷ ns) name all (inr k) = all_among P ns name all.1 k

-- a name of a register of bits
no_register : (names : List (List ℕ)) (spans : List (Option Span)) (i : ℕ) (register : Register) → length spans ≡ length names
    → AreApart (λ one other. one ≡ other) names → i < length names → get_or spans i None ≡ None → IsAmong register (registers_in names spans)
    → ¬ (register.name ≡ get_or names i [])
no_register [] spans i register same apart inside e k named = absurd k
no_register (n ∷ ns) [] i register same apart inside e k named = absurd k
no_register (n ∷ ns) (None ∷ ss) zero register same apart inside e k named =
    all_among (λ y. ¬ (n ≡ y)) ns register.name apart.0 (among_registers ns ss register k) (sym named)
no_register (n ∷ ns) (Some s ∷ ss) zero register same apart inside e k named = none-some s (sym e)
no_register (n ∷ ns) (None ∷ ss) (suc i) register same apart inside e k named =
    no_register ns ss i register (omega arith) apart.1 (omega arith) e k named
no_register (n ∷ ns) (Some s ∷ ss) (suc i) register same apart inside e (inl k) named =
    AllByRecursion-at (λ y. ¬ (n ≡ y)) ns i [] apart.0 (omega arith) (sym (ap (λ (r : Register). r.name) k) ∙ named)
no_register (n ∷ ns) (Some s ∷ ss) (suc i) register same apart inside e (inr k) named =
    no_register ns ss i register (omega arith) apart.1 (omega arith) e k named

pub unlaid : (names : List (List ℕ)) (spans : List (Option Span)) (i : ℕ) (name : List ℕ) → length spans ≡ length names
    → AreApart (λ one other. one ≡ other) names → i < length names → get_or spans i None ≡ None → get_or names i [] ≡ name → (first size : ℕ)
    → ¬ IsLaid (registers_in names spans) name first size
unlaid names spans i name same apart inside e named first size h =
    no_register names spans i (record { name = name; size = size }) same apart inside e
    (laid_among (registers_in names spans) name first size h) (sym named)

-- ---- what a look-up says

pub record FindSays (registers : List Register) (name : List ℕ) (found : Option Span) : Type 0 where
  pub some : IfSome found (λ span. IsLaid registers name span.first span.size)
  pub bound : IfSome found (λ span. span.first + span.size ≤ 16384)
  pub none : found ≡ None → (first size : ℕ) → ¬ IsLaid registers name first size

default_other : (spans : List (Option Span)) (i : ℕ) (a b : Option Span) → i < length spans → get_or spans i a ≡ get_or spans i b
default_other [] i a b inside = absurd (omega arith)
default_other (s ∷ ss) zero a b inside = refl
default_other (s ∷ ss) (suc i) a b inside = default_other ss i a b (omega arith)

pub found_at : (names : List (List ℕ)) (spans : List (Option Span)) (lines i : ℕ) (name : List ℕ) (found : Option Span) → AreDeclared names spans lines
    → position (bytes_eq name) names ≡ Some i → found ≡ get_or spans i found → FindSays (registers_in names spans) name found
found_at names spans lines i name None h here e =
    let at = position-Some (bytes_eq name) names i [] here in
    record {
      some = tt;
      bound = tt;
      none = λ none. unlaid names spans i name h.counted h.different at.0 (sym e) (sym (same_word name (get_or names i []) at.1));
    }
found_at names spans lines i name (Some span) h here e =
    let at = position-Some (bytes_eq name) names i [] here in
    let counted = h.counted in
    let same = sym (same_word name (get_or names i []) at.1) in
    let got = default_other spans i None (Some span) (omega (arith, at.0)) ∙ sym e in
    let laid = laid_at (registers_in names spans) name span
    (subst (λ (n : List ℕ). Stands (registers_in names spans) n 0 span) same (stands names spans 0 i span h.counted h.laid at.0 got)) in
    let within = laid_within (registers_in names spans) name span.first span.size laid in
    let few = h.few in
    let total = h.total in
    record { some = laid; bound = omega arith; none = λ none. absurd (none-some span (sym none)) }

any_position : (p : List ℕ → Bool) (xs : List (List ℕ)) → list_any p xs ≡ true → prefix_len (λ x. not (p x)) xs < length xs
any_position p [] e = absurd (false≢true e)
any_position p (x ∷ xs) e = by (p x) refl (any_position p xs)
  where
    by : (t : Bool) → p x ≡ t → (list_any p xs ≡ true → prefix_len (λ y. not (p y)) xs < length xs) → prefix_len (λ y. not (p y)) (x ∷ xs) < suc (length xs)
    by true pass more =
        let none : prefix_len (λ y. not (p y)) (x ∷ xs) ≡ 0 = ap (λ (t : Bool). cond (not t) (1 + prefix_len (λ y. not (p y)) xs) 0) pass in omega arith
    by false other more =
        let less = more (sym (ap (λ (t : Bool). t || list_any p xs) other) ∙ e) in
        let one : prefix_len (λ y. not (p y)) (x ∷ xs) ≡ 1 + prefix_len (λ y. not (p y)) xs =
        ap (λ (t : Bool). cond (not t) (1 + prefix_len (λ y. not (p y)) xs) 0) other in
        omega arith

pub position_none : (p : List ℕ → Bool) (xs : List (List ℕ)) → position p xs ≡ None → list_any p xs ≡ false
position_none p xs e = by (list_any p xs) refl
  where
    by : (t : Bool) → list_any p xs ≡ t → t ≡ false
    by false some = refl
    by true some = absurd (none-some (prefix_len (λ x. not (p x)) xs) (sym e
        ∙ cond-true (ltb (prefix_len (λ x. not (p x)) xs) (length xs)) (Some (prefix_len (λ x. not (p x)) xs)) None
        (lt-ltb (prefix_len (λ x. not (p x)) xs) (length xs) (any_position p xs some))))

pub found_none : (names : List (List ℕ)) (spans : List (Option Span)) (name : List ℕ) → position (bytes_eq name) names ≡ None
    → FindSays (registers_in names spans) name None
found_none names spans name e =
    record { some = tt; bound = tt; none = λ none. undeclared names spans name (position_none (bytes_eq name) names e) }

-- ---- one more name

abbrev pub SameView : DeclaredView → DeclaredView → Type 0
SameView one other = one ≡ other

pub record Pushed (kind : RegisterKind) (names : List (List ℕ)) (spans : List (Option Span)) (lines : ℕ)
    (view : DeclaredView) (name : List ℕ) (size : ℕ) : Type 0 where
  pub sound : AreDeclared names spans lines
  pub seen : SameView (record { names = names; registers = registers_in names spans })
      (record { names = view.names ++ name ∷ []; registers = kind_registers kind name size view.registers })

pub pushed : (kind known : RegisterKind) (names new_names : List (List ℕ)) (spans new_spans : List (Option Span))
    (view : DeclaredView) (name : List ℕ) (lines size : ℕ)
    → kind ≡ known → AreDeclared names spans lines → names ≡ view.names → registers_in names spans ≡ view.registers → has_word view.names name ≡ false
    → IsText name → HasRoom kind size (lines_of_all view.registers) → new_names ≡ names ++ name ∷ [] → new_spans ≡ spans ++ span_of known lines size ∷ []
    → Pushed kind new_names new_spans (lines_with known lines size) view name size
pushed kind known names new_names spans new_spans view name lines size same h seen_names seen_registers fresh text room e f =
    let new = ap (λ (ns : List (List ℕ)). has_word ns name) seen_names ∙ fresh in
    let total = h.total ∙ ap lines_of_all seen_registers in
    let fits = subst (λ (k : RegisterKind). HasRoom k size lines) same (subst (HasRoom kind size) (sym total) room) in
    let registers = registers_with known names spans name lines size h.counted ∙ ap (kind_registers known name size) seen_registers
    ∙ ap (λ (k : RegisterKind). kind_registers k name size view.registers) (sym same) in
    let view_names : SameView (record {
      names = names ++ name ∷ [];
      registers = registers_in (names ++ name ∷ []) (spans ++ span_of known lines size ∷ []);
    }) (record {
      names = view.names ++ name ∷ [];
      registers = registers_in (names ++ name ∷ []) (spans ++ span_of known lines size ∷ []);
    }) = ap (λ (ns : List (List ℕ)). record {
      names = ns ++ name ∷ [];
      registers = registers_in (names ++ name ∷ []) (spans ++ span_of known lines size ∷ []);
    }) seen_names in
    rw (e, f) (record {
      sound = declared_with known names spans name lines size h new text fits;
      seen = view_names
          ∙ ap (λ (rs : List Register). record { names = view.names ++ name ∷ []; registers = rs }) registers;
    })

-- ---- copies

copied_one : (all copies : List Register) (names : List (List ℕ)) (spans : List (Option Span)) (i : ℕ) (name : List ℕ) (span : Span)
    → slice_get names i ≡ Some name → i < length spans → get_or spans i None ≡ Some span
    → all ≡ copies ++ registers_in (drop i names) (drop i spans)
    → all ≡ (copies ++ record { name = name; size = span.size } ∷ []) ++ registers_in (drop (i + 1) names) (drop (i + 1) spans)
copied_one all copies names spans i name span named inside here so_far =
    let at_names = drop_got names i name named in
    let at_spans = drop_more spans i None inside ∙ ap (λ (s : Option Span). s ∷ drop (i + 1) spans) here in
    so_far ∙ ap (λ (ns : List (List ℕ)). copies ++ registers_in ns (drop i spans)) at_names
    ∙ ap (λ (ss : List (Option Span)). copies ++ registers_in (name ∷ drop (i + 1) names) ss) at_spans
    ∙ sym (append_assoc copies (record { name = name; size = span.size } ∷ []) (registers_in (drop (i + 1) names) (drop (i + 1) spans)))

copied_none : (all copies : List Register) (names : List (List ℕ)) (spans : List (Option Span)) (i : ℕ) → i < length names → i < length spans
    → get_or spans i None ≡ None → all ≡ copies ++ registers_in (drop i names) (drop i spans)
    → all ≡ copies ++ registers_in (drop (i + 1) names) (drop (i + 1) spans)
copied_none all copies names spans i named inside here so_far =
    let at_spans = drop_more spans i None inside ∙ ap (λ (s : Option Span). s ∷ drop (i + 1) spans) here in
    so_far ∙ ap (λ (ns : List (List ℕ)). copies ++ registers_in ns (drop i spans)) (drop_more names i [] named)
    ∙ ap (λ (ss : List (Option Span)). copies ++ registers_in (get_or names i [] ∷ drop (i + 1) names) ss) at_spans

pub copied_more : (all copies more : List Register) (names : List (List ℕ)) (spans : List (Option Span)) (i : ℕ) (name : List ℕ) (span : Option Span)
    → slice_get names i ≡ Some name → i < length spans → get_or spans i None ≡ span → more ≡ copies ++ registers_at name span
    → all ≡ copies ++ registers_in (drop i names) (drop i spans) → all ≡ more ++ registers_in (drop (i + 1) names) (drop (i + 1) spans)
copied_more all copies more names spans i name (Some span) named low here is so_far =
    copied_one all copies names spans i name span named low here so_far
    ∙ ap (λ rs. rs ++ registers_in (drop (i + 1) names) (drop (i + 1) spans)) (sym is)
copied_more all copies more names spans i name None named low here is so_far =
    copied_none all copies names spans i (slice_get_within names i name named) low here so_far
    ∙ ap (λ rs. rs ++ registers_in (drop (i + 1) names) (drop (i + 1) spans)) (sym (is ∙ append-nil copies))

pub text_at : (names : List (List ℕ)) (i : ℕ) (name : List ℕ) → AllByRecursion IsText names → slice_get names i ≡ Some name → IsText name
text_at names i name all named = subst IsText (get_or_from_slice_get names i name name named)
    (AllByRecursion-at IsText names i name all (slice_get_within names i name named))
