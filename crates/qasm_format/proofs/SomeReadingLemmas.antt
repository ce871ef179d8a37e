-- Each text has a reading: a token leads on from each stage, or it is known that it does not, and whether it passes a limit.
use Rattle.std.proofs.Common.{◌≡◌, ℕ, zero, suc, ◌+◌, ◌<◌, ◌≤◌, Bool, true, false, ◌⊎◌, inl, inr, List, [], ◌∷◌, ◌++◌, length, codes, Option, Some, None}
use Rattle.std.proofs.Common.{refl, sym, ap, ◌∙◌, subst, arith, get_or}
use Rattle.std.specs.Option.{unwrap_or}
use Rattle.std.specs.Str.{bytes_eq}
use Rattle.std.specs.Str.Parse.{digits_value}
use Rattle.std.specs.Char.{is_ascii_lowercase}
use Rattle.std.proofs.lemmas.Bool.{cases_Bool, cases_eq, cases_lt, false≢true}
use Rattle.std.proofs.lemmas.Option.{none-some}
use Rattle.std.proofs.lemmas.List.{length_push}
use Rattle.list_facts.specs.Lists.{IsAmong}
use Rattle.format_parts.specs.Names.{has_word}
use Rattle.mct_circuit.specs.Gates.{GateView}
use Rattle.circuit_plans.specs.declared.plan.TheConstants.{MOST_GATES, MOST_LINES}
use Rattle.revc_base.specs.declared.limits.TheConstants.{MOST_NAME_BYTES}
use Rattle.qasm_format.specs.declared.file.Register.{Register}
use Rattle.qasm_format.specs.declared.file.QasmFault.{QasmFault}
use Rattle.qasm_format.specs.declared.file.QasmFault.TheVariants.{Token, Limit}
use Rattle.qasm_format.specs.declared.words.RegisterKind.{RegisterKind}
use Rattle.qasm_format.specs.declared.words.RegisterKind.TheVariants.{Qubits, Bits}
use Rattle.qasm_format.specs.declared.words.Use.{Use}
use Rattle.qasm_format.specs.declared.words.Use.TheVariants.{Barrier, Flip}
use Rattle.qasm_format.specs.declared.spots.Spot.{Spot}
use Rattle.qasm_format.specs.declared.spots.Spot.TheVariants.{Whole}
use Rattle.qasm_lexer.specs.Tokens.{Left, Cuts, nothing_taken, gap_dropped, token_taken, IsNext, whole, is_identifier, is_number}
use Rattle.qasm_lexer.proofs.CutLemmas.{some_next}
use Rattle.qasm_lexer.proofs.MoveLemmas.{next_cut}
use Rattle.qasm_lexer.proofs.RunTestLemmas.{number_of_numeral, numeral_of}
use Rattle.qasm_lexer.proofs.SomeTokensLemmas.{some_tokens}
use Rattle.text_places.specs.Places.{place_after}
use Rattle.qasm_format.specs.Registers.{IsNumber, IsLaid, kept_words, lines_of_all}
use Rattle.qasm_format.specs.Stages.{Said, Stage, starts, wants, wants_library, wants_name, wants_size, wants_argument, behind_name, wants_index, behind_argument, head}
use Rattle.qasm_format.specs.Stages.{HasRoom, Ends, Closes, HaveManyGates, Leads, MayEnd, MayGoOn, PassesLimit, StandForGates}
use Rattle.qasm_format.specs.Qasm.{MeansFile, QasmView, Reads}
use Rattle.qasm_format.specs.Faults.{IsTextFault, StopsAt}
use Rattle.format_parts.specs.Readings.{SomeReading, nothing_left, one_more}
use Rattle.qasm_format.specs.inside.Spread.{AreAllDifferent, MeetSomewhere, are_different, shared_by}
use Rattle.qasm_format.specs.inside.Tests.{is_include, kind_of, use_of}
use Rattle.qasm_format.proofs.DeclaredLemmas.{among_has, none_has, not_among}
use Rattle.qasm_format.proofs.FitLemmas.{stand_same}
use Rattle.qasm_format.proofs.ReadingLemmas.{other_word, reads_none, reads_then, same_word}
use Rattle.qasm_format.proofs.SpreadLemmas.{all_more, count_found, meeting_stand, meets, no_count, split_off, stand}
use Rattle.qasm_format.proofs.StageLemmas.{comma_or_end}
use Rattle.qasm_format.proofs.StatementLemmas.{begins_none, include_begins, kind_begins, kind_there, use_begins, use_there}

-- ---- what can be decided

-- it holds, or it does not
abbrev Decided : Type 0 → Type 0
Decided A = A ⊎ (A → ⊥)

-- the token leads on, or nowhere, and then it is decided whether it passes a limit
abbrev Settles : List ℕ → Stage → Type 0
Settles word stage = ((to : Stage) × Leads word stage to) ⊎ (((to : Stage) → Leads word stage to → ⊥) × Decided (PassesLimit word stage))

never : Decided ⊥
never = inr (λ h. h)

among : (names : List (List ℕ)) (word : List ℕ) → Decided (IsAmong word names)
among names word = elim (cases_Bool (has_word names word)) [
  | inl e ↦ inl (among_has names word e)
  | inr e ↦ inr (not_among names word (none_has names word e))
]

has_room : (kind : RegisterKind) (size lines : ℕ) → Decided (HasRoom kind size lines)
has_room Bits size lines = inl tt
has_room Qubits size lines = elim (cases_lt MOST_LINES (lines + size)) [ inl many ↦ inr (λ few. absurd (omega (arith, many, few))) | inr few ↦ inl few ]

-- the register of a name
abbrev Laid : List Register → List ℕ → Type 0
Laid registers name =
    ((first : ℕ) × (size : ℕ) × IsLaid registers name first size) ⊎ ((first size : ℕ) → IsLaid registers name first size → ⊥)

none_laid : (name : List ℕ) (before behind : List Register) (one : Register) → [] ≡ before ++ one ∷ behind → ⊥
none_laid name [] behind one e = cc
none_laid name (b ∷ bs) behind one e = cc

laid_behind : (r : Register) (rs : List Register) (name : List ℕ) (first size : ℕ) → IsLaid rs name first size → IsLaid (r ∷ rs) name (r.size + first) size
laid_behind r rs name first size h = record {
  before = r ∷ h.before;
  behind = h.behind;
  among = ap (λ (xs : List Register). r ∷ xs) {y = h.before ++ record { name = name; size = size } ∷ h.behind} h.among;
  place = ap (λ n. r.size + n) h.place;
}

laid_later : (r : Register) (rs before behind : List Register) (name : List ℕ) (size : ℕ) → (r.name ≡ name → ⊥)
    → ((first : ℕ) (own : ℕ) → IsLaid rs name first own → ⊥) → r ∷ rs ≡ before ++ record { name = name; size = size } ∷ behind → ⊥
laid_later r rs [] behind name size other none e =
    let same : r ≡ record { name = name; size = size } = cc in
    other (ap (λ (x : Register). x.name) same)
laid_later r rs (b ∷ bs) behind name size other none e =
    let rest : rs ≡ bs ++ record { name = name; size = size } ∷ behind = cc in
    none (lines_of_all bs) size (record { before = bs; behind = behind; among = rest; place = refl })

laid : (registers : List Register) (name : List ℕ) → Laid registers name
laid [] name = inr (λ first size h. none_laid name h.before h.behind (record { name = name; size = size }) h.among)
laid (r ∷ rs) name = by (cases_Bool (bytes_eq r.name name)) (laid rs name)
  where
    by : (bytes_eq r.name name ≡ true) ⊎ (bytes_eq r.name name ≡ false) → Laid rs name → Laid (r ∷ rs) name
    by (inl e) more = inl (
      0,
      r.size,
      record {
        before = [];
        behind = rs;
        among = ap (λ (n : List ℕ). let x : Register = record { name = n; size = r.size } in x ∷ rs) (same_word r.name name e);
        place = refl;
      },
    )
    by (inr e) (inl (first, size, h)) = inl (r.size + first, size, laid_behind r rs name first size h)
    by (inr e) (inr none) = inr (λ first size h. laid_later r rs h.before h.behind name size (other_word r.name name e) none h.among)

-- ---- the gates of arguments

all_or_meet : (spots : List Spot) (n : ℕ) → AreAllDifferent spots n ⊎ MeetSomewhere spots n
all_or_meet spots zero = inl (record { says = λ i low. absurd (omega arith) })
all_or_meet spots (suc n) = by (all_or_meet spots n) (cases_Bool (are_different n spots))
  where
    next : n + 1 ≡ suc n
    next = omega arith

    by : AreAllDifferent spots n ⊎ MeetSomewhere spots n → (are_different n spots ≡ true) ⊎ (are_different n spots ≡ false)
        → AreAllDifferent spots (suc n) ⊎ MeetSomewhere spots (suc n)
    by (inr m) e = inr (record { i = m.i; below = omega (arith, m.below); meet = m.meet })
    by (inl all) (inl e) = inl (subst (AreAllDifferent spots) next (all_more spots n all e))
    by (inl all) (inr e) = inr (record { i = n; below = omega arith; meet = meets n spots e })

abbrev GatesOf : ℕ → List Spot → Type 0
GatesOf controls spots =
    ((gates : List GateView) × StandForGates controls spots gates) ⊎ ((gates : List GateView) → StandForGates controls spots gates → ⊥)

spread_gates : (controls count : ℕ) (spots : List Spot) → length spots ≡ controls + 1 → (found : Option ℕ) → shared_by None spots ≡ Some found
    → count ≡ unwrap_or found 1 → GatesOf controls spots
spread_gates controls count spots long found e is =
    let spread = count_found spots found e in
    elim (all_or_meet spots (unwrap_or found 1)) [
      | inl all ↦
          let split = split_off spots (omega (arith, long)) in
          inl (_, stand split.0 split.1 spots (unwrap_or found 1) controls split.2 long spread all)
      | inr m ↦ inr ((meeting_stand spots (unwrap_or found 1) spread m).says controls)
    ]

gates_of : (controls : ℕ) (spots : List Spot) → GatesOf controls spots
gates_of controls spots = elim (cases_eq (length spots) (controls + 1)) [
  | inr other ↦ inr (λ gates h. other (ap length h.parts ∙ length_push h.controlling h.target ∙ omega (arith, h.counted)))
  | inl long ↦ by (shared_by None spots) refl long
]
  where
    by : (found : Option (Option ℕ)) → shared_by None spots ≡ found → length spots ≡ controls + 1 → GatesOf controls spots
    by None e long = inr (λ gates h. no_count spots e h.count h.spread)
    by (Some found) e long = spread_gates controls (unwrap_or found 1) spots long found e refl

-- ---- the end of a statement

abbrev SettlesEnd : Use → List Spot → Said → Type 0
SettlesEnd usage spots said =
    ((after : Said) × Ends usage spots said after)
    ⊎ (((after : Said) → Ends usage spots said after → ⊥) × Decided (HaveManyGates usage spots said))

settles_end : (usage : Use) (spots : List Spot) (said : Said) → SettlesEnd usage spots said
settles_end Barrier spots said = inl (said, refl)
settles_end (Flip controls) spots said = elim (gates_of controls spots) [
  | inr none ↦ inr (λ after ends. none ends.0 ends.1, inr (λ many. none many.0 many.1))
  | inl (gates, h) ↦ elim (cases_lt MOST_GATES (length said.gates + length gates)) [
    | inr few ↦ inl (record said { gates = said.gates ++ gates }, (gates, h, few, refl))
    | inl many ↦ inr (
      λ after ends.
          let same = ap (λ (gs : List GateView). length gs) (stand_same controls spots gates ends.0 h ends.1) in
          absurd (omega (arith, same, many, ends.2)),
      inl (gates, h, many),
    )
  ]
]

may_go_on : (usage : Use) (spots : List Spot) → Decided (MayGoOn usage spots)
may_go_on Barrier spots = inl tt
may_go_on (Flip controls) spots = elim (cases_lt controls (length spots)) [ inl more ↦ inr (λ few. absurd (omega (arith, more, few))) | inr few ↦ inl few ]

abbrev SettlesClosing : List ℕ → Use → List Spot → Said → Type 0
SettlesClosing word usage spots said =
    ((next : Stage) × Closes word usage spots said next)
    ⊎ (((next : Stage) → Closes word usage spots said next → ⊥) × Decided ((word ≡ codes ";") × HaveManyGates usage spots said))

no_comma : (word : List ℕ) (usage : Use) (spots : List Spot) (said : Said) (next : Stage) → word ≡ codes "," → (MayGoOn usage spots → ⊥)
    → Closes word usage spots said next → ⊥
no_comma word usage spots said next comma none (inl c) = none c.1
no_comma word usage spots said next comma none (inr c) = comma_or_end word comma c.0

no_end : (word : List ℕ) (usage : Use) (spots : List Spot) (said : Said) (next : Stage) → word ≡ codes ";"
    → ((after : Said) → Ends usage spots said after → ⊥) → Closes word usage spots said next → ⊥
no_end word usage spots said next semicolon none (inl c) = comma_or_end word c.0 semicolon
no_end word usage spots said next semicolon none (inr c) = none c.1.0 c.1.1

no_closing : (word : List ℕ) (usage : Use) (spots : List Spot) (said : Said) (next : Stage) → (word ≡ codes "," → ⊥) → (word ≡ codes ";" → ⊥)
    → Closes word usage spots said next → ⊥
no_closing word usage spots said next other apart (inl c) = other c.0
no_closing word usage spots said next other apart (inr c) = apart c.0

with_end : (word : List ℕ) (usage : Use) (spots : List Spot) (said : Said) → word ≡ codes ";" → Decided (HaveManyGates usage spots said)
    → Decided ((word ≡ codes ";") × HaveManyGates usage spots said)
with_end word usage spots said semicolon (inl many) = inl (semicolon, many)
with_end word usage spots said semicolon (inr few) = inr (λ h. few h.1)

settles_closing : (word : List ℕ) (usage : Use) (spots : List Spot) (said : Said) → SettlesClosing word usage spots said
settles_closing word usage spots said = elim (cases_Bool (bytes_eq word (codes ","))) [
  | inl e ↦ (let comma = same_word word (codes ",") e in
      elim (may_go_on usage spots) [
        | inl more ↦ inl (wants_argument usage spots said, inl (comma, more, refl))
        | inr none ↦ inr (λ next. no_comma word usage spots said next comma none, inr (λ many. comma_or_end word comma many.0))
      ])
  | inr other ↦ elim (cases_Bool (bytes_eq word (codes ";"))) [
    | inl e ↦ (let semicolon = same_word word (codes ";") e in
        elim (settles_end usage spots said) [
          | inl (after, ends) ↦ inl (starts after, inr (semicolon, (after, ends, refl)))
          | inr (none, limit) ↦ inr (λ next. no_end word usage spots said next semicolon none, with_end word usage spots said semicolon limit)
        ])
    | inr apart ↦ inr (
      λ next. no_closing word usage spots said next (other_word word (codes ",") other) (other_word word (codes ";") apart),
      inr (λ many. other_word word (codes ";") apart many.0),
    )
  ]
]

-- ---- each stage

settles_start : (word : List ℕ) (said : Said) → Settles word (starts said)
settles_start word said = by (kind_of word) refl (use_of word said.included) refl
  where
    by : (kind : Option RegisterKind) → kind_of word ≡ kind → (usage : Option Use) → use_of word said.included ≡ usage → Settles word (starts said)
    by (Some kind) e usage f = inl (wants_name kind said, kind_begins word said kind e)
    by None e (Some usage) f = inl (wants_argument usage [] said, use_begins word said usage f)
    by None e None f = elim (cases_Bool (is_include word said.included)) [
      | inl include ↦ inl (wants_library said, include_begins word said include)
      | inr other ↦ inr ((begins_none word said other e f).nowhere, never)
    ]

settles_name : (word : List ℕ) (kind : RegisterKind) (said : Said) → Settles word (wants_name kind said)
settles_name word kind said = elim (cases_Bool (is_identifier word)) [
  | inr other ↦ inr (λ to l. false≢true (sym other ∙ l.named.spelled), inr (λ long. false≢true (sym other ∙ long.0)))
  | inl spelled ↦ elim (cases_lt MOST_NAME_BYTES (length word)) [
    | inl long ↦ inr (λ to l. absurd (omega (arith, long, l.named.few)), inl (spelled, long))
    | inr few ↦ elim (cases_Bool (is_ascii_lowercase (get_or word 0 0))) [
      | inr large ↦ inr (λ to l. false≢true (sym large ∙ l.named.begins), inr (λ long. absurd (omega (arith, few, long.1))))
      | inl small ↦ elim (among kept_words word) [
        | inl kept ↦ inr (λ to l. l.named.free kept, inr (λ long. absurd (omega (arith, few, long.1))))
        | inr free ↦ elim (among said.names word) [
          | inl taken ↦ inr (λ to l. l.fresh taken, inr (λ long. absurd (omega (arith, few, long.1))))
          | inr fresh ↦ inl (
            _,
            record { named = record { spelled = spelled; begins = small; few = few; free = free }; fresh = fresh; leads = refl },
          )
        ]
      ]
    ]
  ]
]

no_number : (word : List ℕ) (n : ℕ) → is_number word ≡ false → IsNumber word n → ⊥
no_number word n other number = false≢true (sym other ∙ number_of_numeral word number.spelled)

is_number_of : (word : List ℕ) → is_number word ≡ true → length word ≤ 9 → IsNumber word (digits_value 10 word)
is_number_of word spelled few = record { spelled = numeral_of word spelled; few = few; value = refl }

no_many : (word : List ℕ) (kind : RegisterKind) (name : List ℕ) (said : Said) → length word ≤ 9
    → ((size : ℕ) → IsNumber word size → 1 ≤ size → (HasRoom kind size (lines_of_all said.registers) → ⊥) → ⊥)
    → PassesLimit word (wants_size kind name said) → ⊥
no_many word kind name said few none (inl long) = absurd (omega (arith, few, long.1))
no_many word kind name said few none (inr many) = none many.size many.number many.some many.many

settles_number : (word : List ℕ) (kind : RegisterKind) (name : List ℕ) (said : Said) → is_number word ≡ true → length word ≤ 9
    → Settles word (wants_size kind name said)
settles_number word kind name said spelled few =
    let n = digits_value 10 word in
    elim (cases_lt 0 n) [
      | inr none ↦ inr (
        λ to l. absurd (omega (arith, none, l.some, l.number.value)),
        inr (no_many word kind name said few (λ size number some full. absurd (omega (arith, none, some, number.value)))),
      )
      | inl some ↦ elim (has_room kind n (lines_of_all said.registers)) [
        | inl room ↦ inl (
          _,
          record { size = n; number = is_number_of word spelled few; some = omega (arith, some); room = room; leads = refl },
        )
        | inr full ↦ inr (
          λ to l. full (subst (λ (k : ℕ). HasRoom kind k (lines_of_all said.registers)) (sym l.number.value) l.room),
          inl (inr (record { size = n; number = is_number_of word spelled few; some = omega (arith, some); many = full })),
        )
      ]
    ]

no_size : (word : List ℕ) (kind : RegisterKind) (name : List ℕ) (said : Said) → is_number word ≡ false → PassesLimit word (wants_size kind name said) → ⊥
no_size word kind name said other (inl long) = false≢true (sym other ∙ long.0)
no_size word kind name said other (inr many) = no_number word many.size other many.number

settles_size : (word : List ℕ) (kind : RegisterKind) (name : List ℕ) (said : Said) → Settles word (wants_size kind name said)
settles_size word kind name said = elim (cases_Bool (is_number word)) [
  | inr other ↦ inr (λ to l. no_number word l.size other l.number, inr (no_size word kind name said other))
  | inl spelled ↦ elim (cases_lt 9 (length word)) [
    | inl long ↦ inr (λ to l. absurd (omega (arith, long, l.number.few)), inl (inl (spelled, long)))
    | inr few ↦ settles_number word kind name said spelled few
  ]
]

settles_index : (word : List ℕ) (usage : Use) (spots : List Spot) (first size : ℕ) (said : Said) → Settles word (wants_index usage spots first size said)
settles_index word usage spots first size said = elim (cases_Bool (is_number word)) [
  | inr other ↦ inr (λ to l. no_number word l.index other l.number, inr (λ long. false≢true (sym other ∙ long.0)))
  | inl spelled ↦ elim (cases_lt 9 (length word)) [
    | inl long ↦ inr (λ to l. absurd (omega (arith, long, l.number.few)), inl (spelled, long))
    | inr few ↦ elim (cases_lt (digits_value 10 word) size) [
      | inl inside ↦ inl (
        _,
        record { index = digits_value 10 word; number = is_number_of word spelled few; inside = inside; leads = refl },
      )
      | inr beyond ↦ inr (λ to l. absurd (omega (arith, beyond, l.inside, l.number.value)), inr (λ long. absurd (omega (arith, few, long.1))))
    ]
  ]
]

settles_argument : (word : List ℕ) (usage : Use) (spots : List Spot) (said : Said) → Settles word (wants_argument usage spots said)
settles_argument word usage spots said = elim (cases_Bool (is_identifier word)) [
  | inr other ↦ inr (λ to l. false≢true (sym other ∙ l.spelled), inr (λ long. false≢true (sym other ∙ long.0)))
  | inl spelled ↦ elim (cases_lt MOST_NAME_BYTES (length word)) [
    | inl long ↦ inr (λ to l. absurd (omega (arith, long, l.few)), inl (spelled, long))
    | inr few ↦ elim (laid said.registers word) [
      | inl (first, size, h) ↦ inl (_, record { first = first; size = size; spelled = spelled; few = few; laid = h; leads = refl })
      | inr none ↦ inr (λ to l. none l.first l.size l.laid, inr (λ long. absurd (omega (arith, few, long.1))))
    ]
  ]
]

no_open : (word : List ℕ) (usage : Use) (spots : List Spot) (first size : ℕ) (said : Said) (to : Stage) → (word ≡ codes "[" → ⊥)
    → ((next : Stage) → Closes word usage (spots ++ Whole first size ∷ []) said next → ⊥) → Leads word (behind_name usage spots first size said) to → ⊥
no_open word usage spots first size said to other none (inl l) = other l.0
no_open word usage spots first size said to other none (inr l) = none to l

settles_behind : (word : List ℕ) (usage : Use) (spots : List Spot) (first size : ℕ) (said : Said) → Settles word (behind_name usage spots first size said)
settles_behind word usage spots first size said = elim (cases_Bool (bytes_eq word (codes "["))) [
  | inl e ↦ inl (wants_index usage spots first size said, inl (same_word word (codes "[") e, refl))
  | inr other ↦ elim (settles_closing word usage (spots ++ Whole first size ∷ []) said) [
    | inl (next, h) ↦ inl (next, inr h)
    | inr (none, limit) ↦ inr (λ to. no_open word usage spots first size said to (other_word word (codes "[") other) none, limit)
  ]
]

settles : (word : List ℕ) (stage : Stage) → Settles word stage
settles word (starts said) = settles_start word said
settles word (wants wanted after) = elim (cases_Bool (bytes_eq word wanted)) [
  | inl e ↦ inl (after, (same_word word wanted e, refl))
  | inr e ↦ inr (λ to l. other_word word wanted e l.0, never)
]
settles word (wants_name kind said) = settles_name word kind said
settles word (wants_size kind name said) = settles_size word kind name said
settles word (wants_argument usage spots said) = settles_argument word usage spots said
settles word (behind_name usage spots first size said) = settles_behind word usage spots first size said
settles word (wants_index usage spots first size said) = settles_index word usage spots first size said
settles word (behind_argument usage spots said) = settles_closing word usage spots said

-- ---- the end of a text

-- the words that are wanted are not empty
abbrev Spelled : Stage → Type 0
Spelled (wants wanted after) = (0 < length wanted) × Spelled after
Spelled (starts said) = Unit {0}
Spelled (wants_name kind said) = Unit {0}
Spelled (wants_size kind name said) = Unit {0}
Spelled (wants_argument usage spots said) = Unit {0}
Spelled (behind_name usage spots first size said) = Unit {0}
Spelled (wants_index usage spots first size said) = Unit {0}
Spelled (behind_argument usage spots said) = Unit {0}

spelled_closing : (word : List ℕ) (usage : Use) (spots : List Spot) (said : Said) (next : Stage) → Closes word usage spots said next → Spelled next
spelled_closing word usage spots said next (inl (comma, more, same)) = subst Spelled (sym same) tt
spelled_closing word usage spots said next (inr (semicolon, (after, ends, same))) = subst Spelled (sym same) tt

spelled_next : (word : List ℕ) (from next : Stage) → Spelled from → Leads word from next → Spelled next
spelled_next word (starts said) next s (inl l) = subst Spelled (sym l.leads) (omega arith, (omega arith, tt))
spelled_next word (starts said) next s (inr (inl l)) = subst Spelled (sym l.leads) tt
spelled_next word (starts said) next s (inr (inr l)) = subst Spelled (sym l.leads) tt
spelled_next word (wants wanted after) next s l = subst Spelled (sym l.1) s.1
spelled_next word (wants_name kind said) next s l = subst Spelled (sym l.leads) (omega arith, tt)
spelled_next word (wants_size kind name said) next s l = subst Spelled (sym l.leads) (omega arith, (omega arith, tt))
spelled_next word (wants_argument usage spots said) next s l = subst Spelled (sym l.leads) tt
spelled_next word (behind_name usage spots first size said) next s (inl l) = subst Spelled (sym l.1) tt
spelled_next word (behind_name usage spots first size said) next s (inr l) = spelled_closing word usage (spots ++ Whole first size ∷ []) said next l
spelled_next word (wants_index usage spots first size said) next s l = subst Spelled (sym l.leads) (omega arith, tt)
spelled_next word (behind_argument usage spots said) next s l = spelled_closing word usage spots said next l

no_use : (included : Bool) → use_of [] included ≡ None
no_use true = refl
no_use false = refl

nothing_closes : (usage : Use) (spots : List Spot) (said : Said) (next : Stage) → Closes [] usage spots said next → ⊥
nothing_closes usage spots said next (inl c) = let none = ap length c.0 in absurd (omega arith)
nothing_closes usage spots said next (inr c) = let none = ap length c.0 in absurd (omega arith)

-- the end of a text leads nowhere
nothing_leads : (stage to : Stage) → Spelled stage → Leads [] stage to → ⊥
nothing_leads (starts said) to s (inl l) = let none = ap length l.spelled in absurd (omega arith)
nothing_leads (starts said) to s (inr (inl l)) = none-some l.kind (ap kind_of l.spelled ∙ kind_there l.kind)
nothing_leads (starts said) to s (inr (inr l)) = none-some l.usage (sym (no_use said.included) ∙ use_there [] said.included l.usage l.spelled)
nothing_leads (wants wanted after) to s l = let none = ap length l.0 in absurd (omega (arith, none, s.0))
nothing_leads (wants_name kind said) to s l = false≢true l.named.spelled
nothing_leads (wants_size kind name said) to s l = no_number [] l.size refl l.number
nothing_leads (wants_argument usage spots said) to s l = false≢true l.spelled
nothing_leads (behind_name usage spots first size said) to s (inl l) = let none = ap length l.0 in absurd (omega arith)
nothing_leads (behind_name usage spots first size said) to s (inr l) = nothing_closes usage (spots ++ Whole first size ∷ []) said to l
nothing_leads (wants_index usage spots first size said) to s l = no_number [] l.index refl l.number
nothing_leads (behind_argument usage spots said) to s l = nothing_closes usage spots said to l

-- ---- the text

abbrev Reading : List ℕ → Type 0
Reading text = ((file : QasmView) × MeansFile text file) ⊎ ((fault : QasmFault) × IsTextFault text fault)

stopped : (text word : List ℕ) (now : Left) (stage : Stage) → StopsAt (whole text) head now.at word stage → Decided (PassesLimit word stage) → Reading text
stopped text word now stage stops (inl limit) = inr (Limit now.at, record { word = word; stage = stage; stops = stops; limit = limit })
stopped text word now stage stops (inr form) = inr (Token now.at, record { word = word; stage = stage; stops = stops; form = form })

-- no token is left, and the text may not end there
open_end : (text : List ℕ) (now : Left) (stage : Stage) → now.bytes ≡ [] → Spelled stage → Reads (whole text) now head stage → (MayEnd stage → ⊥) → Reading text
open_end text now stage none s reads no_end = elim (settles [] stage) [
  | inl (to, leads) ↦ absurd (nothing_leads stage to s leads)
  | inr (nowhere, limit) ↦ stopped text [] now stage (record {
    mid = now;
    reads = reads;
    place = refl;
    begins = inl (refl, none);
    nowhere = nowhere;
    open_stage = λ e. no_end;
  }) limit
]

at_end : (text : List ℕ) (now : Left) (stage : Stage) → now.bytes ≡ [] → Spelled stage → Reads (whole text) now head stage → Reading text
at_end text now (starts said) none s reads = elim (cases_lt 0 (lines_of_all said.registers)) [
  | inl some ↦ inl (
    record { registers = said.registers; gates = said.gates },
    record { last = now; said = said; reads = reads; ended = none; registers = refl; gates = refl; some = omega (arith, some) },
  )
  | inr empty ↦ open_end text now (starts said) none s reads (λ may. absurd (omega (arith, empty, may)))
]
at_end text now (wants wanted after) none s reads = open_end text now (wants wanted after) none s reads (λ may. may)
at_end text now (wants_name kind said) none s reads = open_end text now (wants_name kind said) none s reads (λ may. may)
at_end text now (wants_size kind name said) none s reads = open_end text now (wants_size kind name said) none s reads (λ may. may)
at_end text now (wants_argument usage spots said) none s reads = open_end text now (wants_argument usage spots said) none s reads (λ may. may)
at_end text now (behind_name usage spots first size said) none s reads =
    open_end text now (behind_name usage spots first size said) none s reads (λ may. may)
at_end text now (wants_index usage spots first size said) none s reads =
    open_end text now (wants_index usage spots first size said) none s reads (λ may. may)
at_end text now (behind_argument usage spots said) none s reads = open_end text now (behind_argument usage spots said) none s reads (λ may. may)

-- the place behind a piece
abbrev behind_piece : Left → List ℕ → List ℕ → Left
behind_piece now piece rest = record { at = place_after now.at piece; bytes = rest }

reads_token : (now : Left) (word rest : List ℕ) (from to : Stage) → IsNext now.bytes word rest → Leads word from to
    → Reads now (behind_piece now word rest) from to
reads_token now word rest from to next leads = record {
  tokens = word ∷ [];
  moves = record { front = word; parts = next_cut now.bytes word rest next; place = refl; cuts = token_taken word rest next nothing_taken };
  lead = one_more leads nothing_left;
}

token_stops : (text word rest : List ℕ) (now : Left) (stage : Stage) → Reads (whole text) now head stage → IsNext now.bytes word rest
    → ((to : Stage) → Leads word stage to → ⊥) → StopsAt (whole text) head now.at word stage
token_stops text word rest now stage reads next nowhere = record {
  mid = now;
  reads = reads;
  place = refl;
  begins = inr (rest, next);
  nowhere = nowhere;
  open_stage = λ e. absurd (omega (arith, some_next now.bytes word rest next, ap length e));
}

-- what is left of a text is read token by token
read_on : (text : List ℕ) {bytes last : List ℕ} {tokens : List (List ℕ)} → Cuts bytes tokens last → last ≡ [] → (now : Left) (stage : Stage)
    → now.bytes ≡ bytes → Spelled stage → Reads (whole text) now head stage → Reading text
read_on text nothing_taken none now stage e s reads = at_end text now stage (e ∙ none) s reads
read_on text (gap_dropped piece rest cut gap more) none now stage e s reads =
    read_on text more none (behind_piece now piece rest) stage refl s (reads_then reads (record {
      tokens = [];
      moves = record { front = piece; parts = e ∙ cut; place = refl; cuts = gap_dropped piece rest (e ∙ cut) gap nothing_taken };
      lead = nothing_left;
    }))
read_on text (token_taken word rest next more) none now stage e s reads =
    by (settles word stage) (subst (λ (bytes : List ℕ). IsNext bytes word rest) (sym e) next)
    (λ to leads here. read_on text more none (behind_piece now word rest) to refl (spelled_next word stage to s leads)
    (reads_then reads (reads_token now word rest stage to here leads)))
  where
    by : Settles word stage → IsNext now.bytes word rest
        → ((to : Stage) → Leads word stage to → IsNext now.bytes word rest → Reading text) → Reading text
    by (inl (to, leads)) here again = again to leads here
    by (inr (nowhere, limit)) here again = stopped text word now stage (token_stops text word rest now stage reads here nowhere) limit

pub some_reading : SomeReading MeansFile IsTextFault
some_reading text =
    let all = some_tokens text in
    read_on text all.1 refl (whole text) head refl (omega arith, (omega arith, (omega arith, tt))) (reads_none (whole text) head)
