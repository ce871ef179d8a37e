-- What a token does where a name, a size, an index or an argument is wanted.
use Rattle.std.proofs.Common.{◌≡◌, ℕ, ◌+◌, ◌<◌, ◌≤◌, true, false, List, [], ◌∷◌, ◌++◌, length, get_or, codes, refl, sym, ap, ◌∙◌, subst, inl, inr, arith}
use Rattle.std.proofs.lemmas.Bool.{false≢true}
use Rattle.list_facts.specs.Lists.{IsAmong}
use Rattle.revc_base.specs.declared.place.Place.{Place}
use Rattle.qasm_format.specs.declared.file.QasmFault.{QasmFault}
use Rattle.qasm_format.specs.declared.file.QasmFault.TheVariants.{Token, Limit, Memory}
use Rattle.qasm_format.specs.declared.words.RegisterKind.{RegisterKind}
use Rattle.qasm_format.specs.declared.words.RegisterKind.TheVariants.{Qubits}
use Rattle.qasm_format.specs.declared.words.Use.{Use}
use Rattle.qasm_format.specs.declared.spots.Spot.{Spot}
use Rattle.qasm_format.specs.declared.spots.Spot.TheVariants.{Line, Whole}
use Rattle.qasm_lexer.specs.Tokens.{is_identifier, is_number, Left}
use Rattle.qasm_format.specs.Registers.{IsNumber, IsName, IsLaid, lines_of_all}
use Rattle.qasm_format.specs.Stages.{Said, Stage, starts, wants, wants_name, wants_size, wants_argument, behind_name, wants_index, behind_argument, declared}
use Rattle.qasm_format.specs.Stages.{HasRoom, Leads, PassesLimit, MayEnd, Closes, Ends, MayGoOn, HaveManyGates}
use Rattle.qasm_format.specs.Qasm.{Reads}
use Rattle.qasm_format.specs.Faults.{IsStop, BreaksRule, BreaksLimit}
use Rattle.qasm_lexer.specs.Tokens.{Takes}
use Rattle.qasm_format.specs.inside.Says.{TakesName, IsNameFault, TakesNumber, IsNumberFault, ReadsWord, StopsAtSize, behind_spot}
use Rattle.qasm_lexer.proofs.RunTestLemmas.{numeral_of, number_of_numeral}
use Rattle.qasm_format.proofs.ReadingLemmas.{reads_next, breaks_rule, breaks_limit, stops_later}

-- ---- numbers

some_number : (word : List ℕ) → is_number word ≡ true → 0 < length word
some_number [] e = absurd (false≢true e)
some_number (b ∷ bs) e = omega arith

pub some_identifier : (word : List ℕ) → is_identifier word ≡ true → 0 < length word
some_identifier [] e = absurd (false≢true e)
some_identifier (b ∷ bs) e = omega arith

-- no number was taken
no_number : (word : List ℕ) (n : ℕ) → is_number word ≡ false → ¬ IsNumber word n
no_number word n other number = false≢true (sym other ∙ number_of_numeral word number.spelled)

long_number : (word : List ℕ) (n : ℕ) → 9 < length word → ¬ IsNumber word n
long_number word n long number = absurd (omega (arith, number.few))

is_number_taken : {old new : Left} {value : ℕ} {at : Place} (taken : TakesNumber old new value at) → IsNumber taken.word value
is_number_taken taken = record { spelled = numeral_of taken.word taken.spelled; few = taken.few; value = taken.worth }

same_value : {old new : Left} {value : ℕ} {at : Place} (taken : TakesNumber old new value at) (n : ℕ) → IsNumber taken.word n → n ≡ value
same_value taken n number = sym number.value ∙ taken.worth

-- ---- sizes

pub fault_at_size : (old : Left) (fault : QasmFault) (kind : RegisterKind) (name : List ℕ) (said : Said) → IsNumberFault old fault
    → IsStop old (wants_size kind name said) fault
fault_at_size old (Token at) kind name said h =
    breaks_rule (wants_size kind name said) h.takes (λ to leads. no_number h.word leads.size h.other leads.number) (λ e may. may)
    (λ limit. by limit)
  where
    by : PassesLimit h.word (wants_size kind name said) → ⊥
    by (inl long) = false≢true (sym h.other ∙ long.0)
    by (inr many) = no_number h.word many.size h.other many.number
fault_at_size old (Limit at) kind name said h =
    breaks_limit (wants_size kind name said) h.takes (λ to leads. long_number h.word leads.size h.long leads.number) (λ e may. may) (inl (h.spelled, h.long))
fault_at_size old (Memory _) kind name said h = tt

pub zero_at_size : {old new : Left} {at : Place} (kind : RegisterKind) (name : List ℕ) (said : Said) → TakesNumber old new 0 at
    → BreaksRule old (wants_size kind name said) at
zero_at_size kind name said taken =
    breaks_rule (wants_size kind name said) taken.takes
    (λ to leads. let same = same_value taken leads.size leads.number in let some = leads.some in absurd (omega arith)) (λ e may. may) (λ limit. by limit)
  where
    by : PassesLimit taken.word (wants_size kind name said) → ⊥
    by (inl long) = absurd (omega (arith, long.1, taken.few))
    by (inr many) = let same = same_value taken many.size many.number in let some = many.some in absurd (omega arith)

pub many_at_size : {old new : Left} {at : Place} (size : ℕ) (name : List ℕ) (said : Said) → TakesNumber old new size at → 1 ≤ size
    → 16384 < lines_of_all said.registers + size → BreaksLimit old (wants_size Qubits name said) at
many_at_size size name said taken some many =
    breaks_limit (wants_size Qubits name said) taken.takes
    (λ to leads. let same = same_value taken leads.size leads.number in let room = leads.room in absurd (omega arith)) (λ e may. may)
    (inr (record { size = size; number = is_number_taken taken; some = some; many = λ room. absurd (omega arith) }))

pub reads_size : {old new : Left} {at : Place} (kind : RegisterKind) (size : ℕ) (name : List ℕ) (said : Said) → TakesNumber old new size at → 1 ≤ size
    → HasRoom kind size (lines_of_all said.registers)
    → Reads old new (wants_size kind name said) (wants (codes "]") (wants (codes ";") (starts (declared kind name size said))))
reads_size kind size name said taken some room =
    reads_next (wants_size kind name said) _ taken.takes (some_number taken.word taken.spelled)
    (record { size = size; number = is_number_taken taken; some = some; room = room; leads = refl })

-- ---- indexes

pub fault_at_index : (old : Left) (fault : QasmFault) (usage : Use) (spots : List Spot) (first size : ℕ) (said : Said) → IsNumberFault old fault
    → IsStop old (wants_index usage spots first size said) fault
fault_at_index old (Token at) usage spots first size said h =
    breaks_rule (wants_index usage spots first size said) h.takes (λ to leads. no_number h.word leads.index h.other leads.number) (λ e may. may)
    (λ long. false≢true (sym h.other ∙ long.0))
fault_at_index old (Limit at) usage spots first size said h =
    breaks_limit (wants_index usage spots first size said) h.takes (λ to leads. long_number h.word leads.index h.long leads.number) (λ e may. may)
    (h.spelled, h.long)
fault_at_index old (Memory _) usage spots first size said h = tt

pub beyond_at_index : {old new : Left} {at : Place} (index : ℕ) (usage : Use) (spots : List Spot) (first size : ℕ) (said : Said)
    → TakesNumber old new index at → size ≤ index → BreaksRule old (wants_index usage spots first size said) at
beyond_at_index index usage spots first size said taken beyond =
    breaks_rule (wants_index usage spots first size said) taken.takes
    (λ to leads. let same = same_value taken leads.index leads.number in let inside = leads.inside in absurd (omega arith)) (λ e may. may)
    (λ long. absurd (omega (arith, long.1, taken.few)))

pub reads_index : {old new : Left} {at : Place} (index : ℕ) (usage : Use) (spots : List Spot) (first size : ℕ) (said : Said)
    → TakesNumber old new index at → index < size
    → Reads old new (wants_index usage spots first size said) (wants (codes "]") (behind_argument usage (spots ++ Line (first + index) ∷ []) said))
reads_index index usage spots first size said taken inside =
    reads_next (wants_index usage spots first size said) _ taken.takes (some_number taken.word taken.spelled)
    (record { index = index; number = is_number_taken taken; inside = inside; leads = refl })

-- ---- names

pub fault_at_name : (old : Left) (fault : QasmFault) (kind : RegisterKind) (said : Said) → IsNameFault old fault → IsStop old (wants_name kind said) fault
fault_at_name old (Token at) kind said h =
    breaks_rule (wants_name kind said) h.takes (λ to leads. false≢true (sym h.other ∙ leads.named.spelled)) (λ e may. may)
    (λ long. false≢true (sym h.other ∙ long.0))
fault_at_name old (Limit at) kind said h =
    breaks_limit (wants_name kind said) h.takes (λ to leads. let few = leads.named.few in let long = h.long in absurd (omega arith)) (λ e may. may)
    (h.spelled, h.long)
fault_at_name old (Memory _) kind said h = tt

pub kept_at_name : {old new : Left} {word : List ℕ} {at : Place} (kind : RegisterKind) (said : Said) → TakesName old new word at
    → (IsName word → (¬ IsAmong word said.names) → ⊥) → BreaksRule old (wants_name kind said) at
kept_at_name kind said taken other =
    breaks_rule (wants_name kind said) taken.takes (λ to leads. other leads.named leads.fresh) (λ e may. may)
    (λ long. absurd (omega (arith, long.1, taken.few)))

pub reads_name : {old new : Left} {word : List ℕ} {at : Place} (kind : RegisterKind) (said : Said) → TakesName old new word at → IsName word
    → ¬ IsAmong word said.names → Reads old new (wants_name kind said) (wants (codes "[") (wants_size kind word said))
reads_name {word = word} kind said taken named fresh =
    reads_next (wants_name kind said) _ taken.takes (some_identifier word taken.spelled) (record { named = named; fresh = fresh; leads = refl })

-- ---- arguments

pub fault_at_argument : (old : Left) (fault : QasmFault) (usage : Use) (spots : List Spot) (said : Said)
    → IsNameFault old fault → IsStop old (wants_argument usage spots said) fault
fault_at_argument old (Token at) usage spots said h =
    breaks_rule (wants_argument usage spots said) h.takes
    (λ to leads. false≢true (sym h.other ∙ leads.spelled)) (λ e may. may)
    (λ long. false≢true (sym h.other ∙ long.0))
fault_at_argument old (Limit at) usage spots said h =
    breaks_limit (wants_argument usage spots said) h.takes (λ to leads. let few = leads.few in let long = h.long in absurd (omega arith)) (λ e may. may)
    (h.spelled, h.long)
fault_at_argument old (Memory _) usage spots said h = tt

pub unlaid_at_argument : {old new : Left} {word : List ℕ} {at : Place} (usage : Use) (spots : List Spot) (said : Said) → TakesName old new word at
    → ((first size : ℕ) → ¬ IsLaid said.registers word first size) → BreaksRule old (wants_argument usage spots said) at
unlaid_at_argument usage spots said taken none =
    breaks_rule (wants_argument usage spots said) taken.takes (λ to leads. none leads.first leads.size leads.laid) (λ e may. may)
    (λ long. absurd (omega (arith, long.1, taken.few)))

pub reads_argument : {old new : Left} {word : List ℕ} {at : Place} (first size : ℕ) (usage : Use) (spots : List Spot) (said : Said)
    → TakesName old new word at → IsLaid said.registers word first size
    → Reads old new (wants_argument usage spots said) (behind_name usage spots first size said)
reads_argument {word = word} first size usage spots said taken laid =
    reads_next (wants_argument usage spots said) _ taken.takes (some_identifier word taken.spelled)
    (record { first = first; size = size; spelled = taken.spelled; few = taken.few; laid = laid; leads = refl })

pub opens_index : {old new : Left} {word : List ℕ} {at : Place} (usage : Use) (spots : List Spot) (first size : ℕ) (said : Said) → Takes old new word at
    → word ≡ codes "[" → Reads old new (behind_name usage spots first size said) (wants_index usage spots first size said)
opens_index {word = word} usage spots first size said takes same =
    reads_next (behind_name usage spots first size said) (wants_index usage spots first size said) takes
    (subst (λ (w : List ℕ). 0 < length w) (sym same) (omega arith)) (inl (same, refl))

-- ---- behind an argument

-- a token that closes the argument leads on, whichever argument it was
closes : {word : List ℕ} (usage : Use) (spots : List Spot) (spot : Spot) (said : Said) (next : Stage) → Closes word usage (spots ++ spot ∷ []) said next
    → Leads word (behind_spot usage spots spot said) next
closes usage spots (Line at) said next h = h
closes usage spots (Whole first size) said next h = inr h

-- what leads on from there closes the argument, or opens an index behind a register
led : {word : List ℕ} (usage : Use) (spots : List Spot) (spot : Spot) (said : Said) (next : Stage)
    → ((first size : ℕ) → spot ≡ Whole first size → ¬ (word ≡ codes "[")) → Leads word (behind_spot usage spots spot said) next
    → Closes word usage (spots ++ spot ∷ []) said next
led usage spots (Line at) said next closed h = h
led usage spots (Whole first size) said next closed (inl opened) = absurd (closed first size refl opened.0)
led usage spots (Whole first size) said next closed (inr h) = h

-- a limit is passed there only by gates
limited : {word : List ℕ} (usage : Use) (spots : List Spot) (spot : Spot) (said : Said) → PassesLimit word (behind_spot usage spots spot said)
    → (word ≡ codes ";") × HaveManyGates usage (spots ++ spot ∷ []) said
limited usage spots (Line at) said h = h
limited usage spots (Whole first size) said h = h

unlimited : {word : List ℕ} (usage : Use) (spots : List Spot) (spot : Spot) (said : Said)
    → (word ≡ codes ";") × HaveManyGates usage (spots ++ spot ∷ []) said → PassesLimit word (behind_spot usage spots spot said)
unlimited usage spots (Line at) said h = h
unlimited usage spots (Whole first size) said h = h

no_end : (usage : Use) (spots : List Spot) (spot : Spot) (said : Said) → ¬ MayEnd (behind_spot usage spots spot said)
no_end usage spots (Line at) said h = h
no_end usage spots (Whole first size) said h = h

pub reads_comma : {old new : Left} {word : List ℕ} {at : Place} (usage : Use) (spots : List Spot) (spot : Spot) (said : Said) → Takes old new word at
    → word ≡ codes "," → MayGoOn usage (spots ++ spot ∷ [])
    → Reads old new (behind_spot usage spots spot said) (wants_argument usage (spots ++ spot ∷ []) said)
reads_comma {word = word} usage spots spot said takes same more =
    reads_next (behind_spot usage spots spot said) (wants_argument usage (spots ++ spot ∷ []) said) takes
    (subst (λ (w : List ℕ). 0 < length w) (sym same) (omega arith)) (closes usage spots spot said _ (inl (same, more, refl)))

pub reads_end : {old new : Left} {word : List ℕ} {at : Place} (usage : Use) (spots : List Spot) (spot : Spot) (said after : Said) → Takes old new word at
    → word ≡ codes ";" → Ends usage (spots ++ spot ∷ []) said after → Reads old new (behind_spot usage spots spot said) (starts after)
reads_end {word = word} usage spots spot said after takes same ends =
    reads_next (behind_spot usage spots spot said) (starts after) takes
    (subst (λ (w : List ℕ). 0 < length w) (sym same) (omega arith)) (closes usage spots spot said _ (inr (same, (after, ends, refl))))

-- a token that neither goes on nor ends there
pub stops_behind_argument : {old new : Left} {word : List ℕ} {at : Place} (usage : Use) (spots : List Spot) (spot : Spot) (said : Said)
    → Takes old new word at → ((first size : ℕ) → spot ≡ Whole first size → ¬ (word ≡ codes "["))
    → (word ≡ codes "," → ¬ MayGoOn usage (spots ++ spot ∷ []))
    → (word ≡ codes ";" → (after : Said) → ¬ Ends usage (spots ++ spot ∷ []) said after)
    → (word ≡ codes ";" → ¬ HaveManyGates usage (spots ++ spot ∷ []) said) → BreaksRule old (behind_spot usage spots spot said) at
stops_behind_argument {word = word} usage spots spot said takes closed no_more no_end_here no_limit =
    breaks_rule (behind_spot usage spots spot said) takes (λ to leads. by to (led usage spots spot said to closed leads))
    (λ e may. no_end usage spots spot said may) (λ limit. let l = limited usage spots spot said limit in no_limit l.0 l.1)
  where
    by : (to : Stage) → Closes word usage (spots ++ spot ∷ []) said to → ⊥
    by to (inl comma) = no_more comma.0 comma.1
    by to (inr ended) = no_end_here ended.0 ended.1.0 ended.1.1

pub comma_or_end : (word : List ℕ) → word ≡ codes "," → word ≡ codes ";" → ⊥
comma_or_end word comma semicolon = let same = ap (λ (w : List ℕ). get_or w 0 0) (sym comma ∙ semicolon) in absurd (omega arith)

-- gates by which the gates pass their limit
pub limit_behind_argument : {old new : Left} {word : List ℕ} {at : Place} (usage : Use) (spots : List Spot) (spot : Spot) (said : Said)
    → Takes old new word at → word ≡ codes ";" → ((after : Said) → ¬ Ends usage (spots ++ spot ∷ []) said after)
    → HaveManyGates usage (spots ++ spot ∷ []) said
    → ((first size : ℕ) → spot ≡ Whole first size → ¬ (word ≡ codes "[")) → BreaksLimit old (behind_spot usage spots spot said) at
limit_behind_argument {word = word} usage spots spot said takes same no_end_here many closed =
    breaks_limit (behind_spot usage spots spot said) takes (λ to leads. by to (led usage spots spot said to closed leads))
    (λ e may. no_end usage spots spot said may) (unlimited usage spots spot said (same, many))
  where
    by : (to : Stage) → Closes word usage (spots ++ spot ∷ []) said to → ⊥
    by to (inl comma) = comma_or_end word comma.0 same
    by to (inr ended) = no_end_here ended.1.0 ended.1.1

-- ---- sizes in brackets

pub size_stops : (old mid : Left) (fault : QasmFault) (kind : RegisterKind) (count : ℕ) → ReadsWord old mid (codes "[")
    → ((name : List ℕ) (said : Said) → lines_of_all said.registers ≡ count → IsStop mid (wants_size kind name said) fault)
    → StopsAtSize old kind count fault
size_stops old mid fault kind count opened stops =
    record { says = λ name said same. stops_later fault (opened.says (wants_size kind name said)) (stops name said same) }

pub full_stops : (old new : Left) (at : Place) (kind : RegisterKind) (size count : ℕ) (name : List ℕ) (said : Said) → lines_of_all said.registers ≡ count
    → TakesNumber old new size at → 1 ≤ size → (kind ≡ Qubits) × (16384 < count + size) → IsStop old (wants_size kind name said) (Limit at)
full_stops old new at kind size count name said same taken some full =
    subst (λ (k : RegisterKind). BreaksLimit old (wants_size k name said) at) (sym full.0)
    (many_at_size size name said taken some (omega (arith, same, full.1)))

pub sized : (old new : Left) (at : Place) (kind : RegisterKind) (size count : ℕ) (name : List ℕ) (said : Said) → lines_of_all said.registers ≡ count
    → TakesNumber old new size at → 1 ≤ size → HasRoom kind size count
    → Reads old new (wants_size kind name said) (wants (codes "]") (wants (codes ";") (starts (declared kind name size said))))
sized old new at kind size count name said same taken some room =
    reads_size kind size name said taken some (subst (HasRoom kind size) (sym same) room)
