-- Tokens lead from the head to the end of a statement exactly where they are the head and statements.
use Rattle.std.proofs.Common.{◌≡◌, ℕ, ◌+◌, ◌<◌, ◌≤◌, List, [], ◌∷◌, ◌++◌, length, codes, refl, sym, ap, ◌∙◌, subst, inl, inr, ◌⊎◌, arith}
use Rattle.std.specs.List.{flat_map}
use Rattle.std.proofs.lemmas.List.{append_assoc, length-append}
use Rattle.list_facts.specs.Lists.{IsAmong}
use Rattle.format_parts.specs.Readings.{nothing_left, one_more, LeadTo as LeadTo'}
use Rattle.qasm_format.specs.declared.words.RegisterKind.{RegisterKind}
use Rattle.qasm_format.specs.declared.words.Use.{Use}
use Rattle.qasm_format.specs.declared.words.Use.TheVariants.{Barrier, Flip}
use Rattle.qasm_format.specs.declared.file.Register.{Register}
use Rattle.qasm_format.specs.declared.spots.Spot.{Spot}
use Rattle.qasm_format.specs.declared.spots.Spot.TheVariants.{Line, Whole}
use Rattle.qasm_format.specs.Registers.{IsName, IsNumber, lines_of_all}
use Rattle.qasm_format.specs.Stages.{Said, Stage, starts, wants, wants_name, wants_size, wants_argument, behind_name, wants_index, behind_argument}
use Rattle.qasm_format.specs.Stages.{head, nothing_said, wants_library, IsUseWord, LeadTo, Leads, Closes, Ends, MayGoOn, HasRoom, declared, kind_word}
use Rattle.qasm_format.specs.Statements.{head_words}
use Rattle.qasm_format.specs.Sayings.{NamesRegister, IsArgument, register, place, AreArguments, last, before, Says, includes, declares, applies}
use Rattle.qasm_format.specs.Sayings.{AreStatements, AreHeadAndStatements, FilesAreStatements}

-- ---- statements lead

-- an argument, and what stands behind it
argument_leads : {words rest : List (List ℕ)} {spot : Spot} {usage : Use} {spots : List Spot} {said : Said} {word : List ℕ} {next to : Stage}
    → IsArgument said.registers words spot → Closes word usage (spots ++ spot ∷ []) said next → LeadTo rest next to
    → LeadTo (words ++ word ∷ rest) (wants_argument usage spots said) to
argument_leads (register {first} {size} named) closes rest =
    one_more (record { first = first; size = size; spelled = named.spelled; few = named.few; laid = named.laid; leads = refl })
    (one_more (inr closes) rest)
argument_leads (place {first} {size} {index} named number inside) closes rest =
    one_more (record { first = first; size = size; spelled = named.spelled; few = named.few; laid = named.laid; leads = refl })
    (one_more (inl (refl, refl)) (one_more (record { index = index; number = number; inside = inside; leads = refl })
    (one_more (refl, refl) (one_more closes rest))))

-- fewer arguments than a statement has may go on
goes_on : (usage : Use) (all spots : List Spot) (said after : Said) → length spots < length all → Ends usage all said after → MayGoOn usage spots
goes_on Barrier all spots said after fewer ends = tt
goes_on (Flip controls) all spots said after fewer ends =
    omega (arith, ap length ends.1.parts, length-append ends.1.controlling (ends.1.target ∷ []), ends.1.counted)

some_spot : {registers : List Register} {words : List (List ℕ)} {spots : List Spot} → AreArguments registers words spots → 0 < length spots
some_spot (last argument) = omega arith
some_spot (before words others argument more) = omega arith

-- arguments, and the end of their statement
arguments_lead : {said : Said} {words : List (List ℕ)} {more : List Spot} {usage : Use} {spots : List Spot} {after : Said} {rest : List (List ℕ)} {to : Stage}
    → AreArguments said.registers words more → Ends usage (spots ++ more) said after → LeadTo rest (starts after) to
    → LeadTo (words ++ codes ";" ∷ rest) (wants_argument usage spots said) to
arguments_lead {after} (last argument) ends rest = argument_leads argument (inr (refl, (after, ends, refl))) rest
arguments_lead {said} {usage} {spots} {after} {rest} {to} (before words others {spot} {spots = more} argument arguments) ends behind =
    let all = append_assoc spots (spot ∷ []) more in
    let later : Ends usage ((spots ++ spot ∷ []) ++ more) said after = subst (λ (xs : List Spot). Ends usage xs said after) (sym all) ends in
    let longer = length-append spots (spot ∷ more) in
    let long = length-append spots (spot ∷ []) in
    let size : length (spots ++ spot ∷ []) < length (spots ++ spot ∷ more) = omega (arith, longer, long, some_spot arguments) in
    subst (λ (tokens : List (List ℕ)). LeadTo tokens (wants_argument usage spots said) to) (sym (append_assoc words (codes "," ∷ others) (codes ";" ∷ rest)))
    (argument_leads argument (inl (refl, goes_on usage (spots ++ spot ∷ more) (spots ++ spot ∷ []) said after size ends, refl))
    (arguments_lead arguments later behind))

statement_leads : {words rest : List (List ℕ)} {said after : Said} {to : Stage} → Says words said after → LeadTo rest (starts after) to
    → LeadTo (words ++ rest) (starts said) to
statement_leads (includes once) rest =
    one_more (inl (record { spelled = refl; once = once; leads = refl })) (one_more (refl, refl) (one_more (refl, refl) rest))
statement_leads (declares kind size named fresh number some room) rest =
    one_more (inr (inl (record { kind = kind; spelled = refl; leads = refl })))
    (one_more (record { named = named; fresh = fresh; leads = refl })
    (one_more (refl, refl) (one_more (record { size = size; number = number; some = some; room = room; leads = refl })
    (one_more (refl, refl) (one_more (refl, refl) rest)))))
statement_leads {rest = behind} {said} {to} (applies usage {word} arguments spots spelled are ends) rest =
    subst (λ (tokens : List (List ℕ)). LeadTo (word ∷ tokens) (starts said) to) (sym (append_assoc arguments (codes ";" ∷ []) behind))
    (one_more (inr (inr (record { usage = usage; spelled = spelled; leads = refl }))) (arguments_lead are ends rest))

statements_lead : (statements : List (List (List ℕ))) (said after : Said) → LeadTo' Says statements said after
    → LeadTo (flat_map (λ words. words) statements) (starts said) (starts after)
statements_lead [] said after nothing_left = nothing_left
statements_lead (words ∷ statements) said after (one_more {next} says more) = statement_leads says (statements_lead statements next after more)

-- ---- what leads is statements

-- what stands behind arguments, up to the end of the tokens
abbrev Behind : Use → List Spot → Said → List (List ℕ) → Said → Type 0
Behind usage spots said tokens to = (arguments : List (List ℕ)) × (more : List Spot) × (rest : List (List ℕ)) × (after : Said)
    × (tokens ≡ arguments ++ codes ";" ∷ rest) × AreArguments said.registers arguments more × Ends usage (spots ++ more) said after
    × AreStatements rest after to

-- behind an argument: the end of the statement, or a comma and arguments
abbrev Goes : Use → List Spot → Said → List (List ℕ) → Said → Type 0
Goes usage spots said tokens to =
    ((rest : List (List ℕ)) × (after : Said) × (tokens ≡ codes ";" ∷ rest) × Ends usage spots said after × AreStatements rest after to)
    ⊎ ((others : List (List ℕ)) × (tokens ≡ codes "," ∷ others) × Behind usage spots said others to)

abbrev Indexed : Use → List Spot → (first size : ℕ) → Said → List (List ℕ) → Said → Type 0
Indexed usage spots first size said tokens to = (digits : List ℕ) × (index : ℕ) × (rest : List (List ℕ)) × (tokens ≡ digits ∷ codes "]" ∷ rest)
    × IsNumber digits index × (index < size) × Goes usage (spots ++ Line (first + index) ∷ []) said rest to

abbrev Sized : RegisterKind → List ℕ → Said → List (List ℕ) → Said → Type 0
Sized kind name said tokens to = (digits : List ℕ) × (size : ℕ) × (rest : List (List ℕ)) × (tokens ≡ digits ∷ codes "]" ∷ codes ";" ∷ rest)
    × IsNumber digits size × (1 ≤ size) × HasRoom kind size (lines_of_all said.registers) × AreStatements rest (declared kind name size said) to

-- the tokens from a stage on
abbrev Rest : Stage → List (List ℕ) → Said → Type 0
Rest (starts said) tokens to = AreStatements tokens said to
Rest (wants word stage) tokens to = (rest : List (List ℕ)) × (tokens ≡ word ∷ rest) × Rest stage rest to
Rest (wants_name kind said) tokens to = (name : List ℕ) × (rest : List (List ℕ)) × (tokens ≡ name ∷ codes "[" ∷ rest) × IsName name
    × ¬ IsAmong name said.names × Sized kind name said rest to
Rest (wants_size kind name said) tokens to = Sized kind name said tokens to
Rest (wants_argument usage spots said) tokens to = Behind usage spots said tokens to
Rest (behind_name usage spots first size said) tokens to =
    ((rest : List (List ℕ)) × (tokens ≡ codes "[" ∷ rest) × Indexed usage spots first size said rest to)
    ⊎ Goes usage (spots ++ Whole first size ∷ []) said tokens to
Rest (wants_index usage spots first size said) tokens to = Indexed usage spots first size said tokens to
Rest (behind_argument usage spots said) tokens to = Goes usage spots said tokens to

-- what is said first, and then statements
says_first : {words tokens : List (List ℕ)} {said next to : Said} → Says words said next → AreStatements tokens next to
    → AreStatements (words ++ tokens) said to
says_first {words} says h = record {
  statements = words ∷ h.statements;
  tokens_are = ap (λ (tokens : List (List ℕ)). words ++ tokens) h.tokens_are;
  say = one_more says h.say;
}

argument_behind : {words : List (List ℕ)} {spot : Spot} (usage : Use) (spots : List Spot) (said : Said) (tokens : List (List ℕ)) (to : Said)
    → IsArgument said.registers words spot → Goes usage (spots ++ spot ∷ []) said tokens to → Behind usage spots said (words ++ tokens) to
argument_behind {words} {spot} usage spots said tokens to argument (inl (rest, after, are, ends, later)) =
    (words, spot ∷ [], rest, after, ap (λ (ts : List (List ℕ)). words ++ ts) are, last argument, ends, later)
argument_behind {words} {spot} usage spots said tokens to argument (inr (others, are, (arguments, more, rest, after, parts, parted, ends, later))) = (
  words ++ codes "," ∷ arguments,
  spot ∷ more,
  rest,
  after,
  ap (λ (ts : List (List ℕ)). words ++ ts) (are ∙ ap (λ (ts : List (List ℕ)). codes "," ∷ ts) parts)
      ∙ sym (append_assoc words (codes "," ∷ arguments) (codes ";" ∷ rest)),
  before words arguments argument parted,
  subst (λ (xs : List Spot). Ends usage xs said after) (append_assoc spots (spot ∷ []) more) ends,
  later,
)

closed : (word : List ℕ) (usage : Use) (spots : List Spot) (said : Said) (next : Stage) (tokens : List (List ℕ)) (to : Said)
    → Closes word usage spots said next → Rest next tokens to → Goes usage spots said (word ∷ tokens) to
closed word usage spots said next tokens to (inl (comma, may, is)) rest =
    inr (tokens, ap (λ (w : List ℕ). w ∷ tokens) comma, subst (λ (s : Stage). Rest s tokens to) is rest)
closed word usage spots said next tokens to (inr (semicolon, (after, ends, is))) rest =
    inl (tokens, after, ap (λ (w : List ℕ). w ∷ tokens) semicolon, ends, subst (λ (s : Stage). Rest s tokens to) is rest)

-- one token more in front
in_front : (word : List ℕ) (from next : Stage) (tokens : List (List ℕ)) (to : Said) → Leads word from next → Rest next tokens to → Rest from (word ∷ tokens) to
in_front word (starts said) next tokens to (inl h) rest =
    let r : Rest (wants_library said) tokens to = subst (λ (s : Stage). Rest s tokens to) h.leads rest in
    let are = r.1 ∙ ap (λ (ts : List (List ℕ)). codes "\"qelib1.inc\"" ∷ ts) r.2.1 in
    subst (λ (ts : List (List ℕ)). AreStatements ts said to)
    (sym (ap (λ (w : List ℕ). w ∷ tokens) h.spelled ∙ ap (λ (ts : List (List ℕ)). codes "include" ∷ ts) are))
    (says_first (includes h.once) r.2.2)
in_front word (starts said) next tokens to (inr (inl h)) rest =
    declared_first word h.kind said tokens to h.spelled (subst (λ (s : Stage). Rest s tokens to) h.leads rest)
  where
    declared_first : (word : List ℕ) (kind : RegisterKind) (said : Said) (tokens : List (List ℕ)) (to : Said) → word ≡ kind_word kind
        → Rest (wants_name kind said) tokens to → AreStatements (word ∷ tokens) said to
    declared_first word kind said tokens to spelled (name, rest, opens, named, fresh, (digits, size, more, are, number, some, room, later)) =
        subst (λ (ts : List (List ℕ)). AreStatements ts said to)
        (sym (ap (λ (w : List ℕ). w ∷ tokens) spelled ∙ ap (λ (ts : List (List ℕ)). kind_word kind ∷ ts)
        (opens ∙ ap (λ (ts : List (List ℕ)). name ∷ codes "[" ∷ ts) are)))
        (says_first (declares kind size named fresh number some room) later)
in_front word (starts said) next tokens to (inr (inr h)) rest =
    applied_first word h.usage said tokens to h.spelled (subst (λ (s : Stage). Rest s tokens to) h.leads rest)
  where
    applied_first : (word : List ℕ) (usage : Use) (said : Said) (tokens : List (List ℕ)) (to : Said) → IsUseWord word said.included usage
        → Behind usage [] said tokens to → AreStatements (word ∷ tokens) said to
    applied_first word usage said tokens to spelled (arguments, spots, rest, after, are, parted, ends, later) =
        subst (λ (ts : List (List ℕ)). AreStatements ts said to)
        (sym (ap (λ (ts : List (List ℕ)). word ∷ ts) (are ∙ sym (append_assoc arguments (codes ";" ∷ []) rest))))
        (says_first (applies usage arguments spots spelled parted ends) later)
in_front word (wants wanted after) next tokens to h rest =
    (tokens, ap (λ (w : List ℕ). w ∷ tokens) h.0, subst (λ (s : Stage). Rest s tokens to) h.1 rest)
in_front word (wants_name kind said) next tokens to h rest =
    let r : Rest (wants (codes "[") (wants_size kind word said)) tokens to = subst (λ (s : Stage). Rest s tokens to) h.leads rest in
    (word, r.0, ap (λ (ts : List (List ℕ)). word ∷ ts) r.1, h.named, h.fresh, r.2)
in_front word (wants_size kind name said) next tokens to h rest =
    let r : Rest (wants (codes "]") (wants (codes ";") (starts (declared kind name h.size said)))) tokens to =
    subst (λ (s : Stage). Rest s tokens to) h.leads rest in
    let are = r.1 ∙ ap (λ (ts : List (List ℕ)). codes "]" ∷ ts) r.2.1 in
    (word, h.size, r.2.0, ap (λ (ts : List (List ℕ)). word ∷ ts) are, h.number, h.some, h.room, r.2.2)
in_front word (wants_argument usage spots said) next tokens to h rest =
    let named : NamesRegister said.registers word h.first h.size = record { spelled = h.spelled; few = h.few; laid = h.laid } in
    behind_its_name word usage spots h.first h.size said tokens to named (subst (λ (s : Stage). Rest s tokens to) h.leads rest)
  where
    behind_its_name : (name : List ℕ) (usage : Use) (spots : List Spot) (first size : ℕ) (said : Said) (tokens : List (List ℕ)) (to : Said)
        → NamesRegister said.registers name first size → Rest (behind_name usage spots first size said) tokens to
        → Behind usage spots said (name ∷ tokens) to
    behind_its_name name usage spots first size said tokens to named (inr goes) = argument_behind usage spots said tokens to (register named) goes
    behind_its_name name usage spots first size said tokens to named (inl (rest, opens, (digits, index, more, are, number, inside, goes))) =
        subst (λ (ts : List (List ℕ)). Behind usage spots said (name ∷ ts) to) (sym (opens ∙ ap (λ (ts : List (List ℕ)). codes "[" ∷ ts) are))
        (argument_behind usage spots said more to (place named number inside) goes)
in_front word (behind_name usage spots first size said) next tokens to (inl h) rest =
    inl (tokens, ap (λ (w : List ℕ). w ∷ tokens) h.0, subst (λ (s : Stage). Rest s tokens to) h.1 rest)
in_front word (behind_name usage spots first size said) next tokens to (inr h) rest =
    inr (closed word usage (spots ++ Whole first size ∷ []) said next tokens to h rest)
in_front word (wants_index usage spots first size said) next tokens to h rest =
    let r : Rest (wants (codes "]") (behind_argument usage (spots ++ Line (first + h.index) ∷ []) said)) tokens to =
    subst (λ (s : Stage). Rest s tokens to) h.leads rest in
    (word, h.index, r.0, ap (λ (ts : List (List ℕ)). word ∷ ts) r.1, h.number, h.inside, r.2)
in_front word (behind_argument usage spots said) next tokens to h rest = closed word usage spots said next tokens to h rest

from_stage : {tokens : List (List ℕ)} {from stage : Stage} (said : Said) → stage ≡ starts said → LeadTo tokens from stage → Rest from tokens said
from_stage {from} said is nothing_left = subst (λ (s : Stage). Rest s [] said) (sym is) (record { statements = []; tokens_are = refl; say = nothing_left })
from_stage said is (one_more {item} {items} {from} {next} leads more) = in_front item from next items said leads (from_stage said is more)

pub files_are_statements : FilesAreStatements
files_are_statements tokens said = (to_statements, from_statements)
  where
    to_statements : LeadTo tokens head (starts said) → AreHeadAndStatements tokens said
    to_statements lead =
        let r : Rest head tokens said = from_stage said refl lead in
        record {
          behind = r.2.2.0;
          tokens_are = r.1 ∙ ap (λ (ts : List (List ℕ)). codes "OPENQASM" ∷ ts) (r.2.1 ∙ ap (λ (ts : List (List ℕ)). codes "2.0" ∷ ts) r.2.2.1);
          statements = r.2.2.2;
        }

    from_statements : AreHeadAndStatements tokens said → LeadTo tokens head (starts said)
    from_statements h =
        subst (λ (ts : List (List ℕ)). LeadTo ts head (starts said))
        (sym (h.tokens_are ∙ ap (λ (ts : List (List ℕ)). head_words ++ ts) h.statements.tokens_are))
        (one_more (refl, refl) (one_more (refl, refl) (one_more (refl, refl)
        (statements_lead h.statements.statements nothing_said said h.statements.say))))
