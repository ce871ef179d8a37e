-- What a parse finds is the one order of the words.
use Rattle.std.specs.Prelude.{slice_index_or, ◌↔◌, Result, Ok, Err, IfOk, IsErrOf, IsErrAnd}
use Rattle.std.specs.declared.string.String.{String}
use Rattle.std.proofs.Common.{drop, map, string_bytes, Global, ◌≤◌, arith, ◌≡◌, ◌≢◌, ℕ, List, [], ◌∷◌, length}
use Rattle.std.proofs.Common.{Some, None, cond, refl, sym, ap, ◌∙◌, subst, codes}
use Rattle.std.specs.Option.{option_map, option_and_then}
use Rattle.std.proofs.lemmas.Option.{same_Some}
use Rattle.std.proofs.lemmas.Str.{IsUtf8-string_bytes}
use Rattle.clap.specs.Words.{Row}
use Rattle.revc_words.specs.declared.fault.WordsFault.{WordsFault}
use Rattle.revc_words.specs.declared.fault.WordsFault.TheVariants as faults
use Rattle.revc_words.specs.declared.order.Order.{Order}
use Rattle.revc_words.specs.declared.commands.Command.{Command}
use Rattle.revc_words.specs.Commands.{factor_option, name_of, options_of, takes_of, way_option}
use Rattle.revc_words.specs.declared.order.Format.TheVariants.{Real, Qasm}
use Rattle.revc_words.specs.declared.order.Values.{Values}
use Rattle.revc_words.specs.Words.{order_of, order_with, OrderView, IsOrder, HasNoOrder, OneOrder}
use Rattle.revc_words.specs.Words.{taken_of}
use Rattle.revc_words.specs.Words.{value_of}
use Rattle.revc_words.specs.inside.Parsing.{bits_for, command_named, kind_for, number_for, order_by, order_for}
use Rattle.revc_words.specs.inside.Parsing.{parsed, takes_any, takes_count, values_of}
use Rattle.revc_words.proofs.ValueLemmas.{plan_rule, lines_rule, gates_rule, borrow_rule, nodes_rule, assume_rule, placing_rule, way_rule, format_rule, by_rule}
use Rattle.revc_words.proofs.ValueLemmas.{aim_rule, write_rule, right, kept}
use Rattle.revc_words.proofs.WalkLemmas.{by_test, AreTexts}
use Rattle.revc_words.proofs.SaidLemmas.{Said, said, read, parsed as ends, Fits, AreOnce}
use Rattle.revc_words.proofs.ReadsLemmas.{reads, reads_so}
use Rattle.revc_words.proofs.CommandLemmas.{named_is, one_command, heads, option_names, parsed_so}
use Rattle.revc_words.proofs.TakenLemmas.{and_says, map_says, own_factor, takes_so, takes_gives, takes_none}
use Rattle.revc_words.proofs.TextLemmas.{texts_of, order_said, found_rows, values_say}
use Rattle.revc_words.proofs.GivenLemmas.{once_gives, gives_once, given_known, own_values, safe, safe_values, new_names}

-- ---- what the words say is an order

order_is : (words behind : List (List ℕ)) (command : Command) (what : Said) (order : OrderView) → words ≡ name_of command ∷ behind
    → read (options_of command) behind None ≡ Some what → AreOnce what.given → order_said command what ≡ Some order → IsOrder words order
order_is words behind command what order named found once e =
    let valued = and_says (order_by command what.plain) (values_of command (texts_of command what.given)) order e in
    let values = valued.0 in
    let all = values_say command (texts_of command what.given) values valued.1 in
    let takes = takes_of command in
    let by = right by_rule (value_of (factor_option command) what.given) values.by all.by in
    by_test (takes_count takes (length what.plain))
    (λ t.
    let kinded = and_says (λ kind. option_map (λ number. order_with command values kind number (bits_for takes what.plain)) (number_for takes what.plain))
    (kind_for takes values.by what.plain) order (rw t at valued.2) in
    let kind = kinded.0 in
    let numbered = map_says (λ number. order_with command values kind number (bits_for takes what.plain)) (number_for takes what.plain) order kinded.2 in
    let number = numbered.0 in
    let here : IsOrder words (order_with command values kind number (bits_for takes what.plain)) = record {
      behind = behind;
      given = what.given;
      plain = what.plain;
      named = named;
      read = reads (options_of command) behind what found;
      once = gives_once what.given once;
      takes = takes_so takes what.given what.plain values.by kind number (own_factor command what.given values.by by) t kinded.1 numbered.1;
      plan = right plan_rule (value_of (codes "plan") what.given) values.plan all.plan;
      lines = right lines_rule (value_of (codes "lines") what.given) values.lines all.lines;
      gates = right gates_rule (value_of (codes "gates") what.given) values.gates all.gates;
      borrow = right borrow_rule (value_of (codes "borrow") what.given) values.borrow all.borrow;
      nodes = right nodes_rule (value_of (codes "nodes") what.given) values.nodes all.nodes;
      assume = right assume_rule (value_of (codes "assume") what.given) values.assume all.assume;
      outputs = right (placing_rule command) (value_of (codes "outputs") what.given) values.outputs all.outputs;
      way = right way_rule (value_of (way_option command) what.given) values.way all.way;
      format = right (format_rule Real) (value_of (codes "format") what.given) values.format all.format;
      from = right (format_rule Real) (value_of (codes "from") what.given) values.from all.from;
      to = right (format_rule Qasm) (value_of (codes "to") what.given) values.to all.to;
      aim = right aim_rule (value_of (codes "for") what.given) values.aim all.aim;
      by = by;
      write = right write_rule (value_of (codes "write") what.given) values.write all.write;
    } in
    subst (λ (o : OrderView). IsOrder words o) numbered.2 here)
    (λ f. absurd (none order (rw f at valued.2)))
  where
    none : (o : OrderView) → None ≡ Some o → ⊥
    none o e = absurd cc

-- ---- an order is what the words say

said_so : (words : List (List ℕ)) (order : OrderView) → (is : IsOrder words order) → order_said order.command (said is.given is.plain) ≡ Some order
said_so words order is =
    let takes = takes_of order.command in
    let taken = takes_gives takes is.given is.plain order.by (taken_of order) (own_factor order.command is.given order.by is.by) is.takes in
    let values : Values = record {
      plan = order.plan;
      lines = order.lines;
      gates = order.gates;
      borrow = order.borrow;
      nodes = order.nodes;
      assume = order.assume;
      outputs = order.outputs;
      way = order.way;
      format = order.format;
      from = order.from;
      to = order.to;
      aim = order.aim;
      by = order.by;
      write = order.write;
    } in
    let valued : values_of order.command (texts_of order.command is.given) ≡ Some values = rw (
      kept plan_rule (value_of (codes "plan") is.given) order.plan is.plan,
      kept lines_rule (value_of (codes "lines") is.given) order.lines is.lines,
      kept gates_rule (value_of (codes "gates") is.given) order.gates is.gates,
      kept borrow_rule (value_of (codes "borrow") is.given) order.borrow is.borrow,
      kept nodes_rule (value_of (codes "nodes") is.given) order.nodes is.nodes,
      kept assume_rule (value_of (codes "assume") is.given) order.assume is.assume,
      kept (placing_rule order.command) (value_of (codes "outputs") is.given) order.outputs is.outputs,
      kept way_rule (value_of (way_option order.command) is.given) order.way is.way,
      kept (format_rule Real) (value_of (codes "format") is.given) order.format is.format,
      kept (format_rule Real) (value_of (codes "from") is.given) order.from is.from,
      kept (format_rule Qasm) (value_of (codes "to") is.given) order.to is.to,
      kept aim_rule (value_of (codes "for") is.given) order.aim is.aim,
      kept by_rule (value_of (factor_option order.command) is.given) order.by is.by,
      kept write_rule (value_of (codes "write") is.given) order.write is.write,
    ) refl in
    ap (option_and_then (order_by order.command is.plain)) valued
    ∙ ap (λ t. cond t (option_and_then (λ kind. option_map (λ number. order_with order.command values kind number (bits_for takes is.plain))
    (number_for takes is.plain)) (kind_for takes order.by is.plain)) None)
    taken.0
    ∙ ap (option_and_then (λ kind. option_map (λ number. order_with order.command values kind number (bits_for takes is.plain)) (number_for takes is.plain)))
    taken.1
    ∙ ap (option_map (λ number. order_with order.command values order.kind number (bits_for takes is.plain))) taken.2
    ∙ ap (λ bits. Some (order_with order.command values order.kind order.number bits)) (sym taken.3)

reads_it : (words : List (List ℕ)) (order : OrderView) → (is : IsOrder words order)
    → read (options_of order.command) is.behind None ≡ Some (said is.given is.plain)
reads_it words order is = reads_so (options_of order.command) (option_names order.command) is.read

pub one_order : OneOrder
one_order words one other a b =
    let parts = heads (sym a.named ∙ b.named) in
    let same = one_command one.command other.command parts.0 in
    let both : said a.given a.plain ≡ said b.given b.plain =
    same_Some _ _ (sym (reads_it words one a) ∙ (λ i. read (options_of (same i)) (parts.1 i) None) ∙ reads_it words other b) in
    same_Some _ _ (sym (said_so words one a) ∙ (λ i. order_said (same i) (both i)) ∙ said_so words other b)

record IsParsed (words : List (List ℕ)) (order : OrderView) : Type 0 where
  rows : List Row
  parses : parsed order.command words ≡ Some rows
  gives : order_for order.command rows ≡ Some order

parses_it : (words : List (List ℕ)) (order : OrderView) → (is : IsOrder words order) → AreTexts is.behind → IsParsed words order
parses_it words order is texts =
    let options = options_of order.command in
    let takes = takes_any (takes_of order.command) in
    let names = given_known options is.read in
    let once = once_gives is.given is.once in
    let what = said is.given is.plain in
    let fits : Fits takes [] what = record {
      new = new_names order.command is.given names;
      once = once;
      texts = safe_values order.command is.given is.given (safe words order is) names (own_values is.given once);
      only = takes_none (takes_of order.command) is.given is.plain (taken_of order) is.takes;
    } in
    let end = ends options takes is.behind None [] what (reads_it words order is) fits in
    let here = parsed_so order.command words is.behind is.named texts ∙ end.1 in
    let found = found_rows order.command words is.behind end.0 is.named texts here in
    let same : found.what ≡ what = same_Some _ _ (sym found.found ∙ reads_it words order is) in
    record {
      rows = end.0;
      parses = here;
      gives = found.same ∙ ap (order_said order.command) same ∙ said_so words order is;
    }

-- ---- words that give none

pub no_words : HasNoOrder []
no_words = record { refuted = λ order is. apart _ _ is.named }
  where
    apart : (word : List ℕ) (rest : List (List ℕ)) → [] ≡ word ∷ rest → ⊥
    apart word rest e = absurd cc

pub unnamed : (words : List (List ℕ)) (name : List ℕ) (rest : List (List ℕ)) → words ≡ name ∷ rest → ((command : Command) → name ≢ name_of command)
    → HasNoOrder words
unnamed words name rest e none = record { refuted = λ order is. none order.command (heads (sym e ∙ is.named)).0 }

-- an order of words whose first names the command
parses_named : (words behind : List (List ℕ)) (command : Command) (order : OrderView) → words ≡ name_of command ∷ behind → AreTexts behind
    → IsOrder words order → (rows : List Row) × (parsed command words ≡ Some rows) × (order_for command rows ≡ Some order)
parses_named words behind command order named texts is =
    let parts = heads (sym is.named ∙ named) in
    let same = one_command order.command command parts.0 in
    let it = parses_it words order is (subst AreTexts (sym parts.1) texts) in (
      it.rows,
      subst (λ (c : Command). parsed c words ≡ Some it.rows) same it.parses,
      subst (λ (c : Command). order_for c it.rows ≡ Some order) same it.gives,
    )

pub not_parsed : (words behind : List (List ℕ)) (command : Command) → words ≡ name_of command ∷ behind → AreTexts behind → parsed command words ≡ None
    → HasNoOrder words
not_parsed words behind command named texts e = record {
  refuted = λ order is.
      let it = parses_named words behind command order named texts is in
      apart it.0 (sym e ∙ it.1);
}
  where
    apart : (rows : List Row) → None ≡ Some rows → ⊥
    apart rows e = absurd cc

pub not_given : (words behind : List (List ℕ)) (command : Command) (rows : List Row) → words ≡ name_of command ∷ behind → AreTexts behind
    → parsed command words ≡ Some rows → order_for command rows ≡ None → HasNoOrder words
not_given words behind command rows named texts e none = record {
  refuted = λ order is.
      let it = parses_named words behind command order named texts is in
      let same = same_Some _ _ (sym e ∙ it.1) in
      apart order (sym none ∙ ap (order_for command) same ∙ it.2);
}
  where
    apart : (order : OrderView) → None ≡ Some order → ⊥
    apart order e = absurd cc

-- ---- the code's answers

pub gives_order : (words behind : List (List ℕ)) (command : Command) (rows : List Row) (order : OrderView) → words ≡ name_of command ∷ behind
    → AreTexts behind → parsed command words ≡ Some rows → order_for command rows ≡ Some order → IsOrder words order
gives_order words behind command rows order named texts e given =
    let found = found_rows command words behind rows named texts e in
    order_is words behind command found.what order named found.found found.once (sym found.same ∙ given)

texts_all : (words : List (String Global)) → AreTexts (map string_bytes words)
texts_all [] = tt
texts_all (word ∷ words) = (IsUtf8-string_bytes word, texts_all words)

pub texts_behind : (words : List (String Global)) (name : List ℕ) (behind : List (List ℕ)) → map string_bytes words ≡ name ∷ behind → AreTexts behind
texts_behind words name behind e = (subst AreTexts e (texts_all words)).1

begun : (words : List (String Global)) (name : String Global) → 1 ≤ length words → name ≡ slice_index_or words 0 name → map string_bytes words
    ≡ string_bytes name ∷ drop 1 (map string_bytes words)
begun [] name some is = absurd (omega arith)
begun (w ∷ ws) name some is = ap (λ (s : String Global). string_bytes s ∷ map string_bytes ws) (sym is)

-- the words begin with this one
pub begins_with : (words : List (String Global)) (name : String Global) (text : List ℕ) (command : Command) → 1 ≤ length words
    → name ≡ slice_index_or words 0 name → text ≡ string_bytes name → command_named text ≡ Some command
    → map string_bytes words ≡ name_of command ∷ drop 1 (map string_bytes words)
begins_with words name text command some is same found =
    begun words name some is ∙ ap (λ (n : List ℕ). n ∷ drop 1 (map string_bytes words)) (sym same ∙ named_is text command found)

-- ---- `Usage` comes exactly where there is no order, save for want of memory

same_fault : {T : Type 0} (a b : WordsFault) → IsErrOf {T = T} {E = WordsFault} (Err a) b → a ≡ b
same_fault a b is = cc

no_fault : {T : Type 0} (x : T) (b : WordsFault) → IsErrOf {T = T} {E = WordsFault} (Ok x) b → ⊥
no_fault x b is = absurd cc

pub exactly : (words : List (List ℕ)) (result : Result Order WordsFault) → IfOk result (λ order. IsOrder words (order_of order))
    → (IsErrOf result faults.Usage → HasNoOrder words) → result ≢ Err (faults.Memory _) → IsErrOf result faults.Usage ↔ HasNoOrder words
exactly words (Ok order) ok usage memory = (λ is. absurd (no_fault order faults.Usage is), λ none. absurd (none.refuted (order_of order) ok))
exactly words (Err faults.Usage) ok usage memory = (usage, λ none. refl)
exactly words (Err (faults.Memory _)) ok usage memory = absurd (memory refl)

pub exactly_err : (Says : WordsFault → Type 0) (words : List (List ℕ)) (result : Result Order WordsFault) → IsErrAnd result Says
    → (IsErrOf result faults.Usage → HasNoOrder words) → result ≢ Err (faults.Memory _) → IsErrOf result faults.Usage ↔ HasNoOrder words
exactly_err Says words (Ok order) err usage memory = absurd err
exactly_err Says words (Err fault) err usage memory = exactly words (Err fault) tt usage memory
