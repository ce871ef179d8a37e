-- The texts that are given to options, and their values.
use Rattle.std.proofs.Common.{◌≡◌, ℕ, false, List, [], ◌∷◌, Option}
use Rattle.std.proofs.Common.{Some, None, refl, sym, ap, ◌∙◌, codes}
use Rattle.std.specs.Option.{option_and_then}
use Rattle.std.specs.Str.{bytes_eq}
use Rattle.std.proofs.lemmas.Option.{same_Some}
use Rattle.clap.specs.Words.{Row, first_of}
use Rattle.revc_words.specs.declared.commands.Command.{Command}
use Rattle.revc_words.specs.declared.commands.Command.TheVariants.{Verify}
use Rattle.revc_words.specs.Commands.{factor_option, name_of, options_of, takes_of, way_option}
use Rattle.revc_words.specs.declared.order.Aim.{Aim}
use Rattle.revc_words.specs.declared.order.Format.{Format}
use Rattle.revc_words.specs.declared.order.Format.TheVariants.{Real, Qasm}
use Rattle.revc_words.specs.declared.order.Values.{Values}
use Rattle.revc_words.specs.declared.order.Write.{Write}
use Rattle.revc_words.specs.Words.{OrderView}
use Rattle.revc_words.specs.Words.{Setting}
use Rattle.revc_words.specs.Words.{value_of}
use Rattle.revc_words.specs.inside.Parsing.{Texts, aim_of, format_of, write_of, order_for}
use Rattle.revc_words.specs.inside.Parsing.{order_of_texts, parsed, takes_any, texts_by, texts_in, value_or, values_of}
use Rattle.revc_words.proofs.ValueLemmas.{Rule, plan_rule, lines_rule, gates_rule, borrow_rule, nodes_rule, assume_rule, placing_rule, way_rule}
use Rattle.revc_words.proofs.ValueLemmas.{format_rule, by_rule}
use Rattle.revc_words.proofs.ValueLemmas.{aim_rule, write_rule}
use Rattle.revc_words.proofs.WalkLemmas.{AreTexts}
use Rattle.revc_words.proofs.SaidLemmas.{Said, read, reached, AreOnce}
use Rattle.revc_words.proofs.CommandLemmas.{no_word_option, parsed_so}
use Rattle.revc_words.proofs.TakenLemmas.{and_says}

-- ---- the texts that are given

abbrev pub texts_of : Command → List Setting → Texts
texts_of command given = texts_by command (λ name. value_of name given)

factor_is_no_word : (command : Command) → bytes_eq (codes "word") (factor_option command) ≡ false
factor_is_no_word Verify = refl
factor_is_no_word command = refl

way_is_no_word : (command : Command) → bytes_eq (codes "word") (way_option command) ≡ false
way_is_no_word Verify = refl
way_is_no_word command = refl

same_texts : (command : Command) (rows : List Row) (given : List Setting)
    → ((id : List ℕ) → bytes_eq (codes "word") id ≡ false → first_of id rows ≡ value_of id given) → texts_in command rows ≡ texts_of command given
same_texts command rows given h = λ i. record {
  plan = h (codes "plan") refl i;
  lines = h (codes "lines") refl i;
  gates = h (codes "gates") refl i;
  borrow = h (codes "borrow") refl i;
  nodes = h (codes "nodes") refl i;
  assume = h (codes "assume") refl i;
  outputs = h (codes "outputs") refl i;
  way = h (way_option command) (way_is_no_word command) i;
  format = h (codes "format") refl i;
  from = h (codes "from") refl i;
  to = h (codes "to") refl i;
  aim = h (codes "for") refl i;
  by = h (factor_option command) (factor_is_no_word command) i;
  write = h (codes "write") refl i;
}

abbrev pub order_said : Command → Said → Option OrderView
order_said command what = order_of_texts command (texts_of command what.given) what.plain

-- the rows of a parse are made of what the words say
pub record IsFound (command : Command) (behind : List (List ℕ)) (rows : List Row) : Type 0 where
  pub what : Said
  pub found : read (options_of command) behind None ≡ Some what
  pub once : AreOnce what.given
  pub same : order_for command rows ≡ order_said command what

pub found_rows : (command : Command) (words behind : List (List ℕ)) (rows : List Row) → words ≡ name_of command ∷ behind → AreTexts behind
    → parsed command words ≡ Some rows → IsFound command behind rows
found_rows command words behind rows named texts e =
    let it = reached (options_of command) (takes_any (takes_of command)) (no_word_option command) behind None tt [] rows
    (sym (parsed_so command words behind named texts) ∙ e) in
    record {
      what = it.what;
      found = it.found;
      once = it.once;
      same = λ i. order_of_texts command (same_texts command rows it.what.given it.values i) (it.plain i);
    }

-- ---- the values of the texts

-- a text gives this value
abbrev pub Gives : {A : Type 0} → Rule A → Option (List ℕ) → A → Type 0
Gives rule text value = value_or rule.usual rule.value text ≡ Some value

-- the texts give these values
pub record GiveAll (command : Command) (texts : Texts) (v : Values) : Type 0 where
  pub plan : Gives plan_rule texts.plan v.plan
  pub lines : Gives lines_rule texts.lines v.lines
  pub gates : Gives gates_rule texts.gates v.gates
  pub borrow : Gives borrow_rule texts.borrow v.borrow
  pub nodes : Gives nodes_rule texts.nodes v.nodes
  pub assume : Gives assume_rule texts.assume v.assume
  pub outputs : Gives (placing_rule command) texts.outputs v.outputs
  pub way : Gives way_rule texts.way v.way
  pub format : Gives (format_rule Real) texts.format v.format
  pub from : Gives (format_rule Real) texts.from v.from
  pub to : Gives (format_rule Qasm) texts.to v.to
  pub aim : Gives aim_rule texts.aim v.aim
  pub by : Gives by_rule texts.by v.by
  pub write : Gives write_rule texts.write v.write

-- the last texts give these values
record GiveLast (texts : Texts) (made : Format → Format → Aim → ℕ → Write → Values) (v : Values) : Type 0 where
  from : Format
  to : Format
  aim : Aim
  by : ℕ
  write : Write
  from_is : Gives (format_rule Real) texts.from from
  to_is : Gives (format_rule Qasm) texts.to to
  aim_is : Gives aim_rule texts.aim aim
  by_is : Gives by_rule texts.by by
  write_is : Gives write_rule texts.write write
  same : made from to aim by write ≡ v

last_say : (texts : Texts) (made : Format → Format → Aim → ℕ → Write → Values) (v : Values)
    → option_and_then (λ from. option_and_then (λ to. option_and_then (λ aim. option_and_then (λ by. option_and_then (λ write. Some (made from to aim by write))
    (value_or write_rule.usual write_of texts.write)) (value_or by_rule.usual by_rule.value texts.by)) (value_or aim_rule.usual aim_of texts.aim))
    (value_or Qasm format_of texts.to)) (value_or Real format_of texts.from) ≡ Some v
    → GiveLast texts made v
last_say texts made v e =
    let from = and_says _ _ v e in
    let to = and_says _ _ v from.2 in
    let aim = and_says _ _ v to.2 in
    let by = and_says _ _ v aim.2 in
    let write = and_says _ _ v by.2 in
    record {
      from = from.0;
      to = to.0;
      aim = aim.0;
      by = by.0;
      write = write.0;
      from_is = from.1;
      to_is = to.1;
      aim_is = aim.1;
      by_is = by.1;
      write_is = write.1;
      same = same_Some _ _ write.2;
    }

pub values_say : (command : Command) (texts : Texts) (v : Values) → values_of command texts ≡ Some v → GiveAll command texts v
values_say command texts v e =
    let plan = and_says _ _ v e in
    let lines = and_says _ _ v plan.2 in
    let gates = and_says _ _ v lines.2 in
    let borrow = and_says _ _ v gates.2 in
    let nodes = and_says _ _ v borrow.2 in
    let assume = and_says _ _ v nodes.2 in
    let outputs = and_says _ _ v assume.2 in
    let way = and_says _ _ v outputs.2 in
    let format = and_says _ _ v way.2 in
    let last = last_say texts (λ from to aim by write. record {
      plan = plan.0;
      lines = lines.0;
      gates = gates.0;
      borrow = borrow.0;
      nodes = nodes.0;
      assume = assume.0;
      outputs = outputs.0;
      way = way.0;
      format = format.0;
      from = from;
      to = to;
      aim = aim;
      by = by;
      write = write;
    }) v format.2 in
    let same = last.same in
    record {
      plan = plan.1 ∙ ap (λ (all : Values). Some all.plan) same;
      lines = lines.1 ∙ ap (λ (all : Values). Some all.lines) same;
      gates = gates.1 ∙ ap (λ (all : Values). Some all.gates) same;
      borrow = borrow.1 ∙ ap (λ (all : Values). Some all.borrow) same;
      nodes = nodes.1 ∙ ap (λ (all : Values). Some all.nodes) same;
      assume = assume.1 ∙ ap (λ (all : Values). Some all.assume) same;
      outputs = outputs.1 ∙ ap (λ (all : Values). Some all.outputs) same;
      way = way.1 ∙ ap (λ (all : Values). Some all.way) same;
      format = format.1 ∙ ap (λ (all : Values). Some all.format) same;
      from = last.from_is ∙ ap (λ (all : Values). Some all.from) same;
      to = last.to_is ∙ ap (λ (all : Values). Some all.to) same;
      aim = last.aim_is ∙ ap (λ (all : Values). Some all.aim) same;
      by = last.by_is ∙ ap (λ (all : Values). Some all.by) same;
      write = last.write_is ∙ ap (λ (all : Values). Some all.write) same;
    }
