use Rattle.std.proofs.Common.{◌≡◌, Ok, ◌∙◌, subst}
use Rattle.real_format.specs.Real.{in_header}
use Rattle.real_format.specs.inside.Reading.{header_line}
use Rattle.real_format.specs.inside.Says.{HeaderSays}
use Rattle.real_format.proofs.TextLineLemmas.{goes_on, keeps_sound}
use Rattle.real_format.proofs.reader.read_header_lines.Goals as goal

pub loop-words-preserved : goal.loop-words-preserved
loop-words-preserved c =
    let says : header_line c.loop-words.header c.in-Some.words ≡ Ok (in_header c.read_line.new.self) =
    subst (λ t. HeaderSays t (header_line c.loop-words.header c.in-Some.words) c.loop-words.header c.read_line.new.self) c.in-Ok-false.field-0-test
    c.in-Ok-false.ensures.ok in
    record {
      left = c.loop-words.invariant.left ∙ goes_on (in_header c.loop-words.header) (in_header c.read_line.new.self) c.loop-words.lines c.next.new.self
          c.in-Some.words c.in-Some.ensures says;
      sound = keeps_sound c.loop-words.header c.read_line.new.self c.in-Some.words c.loop-words.invariant.sound says;
    }
