-- The parts of a file's text, as its writer puts them one after another.
use Rattle.std.specs.Prelude.{ℕ, ◌+◌, List, [], ◌∷◌, ◌++◌, map, codes}
use Rattle.std.specs.List.{concat}
use Rattle.std.specs.Fmt.{decimal}
use Rattle.format_parts.specs.Flips.{FlipTexts}
use Rattle.real_format.specs.declared.labels.Labels.{Labels}
use Rattle.real_format.specs.declared.labels.MarkKind.TheVariants.{Constants, Garbage}
use Rattle.real_format.specs.inside.Labels.{count_of, all_names, mark_bytes}

abbrev pub size_text : ℕ → List ℕ
size_text count = codes ".version 2.0\n.numvars " ++ (decimal count ++ codes "\n")

-- a line of the header that gives names, each behind a space
abbrev pub names_line_text : List ℕ → List (List ℕ) → List ℕ
names_line_text word names = word ++ (concat (map (λ w. 32 ∷ w) names) ++ codes "\n")

abbrev pub names_text : List (List ℕ) → List ℕ
names_text names =
    names_line_text (codes ".variables") names
    ++ (names_line_text (codes ".inputs") names ++ names_line_text (codes ".outputs") names)

-- a line of the header that gives marks, by their bytes
abbrev pub mark_line_text : List ℕ → List ℕ → List ℕ
mark_line_text word bytes = word ++ (concat (map (λ b. b ∷ []) bytes) ++ codes "\n")

-- the marks of the lines, by their bytes
abbrev pub marks_text : List ℕ → List ℕ → List ℕ
marks_text constants garbage =
    mark_line_text (codes ".constants ") constants
    ++ (mark_line_text (codes ".garbage ") garbage ++ codes ".begin\n")

-- the part before the gates
abbrev pub header_text : Labels → List ℕ
header_text labels =
    size_text (count_of labels)
    ++ (names_text (all_names labels)
    ++ marks_text (mark_bytes labels Constants) (mark_bytes labels Garbage))

-- the parts of a gate's line: `t` and the number of its lines, and each name behind a space
abbrev pub flip_texts : (ℕ → List ℕ) → FlipTexts
flip_texts name = record {
  word = λ controls. 116 ∷ decimal (controls + 1);
  control = λ line. 32 ∷ name line;
  target = λ line. (32 ∷ name line) ++ codes "\n";
}
