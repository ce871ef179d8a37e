-- The text of what waits to be written.
use Rattle.std.specs.Prelude.{ℕ, List}
use Rattle.std.specs.List.{flat_map}
use Rattle.revc_driver.specs.declared.commands.Prepared.{Prepared}
use Rattle.revc_driver.specs.declared.commands.Prepared.TheVariants.{File, Claims, Ands, Digits, Lines, Stat, Converted, Program, Bench, Verified, Arith}
use Rattle.circuit_commands.specs.Convert.{file_text}
use Rattle.circuit_commands.specs.Stat.{stat_text}
use Rattle.command_answers.specs.Lines.{bits_text}
use Rattle.program_commands.specs.Ands.{ands_text}
use Rattle.program_commands.specs.Bench.{bench_text}
use Rattle.program_texts.specs.Check.{claims_text}
use Rattle.program_commands.specs.Outcomes as programs
use Rattle.program_commands.specs.Outcomes.{IsWritable, file_of}
use Rattle.verify_command.specs.Verify.{verified_text}

-- the text of what waits to be written
abbrev pub text_of : Prepared → List ℕ
text_of (File format laid) = file_of format laid
text_of (Claims count) = claims_text count
text_of (Ands counts) = ands_text counts
text_of (Digits bits) = bits_text bits
text_of (Lines lines) = flat_map bits_text lines.items
text_of (Stat sizes) = stat_text sizes
text_of (Converted format converted) = file_text format converted.circuit converted.added
text_of (Program text) = text.items
text_of (Bench sizes) = bench_text sizes
text_of Verified = verified_text
text_of (Arith made) = programs.made_text made

abbrev pub CanBeWritten : Prepared → Type 0
CanBeWritten (File format laid) = IsWritable laid
CanBeWritten (Claims count) = Unit {0}
CanBeWritten (Ands counts) = Unit {0}
CanBeWritten (Digits bits) = Unit {0}
CanBeWritten (Lines lines) = Unit {0}
CanBeWritten (Stat sizes) = Unit {0}
CanBeWritten (Converted format converted) = Unit {0}
CanBeWritten (Program text) = Unit {0}
CanBeWritten (Bench sizes) = Unit {0}
CanBeWritten Verified = Unit {0}
CanBeWritten (Arith made) = programs.CanBeWritten made
