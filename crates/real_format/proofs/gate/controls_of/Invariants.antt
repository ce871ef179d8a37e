use Rattle.std.proofs.Common.{◌≡◌, ◌≤◌, ◌-◌, [], length}
use Rattle.real_format.specs.inside.Reading.{controls_from, lines_of_controls}
use Rattle.real_format.specs.inside.Stamps.{AreStamped}
use Rattle.real_format.proofs.gate.controls_of.Given as goal

abbrev pub invariant-controls : goal.invariant-controls
invariant-controls l = record {
  left : controls_from l.names l.wanted l.controls.items l.words ≡ controls_from l.names l.wanted [] l.initial.words;
  stamped : AreStamped l.stamps l.stamp (lines_of_controls l.controls.items);
  few : length l.controls.items ≤ l.wanted;
}

abbrev pub decreases-controls : goal.decreases-controls
decreases-controls l = l.wanted - length l.controls.items
