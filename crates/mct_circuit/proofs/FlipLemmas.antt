-- What a flip does to the bits of the lines, whatever its controls.
use Rattle.std.proofs.Common.{◌≡◌, ℕ, Bool, true, false, not, cond, List, set, sym, ap, ◌∙◌}
use Rattle.std.specs.List.{list_all}
use Rattle.std.specs.Bool.{xor}
use Rattle.std.proofs.lemmas.List.{set-get_or}
use Rattle.list_facts.specs.Bits.{bit_of}
use Rattle.list_facts.proofs.BitLemmas.{xor_one, xor_none}
use Rattle.mct_circuit.specs.declared.gate.Control.{Control}
use Rattle.mct_circuit.specs.declared.gate.Op.TheVariants.{Flip}
use Rattle.mct_circuit.specs.Gates.{is_met, after_gate}

set_if : (met : Bool) (bits : List Bool) (target : ℕ)
    → cond met (set bits target (not (bit_of bits target))) bits ≡ set bits target (xor met (bit_of bits target))
set_if true bits target = ap (set bits target) (sym (xor_one (bit_of bits target)))
set_if false bits target =
    sym (ap (set bits target) (xor_none (bit_of bits target)) ∙ set-get_or bits target false)

-- a flip is a set: the target's bit becomes its exclusive or with whether all controls are met
pub flip_sets : (controls : List Control) (target : ℕ) (bits : List Bool)
    → after_gate (record { controls = controls; op = Flip target }) bits
    ≡ set bits target (xor (list_all (is_met bits) controls) (bit_of bits target))
flip_sets controls target bits = set_if (list_all (is_met bits) controls) bits target
