-- The writes one after another.
use Rattle.std.proofs.Common.{◌≡◌, ℕ, suc, ◌+◌, ◌<◌, Bool, List, [], ◌∷◌, ◌++◌, length, drop, slice_index_or, sym, ap, ◌∙◌, arith}
use Rattle.std.proofs.Math.Seq.{drop-cons}
use Rattle.revs_tape.specs.declared.tape.Entry.{Entry}
use Rattle.revs_tape.specs.Tapes.{entry_bit, written_by}

-- one more write, as the code takes it
pub written_next : (input seen written more whole : List Bool) (es : List Entry) (i : ℕ) (d : Entry) (bit : Bool) → i < length es → seen ≡ written
    → bit ≡ entry_bit input seen (slice_index_or es i d) → more ≡ written ++ bit ∷ [] → written_by input written (drop i es) ≡ whole
    → written_by input more (drop (i + 1) es) ≡ whole
written_next input seen written more whole es i d bit inside same made new was =
    let plus : i + 1 ≡ suc i = omega arith in
    rw plus (rw new (rw made (rw same (sym (ap (written_by input written) (drop-cons es i d inside)) ∙ was))))
