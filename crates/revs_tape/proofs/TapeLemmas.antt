-- What a tape keeps, through each of its changes.
use Rattle.std.proofs.Common.{ℕ, ◌+◌, ◌<◌, ◌≤◌, List, [], ◌∷◌, ◌++◌, length, sum, length-append, arith, subst, rules}
use Rattle.std.specs.List.{AllByRecursion}
use Rattle.list_facts.proofs.AllLemmas.{AllByRecursion-weaker, AllByRecursion-push}
use Rattle.revs_tape.specs.declared.tape.Ref.{Ref}
use Rattle.revs_tape.specs.declared.tape.Ref.TheVariants as refs
use Rattle.revs_tape.specs.declared.tape.Entry.{Entry}
use Rattle.revs_tape.specs.declared.tape.Claim.{Claim}
use Rattle.revs_tape.specs.declared.limits.TheConstants.{MOST_WRITES, MOST_CLAIMS, MOST_OUTPUTS}
use Rattle.revs_tape.specs.Tapes.{TapeView, IsKnown, IsKnownEntry, AreKnown, IsTape}

pub IsKnown-later : (n k l : ℕ) (ref : Ref) → k ≤ l → IsKnown n k ref → IsKnown n l ref
IsKnown-later n k l (refs.Input i) le known = known
IsKnown-later n k l (refs.Write j) le known = omega (arith, le, known)

pub AreKnown-push : (n k : ℕ) (es : List Entry) (e : Entry) → AreKnown n k es → IsKnownEntry n (k + length es) e → AreKnown n k (es ++ e ∷ [])
AreKnown-push n k [] e known is = (subst (λ (z : ℕ). IsKnownEntry n z e) (omega arith) is, tt)
AreKnown-push n k (f ∷ es) e known is =
    (known.0, AreKnown-push n (k + 1) es e known.1 (subst (λ (z : ℕ). IsKnownEntry n z e) (omega arith) is))

pub tape_push : (t : TapeView) (e : Entry) → IsTape t → IsKnownEntry (sum t.params) (length t.entries) e → length t.entries < MOST_WRITES
    → IsTape (record t { entries = t.entries ++ e ∷ [] })
tape_push t e is known room =
    let more : length t.entries ≤ length (t.entries ++ e ∷ []) = omega (arith, length-append t.entries (e ∷ [])) in
    record {
      widths = is.widths;
      known = AreKnown-push (sum t.params) 0 t.entries e is.known (subst (λ (z : ℕ). IsKnownEntry (sum t.params) z e) (omega arith) known);
      few_entries = omega (arith, length-append t.entries (e ∷ []), room);
      claims = AllByRecursion-weaker (λ (c : Claim). IsKnown (sum t.params) (length t.entries) c.of)
          (λ (c : Claim). IsKnown (sum t.params) (length (t.entries ++ e ∷ [])) c.of)
          (λ c k. IsKnown-later (sum t.params) (length t.entries) (length (t.entries ++ e ∷ [])) c.of more k) t.claims is.claims;
      few_claims = is.few_claims;
      outputs = AllByRecursion-weaker (IsKnown (sum t.params) (length t.entries)) (IsKnown (sum t.params) (length (t.entries ++ e ∷ [])))
          (λ r k. IsKnown-later (sum t.params) (length t.entries) (length (t.entries ++ e ∷ [])) r more k) t.outputs is.outputs;
      few_outputs = is.few_outputs;
    }

pub tape_claim : (t : TapeView) (c : Claim) → IsTape t → IsKnown (sum t.params) (length t.entries) c.of → length t.claims < MOST_CLAIMS
    → IsTape (record t { claims = t.claims ++ c ∷ [] })
tape_claim t c is known room = record {
  widths = is.widths;
  known = is.known;
  few_entries = is.few_entries;
  claims = AllByRecursion-push (λ (d : Claim). IsKnown (sum t.params) (length t.entries) d.of) t.claims c is.claims known;
  few_claims = omega (arith, length-append t.claims (c ∷ []), room);
  outputs = is.outputs;
  few_outputs = is.few_outputs;
}

pub tape_outputs : (t : TapeView) (os : List Ref) → IsTape t → AllByRecursion (IsKnown (sum t.params) (length t.entries)) os → length os ≤ MOST_OUTPUTS
    → IsTape (record t { outputs = os })
tape_outputs t os is known few = search rules
