-- One step of the loop over the gates, and what is said of a split that was refused.
use Rattle.std.proofs.Common.{◌≡◌, ◌≢◌, ℕ, ◌+◌, ◌<◌, ◌≤◌, List, length, get_or, take, Result, Ok, Err, Some, None, refl, ap, subst, ◌∙◌, arith}
use Rattle.std.specs.Result.{IsErrAnd}
use Rattle.std.proofs.lemmas.Result.{err_from_is_err_and}
use Rattle.list_facts.proofs.AllLemmas.{AllByRecursion-at, AllByRecursion-weaker}
use Rattle.mct_circuit.specs.Gates.{CircuitView, GateView, IsGateOn, AreGatesOn, lines_of}
use Rattle.gate_split.specs.declared.fault.SplitFault.{SplitFault}
use Rattle.gate_split.specs.declared.fault.SplitFault.TheVariants.{NoIdle, Gates, Memory}
use Rattle.gate_split.specs.Split.{behind, split_gate, split_gates, HasSplitList, IsSplit, IsSplitList, Splits, WantsIdle}
use Rattle.gate_split.proofs.SplitListLemmas.{one_further, none_after}

-- a circuit's gates on more lines
pub on_more : (m n : ℕ) (gates : List GateView) → m ≤ n → AreGatesOn m gates → AreGatesOn n gates
on_more m n gates h g =
    AllByRecursion-weaker (IsGateOn m) (IsGateOn n) (λ gate p. record {
      different = p.different;
      in_range = AllByRecursion-weaker (λ l. l < m) (λ l. l < n) (λ l q. omega arith) (lines_of gate) p.in_range;
    }) gates g

pub gate_at : (n : ℕ) (gates : List GateView) (i : ℕ) (gate : GateView) → AreGatesOn n gates → i < length gates → gate ≡ get_or gates i gate → IsGateOn n gate
gate_at n gates i gate g h e = rw (← e) at (AllByRecursion-at (IsGateOn n) gates i gate g h)

-- where all gates have lists, the next one has
pub gate_has : (n : ℕ) (gates : List GateView) (i : ℕ) (gate : GateView) (done : List GateView) → i < length gates → gate ≡ get_or gates i gate
    → split_gates n (take i gates) ≡ Some done → split_gates n gates ≢ None → split_gate n gate ≢ None
gate_has n gates i gate done low at known some none =
    some (none_after n (i + 1) gates (one_further n gates i gate done low at known ∙ ap (behind done) none))

-- exactly why there is no split
pub refused : (n most : ℕ) (wide : List GateView) (fault : SplitFault) → IsSplit n most wide (Err fault) → Splits n most wide (Err fault)
refused n most wide (NoIdle place) is = record {
  gates = tt;
  size = tt;
  map = tt;
  no_idle = λ gate e. let same : place ≡ gate = cc in subst (WantsIdle n most wide) same is;
  over = λ e. absurd cc;
  memory = λ e. absurd cc;
}
refused n most wide Gates is = record { gates = tt; size = tt; map = tt; no_idle = λ gate e. absurd cc; over = λ e. is; memory = λ e. absurd cc }
refused n most wide (Memory _) is = absurd is

-- there was no memory for the split list
pub no_memory : (n most : ℕ) (wide : List GateView) → HasSplitList n most wide → Splits n most wide (Err (Memory _))
no_memory n most wide has =
    record { gates = tt; size = tt; map = tt; no_idle = λ gate e. absurd cc; over = λ e. absurd cc; memory = λ e. has }

-- gates that are their own split list
pub splits_so : (n most : ℕ) (wide : List GateView) → IsSplitList n most wide wide → Splits n most wide (Ok (record { lines = n; limit = most; gates = wide }))
splits_so n most wide is = record {
  gates = is;
  size = refl;
  map = λ bits long. refl;
  no_idle = λ gate e. absurd cc;
  over = λ e. absurd cc;
  memory = λ e. absurd cc;
}

-- the exit of a `?` says what its fault says
pub fails_so : {fault : SplitFault} (n most : ℕ) (wide : List GateView) (r : Result CircuitView SplitFault) → IsErrAnd r (λ e. e ≡ fault)
    → Splits n most wide (Err fault) → Splits n most wide r
fails_so {fault} n most wide r failed is = let p = err_from_is_err_and r failed in rw (p.1, p.2) is
