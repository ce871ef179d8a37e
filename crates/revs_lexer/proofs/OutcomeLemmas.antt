-- What a text's tokens and its first refusal say of an answer.
use Rattle.std.proofs.Common.{◌≡◌, ◌≢◌, ℕ, ◌+◌, ◌≤◌, List, [], ◌∷◌, length, Result, Ok, Err, IfOk, IfErr, MatchResult, refl, ap, sym, ◌∙◌, subst, ◌⊎◌, inl, inr}
use Rattle.std.proofs.Common.{⊎_elim, arith, length-append}
use Rattle.std.specs.Prelude.{IsErrOf}
use Rattle.revs_lexer.specs.Tokens.{Stop, IsTokens, IsRefused, closed, IsEnded}
use Rattle.text_places.specs.Places.{start, place_after}
use Rattle.revs_lexer.specs.Tokens as cuts
use Rattle.revs_lexer.specs.declared.token.Tok.TheVariants as toks
use Rattle.revs_lexer.specs.declared.token.Token.{Token}
use Rattle.revs_lexer.specs.declared.token.LexFault.{LexFault}
use Rattle.revs_lexer.specs.declared.token.LexFault.TheVariants as faults
use Rattle.revs_lexer.proofs.CutLemmas.{one_way, cut_is_short, ended_cut}

-- a text has one list of tokens
pub IsTokens-same : (text : List ℕ) (ts us : List Token) → IsTokens text ts → IsTokens text us → ts ≡ us
IsTokens-same text ts us h k = (one_way text ts us cuts.whole cuts.whole h k).0

-- a text that is refused has no tokens
pub refused_has_no_tokens : (text : List ℕ) (fault : LexFault) (ts : List Token) → IsRefused text fault → IsTokens text ts → ⊥
refused_has_no_tokens text fault ts (us, k) h = apart (one_way text ts us cuts.whole (cuts.refused fault) h k).1
  where
    apart : cuts.whole ≡ cuts.refused fault → ⊥
    apart e = absurd cc

-- a text has one first refusal
pub IsRefused-same : (text : List ℕ) (fault other : LexFault) → IsRefused text fault → IsRefused text other → fault ≡ other
IsRefused-same text fault other (ts, h) (us, k) = same (one_way text ts us (cuts.refused fault) (cuts.refused other) h k).1
  where
    same : cuts.refused fault ≡ cuts.refused other → fault ≡ other
    same e = cc

-- the tokens with `End` behind them: at most one more than bytes, and no other is `End`
pub length-closed : (text : List ℕ) (ts : List Token) → IsTokens text ts → length (closed text ts) ≤ length text + 1
length-closed text ts h =
    let short = cut_is_short start text ts cuts.whole h in
    let more = length-append ts (record { tok = toks.End; at = place_after start text } ∷ []) in
    omega arith

pub closed_is_ended : (text : List ℕ) (ts : List Token) → IsTokens text ts → IsEnded (closed text ts)
closed_is_ended text ts h = ended_cut start text ts cuts.whole (place_after start text) h

abbrev GivesTokens : {V : Type 0} → (V → List Token) → List ℕ → Result V LexFault → Type 0
GivesTokens items text r = IfOk r (λ all. (ts : List Token) × IsTokens text ts × (items all ≡ closed text ts))

abbrev GivesRefusal : {V : Type 0} → List ℕ → Result V LexFault → Type 0
GivesRefusal text r = IfErr r (λ fault. fault ≢ faults.Memory _ → IsRefused text fault)

memory_or_not : (fault : LexFault) → (fault ≡ faults.Memory _) ⊎ (fault ≢ faults.Memory _)
memory_or_not (faults.Memory _) = inl refl
memory_or_not (faults.BadByte at) = inr (λ e. absurd cc)
memory_or_not (faults.LongName at) = inr (λ e. absurd cc)
memory_or_not (faults.LongNumber at) = inr (λ e. absurd cc)

pub only_tokens : {V : Type 0} (items : V → List Token) (text : List ℕ) (r : Result V LexFault) → GivesTokens items text r → GivesRefusal text r
    → (ts : List Token) → IsTokens text ts → MatchResult r (λ all. items all ≡ closed text ts) (λ fault. fault ≡ faults.Memory _)
only_tokens items text (Ok all) (us, k, same) f ts h = same ∙ ap (closed text) (IsTokens-same text us ts k h)
only_tokens items text (Err fault) t f ts h =
    ⊎_elim (λ (memory : fault ≡ faults.Memory _). memory) (λ (own : fault ≢ faults.Memory _). absurd (refused_has_no_tokens text fault ts (f own) h))
    (memory_or_not fault)

pub only_refusal : {V : Type 0} (items : V → List Token) (text : List ℕ) (r : Result V LexFault) → GivesTokens items text r → GivesRefusal text r
    → (fault : LexFault) → IsRefused text fault → IsErrOf r fault ⊎ IsErrOf r (faults.Memory _)
only_refusal items text (Ok all) (us, k, same) f fault h = absurd (refused_has_no_tokens text fault us h k)
only_refusal {V} items text (Err found) t f fault h =
    let answer : LexFault → Result V LexFault = λ e. Err e in
    ⊎_elim (λ (memory : found ≡ faults.Memory _). inr (ap answer memory)) (λ (own : found ≢ faults.Memory _). inl
    (ap answer (IsRefused-same text found fault (f own) h))) (memory_or_not found)

pub ended : {V : Type 0} (items : V → List Token) (text : List ℕ) (r : Result V LexFault) → GivesTokens items text r → IfOk r (λ all. IsEnded (items all))
ended items text (Ok all) (us, k, same) = subst IsEnded (sym same) (closed_is_ended text us k)
ended items text (Err fault) t = tt

pub few : {V : Type 0} (items : V → List Token) (text : List ℕ) (r : Result V LexFault) → GivesTokens items text r
    → IfOk r (λ all. length (items all) ≤ length text + 1)
few items text (Ok all) (us, k, same) = subst (λ (ts : List Token). length ts ≤ length text + 1) (sym same) (length-closed text us k)
few items text (Err fault) t = tt
