-- Readings put together, and where they halt.
use Rattle.std.proofs.Common.{◌≡◌, ℕ, true, Result, Err, inl, inr, ◌<◌, ◌≤◌, List}
use Rattle.std.proofs.Common.{[], ◌∷◌, ◌++◌, refl, sym, ◌∙◌, ap, subst, length, length-append, append_assoc, arith}
use Rattle.std.specs.Result.{MatchResult, IsErrAnd}
use Rattle.std.proofs.lemmas.Result.{err_from_is_err_and}
use Rattle.revc_base.specs.declared.place.Place.{Place}
use Rattle.revc_base.proofs.ResultLemmas.{one_fault}
use Rattle.revs_lexer.specs.declared.token.Tok.{Tok}
use Rattle.revs_lexer.specs.declared.token.Token.{Token}
use Rattle.revs_grammar.specs.Forms.{Mark, held, code, mark_code, Form, Val, Production, IsOneOf}
use Rattle.revs_grammar.specs.Productions.{productions}
use Rattle.revs_grammar.specs.Sentences.{Symbol, token, kept_token, opening_token, form, symbols, Leads, done, read, keep}
use Rattle.revs_grammar.specs.Sentences.{open_level, by_line, Vals, front_of, behind_of, fill, value, few_levels}
use Rattle.revs_grammar.specs.inside.Machine.{Stack, outcome}
use Rattle.revs_grammar.proofs.LeadsLemmas.{leads-then, value-then}
use Rattle.revs_parser.specs.declared.stop.Stop.{Stop}
use Rattle.revs_parser.specs.declared.stop.Stop.TheVariants as stops
use Rattle.revs_parser.specs.inside.Reading.{put, Passes, Reads, Skips, Halts, Lacks, Heads}

-- ---- lists

-- the only element of a vector that was empty
pub only : {A : Type 0} (old : List A) (x : A) {items : List A} → items ≡ old ++ x ∷ [] → old ≡ [] → items ≡ x ∷ []
only old x e h = e ∙ ap (λ z. z ++ x ∷ []) h

-- ---- values of two lists of symbols

pub front_of-put : (ss ns : Stack) (vs : Vals ss) (ws : Vals ns) → front_of ss ns (put ss ns vs ws) ≡ vs
front_of-put [] ns vs ws = refl
front_of-put (token m ∷ ss) ns vs ws = front_of-put ss ns vs ws
front_of-put (kept_token m ∷ ss) ns vs ws = rw (front_of-put ss ns vs.1 ws)
front_of-put (opening_token m l ∷ ss) ns vs ws = rw (front_of-put ss ns vs.1 ws)
front_of-put (form f l ∷ ss) ns vs ws = rw (front_of-put ss ns vs.1 ws)

pub behind_of-put : (ss ns : Stack) (vs : Vals ss) (ws : Vals ns) → behind_of ss ns (put ss ns vs ws) ≡ ws
behind_of-put [] ns vs ws = refl
behind_of-put (token m ∷ ss) ns vs ws = behind_of-put ss ns vs ws
behind_of-put (kept_token m ∷ ss) ns vs ws = behind_of-put ss ns vs.1 ws
behind_of-put (opening_token m l ∷ ss) ns vs ws = behind_of-put ss ns vs.1 ws
behind_of-put (form f l ∷ ss) ns vs ws = behind_of-put ss ns vs.1 ws

-- A list of symbols, with a way from the values of another.
abbrev From : Stack → Type 0
From xs = (zs : Stack) × (Vals xs → Vals zs)

-- the values of three lists, put together from the other side
abbrev regrouped : (ss ks ms : Stack) → Vals (ss ++ (ks ++ ms)) → Vals ((ss ++ ks) ++ ms)
regrouped [] ks ms v = v
regrouped (token m ∷ ss) ks ms v = regrouped ss ks ms v
regrouped (kept_token m ∷ ss) ks ms v = (v.0, regrouped ss ks ms v.1)
regrouped (opening_token m l ∷ ss) ks ms v = (v.0, regrouped ss ks ms v.1)
regrouped (form f l ∷ ss) ks ms v = (v.0, regrouped ss ks ms v.1)

abbrev plainly : (ss ks ms : Stack) → From (ss ++ (ks ++ ms))
plainly ss ks ms = (ss ++ (ks ++ ms), λ v. v)

abbrev grouped : (ss ks ms : Stack) → From (ss ++ (ks ++ ms))
grouped ss ks ms = ((ss ++ ks) ++ ms, regrouped ss ks ms)

regroups : (ss ks ms : Stack) → plainly ss ks ms ≡ grouped ss ks ms
regroups [] ks ms = refl
regroups (token m ∷ ss) ks ms =
    ap (λ (p : From (ss ++ (ks ++ ms))). let q : From (token m ∷ (ss ++ (ks ++ ms))) = (token m ∷ p.0, λ v. p.1 v) in q) (regroups ss ks ms)
regroups (kept_token m ∷ ss) ks ms =
    ap (λ (p : From (ss ++ (ks ++ ms))). let q : From (kept_token m ∷ (ss ++ (ks ++ ms))) = (kept_token m ∷ p.0, λ v. (v.0, p.1 v.1)) in q) (regroups ss ks ms)
regroups (opening_token m l ∷ ss) ks ms =
    ap (λ (p : From (ss ++ (ks ++ ms))). let q : From (opening_token m l ∷ (ss ++ (ks ++ ms))) = (opening_token m l ∷ p.0, λ v. (v.0, p.1 v.1)) in q)
    (regroups ss ks ms)
regroups (form f l ∷ ss) ks ms =
    ap (λ (p : From (ss ++ (ks ++ ms))). let q : From (form f l ∷ (ss ++ (ks ++ ms))) = (form f l ∷ p.0, λ v. (v.0, p.1 v.1)) in q) (regroups ss ks ms)

regrouped-put : (ss ks ms : Stack) (vs : Vals ss) (us : Vals ks) (ws : Vals ms)
    → regrouped ss ks ms (put ss (ks ++ ms) vs (put ks ms us ws)) ≡ put (ss ++ ks) ms (put ss ks vs us) ws
regrouped-put [] ks ms vs us ws = refl
regrouped-put (token m ∷ ss) ks ms vs us ws = regrouped-put ss ks ms vs us ws
regrouped-put (kept_token m ∷ ss) ks ms vs us ws = rw (regrouped-put ss ks ms vs.1 us ws)
regrouped-put (opening_token m l ∷ ss) ks ms vs us ws = rw (regrouped-put ss ks ms vs.1 us ws)
regrouped-put (form f l ∷ ss) ks ms vs us ws = rw (regrouped-put ss ks ms vs.1 us ws)

-- A reading that stands for so much.
record Reading (front : List Token) (left zs : Stack) (turn : Vals left → Vals zs) : Type 0 where
  leads : Leads few_levels zs front left
  stands_for : (ws : Vals left) → value leads ws ≡ turn ws

regroup : (ss ks ms : Stack) {front : List Token} {left : Stack} {turn : Vals left → Vals (ss ++ (ks ++ ms))} → Reading front left (ss ++ (ks ++ ms)) turn
    → Reading front left ((ss ++ ks) ++ ms) (λ ws. regrouped ss ks ms (turn ws))
regroup ss ks ms {front} {left} {turn} r =
    subst (λ (p : From (ss ++ (ks ++ ms))). Reading front left p.0 (λ ws. p.1 (turn ws))) (regroups ss ks ms) r

-- ---- passing, one behind the other

pub stays : (es : Stack) (ts : List Token) → Passes es es (λ us. us) ts ts
stays es ts = record { goes_on = λ ms. refl; front = []; cut = refl; leads = λ ms. done; stands_for = λ ms us ws. refl }

pub passes_then : {es fs gs : Stack} {f : Vals fs → Vals es} {g : Vals gs → Vals fs} {ts mid rest : List Token} → Passes es fs f ts mid
    → Passes fs gs g mid rest
    → Passes es gs (λ us. f (g us)) ts rest
passes_then {gs} {g} {rest} a b = record {
  goes_on = λ ms. a.goes_on ms ∙ b.goes_on ms;
  front = a.front ++ b.front;
  cut = a.cut ∙ ap (λ (z : List Token). a.front ++ z) b.cut ∙ sym (append_assoc a.front b.front rest);
  leads = λ ms. leads-then (a.leads ms) (b.leads ms);
  stands_for = λ ms us ws.
      value-then (a.leads ms) (b.leads ms) (put gs ms us ws) ∙ ap (value (a.leads ms)) (b.stands_for ms us ws) ∙ a.stands_for ms (g us) ws;
}

-- the same where it turns out otherwise
pub turned : {es fs : Stack} {f : Vals fs → Vals es} (g : Vals fs → Vals es) {ts rest : List Token} → ((us : Vals fs) → f us ≡ g us)
    → Passes es fs f ts rest → Passes es fs g ts rest
turned g e a = record {
  goes_on = a.goes_on;
  front = a.front;
  cut = a.cut;
  leads = a.leads;
  stands_for = λ ms us ws. a.stands_for ms us ws ∙ rw (e us);
}

-- in front of other symbols
pub beside : {es : Stack} {vs : Vals es} {ts rest : List Token} (ks : Stack) → Passes es [] (λ _. vs) ts rest
    → Passes (es ++ ks) ks (λ us. put es ks vs us) ts rest
beside {es} {vs} {ts} ks a = record {
  goes_on = λ ms. ap (outcome ts) (append_assoc es ks ms) ∙ a.goes_on (ks ++ ms);
  front = a.front;
  cut = a.cut;
  leads = λ ms. (again ms).leads;
  stands_for = λ ms us ws.
      (again ms).stands_for (put ks ms us ws) ∙ regrouped-put es ks ms vs us ws;
}
  where
    again : (ms : Stack) → Reading a.front (ks ++ ms) ((es ++ ks) ++ ms) (λ ws. regrouped es ks ms (put es (ks ++ ms) vs ws))
    again ms = regroup es ks ms (record { leads = a.leads (ks ++ ms); stands_for = λ ws. a.stands_for (ks ++ ms) tt ws })

pub no_longer : {es fs : Stack} {f : Vals fs → Vals es} {ts rest : List Token} → Passes es fs f ts rest → length rest ≤ length ts
no_longer {rest = rest} a = omega (arith, ap length a.cut, length-append a.front rest)

pub smaller_behind : {k : Tok} {at : Place} {es : Stack} {vs : Vals es} {ts mid rest : List Token} → Reads es vs ts mid → Heads k at mid rest
    → length rest < length ts
smaller_behind r h = let x = r.shorter in let y = ap length h.cut in omega (arith, x, y)

-- Passing, and then a reading.
pub passes_reads : {es fs : Stack} {f : Vals fs → Vals es} {vs : Vals fs} {ts mid rest : List Token} → Passes es fs f ts mid → Reads fs vs mid rest
    → Reads es (f vs) ts rest
passes_reads a r = record { passes = passes_then a r.passes; shorter = let x = no_longer a in let y = r.shorter in omega (arith, x, y) }

-- One reading behind the other.
pub and_then : {es fs : Stack} {vs : Vals es} {us : Vals fs} {ts mid rest : List Token} → Reads es vs ts mid → Reads fs us mid rest
    → Reads (es ++ fs) (put es fs vs us) ts rest
and_then {fs} a b = passes_reads (beside fs a.passes) b

-- A reading, and then one of a form that may be left out.
pub and_maybe : {es fs : Stack} {vs : Vals es} {us : Vals fs} {ts mid rest : List Token} → Reads es vs ts mid → Skips fs us mid rest
    → Reads (es ++ fs) (put es fs vs us) ts rest
and_maybe {fs} a b = record {
  passes = passes_then (beside fs a.passes) b.passes;
  shorter = let x = a.shorter in let y = no_longer b.passes in omega (arith, x, y);
}

-- ---- forms by their lines

-- A form stands for what its line builds.
pub line_passes : (f : Form) (l : ℕ) {ts : List Token} (p : Production (Val f)) → IsOneOf p (productions f)
    → ((ms : Stack) → outcome ts (form f l ∷ ms) ≡ outcome ts (symbols l p.pieces ++ ms))
    → Passes (form f l ∷ []) (symbols l p.pieces) (λ vs. (fill l p.pieces p.build vs, tt)) ts ts
line_passes f l p i m = record {
  goes_on = m;
  front = [];
  cut = refl;
  leads = λ ms. by_line p i done;
  stands_for = λ ms us ws. rw (front_of-put (symbols l p.pieces) ms us ws, behind_of-put (symbols l p.pieces) ms us ws);
}

-- ---- single tokens

-- One symbol, which reads the token that stands first.
symbol_passes : {k : Tok} {at : Place} {ts rest : List Token} (s : Symbol) (vs : Vals (s ∷ [])) → Heads k at ts rest
    → ((ms : Stack) → outcome ts (s ∷ ms) ≡ outcome rest ms) → (leads : (ms : Stack) → Leads few_levels (s ∷ ms) (record { tok = k; at = at } ∷ []) ms)
    → ((ms : Stack) (ws : Vals ms) → value (leads ms) ws ≡ put (s ∷ []) ms vs ws) → Passes (s ∷ []) [] (λ _. vs) ts rest
symbol_passes {k} {at} s vs h goes leads is = record {
  goes_on = goes;
  front = record { tok = k; at = at } ∷ [];
  cut = h.cut;
  leads = leads;
  stands_for = λ ms us ws. is ms ws;
}

pub token_passes : {k : Tok} {at : Place} {ts rest : List Token} (m : Mark) → code k ≡ mark_code m → Heads k at ts rest
    → ((ms : Stack) → outcome ts (token m ∷ ms) ≡ outcome rest ms) → Passes (token m ∷ []) [] (λ _. tt) ts rest
token_passes m c h goes = symbol_passes (token m) tt h goes (λ ms. read c done) (λ ms ws. refl)

pub kept_passes : {k : Tok} {at : Place} {ts rest : List Token} (m : Mark) → code k ≡ mark_code m → Heads k at ts rest
    → ((ms : Stack) → outcome ts (kept_token m ∷ ms) ≡ outcome rest ms)
    → Passes (kept_token m ∷ []) [] (λ _. (held m (record { tok = k; at = at }), tt)) ts rest
kept_passes {k} {at} m c h goes = symbol_passes (kept_token m) (held m (record { tok = k; at = at }), tt) h goes (λ ms. keep c done) (λ ms ws. refl)

pub opening_passes : {k : Tok} {at : Place} {ts rest : List Token} (m : Mark) (l : ℕ) → code k ≡ mark_code m → few_levels l ≡ true → Heads k at ts rest
    → ((ms : Stack) → outcome ts (opening_token m l ∷ ms) ≡ outcome rest ms)
    → Passes (opening_token m l ∷ []) [] (λ _. (held m (record { tok = k; at = at }), tt)) ts rest
opening_passes {k} {at} m l c ok h goes =
    symbol_passes (opening_token m l) (held m (record { tok = k; at = at }), tt) h goes (λ ms. open_level c ok done) (λ ms ws. refl)

pub one_token : {k : Tok} {at : Place} {s : Symbol} {vs : Vals (s ∷ [])} {ts rest : List Token} → Heads k at ts rest → Passes (s ∷ []) [] (λ _. vs) ts rest
    → Reads (s ∷ []) vs ts rest
one_token h a = record { passes = a; shorter = let l = ap length h.cut in omega (arith, l) }

-- ---- where reading stops

-- What a called function's halt says, the exit of its `?` returns.
pub halts_on : {T E : Type 0} {halt : E} (P : T → Type 0) (Q : E → Type 0) (r : Result T E) → IsErrAnd r (λ e. e ≡ halt) → Q halt → MatchResult r P Q
halts_on {T} {E} {halt} P Q r e q = let p = err_from_is_err_and r e in rw (p.1, p.2) q

-- A fault that a call does not have, the exit of its `?` has neither.
pub still_exact : {T U E : Type 0} {fault : E} (r : Result T E) (other : E) → IsErrAnd r (λ e. e ≡ fault) → ¬ (◌≡◌ {A = Result U E} (Err fault) (Err other))
    → ¬ (r ≡ Err other)
still_exact r other e n = one_fault other r e (λ same. n (ap Err same))

-- Where memory is wanting, nothing is said of the tokens.
pub no_memory : {es : Stack} {ts : List Token} → Halts es ts (stops.Memory _)
no_memory = record { halt = λ ms. tt }

pub wants_memory : {es : Stack} {ts : List Token} {stop : Stop} → stop ≡ stops.Memory _ → Halts es ts stop
wants_memory e = rw e no_memory

-- Where nothing was read, or the memory for it was wanting, it halts as the reading does.
pub lacks : {A : Type 0} {made : Result A Stop} {es : Stack} {ts : List Token} {stop : Stop} → Lacks made stop → (made ≡ Err stop → Halts es ts stop)
    → Halts es ts stop
lacks (inl e) h = h e
lacks (inr e) h = wants_memory e

pub halts_first : {es : Stack} {ts : List Token} {stop : Stop} (fs : Stack) → Halts es ts stop → Halts (es ++ fs) ts stop
halts_first fs h = record {
  halt = λ ms. rw append_assoc (h.halt (fs ++ ms));
}

-- The machine comes to where it halts.
pub halts_there : {ts mid : List Token} {stop : Stop} (es fs : Stack) → ((ms : Stack) → outcome ts (es ++ ms) ≡ outcome mid (fs ++ ms))
    → Halts fs mid stop → Halts es ts stop
halts_there es fs m h = record { halt = λ ms. rw (m ms) (h.halt ms) }

pub halts_behind : {es : Stack} {vs : Vals es} {ts mid : List Token} {stop : Stop} (fs : Stack) → Reads es vs ts mid → Halts fs mid stop
    → Halts (es ++ fs) ts stop
halts_behind fs r h = record {
  halt = λ ms. rw (append_assoc, r.passes.goes_on (fs ++ ms)) (h.halt ms);
}

-- The machine halts where what it passes to halts.
pub halts_past : {es fs : Stack} {f : Vals fs → Vals es} {ts mid : List Token} {stop : Stop} → Passes es fs f ts mid → Halts fs mid stop → Halts es ts stop
halts_past {es} {fs} a h = halts_there es fs a.goes_on h
