use Rattle.std.proofs.Common.{◌≡◌, ◌<◌, ◌≤◌, List, ℕ, [], ap, subst, take, drop, length}
use Rattle.qasm_lexer.specs.Tokens.{Left, IsNext}
use Rattle.qasm_lexer.proofs.MoveLemmas.{token_taken_out}
use Rattle.qasm_lexer.proofs.tokens.Tokens.next.Goals as goal

pub returns : goal.returns
returns c =
    let same = ap (λ (v : Left). v.bytes) c.take.view_is in
    let n = c.token_len.result in
    token_taken_out c.args.self.now c.skip_gaps.new.self c.take-word.new.self c.take-word.result.now c.self.inside.at n c.skip_gaps.ensures.gaps
    (ap (λ (v : Left). v.at) c.self.view_is) c.take-word.ensures.piece c.take-word.ensures.rest c.take-word.ensures.place
    (subst (λ (bytes : List ℕ). n ≤ length bytes) same c.token_len.ensures.in_range)
    (subst (λ (bytes : List ℕ). n ≡ 0 → bytes ≡ []) same c.token_len.ensures.end)
    (subst (λ (bytes : List ℕ). 0 < n → IsNext bytes (take n bytes) (drop n bytes)) same c.token_len.ensures.next)
