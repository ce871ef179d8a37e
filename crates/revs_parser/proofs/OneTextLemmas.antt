-- A text is that of one program.
use Rattle.std.proofs.Common.{◌≡◌, ℕ, List, ap, ◌∙◌, subst}
use Rattle.revs_lexer.specs.Tokens.{closed}
use Rattle.revs_lexer.proofs.OutcomeLemmas.{IsTokens-same}
use Rattle.revs_terms.specs.declared.program.Param.{Param}
use Rattle.revs_terms.specs.Scopes.{ScopeVerdict, scope_verdict, bound_as}
use Rattle.revs_terms.specs.Trees.{Tree}
use Rattle.revs_terms.specs.Views.{ProgramView}
use Rattle.revs_grammar.specs.Answers.{HasSentence}
use Rattle.revs_grammar.proofs.LeadsLemmas.{same_program}
use Rattle.revs_parser.specs.WellFormed.{IsProgramText, IsWellFormed, OneProgramOfText}

same_parts : (p q : ProgramView) → p.params ≡ q.params → p.body ≡ q.body → p ≡ q
same_parts p q e f =
    ap (λ x. let view : ProgramView = record { params = x; body = p.body } in view) e
    ∙ ap (λ x. let view : ProgramView = record { params = q.params; body = x } in view) f

pub one_text : (text : List ℕ) (p q : ProgramView) → IsProgramText text p → IsProgramText text q → p ≡ q
one_text text p q a b =
    let same : a.tokens ≡ b.tokens = IsTokens-same text a.tokens b.tokens a.cut b.cut in
    let both = same_program (closed text b.tokens) p.params q.params p.body q.body
    (subst (λ ts. HasSentence (closed text ts) p.params p.body) same a.sentence.sentence) b.sentence.sentence in
    same_parts p q both.0 both.1

same_tree : (a b : ScopeVerdict) (s t : Tree) → a ≡ b → a ≡ bound_as s → b ≡ bound_as t → s ≡ t
same_tree a b s t e f g = cc

pub one_formed : (text : List ℕ) (p q : ProgramView) → IsWellFormed text p → IsWellFormed text q → p ≡ q
one_formed text p q a b =
    let same = one_text text (record p { body = a.unbound }) (record q { body = b.unbound }) a.text_of b.text_of in
    let params : p.params ≡ q.params = ap (λ (v : ProgramView). v.params) same in
    let trees : a.unbound ≡ b.unbound = ap (λ (v : ProgramView). v.body) same in
    same_parts p q params (same_tree (scope_verdict p.params a.unbound) (scope_verdict q.params b.unbound) p.body q.body
    (ap (λ (ps : List Param). scope_verdict ps a.unbound) params ∙ ap (scope_verdict q.params) trees) a.bound b.bound)

pub one_program_of_text : OneProgramOfText
one_program_of_text text p q = (one_text text p q, one_formed text p q)
