use Rattle.std.proofs.Common.{◌≡◌, ℕ, List, ◌∷◌, Some, Ok, sym, ap, ◌∙◌}
use Rattle.revc_base.proofs.ResultLemmas.{passes_on}
use Rattle.real_format.specs.declared.header.Head.{Head}
use Rattle.real_format.specs.declared.refusal.LineRefusal.{LineRefusal}
use Rattle.real_format.specs.Header.{HeaderView}
use Rattle.real_format.specs.Real.{in_header}
use Rattle.real_format.specs.inside.Reading.{Refuses, and_then, add, head_of, headed, header_line}
use Rattle.real_format.proofs.StampLemmas.{refuses_on, refuses_same}
use Rattle.real_format.proofs.header.Header.read_line.Goals as goal

head_refuses : (said : HeaderView) (line words : List (List ℕ)) (word : List ℕ) (head : Head) (e : LineRefusal) → line ≡ word ∷ words
    → head_of word ≡ Some head → Refuses (add head said words) e → Refuses (header_line said line) e
head_refuses said line words word head e cut is refuses =
    refuses_same (header_line said line) (and_then (add head said words) (λ after. Ok (in_header after))) e
    (ap (header_line said) cut ∙ ap (λ o. headed o said word words) is)
    (refuses_on (add head said words) (λ after. Ok (in_header after)) e refuses)

pub returns-in_default-clause-ok : goal.returns-in_default-clause-ok
returns-in_default-clause-ok c = ap (header_line c.args.self.now) c.in_default.ensures.0

pub returns-in_err-add-clause-err : goal.returns-in_err-add-clause-err
returns-in_err-add-clause-err c =
    passes_on (Refuses (header_line c.args.self.now c.args.words.now)) c.from_residual.result c.from_residual.ensures.1
    (head_refuses c.args.self.now c.args.words.now c.next.new.self c.in-Some.word.now c.in-Some-of.head _ c.in-Some.ensures
    (sym c.of.ensures ∙ c.in-Some-of.is) c.in_err-add.ensures.err)
