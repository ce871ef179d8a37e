use Rattle.linear_forms.proofs.FormLemmas.{no_word, pushed}
use Rattle.linear_forms.proofs.form.push_word.Goals as goal

pub returns-then-word-eq0 : goal.returns-then-word-eq0
returns-then-word-eq0 c atom = no_word atom c.args.sum.now.items c.args.place c.args.word c.if-word-eq0.true

pub returns : goal.returns
returns c atom = pushed atom c.push.new.self.items c.args.sum.now.items _ c.in_ok-push.ensures.items
