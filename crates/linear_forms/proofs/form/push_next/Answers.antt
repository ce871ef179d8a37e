use Rattle.linear_forms.proofs.FormLemmas.{both_words, pushed}
use Rattle.linear_forms.proofs.form.push_next.Goals as goal

pub returns-then-x-y : goal.returns-then-x-y
returns-then-x-y c atom =
    both_words atom c.args.x c.args.y c.args.sum.now.items c.push_word.new.sum.items c.if-x-y.true (c.in_ok-push_word.ensures atom)

pub returns-then-x-y-2 : goal.returns-then-x-y-2
returns-then-x-y-2 c atom = pushed atom c.push.new.self.items c.args.sum.now.items c.args.x c.in_ok-push.ensures.items

pub returns : goal.returns
returns c atom = pushed atom c.push-2.new.self.items c.args.sum.now.items c.args.y c.in_ok-push-2.ensures.items
