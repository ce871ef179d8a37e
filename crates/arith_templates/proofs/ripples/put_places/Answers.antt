use Rattle.std.proofs.Common.{◌-◌, ◌+◌, ◌≡◌, ◌++◌, ◌∙◌, ap, arith, string_bytes, flat_map, rules}
use Rattle.std.specs.List.{range_with_len}
use Rattle.arith_templates.proofs.RippleLemmas.{one_more}
use Rattle.arith_templates.proofs.ripples.put_places.Goals as goal

pub loop-i-preserved : goal.loop-i-preserved
loop-i-preserved g c = let i = c.loop-i.i in let first = c.args.first in record {
  within = omega arith;
  written = λ piece puts. puts _ i _ _ c.in_ok-put.ensures ∙ ap (λ text. text ++ piece i) (c.loop-i.invariant.written piece puts)
      ∙ one_more piece (string_bytes c.args.text.now) first (i - first) (i + 1 - first) i (omega arith) (omega arith);
}

pub loop-i-init : goal.loop-i-init
loop-i-init g c = search rules

pub returns : goal.returns
returns g c = λ piece puts. let end : c.loop-i.i - c.args.first ≡ c.args.end - c.args.first = omega arith in
    c.loop-i.invariant.written piece puts
    ∙ ap (λ n. string_bytes c.args.text.now ++ flat_map piece (range_with_len c.args.first n)) end
