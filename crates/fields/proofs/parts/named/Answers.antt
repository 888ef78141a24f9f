-- `fields::parts::named` meets its contract: each number's rule stands at its place. Assumes nothing.
use Rattle.std.proofs.Common.{◌∙◌, arith, map, sym}
use Rattle.std.proofs.lemmas.List.{ext_get_or, length-map}
use Rattle.std.proofs.Math.ListN.{get_or-map}
use Rattle.fields.specs.declared.Rule.TheVariants.{Any}
use Rattle.fields.specs.Numbers.{part_rule_numbered}
use Rattle.fields.proofs.parts.named.Goals as goal

pub returns : goal.returns
returns c =
    let e = c.map.ensures.items in
    let ns = c.args.rules.now in
    let l = e.long ∙ sym (length-map ns part_rule_numbered ∙ c.told-rules) in
    ext_get_or Any _ (map part_rule_numbered ns) l
    (λ i h. (e.at i 0 Any (omega (arith, e.long, h))).2.met ∙ sym (get_or-map part_rule_numbered ns i 0))
