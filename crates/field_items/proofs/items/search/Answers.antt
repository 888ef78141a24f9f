-- `field_items::items::search` meets its contract: what is found among the parts that are left is what is found among all. Assumes nothing.
use mathlib.Core.Path.{sym, ◌∙◌}
use Rattle.std.proofs.lemmas.Slice.Zip.{Zip-more, either_empty_from_Zip}
use Rattle.pairs.specs.Pairs.{find_in}
use Rattle.field_items.proofs.Laws.{hit, miss, no_parts, no_zero}
use Rattle.field_items.proofs.items.search.Goals as goal

pub returns-then-item-eq0 : goal.returns-then-item-eq0
returns-then-item-eq0 c = rw c.if-item-eq0.true (sym (no_zero c.args.items c.args.v))

pub returns-then-k-item : goal.returns-then-k-item
returns-then-k-item c =
    let l = c.loop-k in
    let z = Zip-more l.k-iterator c.next.new.self c.next.result (c.in-Some.k, c.in-Some.x) c.in-Some.is c.next.ensures.steps in
    sym (hit c.args.item _ _ _ _ c.if-item-eq0.false c.if-k-item.true) ∙ (rw (z.0, z.1) at l.invariant)

pub loop-k-preserved : goal.loop-k-preserved
loop-k-preserved c =
    let l = c.loop-k in
    let z = Zip-more l.k-iterator c.next.new.self c.next.result (c.in-Some.k, c.in-Some.x) c.in-Some.is c.next.ensures.steps in
    sym (miss c.args.item _ _ _ _ c.if-k-item.false) ∙ (rw (z.0, z.1) at l.invariant)

pub returns : goal.returns
unfolding find_in
returns c =
    let l = c.loop-k in
    let e = no_parts _ _ (either_empty_from_Zip l.k-iterator c.next.new.self c.next.result c.in-None.is c.next.ensures.steps) in
    rw e at l.invariant
