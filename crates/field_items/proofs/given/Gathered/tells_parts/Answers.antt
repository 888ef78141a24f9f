-- `field_items::given::Gathered::tells_parts` meets its contract: the parts that are left are covered where all are. Assumes nothing.
use mathlib.Core.Path.{◌≡◌, refl, sym, ap, ◌∙◌}
use mathlib.Core.Bool.{Bool, ◌&&◌}
use Rattle.std.proofs.lemmas.Slice.Zip.{Zip-more, either_empty_from_Zip}
use Rattle.std.specs.Iterator.Adapters.{zip_first, zip_second}
use Rattle.std.specs.Slice.Iter.{iter_rest}
use Rattle.field_items.specs.Items.{pairs_by}
use Rattle.field_items.specs.Given.{covers}
use Rattle.field_items.proofs.Laws.{covers_step, no_parts}
use Rattle.field_items.proofs.given.Gathered.tells_parts.Goals as goal
use Rattle.field_items.proofs.given.Gathered.tells_parts.Goals.{After-tells_part}

-- what the next part says
next : (c : After-tells_part) →
    let t = c.args.self.now.0 in
    let i = c.next.new.self in
    covers t (pairs_by c.args.items c.args.v) ≡ (c.tells_part.result && covers t (pairs_by (iter_rest (zip_first i)) (iter_rest (zip_second i))))
next c =
    let l = c.loop-item in
    let t = c.args.self.now.0 in
    let i = c.next.new.self in
    let z = Zip-more l.item-iterator i c.next.result (c.in-Some.item, c.in-Some.value) c.in-Some.is c.next.ensures.steps in
    sym (rw (z.0, z.1) at l.invariant)
    ∙ covers_step t _ _ _ _
    ∙ ap (λ (b : Bool). b && covers t (pairs_by (iter_rest (zip_first i)) (iter_rest (zip_second i)))) (sym c.tells_part.ensures)

pub returns-then-not-tells_part : goal.returns-then-not-tells_part
returns-then-not-tells_part c = sym (next ((goal.at.returns-then-not-tells_part c).After-tells_part) ∙ rw c.if-not-tells_part.true refl)

pub loop-item-preserved : goal.loop-item-preserved
loop-item-preserved c = sym (next ((goal.at.loop-item-preserved c).After-tells_part) ∙ rw c.if-not-tells_part.false refl)

pub returns : goal.returns
unfolding covers
returns c =
    let l = c.loop-item in
    let e = no_parts _ _ (either_empty_from_Zip l.item-iterator c.next.new.self c.next.result c.in-None.is c.next.ensures.steps) in
    rw e at l.invariant
