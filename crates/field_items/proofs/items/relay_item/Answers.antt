-- `field_items::items::relay_item` meets its contract. Assumes nothing.
use mathlib.Core.Path.{refl, sym}
use borrow.Author.Tests.{ne_eqb}
use Rattle.pairs.specs.Pairs.{find_in}
use Rattle.field_items.proofs.items.relay_item.Goals as goal

pub returns-then-item-eq-SENSOR : goal.returns-then-item-eq-SENSOR
unfolding find_in
returns-then-item-eq-SENSOR c = rw c.if-item-eq-SENSOR.true refl

pub returns : goal.returns
unfolding find_in
returns c = rw (ne_eqb 237 c.args.item (λ q. c.if-item-eq-SENSOR.false (sym q))) c.field_item.ensures
