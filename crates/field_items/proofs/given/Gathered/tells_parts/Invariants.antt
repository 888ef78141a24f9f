-- `field_items::given::Gathered::tells_parts` meets its contract: the parts that are left are covered where all are. Assumes nothing.
use mathlib.Core.Path.{◌≡◌}
use Rattle.std.specs.Iterator.Adapters.{zip_first, zip_second}
use Rattle.std.specs.Slice.Iter.{iter_rest}
use Rattle.field_items.specs.Items.{pairs_by}
use Rattle.field_items.specs.Given.{covers}
use Rattle.field_items.proofs.given.Gathered.tells_parts.Given as goal

abbrev pub invariant-loop-item : goal.invariant-loop-item
invariant-loop-item l =
    covers l.self.0 (pairs_by (iter_rest (zip_first l.item-iterator)) (iter_rest (zip_second l.item-iterator))) ≡ covers l.self.0 (pairs_by l.fn.items l.fn.v)
