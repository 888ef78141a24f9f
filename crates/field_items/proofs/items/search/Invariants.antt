-- `field_items::items::search` meets its contract: what is found among the parts that are left is what is found among all. Assumes nothing.
use mathlib.Core.Path.{◌≡◌}
use Rattle.std.specs.Iterator.Adapters.{zip_first, zip_second}
use Rattle.std.specs.Slice.Iter.{iter_rest}
use Rattle.pairs.specs.Pairs.{find_in}
use Rattle.field_items.specs.Items.{pairs_by}
use Rattle.field_items.proofs.items.search.Given as goal

abbrev pub invariant-loop-k : goal.invariant-loop-k
invariant-loop-k l =
    find_in l.item (pairs_by (iter_rest (zip_first l.k-iterator)) (iter_rest (zip_second l.k-iterator))) ≡ find_in l.item (pairs_by l.fn.items l.fn.v)
