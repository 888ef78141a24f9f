-- `field_items::given::Gathered::values` meets its contract: each value passed stands in the array. Assumes nothing.
use mathlib.Core.Path.{◌≡◌}
use Prim.Native.Nat.{ℕ, ◌<◌}
use lib.ListN.{get_or}
use Rattle.pairs.specs.Pairs.{value_of}
use Rattle.field_items.specs.Given.{found_in}
use Rattle.field_items.proofs.given.Gathered.values.Given as goal

abbrev pub invariant-loop-k : goal.invariant-loop-k
invariant-loop-k l = (j : ℕ) → j < l.k → get_or l.x-items j 0 ≡ value_of (found_in l.self.0 (get_or l.items j 0))
