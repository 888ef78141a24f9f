-- `field_items::given::list_given` meets its contract: each number passed stands in the array. Assumes nothing.
use mathlib.Core.Path.{◌≡◌}
use Prim.Native.Nat.{ℕ, ◌*◌, ◌<◌}
use lib.IntN.{pos}
use lib.ListN.{length, get_or}
use Rattle.bits.specs.Bits.{bits_of}
use Rattle.field_items.specs.Given.{signed_of}
use Rattle.field_items.proofs.given.list_given.Given as goal

abbrev pub invariant-loop-k : goal.invariant-loop-k
invariant-loop-k l = record {
  thirty : length l.x-items ≡ 30;
  passed : (j : ℕ) → j < l.k → get_or l.x-items j (pos 0) ≡ signed_of (bits_of l.list (64 * j) 64);
}
