-- `field_reader::lists::Entries::any_unused` meets its contract: what the blocks from k on say is what all of them say. Assumes nothing.
use mathlib.Core.Path.{◌≡◌}
use Prim.Native.Nat.{◌+◌, ◌-◌, ◌*◌}
use lib.ListN.{replicate}
use Rattle.fields.specs.Table.{values_of}
use Rattle.fields.specs.Lists.{any_unused}
use Rattle.field_reader.proofs.lists.Entries.any_unused.Given as goal

abbrev pub invariant-loop-k : goal.invariant-loop-k
invariant-loop-k l =
    any_unused (values_of l.self.bytes.now (l.self.before + 8 * l.k) (replicate (l.self.n - l.k) 8)) ≡ any_unused (values_of l.self.bytes.now l.self.before (replicate l.self.n 8))
