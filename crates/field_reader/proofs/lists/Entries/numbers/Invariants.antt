-- `field_reader::lists::Entries::numbers` meets its contract: what stands in the array, and what is left, is the list. Assumes nothing.
use mathlib.Core.Path.{◌≡◌}
use mathlib.Core.List.{◌++◌}
use lib.ListN.{length, take, replicate}
use Rattle.fields.specs.Table.{values_of}
use Rattle.fields.specs.Lists.{entries_in}
use Rattle.field_reader.proofs.Entries.{rest}
use Rattle.field_reader.proofs.lists.Entries.numbers.Given as goal

abbrev pub invariant-loop-k : goal.invariant-loop-k
invariant-loop-k l =
    (length l.entry-items ≡ 30) × (take l.k l.entry-items ++ rest l.self.bytes.now l.self.before l.self.step l.self.n l.k ≡ entries_in l.self.step 30 (values_of l.self.bytes.now l.self.before (replicate l.self.n l.self.step)))
