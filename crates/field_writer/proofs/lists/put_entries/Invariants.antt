-- `field_writer::lists::put_entries` meets its contract: what is left to write, written to the bytes of now, gives what is asked. Assumes nothing.
use mathlib.Core.Path.{◌≡◌}
use Prim.Native.Nat.{◌+◌, ◌-◌, ◌*◌}
use lib.ListN.{length, drop, replicate}
use Rattle.fields.specs.Lists.{entries_bits}
use Rattle.fields.specs.Writing.{put_all}
use Rattle.field_writer.proofs.lists.put_entries.Given as goal

abbrev pub invariant-loop-k : goal.invariant-loop-k
invariant-loop-k l =
    (length l.s ≡ length l.initial.s)
    × (put_all l.s (l.before + l.step * l.k) (replicate (l.n - l.k) l.step) (drop l.k (entries_bits l.step l.n l.list)) ≡ put_all l.initial.s l.before (replicate l.n l.step) (entries_bits l.step l.n l.list))
