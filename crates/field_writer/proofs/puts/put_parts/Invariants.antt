-- `field_writer::puts::put_parts` meets its contract: what is left to write, written to the bytes of now, gives what is asked. Assumes nothing.
use mathlib.Core.Path.{◌≡◌}
use Prim.Native.Nat.{ℕ, ◌+◌, ◌*◌, ◌≤◌}
use lib.ListN.{length, get_or}
use Rattle.std.specs.Iterator.Adapters.{zip_first, zip_second}
use Rattle.std.specs.Slice.Iter.{iter_rest}
use Rattle.fields.specs.Writing.{put_all}
use Rattle.field_writer.proofs.puts.put_parts.Given as goal

abbrev pub invariant-loop-width : goal.invariant-loop-width
invariant-loop-width l =
    ((k : ℕ) → get_or (iter_rest (zip_first l.width-iterator)) k 0 ≤ 63)
    × (l.at + 63 * length (iter_rest (zip_first l.width-iterator)) ≤ l.before + 63 * 11)
    × (length l.s ≡ length l.initial.s)
    × (put_all l.s l.at (iter_rest (zip_first l.width-iterator)) (iter_rest (zip_second l.width-iterator)) ≡ put_all l.initial.s l.before l.widths l.v)
