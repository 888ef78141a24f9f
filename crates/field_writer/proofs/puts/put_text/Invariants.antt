-- `field_writer::puts::put_text` meets its contract: what is left to write, written to the bytes of now, gives what is asked. Assumes nothing.
use mathlib.Core.Path.{◌≡◌}
use Prim.Native.Nat.{◌+◌, ◌-◌, ◌*◌}
use lib.ListN.{length, drop, replicate}
use Rattle.fields.specs.Writing.{put_all}
use Rattle.field_writer.proofs.puts.put_text.Given as goal

abbrev pub invariant-loop-k : goal.invariant-loop-k
invariant-loop-k l =
    (length l.s ≡ length l.initial.s)
    × (put_all l.s (l.before + 8 * l.k) (replicate (length l.text - l.k) 8) (drop l.k l.text) ≡ put_all l.initial.s l.before (replicate (length l.text) 8) l.text)
