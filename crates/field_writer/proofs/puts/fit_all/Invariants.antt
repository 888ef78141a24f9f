-- `field_writer::puts::fit_all` meets its contract: what the parts that are left say is what all of them say. Assumes nothing.
use mathlib.Core.Path.{◌≡◌}
use Prim.Native.Nat.{ℕ, ◌≤◌}
use lib.ListN.{get_or}
use Rattle.std.specs.Iterator.Adapters.{zip_first, zip_second}
use Rattle.std.specs.Slice.Iter.{iter_rest}
use Rattle.fields.specs.Writing.{fit_all}
use Rattle.field_writer.proofs.puts.fit_all.Given as goal

abbrev pub invariant-loop-width : goal.invariant-loop-width
invariant-loop-width l =
    ((k : ℕ) → get_or (iter_rest (zip_first l.width-iterator)) k 0 ≤ 63)
    × (fit_all (iter_rest (zip_first l.width-iterator)) (iter_rest (zip_second l.width-iterator)) ≡ fit_all l.widths l.v)
