-- `field_reader::parts::values` meets its contract: after i turns the first i values are those of the first i parts. Assumes nothing.
use mathlib.Core.Path.{◌≡◌}
use Prim.Native.Nat.{ℕ, ◌+◌, ◌*◌, ◌≤◌}
use lib.ListN.{length, take, get_or}
use Rattle.fields.specs.Table.{values_of}
use Rattle.fields.specs.Writing.{sum_of}
use Rattle.field_reader.proofs.parts.values.Given as goal

abbrev pub invariant-loop-i : goal.invariant-loop-i
invariant-loop-i l =
    (length l.v ≡ 11) × (l.at ≤ l.before + l.i * 64) × (l.at ≡ l.before + sum_of (take l.i l.widths)) × (take l.i l.v ≡ values_of l.b l.before (take l.i l.widths)) × ((k : ℕ) → l.i ≤ k → get_or l.v k 0 ≡ 0)
