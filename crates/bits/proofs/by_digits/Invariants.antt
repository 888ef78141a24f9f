-- `bits::by_digits` meets its contract: v is the number of the bits passed, of which the first are those that no number of 64 bits holds.
-- Assumes nothing.
use mathlib.Core.Path.{◌≡◌}
use Prim.Native.Nat.{◌+◌, ◌-◌}
use Rattle.bits.specs.Bits.{bits_of}
use Rattle.bits.proofs.by_digits.Given as goal

abbrev pub invariant-loop-i : goal.invariant-loop-i
invariant-loop-i l = l.v ≡ bits_of l.b (l.before + (l.n - 64)) (l.i - (l.n - 64))
