-- `bits::put_near` meets its contract: what is left to write, written to the bytes of now, gives what is asked. Assumes nothing.
use mathlib.Core.Path.{◌≡◌}
use Prim.Native.Nat.{◌≤◌}
use Rattle.bits.specs.Bits.{put_bits}
use Rattle.bits.proofs.put_near.Given as goal

abbrev pub invariant-loop-k : goal.invariant-loop-k
invariant-loop-k l =
    (l.k ≤ l.n) × (put_bits l.s l.before l.k l.rest ≡ put_bits l.initial.s l.before l.n l.v)

abbrev pub decreases-loop-k : goal.decreases-loop-k
decreases-loop-k l = l.k
