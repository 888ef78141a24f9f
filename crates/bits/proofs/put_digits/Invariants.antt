-- `bits::put_digits` meets its contract: what is left to write, written to the bytes of now, gives what is asked. Assumes nothing.
use mathlib.Core.Path.{◌≡◌}
use Rattle.bits.specs.Bits.{put_bits}
use Rattle.bits.proofs.put_digits.Given as goal

abbrev pub invariant-loop-k : goal.invariant-loop-k
invariant-loop-k l = put_bits l.s l.before l.k l.rest ≡ put_bits l.initial.s l.before l.n l.v
