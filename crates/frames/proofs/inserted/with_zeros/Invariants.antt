-- `frames::inserted::with_zeros` meets its contract: what was put so far, and what the bits left come to, are what all bits come to.
-- Assumes nothing.
use mathlib.Core.Path.{◌≡◌}
use mathlib.Core.Bool.{Bool}
use mathlib.Core.List.{List, ◌++◌}
use Prim.Native.Nat.{ℕ, ◌+◌, ◌-◌, ◌*◌, ◌≤◌}
use lib.ListN.{length, replicate}
use Rattle.frames.specs.Stream.{bits_from, put_all}
use Rattle.frames.specs.Zeros.{with_zeros}
use Rattle.frames.specs.Reading.{stream_at}
use Rattle.frames.proofs.inserted.with_zeros.Given as goal

-- the first i bits are put; each five ones of them have brought a zero
pub record Put (b : List ℕ) (n : ℕ) (bytes : List ℕ) (count ones i : ℕ) : Type 0 where
  pub within : (i ≤ n) × (ones ≤ 4) × (count * 5 + ones ≤ i * 6)
  pub done : List Bool
  pub comes : with_zeros 0 (bits_from b 0 n) ≡ done ++ with_zeros ones (stream_at b n i)
  pub count_is : count ≡ length done
  pub bytes_are : bytes ≡ put_all (replicate 306 0) 0 done

abbrev pub invariant-loop-i : goal.invariant-loop-i
invariant-loop-i l = Put l.body.bytes l.body.count l.stuffed.bytes l.stuffed.count l.ones l.i

abbrev pub decreases-loop-i : goal.decreases-loop-i
decreases-loop-i l = l.body.count - l.i
