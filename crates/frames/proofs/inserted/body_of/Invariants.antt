-- `frames::inserted::body_of` meets its contract: what was put so far, and what the bits left come to, are what the whole stretch comes to.
-- Assumes nothing.
use mathlib.Core.Path.{◌≡◌}
use mathlib.Core.Bool.{Bool}
use mathlib.Core.List.{List, ◌++◌}
use Prim.Native.Nat.{ℕ, ◌+◌, ◌-◌, ◌≤◌}
use lib.ListN.{length}
use Rattle.frames.specs.Zeros.{zeros_out, zero_missing}
use Rattle.frames.specs.Reading.{stream_at}
use Rattle.frames.proofs.Filled.{filled}
use Rattle.frames.proofs.inserted.body_of.Given as goal

-- the bits up to p are done
pub record Done (b : List ℕ) (from to : ℕ) (bytes : List ℕ) (count n p : ℕ) : Type 0 where
  pub within : (count + from ≤ p) × (p ≤ to)
  pub few : n ≤ 5
  pub done : List Bool
  pub out : zeros_out 0 (stream_at b to from) ≡ done ++ zeros_out n (stream_at b to p)
  pub missing : zero_missing 0 (stream_at b to from) ≡ zero_missing n (stream_at b to p)
  pub count_is : count ≡ length done
  pub bytes_are : bytes ≡ filled done

abbrev pub invariant-loop-p : goal.invariant-loop-p
invariant-loop-p l = Done l.b l.from l.to l.body.bytes l.body.count l.ones l.p

abbrev pub decreases-loop-p : goal.decreases-loop-p
decreases-loop-p l = l.to - l.p
