-- `frames::flag::Stream::closing` meets its contract: the first flag from p on is the first one from the start on. Assumes nothing.
use mathlib.Core.Path.{◌≡◌}
use mathlib.Core.List.{List}
use Prim.Native.Nat.{ℕ, ◌+◌, ◌-◌, ◌≤◌}
use lib.ListN.{length}
use Rattle.frames.specs.Reading.{up_to_flag, stream_at}
use Rattle.frames.proofs.flag.Stream.closing.Given as goal

-- the search has come to p
pub record Sought (b : List ℕ) (count from p : ℕ) : Type 0 where
  pub within : p ≤ count
  pub same : p + length (up_to_flag (stream_at b count p)) ≡ from + length (up_to_flag (stream_at b count from))

abbrev pub invariant-loop-p : goal.invariant-loop-p
invariant-loop-p l = Sought l.self.bytes.now l.self.count l.from l.p

abbrev pub decreases-loop-p : goal.decreases-loop-p
decreases-loop-p l = l.self.count - l.p
