-- `frames::flag::Stream::past_flags` meets its contract: what lies behind the flags from p on lies behind those from the place on. Assumes nothing.
use mathlib.Core.Path.{◌≡◌}
use Prim.Native.Nat.{◌-◌, ◌≤◌}
use Rattle.frames.specs.Reading.{past_flags, stream_at}
use Rattle.frames.proofs.flag.Stream.past_flags.Given as goal

abbrev pub invariant-loop-p : goal.invariant-loop-p
invariant-loop-p l =
    let s = l.self in
    (l.place ≤ l.p) × (l.p ≤ s.count) × (past_flags 0 (stream_at s.bytes.now s.count l.p) ≡ past_flags 0 (stream_at s.bytes.now s.count l.place))

abbrev pub decreases-loop-p : goal.decreases-loop-p
decreases-loop-p l = l.self.count - l.p
