-- `lister::take_in`: the count stays within the buffer, and each turn but the last adds to it.
use Rattle.std.proofs.Common.{◌-◌, ◌≤◌, length}
use Rattle.lister.proofs.take_in.Given as goal

abbrev pub invariant-loop-count : goal.invariant-loop-count
invariant-loop-count l = l.count ≤ length l.buffer

abbrev pub decreases-loop-count : goal.decreases-loop-count
decreases-loop-count l = length l.buffer - l.count
