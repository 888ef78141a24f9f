-- `frames::check::check` meets its contract: the register is the definition's when i bits are fed. Assumes nothing.
use mathlib.Core.Path.{◌≡◌}
use Rattle.frames.specs.Steps.{register_at}
use Rattle.frames.proofs.check.check.Given as goal

abbrev pub invariant-loop-i : goal.invariant-loop-i
invariant-loop-i l = l.register ≡ register_at l.b l.i
