-- `frames::check::fed_bytes` meets its contract: the register is the definition's when so many bytes are fed. Assumes nothing.
use mathlib.Core.Path.{◌≡◌}
use Prim.Native.Nat.{◌*◌}
use Rattle.frames.specs.Steps.{register_at}
use Rattle.frames.proofs.check.fed_bytes.Given as goal

abbrev pub invariant-loop-byte : goal.invariant-loop-byte
invariant-loop-byte l = l.register ≡ register_at l.b (l.byte-index * 8)
