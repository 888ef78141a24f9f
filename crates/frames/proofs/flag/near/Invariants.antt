-- `frames::flag::near` meets its contract: no flag begins before p. Assumes nothing.
use mathlib.Core.Path.{◌≡◌}
use mathlib.Core.List.{List}
use Prim.Native.Nat.{ℕ, ◌≤◌}
use Rattle.bits.specs.Bits.{bits_of}
use Rattle.frames.specs.Steps.{NoFlags}
use Rattle.frames.proofs.flag.near.Given as goal

-- the search has come to p
pub record Sought (b : List ℕ) (from to p eight : ℕ) : Type 0 where
  pub later : from ≤ p
  pub within : p ≤ to
  pub is : eight ≡ bits_of b p 8
  pub none : NoFlags b from p

abbrev pub invariant-loop-p : goal.invariant-loop-p
invariant-loop-p l = Sought l.b l.from l.to l.p l.eight
