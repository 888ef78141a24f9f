-- `frames::stream::copy_bits` meets its contract: k chunks are put. Assumes nothing.
use mathlib.Core.Path.{◌≡◌}
use mathlib.Core.List.{List}
use Prim.Native.Nat.{ℕ, ◌*◌}
use Rattle.frames.specs.Stream.{bits_from, put_all}
use Rattle.frames.proofs.stream.copy_bits.Given as goal

-- p bits are put
pub record Copied (s₀ : List ℕ) (at : ℕ) (t : List ℕ) (from : ℕ) (s : List ℕ) (p : ℕ) : Type 0 where
  pub is : s ≡ put_all s₀ at (bits_from t from p)

abbrev pub invariant-loop-k : goal.invariant-loop-k
invariant-loop-k l = Copied l.initial.s l.at l.t l.from l.s (l.k * 56)
