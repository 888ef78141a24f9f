-- One entry of a list that is read. Definitions only.
use Rattle.std.specs.Prelude.{ℕ, ◌+◌, ◌*◌, List, cond, ltb, ℤ, pos}
use Rattle.bits.specs.Bits.{bits_of}
use Rattle.fields.specs.Lists.{entry_of}

-- entry k of n that begin behind the first a bits; zero from the count on
unfoldable pub entry_at : List ℕ → ℕ → ℕ → ℕ → ℕ → ℤ
entry_at s a step n k = cond (ltb k n) (entry_of step (bits_of s (a + step * k) step)) (pos 0)
