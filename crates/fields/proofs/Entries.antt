-- Laws of a list's entries: the next of them, and how far they reach.
-- Assumes nothing.
use Rattle.std.proofs.Common.{◌≡◌, ℕ, ◌+◌, ◌*◌, ◌≤◌, le_trans, mul-le-mul_right, mul-le-mul_left, mul-suc, add-one, arith}

-- a product is bounded by its factors' bounds
pub product : (a b m k : ℕ) → a ≤ m → b ≤ k → a * b ≤ m * k
product a b m k h l = le_trans (mul-le-mul_right b h) (mul-le-mul_left m l)

-- one step further
pub next : (a step k : ℕ) → a + step * k + step ≡ a + step * (k + 1)
next a step k = rw (add-one, mul-suc) (omega arith)
