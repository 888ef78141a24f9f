-- What a field's value and its bits say of each other: a flag, and a number that stands in two parts.
-- Assumes nothing.
use Prim.Native.Nat.{ℕ, zero, suc, ◌+◌, ◌*◌, ◌/◌, ◌%◌, ◌<◌, ◌^◌}
use mathlib.Core.Path.{◌≡◌, refl, sym}
use mathlib.Core.Bool.{Bool, true, false, cond}
use native.Mathlib.Nat.{mod-lt}
use native.Mathlib.Omega.{arith}
use lib.Dec.{eqb, lit<}
use lib.Pow.{high, low, pow_pos}

-- what a flag's bit holds is the flag
pub flagged : (n : ℕ) → n % 2 ≡ cond (eqb (n % 2) 1) 1 0
flagged n = go (n % 2) (mod-lt n (lit< tt))
  where
    go : (m : ℕ) → m < 2 → m ≡ cond (eqb m 1) 1 0
    go zero h = refl
    go (suc zero) h = refl
    go (suc (suc m)) h = absurd (omega arith)

pub unflagged : (b : Bool) → eqb (cond b 1 0) 1 ≡ b
unflagged true = refl
unflagged false = refl

-- the upper part x and the lower k bits of n, put together, have x above and those bits below
pub upper : (k x n : ℕ) → x ≡ (x * 2 ^ k + n % 2 ^ k) / 2 ^ k
upper k x n = sym (high x k (mod-lt n (pow_pos k)))

pub lower : (k x n : ℕ) → n % 2 ^ k ≡ (x * 2 ^ k + n % 2 ^ k) % 2 ^ k
lower k x n = sym (low x k (mod-lt n (pow_pos k)))
