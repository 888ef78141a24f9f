-- How a definition by tests is gone through. Assumes nothing.
use mathlib.Core.Path.{◌≡◌, refl}
use mathlib.Core.Bool.{Bool, true, false}
use Prim.Native.Nat.{ℕ}
use native.Mathlib.Omega.{arith}

-- a test holds or it does not
pub by_test : {X : Type 0} (t : Bool) → (t ≡ true → X) → (t ≡ false → X) → X
by_test true f g = f refl
by_test false f g = g refl

-- and not both
pub differ : {X : Type 0} → true ≡ false → X
differ e = absurd (let z : ◌≡◌ {A = ℕ} 0 1 = cc in omega arith)
