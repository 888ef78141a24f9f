-- How a definition by tests is gone through. Assumes nothing.
use mathlib.Core.Path.{◌≡◌, refl, sym}
use mathlib.Core.Bool.{Bool, true, false, not, cond}

pub picked : {X : Type 0} (a b : X) {t : Bool} → t ≡ true → cond t a b ≡ a
picked a b e = rw e

pub passed : {X : Type 0} (a b : X) {t : Bool} → t ≡ false → cond t a b ≡ b
passed a b e = rw e

-- a test holds or it does not
pub by_test : {X : Type 0} (t : Bool) → (t ≡ true → X) → (t ≡ false → X) → X
by_test true f g = f refl
by_test false f g = g refl

-- a test whose contrary does not hold does
pub holds : (t : Bool) → not t ≡ false → t ≡ true
holds true e = refl
holds false e = sym e
