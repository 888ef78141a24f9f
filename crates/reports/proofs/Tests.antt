-- How a definition by tests is gone through, and a list of proofs written down.
-- Assumes nothing.
use Prim.Native.Nat.{ℕ, ◌%◌}
use mathlib.Core.Path.{◌≡◌, refl, sym}
use mathlib.Core.Bool.{Bool, true, false, not, cond}
use native.Mathlib.Omega.{arith}
use borrow.Author.Tests.{eqb-true, eqb-false}
use lib.Dec.{eqb}
use Rattle.words.proofs.Layouts.{both}

-- what holds of both that a test picks from, under the test's outcome, holds of what it picks
pub by_cond : {X : Type 0} (P : X → Type 0) (b : Bool) {x y : X} → (b ≡ true → P x) → (b ≡ false → P y) → P (cond b x y)
by_cond P true p q = p refl
by_cond P false p q = q refl

-- the same where one test picks twice
pub by_conds : {X Y : Type 0} (P : X → Y → Type 0) (b : Bool) {x u : X} {y v : Y} → (b ≡ true → P x y) → (b ≡ false → P u v) → P (cond b x u) (cond b y v)
by_conds P true p q = p refl
by_conds P false p q = q refl

-- where all of a list of tests hold, those behind the first do
second_holds : (a b : Bool) → cond a (cond b true false) false ≡ true → b ≡ true
second_holds a b h = (both b true (both a (cond b true false) h).1).0

pub number_holds : (a : Bool) (n k : ℕ) → cond a (cond (eqb n k) true false) false ≡ true → n ≡ k
number_holds a n k h = eqb-true n k (second_holds a (eqb n k) h)

pub others_hold : (a b c : Bool) → cond a (cond b (cond c true false) false) false ≡ true → (b ≡ true) × (c ≡ true)
others_hold a b c h = let k = (both a (cond b (cond c true false) false) h).1 in ((both b (cond c true false) k).0, second_holds b c k)

-- where one of a list of tests does not hold and only this one is left, it does not
pub holds_not : (b : Bool) → cond b true false ≡ false → b ≡ false
holds_not true h = h
holds_not false h = refl

-- where one of a list of tests holds and only this one is left, it holds
pub last_holds : (b : Bool) → not (cond b true false) ≡ false → b ≡ true
last_holds true h = refl
last_holds false h = sym h

-- a pair, so that a word's fields are listed with no brackets
infixr 4 ◌&◌
abbrev pub ◌&◌ : {A B : Type 0} → A → B → A × B
a & b = (a, b)

pub bit_one : (n : ℕ) → eqb (n % 2) 1 ≡ true → n % 2 ≡ 1
bit_one n h = eqb-true (n % 2) 1 h

pub bit_zero : (n : ℕ) → eqb (n % 2) 1 ≡ false → n % 2 ≡ 0
bit_zero n h = let k = eqb-false (n % 2) 1 h in omega arith
