-- `frames::inserted::Part::behind_ones` meets its contract: no shift cuts anything. Assumes nothing.
use Prim.Native.Nat.{ℕ, ◌+◌, ◌-◌, ◌*◌, ◌%◌, ◌^◌, ◌≤◌, ◌<◌}
use mathlib.Core.Path.{◌≡◌, ap}
use native.Mathlib.Nat.{mod-eq_of_lt}
use native.Mathlib.Omega.{arith}
use lib.Pow.{pow_mono}
use Rattle.frames.proofs.Runs.{fronted, fronted_lt}
use Rattle.frames.proofs.inserted.Part.behind_ones.Goals as goal

whole : (n : ℕ) → n ≤ 4 → 1 * 2 ^ n % 2 ^ 64 ≡ 2 ^ n
whole n h = let w : 2 ^ n ≤ 16 = pow_mono h in omega arith

shifted : (n m x : ℕ) → n ≤ 4 → m ≤ 56 → x < 2 ^ m
    → ((1 * 2 ^ n % 2 ^ 64 - 1) * 2 ^ m % 2 ^ 64 + x ≡ fronted n m x) × (fronted n m x < 2 ^ 60)
shifted n m x h k l =
    let f = fronted_lt n m x h l in
    let w : 2 ^ m ≤ 2 ^ 56 = pow_mono k in
    (rw (whole n h) (ap (λ (z : ℕ). z + x) (mod-eq_of_lt (omega arith))), omega arith)

pub overflow_add-result : goal.overflow_add-result
overflow_add-result c = let f = let a = c.args.self in shifted a.ones a.count a.bits a.in_range.0 a.in_range.2 a.in_range.3 in omega (arith, f)

pub returns : goal.returns
returns c =
    let f = let a = c.args.self in shifted a.ones a.count a.bits a.in_range.0 a.in_range.2 a.in_range.3 in
    (f.0, omega (arith, f))
