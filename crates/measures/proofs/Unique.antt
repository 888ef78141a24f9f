-- `Exact n` says which `f64` it is: two patterns that pass are one pattern, and two values of the format that pass are one value. So it tells +0 from -0.
-- Assumes nothing.
use mathlib.Core.Path.{◌≡◌, refl, sym, ap, ◌∙◌}
use Prim.Native.Nat.{ℕ, zero, suc, ◌+◌, ◌*◌, ◌/◌, ◌%◌, ◌^◌, ◌≤◌, ◌<◌}
use native.Mathlib.Nat.{mul_assoc, mul-le-mul_left, mod-lt, pow-suc, eq_of_mul-eq-mul_right}
use native.Mathlib.Omega.{arith}
use lib.Dec.{T, lit<}
use lib.Pow.{pow_pos}
use lib.Ieee.{Float, binary64, fits, of_bits, to_bits}
use lib.Ieee.Bits.{of_bits-to_bits}
use Rattle.measures.specs.Exact.{exponent_of, fraction_of, magnitude, Exact1024, Exact}

heavy : (u y : ℕ) → 2 ^ 52 ≤ (2 ^ 52 + u) * 2 ^ y
heavy u y = let h : (2 ^ 52 + u) * 1 ≤ (2 ^ 52 + u) * 2 ^ y = mul-le-mul_left (2 ^ 52 + u) (pow_pos y) in omega arith

halves : (u y : ℕ) → (2 ^ 52 + u) * 2 ^ suc y ≡ (2 ^ 52 + u) * 2 ^ y * 2
halves u y = ap (λ (z : ℕ). (2 ^ 52 + u) * z) (pow-suc 2 y) ∙ sym (mul_assoc (2 ^ 52 + u) (2 ^ y) 2)

-- with a leading digit each, the greater exponent is the greater number
too_heavy : (t u y : ℕ) → t < 2 ^ 52 → (2 ^ 52 + t) * 1 ≡ (2 ^ 52 + u) * 2 ^ suc y → ⊥
too_heavy t u y h e = omega (arith, heavy u y, halves u y)

with_lead : (x t y u : ℕ) → t < 2 ^ 52 → u < 2 ^ 52 → (2 ^ 52 + t) * 2 ^ x ≡ (2 ^ 52 + u) * 2 ^ y → (x ≡ y) × (t ≡ u)
with_lead zero t zero u h k e = (refl, omega arith)
with_lead zero t (suc y) u h k e = absurd (too_heavy t u y h e)
with_lead (suc x) t zero u h k e = absurd (too_heavy u t x k (sym e))
with_lead (suc x) t (suc y) u h k e =
    let r = with_lead x t y u h k (omega (arith, halves t x, halves u y)) in
    (ap suc r.0, r.1)

one_way : (x t y u : ℕ) → t < 2 ^ 52 → u < 2 ^ 52 → magnitude x t ≡ magnitude y u → (x ≡ y) × (t ≡ u)
one_way zero t zero u h k e = (refl, e)
one_way zero t (suc y) u h k e = absurd (omega (arith, heavy u y))
one_way (suc x) t zero u h k e = absurd (omega (arith, heavy t x))
one_way (suc x) t (suc y) u h k e = let r = with_lead x t y u h k e in (ap suc r.0, r.1)

joined : (b c : ℕ) → b / 2 ^ 63 ≡ 0 → c / 2 ^ 63 ≡ 0 → b % 2 ^ 63 / 2 ^ 52 ≡ c % 2 ^ 63 / 2 ^ 52 → b % 2 ^ 52 ≡ c % 2 ^ 52 → b ≡ c
joined b c p q x t = omega arith

one_pattern : (n b c : ℕ) → Exact1024 n b → Exact1024 n c → b ≡ c
one_pattern n b c p q =
    let r =
    one_way (exponent_of b) (fraction_of b) (exponent_of c) (fraction_of c) (mod-lt b (lit< tt)) (mod-lt c (lit< tt))
    (eq_of_mul-eq-mul_right 1024 (lit< tt) (magnitude (exponent_of b) (fraction_of b)) (magnitude (exponent_of c) (fraction_of c)) (p.value ∙ sym q.value)) in
    joined b c p.plus q.plus r.0 r.1

pub unique : (n : ℕ) (x y : Float) → T (fits binary64 x) → T (fits binary64 y) → Exact n x → Exact n y → x ≡ y
unique n x y f g p q = sym (of_bits-to_bits binary64 x f) ∙ ap (of_bits binary64) (one_pattern n (to_bits binary64 x) (to_bits binary64 y) p q) ∙ of_bits-to_bits binary64 y g
