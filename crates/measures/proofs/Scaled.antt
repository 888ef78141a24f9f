-- One law for every weight: a whole number below 2 ^ 53, as an `f64`, divided by 1024.0, is that number of 1024ths exactly, in its bits.
-- Assumes nothing.
use mathlib.Core.Path.{◌≡◌, sym, ap, ◌∙◌, subst}
use Prim.Native.Nat.{ℕ, zero, suc, ◌+◌, ◌*◌, ◌/◌, ◌^◌, ◌≤◌, ◌<◌}
use native.Mathlib.Nat.{eq-or-lt_of_le, le_of_lt, lt_of_lt_of_le, mul-one, mul_comm, mul_assoc, mul_right_comm, mul-pos, eq_of_mul-eq-mul_right}
use native.Mathlib.Omega.{arith}
use mathlib.Core.Bool.{Bool, true, false, not, cond, true≢false}
use mathlib.Core.Logic.{inl, inr}
use lib.IntN.{pos}
use lib.Dec.{T, eqb, leb, lit≤, lit<, nleb→lt}
use lib.Pow.{shl_lt}
use lib.Ieee.{Float, nan, inf, fin, binary64, up, down, odd, round, div, of_int, fits, of_fields, of_bits, to_bits}
use lib.Ieee.Fits.{down_pos, div-fits}
use lib.Ieee.Exact.{HasValue, odd_sign, round_exact}
use lib.Ieee.Back.{round_whole}
use lib.Ieee.Scale.{round_same}
use lib.Ieee.Bits.{of_bits-to_bits}
use Rattle.measures.specs.Exact.{exponent_of, fraction_of, magnitude, Exact}

-- 1024.0
abbrev pub thousand24 : Float
thousand24 = fin false 1 (pos 10)

-- ---- the quotient's value

quotient : (n : ℕ) → n < 2 ^ 53 → (x : Float) → HasValue x false n 1 → HasValue (div binary64 x thousand24) false n 1024
unfolding div
quotient n h nan v = elim v [ ]
quotient n h (inf _) v = elim v [ ]
quotient n h (fin true m e) v = absurd (true≢false v.0)
quotient n h (fin false m e) v =
    subst (λ (z : Float). HasValue z false n 1024)
    (sym (round_same binary64 false (m * up e * 1) (1024 * down e) n 1024 (mul-pos (lit< tt) (down_pos e)) (lit< tt)
    (ap (λ (z : ℕ). z * 1024) v.1 ∙ mul_assoc n (down e) 1024 ∙ ap (λ (z : ℕ). n * z) (mul_comm (down e) 1024))))
    (round_exact binary64 false n 1024 n 1064 (lit< tt) h (lt_of_lt_of_le (shl_lt 53 1064 h) (lit≤ tt)) (sym (mul_assoc n (2 ^ 1064) 1024)))

has_value : (n : ℕ) → n < 2 ^ 53 → HasValue (div binary64 (of_int binary64 (pos n)) thousand24) false n 1024
unfolding of_int
has_value n h = quotient n h (round binary64 false n 1) (round_whole binary64 false n (le_of_lt h))

-- ---- from the value to the bits

-- two fractions of one float
cross : (x : Float) (s t : Bool) (a c b d : ℕ) → HasValue x s a c → HasValue x t b d → (s ≡ t) × (a * d ≡ b * c)
cross nan s t a c b d v w = elim v [ ]
cross (inf _) s t a c b d v w = elim v [ ]
cross (fin u m e) s t a c b d v w = (
  sym v.0 ∙ w.0,
  eq_of_mul-eq-mul_right (down e) (down_pos e) (a * d) (b * c)
      (mul_right_comm a d (down e)
      ∙ ap (λ (x : ℕ). x * d) (sym v.1)
      ∙ mul_right_comm (m * up e) c d
      ∙ ap (λ (x : ℕ). x * c) w.1
      ∙ mul_right_comm b (down e) c),
)

-- what the fields of n / 1024 are
fields : (s : Bool) (x t n : ℕ) → HasValue (of_fields binary64 s x t) false n 1024 → (s ≡ false) × (T (not (eqb x 2047))) × (magnitude x t * 1024 ≡ n * 2 ^ 1074)
unfolding of_fields
fields s zero t n v =
    let k = cross (odd 53 s t 0 1074) s false (t * 2 ^ 0) (2 ^ 1074) n 1024 (odd_sign 53 s t 0 1074) v in
    (k.0, tt, ap (λ (z : ℕ). z * 1024) (sym (mul-one t)) ∙ k.1)
fields s (suc x) t n v = go (eqb (suc x) 2047) v
  where
    none : (b : Bool) → HasValue (cond b (inf s) nan) false n 1024 → ⊥
    none true v = v
    none false v = v

    go : (b : Bool) → HasValue (cond b (cond (eqb t 0) (inf s) nan) (odd 53 s (2 ^ 52 + t) x 1074)) false n 1024
        → (s ≡ false) × (T (not b)) × ((2 ^ 52 + t) * 2 ^ x * 1024 ≡ n * 2 ^ 1074)
    go true v = absurd (none (eqb t 0) v)
    go false v =
        let k = cross (odd 53 s (2 ^ 52 + t) x 1074) s false ((2 ^ 52 + t) * 2 ^ x) (2 ^ 1074) n 1024 (odd_sign 53 s (2 ^ 52 + t) x 1074) v in
        (k.0, tt, k.1)

no_sign : (b : ℕ) → leb (2 ^ 63) b ≡ false → b / 2 ^ 63 ≡ 0
no_sign b e = let h : b < 2 ^ 63 = nleb→lt (2 ^ 63) b (subst (λ (z : Bool). T (not z)) (sym e) tt) in omega arith

at_most : (b : ℕ) → exponent_of b ≤ 2047
at_most b = omega arith

below_ones : (b : ℕ) → T (not (eqb (exponent_of b) 2047)) → exponent_of b < 2047
below_ones b h = elim (eq-or-lt_of_le (at_most b)) [ inl e ↦ absurd (subst (λ (z : ℕ). T (not (eqb z 2047))) e h) | inr l ↦ l ]

bits_of_value : (n : ℕ) (r : Float) → T (fits binary64 r) → HasValue r false n 1024 → Exact n r
unfolding of_bits
bits_of_value n r f v =
    let b = to_bits binary64 r in
    let k = fields (leb (2 ^ 63) b) (exponent_of b) (fraction_of b) n (subst (λ (z : Float). HasValue z false n 1024) (sym (of_bits-to_bits binary64 r f)) v) in
    record { plus = no_sign b k.0; finite = below_ones b k.1; value = k.2 }

-- ---- the law
pub exact : (n : ℕ) → n < 2 ^ 53 → Exact n (div binary64 (of_int binary64 (pos n)) thousand24)
exact n h = bits_of_value n (div binary64 (of_int binary64 (pos n)) thousand24) (div-fits binary64 (of_int binary64 (pos n)) thousand24) (has_value n h)
