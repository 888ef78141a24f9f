-- Parity under exclusive or: the ones of a xor b are odd exactly when just one of a and b has an odd number of them. From it follow the
-- fold of a number's halves upon each other, and what one turned bit does.
-- Assumes nothing.
use Prim.Native.Nat.{ℕ, zero, suc, ◌+◌, ◌*◌, ◌/◌, ◌%◌, ◌-◌, ◌<◌, ◌^◌}
use mathlib.Core.Path.{◌≡◌, refl, ap, sym, ◌∙◌}
use native.Mathlib.Nat.{mod-lt}
use native.Mathlib.Omega.{arith}
use lib.Arith.{bin_ind}
use lib.Bits.{bit_xor, differ, xor_step, xor_zero_l, xor_mod}
use lib.Count.{ones, ones_step, ones_cat}
use lib.Dec.{lit<}
use lib.Pow.{mod-pow-add, pow_pos}

pub zero_ones : ones 0 ≡ 0
unfolding ones
zero_ones = refl

differ_is : (x y : ℕ) → x < 2 → y < 2 → differ x y ≡ (x + y) % 2
differ_is zero y h k = omega arith
differ_is (suc zero) zero h k = refl
differ_is (suc zero) (suc zero) h k = refl
differ_is (suc zero) (suc (suc y)) h k = absurd (omega arith)
differ_is (suc (suc x)) y h k = absurd (omega arith)

ones_xor : (a b : ℕ) → ones (bit_xor a b) % 2 ≡ (ones a + ones b) % 2
ones_xor =
    bin_ind (λ (a : ℕ). (b : ℕ) → ones (bit_xor a b) % 2 ≡ (ones a + ones b) % 2)
    (λ b. omega (arith, ap ones (xor_zero_l b), zero_ones))
    (λ a ih b. step a b (bit_xor a b) (bit_xor (a / 2) (b / 2)) (xor_step a b ∙ ap (λ (d : ℕ). bit_xor (a / 2) (b / 2) * 2 + d) (differ_is (a % 2) (b % 2) (mod-lt a (lit< tt)) (mod-lt b (lit< tt)))) (ih (b / 2)))
  where
    sums : (p q m oa ob oy : ℕ) → m ≡ (p + q) % 2 → oy % 2 ≡ (oa + ob) % 2 → (m + oy) % 2 ≡ (p + oa + (q + ob)) % 2
    sums p q m oa ob oy e h = omega arith

    step : (a b x y : ℕ) → x ≡ y * 2 + (a % 2 + b % 2) % 2 → ones y % 2 ≡ (ones (a / 2) + ones (b / 2)) % 2 → ones x % 2 ≡ (ones a + ones b) % 2
    step a b x y e ih =
        let h : x / 2 ≡ y = omega arith in
        let m : x % 2 ≡ (a % 2 + b % 2) % 2 = omega arith in
        rw (ones_step a, ones_step b, ones_step x, ap ones h) (sums (a % 2) (b % 2) (x % 2) (ones (a / 2)) (ones (b / 2)) (ones y) m ih)

-- whether the lowest k digits of n have an odd number of ones
abbrev pub lowest : ℕ → ℕ → ℕ
lowest k n = ones (n % 2 ^ k) % 2

-- n with its digits from k on folded upon its lowest k has there the parity of the lowest 2 k
pub fold : (k n : ℕ) → lowest k (bit_xor n (n / 2 ^ k)) ≡ lowest (k + k) n
fold k n =
    ap (λ (x : ℕ). ones x % 2) (xor_mod n (n / 2 ^ k) k)
    ∙ ones_xor (n % 2 ^ k) (n / 2 ^ k % 2 ^ k)
    ∙ sums (ones (n % 2 ^ k)) (ones (n / 2 ^ k % 2 ^ k))
    ∙ ap (λ (x : ℕ). x % 2) (sym (ones_cat k (n / 2 ^ k % 2 ^ k) (n % 2 ^ k) (mod-lt n (pow_pos k))))
    ∙ ap (λ (x : ℕ). ones x % 2) (sym (mod-pow-add n k k))
  where
    sums : (x y : ℕ) → (x + y) % 2 ≡ (y + x) % 2
    sums x y = omega arith

-- one digit is its own number of ones
pub one_digit : (d : ℕ) → d < 2 → ones d ≡ d
one_digit d h = omega (arith, ones_step d, ap ones (let e : d / 2 ≡ 0 = omega arith in e), zero_ones)

one_one : (j : ℕ) → ones (2 ^ j) ≡ 1
one_one j = ap ones (plain (2 ^ j)) ∙ ones_cat j 1 0 (pow_pos j) ∙ ap (λ (x : ℕ). x + ones 0) (one_digit 1 (lit< tt)) ∙ ap (λ (x : ℕ). 1 + x) zero_ones
  where
    plain : (x : ℕ) → x ≡ 1 * x + 0
    plain x = omega arith

-- one turned digit turns the parity
pub turned : (j w : ℕ) → ones (bit_xor w (2 ^ j)) % 2 ≡ 1 - ones w % 2
turned j w = omega (arith, ones_xor w (2 ^ j), one_one j)
