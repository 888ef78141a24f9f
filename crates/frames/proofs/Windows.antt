-- Windows of many bits: where six ones stand in a row in a number, how far no flag begins for want of them, and that the first flag is sought
-- behind that. For the search for a flag. Assumes nothing.
use Prim.Native.Nat.{ℕ, zero, suc, ◌+◌, ◌-◌, ◌*◌, ◌/◌, ◌%◌, ◌^◌, ◌≤◌, ◌<◌, min}
use mathlib.Core.Path.{◌≡◌, refl, sym, ap, ◌∙◌}
use mathlib.Core.List.{List}
use native.Mathlib.Decide.{dec_lt}
use native.Mathlib.Nat.{le_trans, lt_of_le_of_lt, lt_of_lt_of_le, div-eq_of_lt, pow-suc}
use native.Mathlib.Omega.{arith}
use lib.Arith.{digits_div}
use lib.Bits.{bit_and, and_step, and_shr, and_le_r}
use lib.Count.{count_leading_zeros, leading_length}
use lib.ListN.{length}
use lib.Pow.{pow_mono, shr-shr, shr_lt, shr_mono}
use Rattle.bits.specs.Bits.{bits_of}
use Rattle.bits.proofs.Laws.{bit_at_lt, bits_of-lt, bits_of_join}
use Rattle.frames.specs.Reading.{up_to_flag, stream_at}
use Rattle.frames.specs.Steps.{SixOnes, NoFlags}
use Rattle.frames.proofs.Flagged.{flag_not, up_to_next}

-- ---- six ones in a row

and_one : (a b : ℕ) → a % 2 ≡ 1 → b % 2 ≡ 1 → bit_and a b % 2 ≡ 1
and_one a b x y =
    let e : min (a % 2) (b % 2) ≡ 1 = rw (x, y) refl in
    omega (arith, and_step a b)

-- a one, and another s places higher
both : (a b s k : ℕ) → a / 2 ^ k % 2 ≡ 1 → b / 2 ^ (s + k) % 2 ≡ 1 → bit_and a (b / 2 ^ s) / 2 ^ k % 2 ≡ 1
both a b s k x y =
    ap (λ (n : ℕ). n % 2) (and_shr a (b / 2 ^ s) k) ∙ and_one (a / 2 ^ k) (b / 2 ^ s / 2 ^ k) x (ap (λ (n : ℕ). n % 2) (shr-shr b s k) ∙ y)

-- a digit of what is left above 2 ^ k
above : (w k i j : ℕ) → w / 2 ^ k / 2 ^ i % 2 ≡ 1 → k + i ≡ j → w / 2 ^ j % 2 ≡ 1
above w k i j h e = sym (ap (λ (n : ℕ). n % 2) (shr-shr w k i ∙ ap (λ (n : ℕ). w / 2 ^ n) e)) ∙ h

-- a number with a one at 2 ^ k is not below it
at_least : (r k : ℕ) → r / 2 ^ k % 2 ≡ 1 → 2 ^ k ≤ r
at_least r k h = go (dec_lt r (2 ^ k))
  where
    go : Dec (r < 2 ^ k) → 2 ^ k ≤ r
    go (yes l) = absurd (omega (arith, div-eq_of_lt l))
    go (no l) = omega arith

pub six_ones : (w : ℕ) → let two = bit_and w (w / 2 ^ 1) in SixOnes w (bit_and (bit_and two (two / 2 ^ 2)) (two / 2 ^ 4))
six_ones w =
    let two = bit_and w (w / 2 ^ 1) in
    record {
      marks = λ k h.
          at_least _ k
          (both (bit_and two (two / 2 ^ 2)) two 4 k
          (both two two 2 k
          (both w w 1 k (above w k 0 _ (omega arith) (omega arith)) (above w k 1 _ (omega arith) (omega arith)))
          (both w w 1 (2 + k) (above w k 2 _ (omega arith) (omega arith)) (above w k 3 _ (omega arith) (omega arith))))
          (both w w 1 (4 + k) (above w k 4 _ (omega arith) (omega arith)) (above w k 5 _ (omega arith) (omega arith))));
      below =
          le_trans (and_le_r (bit_and two (two / 2 ^ 2)) (two / 2 ^ 4))
          (rw (shr-shr w 1 4) at (shr_mono 4 (and_le_r w (w / 2 ^ 1))));
    }

-- ---- a flag in a window

-- its ones, with j bits before them and d behind
ones_within : (s : List ℕ) (p j d : ℕ) → bits_of s (p + j) 8 ≡ 0b01111110 → bits_of s (p + 1) (j + 6 + d) / 2 ^ d % 64 ≡ 63
unfolding bits_of
ones_within s p j d h =
    let e : p + j + 1 ≡ p + 1 + j = omega arith in
    let six : bits_of s (p + 1 + j) 6 ≡ 63 =
    rw e at (middle (bits_of s (p + j) 1) _ _ _ h (bits_of_join s (p + j) 1 7) (bits_of-lt s (p + j + 1) 6) (bit_at_lt s (p + j + 1 + 6))) in
    ap (λ (x : ℕ). x / 2 ^ d % 64) (bits_of_join s (p + 1) (j + 6) d)
    ∙ ap (λ (x : ℕ). x % 64) (digits_div (bits_of s (p + 1) (j + 6)) (bits_of-lt s (p + 1 + (j + 6)) d))
    ∙ omega (arith, six, bits_of_join s (p + 1) j 6)
  where
    middle : (a b c x : ℕ) → x ≡ 0b01111110 → x ≡ a * 128 + (b * 2 + c) → b < 64 → c < 2 → b ≡ 63
    middle a b c x h e l m = omega arith

-- powers tell their exponents
less : (i j : ℕ) → 2 ^ i < 2 ^ j → i < j
less i j h = go (dec_lt i j)
  where
    go : Dec (i < j) → i < j
    go (yes l) = l
    go (no l) = absurd (omega (arith, pow_mono {i = j} {j = i} (omega arith)))

shorter : (i k r : ℕ) → 2 ^ i ≤ 2 * r + 1 → r < 2 ^ k → i ≤ k
shorter i k r l h = omega (arith, less i (suc k) (rw (pow-suc 2 k) (omega arith)))

-- places from p on at which no flag begins, by the zeros in front of the first six ones of the n bits behind p
pub record Cleared (s : List ℕ) (p n zeros : ℕ) : Type 0 where
  pub enough : 69 ≤ n + zeros
  pub most : zeros ≤ 64
  pub none : NoFlags s p (p + (n + zeros - 69))

pub cleared : (s : List ℕ) (p n ones : ℕ) → 6 ≤ n → n ≤ 57 → SixOnes (bits_of s (p + 1) n) ones → Cleared s p n (count_leading_zeros 64 ones)
cleared s p n ones few many six =
    let e : n - 5 + 5 ≡ n = omega arith in
    let small : ones < 2 ^ (n - 5) = lt_of_le_of_lt six.below (shr_lt (n - 5) 5 (rw e (bits_of-lt s (p + 1) n))) in
    let top = leading_length 64 ones (lt_of_lt_of_le small (pow_mono {i = n - 5} {j = 64} (omega arith))) in
    let m = top.0 in
    let short = shorter m (n - 5) ones top.3 small in
    record {
      enough = omega (arith, top.1);
      most = omega (arith, top.1);
      none = λ q l h f.
          let j = q - p in
          let d = n - 6 - j in
          let a : p + j ≡ q = omega arith in
          let b : j + 6 + d ≡ n = omega (arith, top.1) in
          let k = six.marks d (rw b at (ones_within s p j d (rw a f))) in
          omega (arith, top.1, less d m (lt_of_le_of_lt k top.2));
    }

-- ---- up to the first flag

-- where none begins from p on up to q, it is sought from q on
pub up_to_clear : (s : List ℕ) (count p q : ℕ) → p ≤ q → q + 7 ≤ count → NoFlags s p q
    → p + length (up_to_flag (stream_at s count p)) ≡ q + length (up_to_flag (stream_at s count q))
up_to_clear s count p q l h none =
    let e : p + (q - p) ≡ q = omega arith in
    ahead (q - p) p (omega arith) (rw e none) ∙ ap from e
  where
    from : ℕ → ℕ
    from p = p + length (up_to_flag (stream_at s count p))

    ahead : (k p : ℕ) → p + k + 7 ≤ count → NoFlags s p (p + k) → from p ≡ from (p + k)
    ahead zero p h none = ap from (omega arith)
    ahead (suc k) p h none =
        let e : p + 1 + k ≡ p + suc k = omega arith in
        up_to_next s count p (omega arith) (flag_not s count p (omega arith) (none p (omega arith) (omega arith)))
        ∙ ahead k (p + 1) (omega arith) (λ j l m. none j (omega arith) (omega arith)) ∙ ap from e
