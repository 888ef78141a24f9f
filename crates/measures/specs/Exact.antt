-- What it is for an `f64` to be n / 1024 exactly, in whole numbers, of its 64 bits (document 01, "Formats and fields"). Definitions only.
use Rattle.std.specs.Prelude.{ℕ, zero, suc, ◌+◌, ◌*◌, ◌/◌, ◌%◌, ◌^◌, ◌<◌, ◌≡◌, Float}
use Rattle.std.specs.Float.{binary64}
use Rattle.std.specs.Float.Ieee.{to_bits}
use Rattle.measures.specs.declared.Measured.{Measured}

-- the three parts of a pattern of 64 bits: bit 63, bits 62 to 52, bits 51 to 0
abbrev sign_of : ℕ → ℕ
sign_of b = b / 2 ^ 63

abbrev pub exponent_of : ℕ → ℕ
exponent_of b = b % 2 ^ 63 / 2 ^ 52

abbrev pub fraction_of : ℕ → ℕ
fraction_of b = b % 2 ^ 52

-- The magnitude of an exponent and a fraction, in units of the least `f64` above zero, 2 ^ -1074.
-- An exponent of 0 has no leading one before its fraction. One of x + 1 has it, and weighs 2 ^ x times as much.
abbrev pub magnitude : ℕ → ℕ → ℕ
magnitude zero t = t
magnitude (suc x) t = (2 ^ 52 + t) * 2 ^ x

-- the pattern b is that of n / 1024: a plus sign, neither infinite nor NaN, and 1024 times the magnitude is n
pub record Exact1024 (n b : ℕ) : Type 0 where
  pub plus : sign_of b ≡ 0
  pub finite : exponent_of b < 2047
  pub value : magnitude (exponent_of b) (fraction_of b) * 1024 ≡ n * 2 ^ 1074

-- the `f64` r is n / 1024 exactly, and +0 where n is 0
abbrev pub Exact : ℕ → Float → Type 0
Exact n r = Exact1024 n (to_bits binary64 r)

-- the record's range, azimuth and time are r, a and t 1024ths of a nmi, of a degree and of a second
pub record AllExact (r a t : ℕ) (m : Measured) : Type 0 where
  pub range : Exact r m.range
  pub azimuth : Exact a m.azimuth
  pub time : Exact t m.time
