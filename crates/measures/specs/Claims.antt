-- What is claimed of weights and of exactness. Statements only; proofs/Claims.antt proves them.
use Rattle.std.specs.Prelude.{ℕ, ◌*◌, ◌^◌, ◌≡◌, T, Float}
use Rattle.std.specs.Float.{binary64}
use Rattle.std.specs.Float.Ieee.{fits}
use Rattle.measures.specs.Exact.{Exact1024, Exact}
use Rattle.measures.specs.declared.TheConstants.{FINE_RANGE, COARSE_RANGE, FINE_AZIMUTH, COARSE_AZIMUTH, TIME}
use Rattle.measures.specs.Weight.{fine_range, coarse_range, fine_azimuth, coarse_azimuth, time, run_length}

-- the weights in 1024ths say what document 01 has: 128 or 8 counts to the nmi, 8192 or 4096 to the circle, 8 to the second; a run length's is
-- in ACP, and the heaviest of its three bits in a Search is 16 ACP, of the seven of a Strobe 256 (document 004, Table 4-2)
pub record WeightsAsPrinted : Type 0 where
  pub fine_range_is : fine_range * 128 ≡ 1024
  pub coarse_range_is : coarse_range * 8 ≡ 1024
  pub fine_azimuth_is : fine_azimuth * 8192 ≡ 360 * 1024
  pub coarse_azimuth_is : coarse_azimuth * 4096 ≡ 360 * 1024
  pub time_count : time * 8 ≡ 1024
  pub run_of_three_bits : run_length * 4 ≡ 16
  pub run_of_seven_bits : run_length * 64 ≡ 256

-- and the weights that the types of the code are made with are those
pub record WeightsInCode : Type 0 where
  pub fine_range : FINE_RANGE ≡ fine_range
  pub coarse_range : COARSE_RANGE ≡ coarse_range
  pub fine_azimuth : FINE_AZIMUTH ≡ fine_azimuth
  pub coarse_azimuth : COARSE_AZIMUTH ≡ coarse_azimuth
  pub time : TIME ≡ time

-- what is exactly n / 1024 is one value: any two answers that a promise of exactness allows are equal
abbrev pub ExactIsOne : Type 0
ExactIsOne = (n : ℕ) (x y : Float) → T (fits binary64 x) → T (fits binary64 y) → Exact n x → Exact n y → x ≡ y

-- and not -0, whose pattern is a lone sign bit
abbrev pub MinusZeroIsNot : Type 0
MinusZeroIsNot = Exact1024 0 (2 ^ 63) → ⊥
