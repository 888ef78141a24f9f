-- The claims of specs/Claims.antt.
-- Assumes nothing.
use Prim.Native.Nat.{◌/◌, ◌^◌}
use mathlib.Core.Path.{◌≡◌, refl}
use native.Mathlib.Omega.{arith}
use Rattle.measures.specs.Claims.{WeightsAsPrinted, WeightsInCode, ExactIsOne, MinusZeroIsNot}
use Rattle.measures.proofs.Unique.{unique}

pub weights_as_printed : WeightsAsPrinted
weights_as_printed = record { fine_range_is = refl; coarse_range_is = refl; fine_azimuth_is = refl; coarse_azimuth_is = refl; time_count = refl; run_of_three_bits = refl; run_of_seven_bits = refl }

pub weights_in_code : WeightsInCode
weights_in_code = record { fine_range = refl; coarse_range = refl; fine_azimuth = refl; coarse_azimuth = refl; time = refl }

pub exact_is_one : ExactIsOne
exact_is_one = unique

pub minus_zero_is_not : MinusZeroIsNot
minus_zero_is_not e = let h : 2 ^ 63 / 2 ^ 63 ≡ 0 = e.plus in omega arith
