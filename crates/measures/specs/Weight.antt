-- The weight of a count of each field, as document 01 gives it. Definitions only.
use Rattle.std.specs.Prelude.{ℕ}

-- ---- in 1024ths of the unit

-- range: counts of 1/128 nmi, and of 1/8 nmi
abbrev pub fine_range : ℕ
fine_range = 8

abbrev pub coarse_range : ℕ
coarse_range = 128

-- azimuth: 8192 counts to the circle of 360 degrees, and 4096
abbrev pub fine_azimuth : ℕ
fine_azimuth = 45

abbrev pub coarse_azimuth : ℕ
coarse_azimuth = 90

-- time in storage: counts of 1/8 s
abbrev pub time : ℕ
time = 128

-- ---- in ACP

-- run length: counts of 4 ACP
abbrev pub run_length : ℕ
run_length = 4
