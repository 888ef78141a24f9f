-- What a report's range, azimuth and time stand for, from the record's own counts. Definitions only.
use Rattle.std.specs.Prelude.{ℕ, ◌*◌, None, Option, Some}
use Rattle.measures.specs.Exact.{AllExact}
use Rattle.measures.specs.Weight as weight
use Rattle.reports.specs.declared.Report.{Report}
use Rattle.reports.specs.declared.Report.TheVariants as R
use Rattle.measures.specs.declared.Measured.{Measured}

-- range, azimuth and time in 1024ths of a nmi, of a degree and of a second; or none
pub data Counted : Type 0 where
  counts : ℕ → ℕ → ℕ → Counted
  none : Counted

-- a Map has no time and gives 0; its range is the start. Status has none of them
abbrev pub counted_of : Report → Counted
counted_of (R.Search s) = counts (s.range.0 * weight.coarse_range) (s.azimuth.0 * weight.coarse_azimuth) (s.time.0 * weight.time)
counted_of (R.Strobe s) = counts (s.range.0 * weight.coarse_range) (s.azimuth.0 * weight.coarse_azimuth) (s.time.0 * weight.time)
counted_of (R.Map m) = counts (m.start.0 * weight.coarse_range) (m.azimuth.0 * weight.coarse_azimuth) 0
counted_of (R.Status s) = none
counted_of (R.Rtqc s) = counts (s.range.0 * weight.coarse_range) (s.azimuth.0 * weight.coarse_azimuth) (s.time.0 * weight.time)
counted_of (R.Dabs d) = counts (d.range.0 * weight.fine_range) (d.azimuth.0 * weight.fine_azimuth) (d.time.0 * weight.time)
counted_of (R.Atcrbs a) = counts (a.range.0 * weight.fine_range) (a.azimuth.0 * weight.fine_azimuth) (a.time.0 * weight.time)
counted_of (R.Mtd m) = counts (m.range.0 * weight.fine_range) (m.azimuth.0 * weight.fine_azimuth) (m.time.0 * weight.time)
counted_of (R.Rdas r) = counts (r.range.0 * weight.fine_range) (r.azimuth.0 * weight.fine_azimuth) (r.time.0 * weight.time)

-- the values are these counts, exactly
abbrev pub Yields : Counted → Option Measured → Type 0
Yields (counts r a t) (Some m) = AllExact r a t m
Yields (counts r a t) None = ⊥
Yields none (Some m) = ⊥
Yields none None = Unit {0}
