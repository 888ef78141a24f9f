-- What an outcome brings to the index (document 02, Ticket 3): a file number, the report's kind, the place of its run, and the scan number that
-- the caller gives. Definitions only.
use Rattle.std.specs.Prelude.{ℕ}
use Rattle.reports.specs.declared.Report.{Report}
use Rattle.reports.specs.declared.Report.TheVariants as R
use Rattle.reports.specs.Kinds.{kind_of, kind_number}
use Rattle.lines.specs.declared.What.{What}
use Rattle.lines.specs.declared.What.TheVariants as W
use Rattle.lines.specs.declared.Outcome.{Outcome}
use Rattle.index.specs.declared.Entry.{Entry}

-- "File number 0 means uncorrelated and is never entered; it marks an unused entry."
abbrev pub uncorrelated : ℕ
uncorrelated = 0

-- a report's file number: bits 66 to 77 of ATCRBS (its substitutions too), MTD and RDAS. The other reports have no file number, and are entered no
-- more than an uncorrelated one
abbrev pub file_of : Report → ℕ
file_of (R.Atcrbs a) = a.file
file_of (R.Mtd m) = m.file
file_of (R.Rdas r) = r.file
file_of (R.Search s) = uncorrelated
file_of (R.Strobe s) = uncorrelated
file_of (R.Map m) = uncorrelated
file_of (R.Status s) = uncorrelated
file_of (R.Rtqc s) = uncorrelated
file_of (R.Dabs d) = uncorrelated

-- "It takes accepted ATCRBS, MTD and RDAS reports, substitution included; any other outcome leaves it as it is."
abbrev pub number_in : What → ℕ
number_in (W.Accepted r) = file_of r
number_in (W.Refused q) = uncorrelated
number_in W.End = uncorrelated

-- the number of the report's kind, as the lister names it: ATCRBS-CD is not ATCRBS
abbrev pub kind_in : What → ℕ
kind_in (W.Accepted r) = kind_number (kind_of r)
kind_in (W.Refused q) = 0
kind_in W.End = 0

-- "each with file number, kind, place of the run and scan number given by the caller"
abbrev pub entry_of : Outcome → ℕ → Entry
entry_of o scan = record { number = number_in o.what; kind = kind_in o.what; scan = scan; place = o.first }
