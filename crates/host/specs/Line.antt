-- What each call that reads a line answers, from the outcome at the place. (siamrung_link answers the link that was received with it.) A report's kind
-- has its number from reports; what is no report has its number here. Definitions only.
use Rattle.std.specs.Prelude.{ℕ, None, Option, ℤ}
use Rattle.refusals.specs.Numbers.{line_number}
use Rattle.measures.specs.declared.Measured.{Measured}
use Rattle.measures.specs.Exact.{AllExact}
use Rattle.reports.specs.Kinds.{kind_of, kind_number}
use Rattle.reports.specs.Values.{Counted, counts, none, counted_of}
use Rattle.lines.specs.declared.What.{What}
use Rattle.lines.specs.declared.What.TheVariants as W
use Rattle.report_items.specs.Items.{item_of}

abbrev pub version : ℕ
version = 8

-- the kind of what is no report
abbrev refused_kind : ℕ
refused_kind = 120

abbrev end_kind : ℕ
end_kind = 121

abbrev pub kind_number_of : What → ℕ
kind_number_of (W.Accepted r) = kind_number (kind_of r)
kind_number_of (W.Refused q) = refused_kind
kind_number_of W.End = end_kind

-- the paper's number, 0 where nothing is refused
abbrev pub refusal_of : What → ℕ
refusal_of (W.Accepted r) = 0
refusal_of (W.Refused q) = line_number q
refusal_of W.End = 0

-- ---- the fields

abbrev pub item_at : What → ℕ → Option ℤ
item_at (W.Accepted r) n = item_of r n
item_at (W.Refused q) n = None
item_at W.End n = None

-- ---- the values, in 1024ths of a nmi, of a degree and of a second; 0 where there are none

abbrev pub counted_at : What → Counted
counted_at (W.Accepted r) = counted_of r
counted_at (W.Refused q) = none
counted_at W.End = none

abbrev pub has : Counted → ℕ
has (counts r a t) = 1
has none = 0

abbrev pub range_of : Counted → ℕ
range_of (counts r a t) = r
range_of none = 0

abbrev pub azimuth_of : Counted → ℕ
azimuth_of (counts r a t) = a
azimuth_of none = 0

abbrev pub time_of : Counted → ℕ
time_of (counts r a t) = t
time_of none = 0

-- the record has these values, all of them 0 where there are none
abbrev pub Shows : Counted → Measured → Type 0
Shows k m = AllExact (range_of k) (azimuth_of k) (time_of k) m
