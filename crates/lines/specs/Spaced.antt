-- A list of reports written on a line with idle words between neighbours and at the ends, and what reading it should give: said without
-- the reader and the writer. Definitions only.
use Rattle.std.specs.Prelude.{ℕ, ◌+◌, ◌<◌, List, [], ◌∷◌, ◌++◌, length, replicate}
use Rattle.words.specs.Word.{idle}
use Rattle.reports.specs.declared.Report.{Report}
use Rattle.reports.specs.Altitude.{AltitudeForm}
use Rattle.reports.specs.Layouts.{words_of, Fits}
use Rattle.lines.specs.declared.What.TheVariants as W
use Rattle.lines.specs.declared.Outcome.{Outcome}
use Rattle.lines.specs.Line.{outcome_of}

-- a report, and how many idle words stand before it
pub record Spaced : Type 0 where
  pub ahead : ℕ
  pub report : Report

-- the line: the reports with their idle words, and so many at the end
unfoldable pub line_of : AltitudeForm → List Spaced → ℕ → List ℕ
line_of form [] tail = replicate tail idle
line_of form (s ∷ ss) tail = replicate s.ahead idle ++ (words_of form s.report ++ line_of form ss tail)

abbrev pub reports_of : List Spaced → List Report
reports_of [] = []
reports_of (s ∷ ss) = s.report ∷ reports_of ss

-- every report fits its layout
abbrev pub AllFit : AltitudeForm → List Spaced → Type 0
AllFit form [] = Unit {0}
AllFit form (s ∷ ss) = Fits form s.report × AllFit form ss

-- there is an idle word before each
abbrev pub Parted : List Spaced → Type 0
Parted [] = Unit {0}
Parted (s ∷ ss) = (0 < s.ahead) × Parted ss

-- there is an idle word between neighbours: before each but the first
abbrev pub Apart : List Spaced → Type 0
Apart [] = Unit {0}
Apart (s ∷ ss) = Parted ss

-- the reports, each with its places, on a line from a place on
unfoldable pub back : AltitudeForm → ℕ → List Spaced → List Outcome
back form place [] = []
back form place (s ∷ ss) =
    let first = place + s.ahead in
    let next = first + length (words_of form s.report) in
    outcome_of (W.Accepted s.report) first next first ∷ back form next ss
