-- The writer (document 01, "The line"): what a call answers, the line that it leaves, and calls one after the other. Definitions only.
use Rattle.std.specs.Prelude.{ℕ, ◌+◌, ◌-◌, ◌≡◌, not, List, [], ◌∷◌, ◌++◌, ltb, length, take, drop, Ok, Result, Err}
use Rattle.rows.specs.Rows.{Row, row, first_of}
use Rattle.refusals.specs.declared.LineRefusal.{LineRefusal}
use Rattle.refusals.specs.declared.LineRefusal.TheVariants.{LineTooLong, PlaceBeyondLine, ValueTooLarge, NoRoom}
use Rattle.words.specs.Word.{idle}
use Rattle.reports.specs.declared.Report.{Report}
use Rattle.reports.specs.Altitude.{AltitudeForm}
use Rattle.reports.specs.Layouts.{words_of, takes}
use Rattle.lines.specs.Line.{most}
use Rattle.lines.specs.declared.NotWritten.{NotWritten}

-- ---- one call

-- a report is not written, and the place is given back
abbrev pub not_written : LineRefusal → ℕ → Result ℕ NotWritten
not_written q p = Err (record { why = q; place = p })

-- 1, 11 and 10, on a line of n words
abbrev pub place_rows : AltitudeForm → ℕ → ℕ → Report → List (Row (Result ℕ NotWritten))
place_rows form n place r =
    row (ltb n place) (not_written PlaceBeyondLine place)
    ∷ row (not (takes form r)) (not_written ValueTooLarge place)
    ∷ row (ltb (n - place) (length (words_of form r) + 1)) (not_written NoRoom place)
    ∷ []

-- the writer's rows: 2, then 1, 11 and 10
abbrev pub writer_rows : AltitudeForm → List ℕ → ℕ → Report → List (Row (Result ℕ NotWritten))
writer_rows form line place r = row (ltb most (length line)) (not_written LineTooLong place) ∷ place_rows form (length line) place r

-- the place after a report's words and one idle word
abbrev pub wrote_after : AltitudeForm → ℕ → Report → Result ℕ NotWritten
wrote_after form place r = Ok (place + length (words_of form r) + 1)

-- the writer's answer
unfoldable pub write_at : AltitudeForm → List ℕ → ℕ → Report → Result ℕ NotWritten
write_at form line place r = first_of (writer_rows form line place r) (wrote_after form place r)

-- the line that a call leaves: what stood before the place, the words, the idle word, what stood behind; refused, nothing has changed
abbrev pub left_as : Result ℕ NotWritten → List ℕ → ℕ → List ℕ → List ℕ
left_as (Ok next) line place ws = take place line ++ (ws ++ (idle ∷ drop next line))
left_as (Err refusal) line place ws = line

-- what a call of the writer answers, and the line that it leaves
pub record Writes (form : AltitudeForm) (line : List ℕ) (place : ℕ) (r : Report) (answer : Result ℕ NotWritten) (exit : List ℕ) : Type 0 where
  pub answers : answer ≡ write_at form line place r
  pub leaves : exit ≡ left_as (write_at form line place r) line place (words_of form r)

-- ---- calls one after the other

-- the place that a call gives
abbrev pub next : Result ℕ NotWritten → ℕ
next (Ok p) = p
next (Err refusal) = refusal.place

-- each at the place that the one before it gave: the line that they leave
unfoldable pub puts : AltitudeForm → List ℕ → ℕ → List Report → List ℕ
puts form line place [] = line
puts form line place (r ∷ rs) = let w = write_at form line place r in puts form (left_as w line place (words_of form r)) (next w) rs

-- a report is among those written if its call was not refused
abbrev pub among : Result ℕ NotWritten → Report → List Report → List Report
among (Ok p) r rs = r ∷ rs
among (Err refusal) r rs = rs

-- the reports that were written
unfoldable pub taken : AltitudeForm → List ℕ → ℕ → List Report → List Report
taken form line place [] = []
taken form line place (r ∷ rs) =
    let w = write_at form line place r in among w r (taken form (left_as w line place (words_of form r)) (next w) rs)
