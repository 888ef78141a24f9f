-- Document 01's table "Line refusal numbers" as each reader goes through it: all rows in its order, that of the link (document 02, Ticket 7), the
-- reader's own and then those of the run. The writers' rows stand in Writing.antt and ByteWriting.antt. Definitions only.
use Rattle.std.specs.Prelude.{ℕ, ◌+◌, List, [], ◌∷◌, ◌++◌, length, drop}
use Rattle.rows.specs.Rows.{Row, each}
use Rattle.reports.specs.Altitude.{AltitudeForm}
use Rattle.reports.specs.Runs.{table_of}
use Rattle.lines.specs.declared.Outcome.{Outcome}
use Rattle.lines.specs.Line.{placed, gap, run_in, line_rows}
use Rattle.lines.specs.declared.Received.{Received}
use Rattle.lines.specs.Bytes.{words_in, byte_rows}
use Rattle.lines.specs.Links.{received_on, above_last}

-- numbers 3 to 9 of a run whose first word is at a place; none where there is no run
abbrev pub run_rows : AltitudeForm → ℕ → List ℕ → List (Row Outcome)
run_rows form first [] = []
run_rows form first (w ∷ ws) = each (placed first (length (w ∷ ws))) (table_of form (w ∷ ws))

-- of the run at a place, or behind the idle words there
abbrev run_rows_at : AltitudeForm → List ℕ → ℕ → List (Row Outcome)
run_rows_at form line place = let rest = drop place line in run_rows form (place + gap rest) (run_in rest)

-- on a line of words: 2, 1, 3 to 9
abbrev pub rows_at : AltitudeForm → List ℕ → ℕ → List (Row Outcome)
rows_at form line place = line_rows line place ++ run_rows_at form line place

-- on a line of bytes: 2, 14, 1, 3 to 9
abbrev pub byte_rows_at : AltitudeForm → List ℕ → ℕ → List (Row Outcome)
byte_rows_at form bytes place = byte_rows bytes place ++ run_rows_at form (words_in bytes) place

-- with a link number: 13, and then these, each with that number
abbrev with_link : ℕ → ℕ → List (Row Outcome) → List (Row Received)
with_link link place rows = above_last link place ∷ each (received_on link) rows

-- the reader of words: 13, 2, 1, 3 to 9
abbrev pub rows_on : AltitudeForm → ℕ → List ℕ → ℕ → List (Row Received)
rows_on form link line place = with_link link place (rows_at form line place)

-- the reader of bytes: 13, 2, 14, 1, 3 to 9
abbrev pub byte_rows_on : AltitudeForm → ℕ → List ℕ → ℕ → List (Row Received)
byte_rows_on form link bytes place = with_link link place (byte_rows_at form bytes place)
