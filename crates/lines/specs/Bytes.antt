-- A line held as bytes: two bytes a word, high byte first (document 01, "The C host and the lister"). Definitions only.
use Rattle.std.specs.Prelude.{ℕ, ◌+◌, ◌*◌, ◌/◌, ◌%◌, List, [], ◌∷◌, eqb, ltb, length}
use Rattle.rows.specs.Rows.{Row, row, first_of}
use Rattle.refusals.specs.declared.LineRefusal.TheVariants.{LineTooLong, OddByteCount}
use Rattle.reports.specs.Altitude.{AltitudeForm}
use Rattle.lines.specs.declared.Outcome.{Outcome}
use Rattle.reports.specs.Runs.{read_run}
use Rattle.lines.specs.Line.{not_taken_at, run_at, beyond}

-- the most bytes of a line
abbrev pub most_bytes : ℕ
most_bytes = 65536

-- the words that the bytes hold
unfoldable pub words_in : List ℕ → List ℕ
words_in [] = []
words_in (a ∷ []) = []
words_in (a ∷ b ∷ bs) = (a * 256 + b) ∷ words_in bs

-- the bytes of words
unfoldable pub bytes_of : List ℕ → List ℕ
bytes_of [] = []
bytes_of (w ∷ ws) = w / 256 % 256 ∷ w % 256 ∷ bytes_of ws

-- the rows of the line and the place: 2, 14, then 1
abbrev pub byte_rows : List ℕ → ℕ → List (Row Outcome)
byte_rows bytes place =
    row (ltb most_bytes (length bytes)) (not_taken_at LineTooLong place)
    ∷ row (eqb (length bytes % 2) 1) (not_taken_at OddByteCount place)
    ∷ beyond (length (words_in bytes)) place
    ∷ []

-- what is found: these rows, and where none holds, what the run gets on the line of the words that the bytes hold
unfoldable pub read_bytes : AltitudeForm → List ℕ → ℕ → Outcome
read_bytes form bytes place = first_of (byte_rows bytes place) (run_at (read_run form) (words_in bytes) place)
