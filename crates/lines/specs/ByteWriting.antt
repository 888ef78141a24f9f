-- The writer on a line held as bytes, two a word, high byte first: what a call answers, and the bytes that it leaves. Definitions only.
use Rattle.std.specs.Prelude.{ℕ, ◌*◌, ◌%◌, ◌≡◌, List, [], ◌∷◌, ◌++◌, eqb, ltb, length, take, drop, Ok, Result, Err}
use Rattle.rows.specs.Rows.{Row, row, first_of}
use Rattle.refusals.specs.declared.LineRefusal.TheVariants.{LineTooLong, OddByteCount}
use Rattle.words.specs.Word.{idle}
use Rattle.reports.specs.declared.Report.{Report}
use Rattle.reports.specs.Altitude.{AltitudeForm}
use Rattle.reports.specs.Layouts.{words_of}
use Rattle.lines.specs.Bytes.{most_bytes, words_in, bytes_of}
use Rattle.lines.specs.declared.NotWritten.{NotWritten}
use Rattle.lines.specs.Writing.{not_written, place_rows, wrote_after}

-- the writer's rows: 2, 14, then 1, 11 and 10
abbrev pub byte_writer_rows : AltitudeForm → List ℕ → ℕ → Report → List (Row (Result ℕ NotWritten))
byte_writer_rows form bytes place r =
    row (ltb most_bytes (length bytes)) (not_written LineTooLong place)
    ∷ row (eqb (length bytes % 2) 1) (not_written OddByteCount place)
    ∷ place_rows form (length (words_in bytes)) place r

-- the writer's answer
unfoldable pub write_bytes : AltitudeForm → List ℕ → ℕ → Report → Result ℕ NotWritten
write_bytes form bytes place r = first_of (byte_writer_rows form bytes place r) (wrote_after form place r)

-- the bytes that a call leaves: what stood before the place, the words' bytes, the idle word's, what stood behind; refused, nothing has
-- changed
abbrev pub bytes_left : Result ℕ NotWritten → List ℕ → ℕ → List ℕ → List ℕ
bytes_left (Ok next) bytes place ws = take (place * 2) bytes ++ (bytes_of (ws ++ (idle ∷ [])) ++ drop (next * 2) bytes)
bytes_left (Err refusal) bytes place ws = bytes

-- what a call of the writer answers, and the bytes that it leaves
pub record WritesBytes (form : AltitudeForm) (bytes : List ℕ) (place : ℕ) (r : Report) (answer : Result ℕ NotWritten) (exit : List ℕ) : Type 0 where
  pub answers : answer ≡ write_bytes form bytes place r
  pub leaves : exit ≡ bytes_left (write_bytes form bytes place r) bytes place (words_of form r)
