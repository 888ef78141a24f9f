-- What the calls that write a report answer and leave, from the writer's answer. Definitions only.
use Rattle.std.specs.Prelude.{ℕ, ◌≡◌, List, Ok, Result, Err}
use Rattle.refusals.specs.Numbers.{line_number}
use Rattle.reports.specs.declared.Report.{Report}
use Rattle.reports.specs.Altitude.{AltitudeForm}
use Rattle.reports.specs.Layouts.{words_of}
use Rattle.lines.specs.ByteWriting.{write_bytes, bytes_left}
use Rattle.lines.specs.declared.NotWritten.{NotWritten}
use Rattle.lines.specs.Writing.{not_written}

-- the place after the words, or the place given
abbrev pub place_after : ℕ → Result ℕ NotWritten → ℕ
place_after place (Ok next) = next
place_after place (Err refusal) = place

-- the paper's number, 0 where nothing is refused
abbrev pub write_refusal : Result ℕ NotWritten → ℕ
write_refusal (Ok next) = 0
write_refusal (Err refusal) = line_number refusal.why

-- a call that writes this report, with the altitude in this form
pub record Writes (form : AltitudeForm) (bytes : List ℕ) (place : ℕ) (r : Report) (answer : ℕ) (exit : List ℕ) : Type 0 where
  pub answers : answer ≡ place_after place (write_bytes form bytes place r)
  pub leaves : exit ≡ bytes_left (write_bytes form bytes place r) bytes place (words_of form r)
