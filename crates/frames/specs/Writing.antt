-- What writing a frame answers, and what the lent bytes then hold (document 02, Ticket 1). Definitions only.
use Rattle.std.specs.Prelude.{ℕ, ◌+◌, ◌-◌, ◌≡◌, ◌||◌, List, [], ◌∷◌, ltb, length, Result, Ok, Err}
use Rattle.rows.specs.Rows.{Row, row, first_of}
use Rattle.fields.specs.declared.Direction.{Direction}
use Rattle.frames.specs.declared.FrameRefusal.{FrameRefusal}
use Rattle.frames.specs.declared.FrameRefusal.TheVariants as R
use Rattle.frames.specs.declared.NotWritten.{NotWritten}
use Rattle.frames.specs.Stream.{bits_from, put_all}
use Rattle.frames.specs.Frame.{Frame, frame_of, most_of_field, frame_bits}
use Rattle.frames.specs.Reading.{count_over}

-- the frame of a direction, a control, and the first n bits of bytes
abbrev pub given : Direction → ℕ → List ℕ → ℕ → Frame
given way control field n = frame_of way control (bits_from field 0 n)

-- what the writer answers: the place of the closing flag; or a refusal and the caller's place
abbrev pub Wrote : Type 0
Wrote = Result ℕ NotWritten

abbrev pub refused_at : FrameRefusal → ℕ → Wrote
refused_at q p = Err (record { why = q; place = p })

-- the writer's rows: 44 of the lent bytes, of which there are so many, or of the field; 40; 46. Each gives the place back
abbrev pub write_rows : ℕ → ℕ → ℕ → List ℕ → ℕ → Frame → List (Row Wrote)
write_rows len count place field n f =
    row (count_over len count || count_over (length field) n) (refused_at R.CountOrFlag place)
    ∷ row (ltb most_of_field n) (refused_at R.WrongLength place)
    ∷ row (ltb count (place + length (frame_bits f))) (refused_at R.NoRoom place)
    ∷ []

-- the place of the closing flag, which is the frame's last eight bits
abbrev pub closing_place : ℕ → Frame → ℕ
closing_place place f = place + (length (frame_bits f) - 8)

-- the writer's answer, on so many bytes
unfoldable pub write_frame : ℕ → ℕ → ℕ → Direction → ℕ → List ℕ → ℕ → Wrote
write_frame len count place way control field n =
    let f = given way control field n in first_of (write_rows len count place field n f) (Ok (closing_place place f))

-- the bytes that a call leaves: the frame from the place on, and all other bits as they were; refused, nothing has changed
abbrev pub left_as : Wrote → List ℕ → ℕ → Frame → List ℕ
left_as (Ok p) bytes place f = put_all bytes place (frame_bits f)
left_as (Err e) bytes place f = bytes

-- what a call of the writer answers, and the bytes that it leaves
pub record Writes
    (bytes : List ℕ) (count place : ℕ) (way : Direction) (control : ℕ) (field : List ℕ) (n : ℕ) (answer : Wrote) (exit : List ℕ) : Type 0 where
  pub answers : answer ≡ write_frame (length bytes) count place way control field n
  pub leaves : exit ≡ left_as (write_frame (length bytes) count place way control field n) bytes place (given way control field n)
