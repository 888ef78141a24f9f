-- What reading a frame answers (document 02, Ticket 1): each refusal's condition, over the bits from the place on; the first row that holds, in
-- the ticket's order, answers. Definitions only.
use Rattle.std.specs.Prelude.{ℕ, zero, suc, ◌+◌, ◌-◌, ◌*◌, Bool, true, false, not, cond, ◌&&◌, ◌||◌, List, [], ◌∷◌, eqb, ltb, length, take, drop, replicate}
use Rattle.std.specs.Bool.{beq}
use Rattle.rows.specs.Rows.{Row, row, first_of, each}
use Rattle.fields.specs.declared.Direction.{Direction}
use Rattle.fields.specs.declared.Direction.TheVariants.{ToSensor, FromSensor}
use Rattle.frames.specs.declared.FrameRefusal.{FrameRefusal}
use Rattle.frames.specs.declared.FrameRefusal.TheVariants as R
use Rattle.frames.specs.declared.What.{What}
use Rattle.frames.specs.declared.What.TheVariants as W
use Rattle.frames.specs.declared.Found.{Found}
use Rattle.frames.specs.Stream.{bits_from, put_all, number}
use Rattle.frames.specs.Check.{check_of}
use Rattle.frames.specs.Zeros.{zeros_out, zero_missing}
use Rattle.frames.specs.Frame.{Frame, frame_of, fewest, most, flag, address}

-- ---- what is answered

-- a frame, a refusal, or that only flags are left
pub data Answer : Type 0 where
  accepted : Frame → Answer
  refused : FrameRefusal → Answer
  end : Answer

-- the answer, and how many bits behind the caller's place the place lies that is answered
pub record Outcome : Type 0 where
  pub answer : Answer
  pub on : ℕ

abbrev pub outcome : Answer → ℕ → Outcome
outcome a n = record { answer = a; on = n }

-- ---- flags

-- the bits s begin with these
unfoldable pub begins : List Bool → List Bool → Bool
begins [] s = true
begins (x ∷ xs) [] = false
begins (x ∷ xs) (b ∷ s) = beq x b && begins xs s

-- the bits behind neighbouring flags, of which none has to be there; k bits of a flag are yet to be passed
unfoldable pub past_flags : ℕ → List Bool → List Bool
past_flags k [] = []
past_flags zero (b ∷ s) = cond (begins flag (b ∷ s)) (past_flags 7 s) (b ∷ s)
past_flags (suc k) (b ∷ s) = past_flags k s

-- the bits in front of the first flag; all, where there is none
unfoldable pub up_to_flag : List Bool → List Bool
up_to_flag [] = []
up_to_flag (b ∷ s) = cond (begins flag (b ∷ s)) [] (b ∷ up_to_flag s)

-- ---- a stretch: what stands behind the opening flag, the last of neighbouring ones, up to the closing flag or, without one, to the end

abbrev pub behind_opening : List Bool → List Bool
behind_opening s = past_flags 0 s

abbrev pub stretch : List Bool → List Bool
stretch s = up_to_flag (behind_opening s)

-- the stretch without the inserted zeros
abbrev pub body_in : List Bool → List Bool
body_in s = zeros_out 0 (stretch s)

-- how many bits stand in front of the closing flag
abbrev pub closing : List Bool → ℕ
closing s = length s - length (behind_opening s) + length (stretch s)

-- ---- conditions

-- 44: "count over the lent bits", of so many bytes
abbrev pub count_over : ℕ → ℕ → Bool
count_over len count = ltb (len * 8) count

-- "a place with only flags, one or more, from it on"
unfoldable pub only_flags : List Bool → Bool
only_flags s = eqb (length (behind_opening s)) 0

-- 45: "no closing flag": the stretch runs to the end
unfoldable pub no_closing_flag : List Bool → Bool
no_closing_flag s = eqb (length (stretch s)) (length (behind_opening s))

-- 40: not "32 to 2040 bits"
unfoldable pub wrong_length : List Bool → Bool
wrong_length b = ltb (length b) fewest || ltb most (length b)

-- 43: the last sixteen bits are not the check sequence of those before them
unfoldable pub wrong_check : List Bool → Bool
wrong_check b = let n = length b - 16 in not (begins (check_of (take n b)) (drop n b))

-- 42: "neither address"
unfoldable pub unknown_address : List Bool → Bool
unknown_address b = not (begins (address ToSensor) b || begins (address FromSensor) b)

-- ---- the reader

-- the rows of a body: 40, 43, 42
abbrev pub body_rows : List Bool → List (Row Answer)
body_rows b =
    row (wrong_length b) (refused R.WrongLength)
    ∷ row (wrong_check b) (refused R.WrongCheck)
    ∷ row (unknown_address b) (refused R.UnknownAddress)
    ∷ []

-- the rows over the bits from the place on; `over`: the count is over the lent bits. "A frame, or refusal 40, 42 or 43 in reading, answers the
-- place of its closing flag; other refusals give the place back."
abbrev pub read_rows : Bool → List Bool → List (Row Outcome)
read_rows over s =
    row (over || not (begins flag s)) (outcome (refused R.CountOrFlag) 0)
    ∷ row (only_flags s) (outcome end (length s))
    ∷ row (zero_missing 0 (stretch s)) (outcome (refused R.ZeroMissing) 0)
    ∷ row (no_closing_flag s) (outcome (refused R.NoClosingFlag) 0)
    ∷ each (λ a. outcome a (closing s)) (body_rows (body_in s))

-- the frame whose address, control, field and check sequence are these bits
abbrev pub way_in : List Bool → Direction
way_in b = cond (begins (address ToSensor) b) ToSensor FromSensor

abbrev pub control_in : List Bool → ℕ
control_in b = number (take 8 (drop 8 b))

abbrev pub field_in : List Bool → List Bool
field_in b = take (length b - fewest) (drop 16 b)

abbrev pub frame_in : List Bool → Frame
frame_in b = frame_of (way_in b) (control_in b) (field_in b)

-- the answer of a body by itself
abbrev pub judged_body : List Bool → Answer
judged_body b = first_of (body_rows b) (accepted (frame_in b))

-- the reader: these rows, and where none holds, the frame and the place of its closing flag
unfoldable pub read_bits : Bool → List Bool → Outcome
read_bits over s = first_of (read_rows over s) (outcome (accepted (frame_in (body_in s))) (closing s))

-- ---- the reader of lent bytes

-- the bits from a place up to the count
abbrev pub stream_at : List ℕ → ℕ → ℕ → List Bool
stream_at bytes count place = bits_from bytes place (count - place)

abbrev pub what_of : Answer → What
what_of (accepted f) = W.Frame f.way f.control (length f.field)
what_of (refused q) = W.Refused q
what_of end = W.End

-- the field's bits; none, where there is no frame
abbrev pub field_of : Answer → List Bool
field_of (accepted f) = f.field
field_of (refused q) = []
field_of end = []

-- bits in 251 bytes: the first on top of the first byte, and zeros behind the last
abbrev pub field_bytes : List Bool → List ℕ
field_bytes bs = put_all (replicate 251 0) 0 bs

-- an answer, with the place that is answered
abbrev pub found_at : ℕ → Answer → Found
found_at place a = record { what = what_of a; place = place; field = field_bytes (field_of a) }

-- bytes, a count of bits, a place
unfoldable pub read_frame : List ℕ → ℕ → ℕ → Found
read_frame bytes count place =
    let o = read_bits (count_over (length bytes) count) (stream_at bytes count place) in found_at (place + o.on) o.answer
