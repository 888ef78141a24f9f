-- A frame of the communications channel (document 02, Ticket 1; document 004, 5.1 and 5.2) and the bits that it is. Definitions only.
use Rattle.std.specs.Prelude.{ℕ, ◌<◌, ◌≤◌, Bool, List, ◌++◌, length}
use Rattle.fields.specs.declared.Direction.{Direction}
use Rattle.fields.specs.declared.Direction.TheVariants.{ToSensor, FromSensor}
use Rattle.frames.specs.Stream.{digits}
use Rattle.frames.specs.Check.{check_of}
use Rattle.frames.specs.Zeros.{with_zeros}

-- what a frame carries: which way it travels, its control, and the bits of its field
pub record Frame : Type 0 where
  pub way : Direction
  pub control : ℕ
  pub field : List Bool

abbrev pub frame_of : Direction → ℕ → List Bool → Frame
frame_of w c bs = record { way = w; control = c; field = bs }

-- the most bits of a field, and the fewest and the most between the flags once inserted zeros are out (5.1.1)
abbrev pub most_of_field : ℕ
most_of_field = 2008

abbrev pub fewest : ℕ
fewest = 32

abbrev pub most : ℕ
most = 2040

-- a frame that can be written: a control of eight bits, and a field that is not too long
pub record Fits (f : Frame) : Type 0 where
  pub control : f.control < 256
  pub field : length f.field ≤ most_of_field

-- 5.2.1
abbrev pub flag : List Bool
flag = digits 8 0b01111110

-- "Address is 11000000 to the sensor, 10000000 from it" (5.2.2)
abbrev pub address_number : Direction → ℕ
address_number ToSensor = 0b11000000
address_number FromSensor = 0b10000000

abbrev pub address : Direction → List Bool
address w = digits 8 (address_number w)

-- "address, control, field"
abbrev pub message : Frame → List Bool
message f = address f.way ++ (digits 8 f.control ++ f.field)

-- "frame check sequence"
abbrev pub body : Frame → List Bool
body f = message f ++ check_of (message f)

-- "with a zero inserted after five ones": what stands between the flags
abbrev pub between : Frame → List Bool
between f = with_zeros 0 (body f)

-- "flag .. flag": the whole frame
unfoldable pub frame_bits : Frame → List Bool
frame_bits f = flag ++ (between f ++ flag)
