-- The number that document 02 gives each refusal of a frame, in the order of Ticket 1. Definitions only.
use Rattle.std.specs.Prelude.{ℕ}
use Rattle.frames.specs.declared.FrameRefusal.{FrameRefusal}
use Rattle.frames.specs.declared.FrameRefusal.TheVariants as R

abbrev pub frame_number : FrameRefusal → ℕ
-- count over the lent bits, or no flag at the place
frame_number R.CountOrFlag = 44
-- five ones with no inserted zero after them, before the closing flag or, without one, the end
frame_number R.ZeroMissing = 41
-- no closing flag
frame_number R.NoClosingFlag = 45
-- length, also of a field to be written
frame_number R.WrongLength = 40
-- check sequence
frame_number R.WrongCheck = 43
-- neither address
frame_number R.UnknownAddress = 42
-- writer without room, nothing written
frame_number R.NoRoom = 46
