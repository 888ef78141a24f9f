-- What each call of frames answers, from what the reader and the writer of frames answer. Definitions only.
use Rattle.std.specs.Prelude.{ℕ, ◌+◌, ◌/◌, cond, List, ◌++◌, ltb, length, take, drop, Ok, Err}
use Rattle.fields.specs.Reading.{way_number}
use Rattle.frames.specs.declared.What.{What}
use Rattle.frames.specs.declared.What.TheVariants as W
use Rattle.frames.specs.declared.Found.{Found}
use Rattle.frames.specs.Numbers.{frame_number}
use Rattle.frames.specs.Writing.{Wrote}

-- ---- what stands at a place

abbrev frame_kind : ℕ
frame_kind = 122

-- as where there is no report
abbrev refused_kind : ℕ
refused_kind = 120

abbrev end_kind : ℕ
end_kind = 121

abbrev pub kind_of : What → ℕ
kind_of (W.Frame w c n) = frame_kind
kind_of (W.Refused q) = refused_kind
kind_of W.End = end_kind

-- the paper's number, 0 where nothing is refused
abbrev pub refusal_of : What → ℕ
refusal_of (W.Frame w c n) = 0
refusal_of (W.Refused q) = frame_number q
refusal_of W.End = 0

-- ---- a frame; 0 where there is none

abbrev pub from_sensor : What → ℕ
from_sensor (W.Frame w c n) = way_number w
from_sensor (W.Refused q) = 0
from_sensor W.End = 0

abbrev pub control_of : What → ℕ
control_of (W.Frame w c n) = c
control_of (W.Refused q) = 0
control_of W.End = 0

abbrev pub count_of : What → ℕ
count_of (W.Frame w c n) = n
count_of (W.Refused q) = 0
count_of W.End = 0

-- ---- its field, copied into lent bytes

-- how many bytes it takes, and how many are copied where so many are lent: all of them, or none
abbrev size_of : What → ℕ
size_of w = (count_of w + 7) / 8

abbrev pub copied : What → ℕ → ℕ
copied w lent = cond (ltb lent (size_of w)) 0 (size_of w)

abbrev pub field_left : Found → List ℕ → List ℕ
field_left f lent = let n = copied f.what (length lent) in take n f.field ++ drop n lent

-- ---- writing

-- the place of the closing flag, or the place given back
abbrev pub place_of : Wrote → ℕ
place_of (Ok p) = p
place_of (Err e) = e.place

abbrev pub write_refusal : Wrote → ℕ
write_refusal (Ok p) = 0
write_refusal (Err e) = frame_number e.why
