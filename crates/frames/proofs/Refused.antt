-- Each refusal exactly under its condition, with the place that it gives: the claims ReaderRefuses and WriterRefuses, by the law of
-- rows. Assumes nothing.
use mathlib.Core.Path.{refl}
use mathlib.Core.Bool.{Bool, true, false}
use Rattle.std.proofs.Common.{Ok, Err}
use Rattle.rows.proofs.Claims as law
use Rattle.frames.specs.Reading.{Answer, accepted, refused, end, Outcome, outcome, closing, body_in, frame_in, read_rows, read_bits}
use Rattle.frames.specs.Writing.{Wrote, refused_at, given, closing_place, write_rows, write_frame}
use Rattle.frames.specs.Claims.{ReaderRefuses, WriterRefuses}

-- ---- the reader

abbrev pub is_frame : Answer → Bool
is_frame (accepted f) = true
is_frame (refused q) = false
is_frame end = false

abbrev pub reads : Outcome → Bool
reads o = is_frame o.answer

pub reader_refuses : ReaderRefuses
unfolding read_bits
reader_refuses over s q n =
    law.refused_exactly Outcome reads (read_rows over s) (outcome (accepted (frame_in (body_in s))) (closing s)) (outcome (refused q) n) refl refl

-- ---- the writer

abbrev pub wrote : Wrote → Bool
wrote (Ok p) = true
wrote (Err e) = false

pub writer_refuses : WriterRefuses
unfolding write_frame
writer_refuses len count place way control field n q p =
    let f = given way control field n in
    law.refused_exactly Wrote wrote (write_rows len count place field n f) (Ok (closing_place place f)) (refused_at q p) refl refl
