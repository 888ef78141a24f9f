-- The field that is copied has at most 251 bytes. Assumes nothing.
use Prim.Native.Nat.{ℕ, ◌≤◌}
use mathlib.Core.Path.{◌≡◌, refl}
use mathlib.Core.Bool.{Bool}
use mathlib.Core.List.{List}
use native.Mathlib.Omega.{arith}
use lib.ListN.{length}
use Rattle.frames.specs.Reading.{Answer, accepted, refused, end, outcome, count_over, read_bits, stream_at, what_of, read_frame}
use Rattle.frames.proofs.Back.{written_again}
use Rattle.frame_host.specs.Calls.{count_of}

most : (over : Bool) (s : List Bool) (a : Answer) (n : ℕ) → read_bits over s ≡ outcome a n → count_of (what_of a) ≤ 2008
most over s (accepted f) n e = (written_again over s f n e).0.field
most over s (refused q) n e = omega arith
most over s end n e = omega arith

pub count_most : (bytes : List ℕ) (count place : ℕ) → count_of (read_frame bytes count place).what ≤ 2008
unfolding read_frame
count_most bytes count place = let o = read_bits (count_over (length bytes) count) (stream_at bytes count place) in most _ _ o.answer o.on refl
