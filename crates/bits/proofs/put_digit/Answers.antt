-- `bits::put_digit` meets its contract: a store past the end is none. Assumes nothing.
use mathlib.Core.Path.{sym}
use native.Mathlib.Omega.{arith}
use Rattle.bits.specs.Bits.{put_bit}
use Rattle.bits.proofs.Laws.{put_bit_out}
use Rattle.bits.proofs.put_digit.Goals as goal

pub returns-then-j-s : goal.returns-then-j-s
unfolding put_bit
returns-then-j-s c = rw (c.with_digit.ensures, c.behind-k.ensures, c.byte_of-j.ensures)

pub returns-else-j-s : goal.returns-else-j-s
returns-else-j-s c = sym (put_bit_out _ _ _ (omega arith))
