-- `bits::put_part` meets its contract: a store past the end is none. Assumes nothing.
use mathlib.Core.Path.{sym}
use native.Mathlib.Omega.{arith}
use Rattle.bits.proofs.Laws.{put_bits_part, put_bits_past}
use Rattle.bits.proofs.put_part.Goals as goal

pub returns-then-j-s : goal.returns-then-j-s
returns-then-j-s c = rw (c.with_part.ensures, c.weight.ensures) (sym (put_bits_part _ _ _ _ (omega arith)))

pub returns-else-j-s : goal.returns-else-j-s
returns-else-j-s c = sym (put_bits_past _ _ _ _ (omega arith) (omega arith))
