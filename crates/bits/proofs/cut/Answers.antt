-- `bits::cut` meets its contract: the bits before the field go out to the left, those behind it to the right. Assumes nothing.
use native.Mathlib.Omega.{arith}
use Rattle.bits.proofs.Laws.{cut_is}
use Rattle.bits.proofs.cut.Goals as goal

pub returns : goal.returns
returns c = cut_is _ _ _ (omega arith)
