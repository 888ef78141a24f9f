-- `frames::flag::Stream::flag_at` meets its contract: fewer than eight bits are no flag, and of more the first eight tell. Assumes nothing.
use mathlib.Core.Path.{sym, ◌∙◌}
use native.Mathlib.Omega.{arith}
use borrow.Author.Tests.{lt-leb}
use Rattle.bits.proofs.Laws.{whole}
use Rattle.frames.proofs.Flagged.{no_flag_short, flag_told}
use Rattle.frames.proofs.flag.Stream.flag_at.Goals as goal

pub returns-then-saturating_sub-ge8 : goal.returns-then-saturating_sub-ge8
returns-then-saturating_sub-ge8 c = flag_told _ _ _ _ (omega arith) (c.read.ensures ∙ whole _ _ 8 (omega arith))

pub returns-else-saturating_sub-ge8 : goal.returns-else-saturating_sub-ge8
returns-else-saturating_sub-ge8 c = lt-leb _ _ (omega arith) ∙ sym (no_flag_short _ _ _ (omega arith))
