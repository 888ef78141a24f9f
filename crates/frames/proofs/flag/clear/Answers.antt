-- `frames::flag::clear` meets its contract: the zeros in front of the first six ones tell how far no flag begins. Assumes nothing.
use mathlib.Core.Path.{◌∙◌}
use native.Mathlib.Omega.{arith}
use lib.Count.{count_leading_zeros}
use Rattle.bits.proofs.Laws.{whole}
use Rattle.frames.proofs.Windows.{Cleared, cleared}
use Rattle.frames.proofs.flag.clear.Goals as goal
use Rattle.frames.proofs.flag.clear.Goals.{After-six_ones-ones}

-- what the window shows
shown : (c : After-six_ones-ones) → let a = c.args in Cleared a.b.now a.p a.n (count_leading_zeros 64 c.six_ones-ones.result)
shown c =
    let e = c.read.ensures ∙ whole _ _ c.args.n (omega (arith, c.requires.1)) in
    cleared _ _ _ _ c.requires.0 c.requires.1 (rw e at c.six_ones-ones.ensures)

pub overflow_sub-result : goal.overflow_sub-result
overflow_sub-result c = omega (arith, (shown ((goal.at.overflow_sub-result c).After-six_ones-ones)).enough)

pub returns : goal.returns
returns c = (omega (arith, (shown ((goal.at.returns c).After-six_ones-ones)).most, (shown ((goal.at.returns c).After-six_ones-ones)).enough), (shown ((goal.at.returns c).After-six_ones-ones)).none)
