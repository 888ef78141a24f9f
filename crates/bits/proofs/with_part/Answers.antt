-- `bits::with_part` meets its contract: the sums fit, since the result is a byte. Assumes nothing.
use mathlib.Core.Path.{◌∙◌}
use Prim.Native.Nat.{◌+◌, ◌*◌, ◌/◌, ◌%◌, ◌<◌}
use native.Mathlib.Nat.{mod-eq_of_lt}
use native.Mathlib.Omega.{arith}
use Rattle.bits.specs.Bits.{with_part}
use Rattle.bits.proofs.Laws.{part_fits}
use Rattle.bits.proofs.with_part.Goals as goal
use Rattle.bits.proofs.with_part.Goals.{After-weight-2}

-- what the code adds up, and the byte that it makes
fits : (c : After-weight-2) →
    let a = c.args in
    let p = c.weight-p.result in
    let x = c.from-x.result in
    let t = x / c.weight.result * c.weight-2.result + a.v in
    (t < 256) × (t * p + x % p < 256)
fits c =
    let a = c.args in
    part_fits c.from-x.result a.k a.w a.v _ _ _ c.weight-p.ensures c.weight.ensures c.weight-2.ensures (omega arith) (omega arith) (omega arith)

pub returns : goal.returns
unfolding with_part
returns c = mod-eq_of_lt (fits ((goal.at.returns c).After-weight-2)).1 ∙ rw (c.from-x.ensures, c.weight-2.ensures, c.weight.ensures, c.weight-p.ensures)
