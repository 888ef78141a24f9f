-- `bits::with_digit` meets its contract: the sums fit, since the result is a byte. Assumes nothing.
use mathlib.Core.Path.{◌∙◌}
use Prim.Native.Nat.{◌+◌, ◌*◌, ◌/◌, ◌%◌, ◌<◌}
use native.Mathlib.Nat.{mod-eq_of_lt}
use native.Mathlib.Omega.{arith}
use Rattle.bits.specs.Bits.{with_digit}
use Rattle.bits.proofs.Laws.{with_digit-lt}
use Rattle.bits.proofs.with_digit.Goals as goal
use Rattle.bits.proofs.with_digit.Goals.{After-weight-p}

-- the byte as the code computes it is `with_digit`'s, and a byte
byte : (c : After-weight-p) →
    let a = c.args in
    let p = c.weight-p.result in
    let w = c.from-w.result in
    (w / p / 2 * 2 + a.v) * p + w % p < 256
unfolding with_digit
byte c =
    let a = c.args in
    rw (c.from-w.ensures, c.weight-p.ensures) (with_digit-lt a.x a.k a.v (omega arith) (omega arith) (omega arith))

pub returns : goal.returns
unfolding with_digit
returns c = mod-eq_of_lt (byte ((goal.at.returns c).After-weight-p)) ∙ rw (c.from-w.ensures, c.weight-p.ensures)
