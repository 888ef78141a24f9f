-- `bits::read` meets its contract: out of 64 bits that hold the field. Assumes nothing.
use Prim.Native.Nat.{◌-◌, ◌*◌}
use native.Mathlib.Omega.{arith}
use Rattle.bits.proofs.Laws.{no_bits, in_64}
use Rattle.bits.proofs.read.Goals as goal

pub returns-then-n-eq0 : goal.returns-then-n-eq0
returns-then-n-eq0 c = no_bits _ _ _ c.if-n-eq0.true

pub returns-then-at-n : goal.returns-then-at-n
returns-then-at-n c =
    let a = c.args in
    let j = c.eight_from-j.result in
    in_64 a.b.now (j * 8) a.before (a.before - 8 * j) a.n _ _ c.eight.ensures c.cut.ensures (omega arith) (omega arith)

pub returns-then-before-n : goal.returns-then-before-n
returns-then-before-n c =
    let a = c.args in
    in_64 a.b.now 0 a.before a.before a.n _ _ c.few.ensures c.cut-then-before-n.ensures (omega arith) (omega arith)
