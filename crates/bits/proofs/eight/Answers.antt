-- `bits::eight` meets its contract: twice four bytes. Assumes nothing.
use Prim.Native.Nat.{◌+◌, ◌*◌}
use native.Mathlib.Omega.{arith}
use Rattle.bits.proofs.Laws.{joined}
use Rattle.bits.proofs.eight.Goals as goal

pub returns : goal.returns
returns c =
    let a = c.args in
    joined a.b.now (a.j * 8) ((a.j + 4) * 8) 32 32 _ _ c.four.ensures.0 c.four-2.ensures.0 (omega arith)
