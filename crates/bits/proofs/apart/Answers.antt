-- `bits::apart` meets its contract: past the end there are zeros. Assumes nothing.
use mathlib.Core.Path.{sym, ap}
use Prim.Native.Nat.{ℕ, ◌%◌, ◌^◌}
use native.Mathlib.Omega.{arith}
use Rattle.bits.proofs.Laws.{bits_of_out}
use Rattle.bits.proofs.apart.Goals as goal

pub returns-then-b-before : goal.returns-then-b-before
returns-then-b-before c =
    let a = c.args in
    sym (ap (λ (x : ℕ). x % 2 ^ 64) (bits_of_out a.b.now a.before a.n (omega arith)))
