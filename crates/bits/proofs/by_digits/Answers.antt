-- `bits::by_digits` meets its contract: v is the number of the bits passed, of which the first are those that no number of 64 bits holds.
-- Assumes nothing.
use mathlib.Core.Path.{◌≡◌, refl, ◌∙◌}
use Prim.Native.Nat.{◌-◌, ◌^◌, ◌≤◌, ◌<◌}
use native.Mathlib.Omega.{arith}
use Rattle.bits.proofs.Laws.{bit_at_lt, bits_of_below, bits_of_none, bits_of_next, last_64}
use Rattle.bits.proofs.by_digits.Goals as goal

pub loop-i-init : goal.loop-i-init
loop-i-init c = bits_of_none _ _ _ (omega arith)

pub overflow_mul-v : goal.overflow_mul-v
overflow_mul-v c =
    let l = c.loop-i in
    let h : l.v < 2 ^ 63 = rw l.invariant (bits_of_below 63 _ _ _ (omega arith)) in
    omega arith

pub overflow_add-v : goal.overflow_add-v
overflow_add-v c =
    let l = c.loop-i in
    let h : l.v < 2 ^ 63 = rw l.invariant (bits_of_below 63 _ _ _ (omega arith)) in
    let k : c.digit.result < 2 = rw c.digit.ensures (bit_at_lt _ _) in
    omega arith

pub loop-i-preserved : goal.loop-i-preserved
loop-i-preserved c =
    let l = c.loop-i in
    let h : c.args.n - 64 ≤ l.i = omega arith in
    rw (bits_of_next _ _ _ _ h, c.digit.ensures, l.invariant) refl

pub returns : goal.returns
returns c =
    let l = c.loop-i in
    let a = c.args in
    let e : l.i ≡ a.n = omega arith in
    (rw e at l.invariant) ∙ last_64 _ _ _
