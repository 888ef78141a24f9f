-- `bits::put_digits` meets its contract: what is left to write, written to the bytes of now, gives what is asked. Assumes nothing.
use mathlib.Core.Path.{◌≡◌, sym, ◌∙◌}
use native.Mathlib.Omega.{arith}
use Rattle.bits.specs.Bits.{put_bits}
use Rattle.bits.proofs.Laws.{put_bits_less}
use Rattle.bits.proofs.put_digits.Goals as goal

pub loop-k-preserved : goal.loop-k-preserved
loop-k-preserved c =
    let p = c.put_digit in
    let l = c.loop-k in
    rw p.ensures (sym (put_bits_less _ _ _ _ (omega arith)) ∙ l.invariant)

pub returns : goal.returns
unfolding put_bits
returns c =
    let l = c.loop-k in
    let e : l.k ≡ 0 = omega arith in
    rw e at l.invariant
