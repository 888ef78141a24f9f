-- `bits::put_near` meets its contract: what is left to write, written to the bytes of now, gives what is asked. Assumes nothing.
use mathlib.Core.Path.{◌≡◌, sym, ◌∙◌}
use native.Mathlib.Omega.{arith}
use Rattle.bits.specs.Bits.{put_bits}
use Rattle.bits.proofs.Laws.{put_bits-last}
use Rattle.bits.proofs.put_near.Goals as goal

pub loop-k-preserved : goal.loop-k-preserved
loop-k-preserved c =
    let p = c.put_part in
    let l = c.loop-k in
    (omega arith, rw p.ensures (sym (put_bits-last _ _ _ _ _ _ (omega arith) c.weight-rest.ensures) ∙ l.invariant.1))

pub returns : goal.returns
unfolding put_bits
returns c =
    let l = c.loop-k in
    let e : l.k ≡ 0 = omega arith in
    rw e at l.invariant.1
