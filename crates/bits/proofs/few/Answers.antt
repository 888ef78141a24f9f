-- `bits::few` meets its contract: what there is from the first byte on, then up to the last, then zeros. Assumes nothing.
use mathlib.Core.Path.{refl, sym, ◌∙◌}
use Prim.Native.Nat.{◌-◌, ◌*◌, ◌<◌}
use native.Mathlib.Omega.{arith}
use lib.ListN.{length, get_or}
use lib.Pow.{shl_exact}
use Rattle.bits.proofs.Laws.{bits_of_out, byte_is, padded, from_ends}
use Rattle.bits.proofs.few.Goals as goal

pub returns-then-len-ge4 : goal.returns-then-len-ge4
returns-then-len-ge4 c =
    let s = c.args.b.now in
    from_ends s 32 32 ((length s - 4) * 8) (64 - 8 * length s) _ _ c.four.ensures.0 c.four-then-len-ge4.ensures.0 (omega arith) (omega arith) (omega arith)

pub returns-then-len-ge2 : goal.returns-then-len-ge2
returns-then-len-ge2 c =
    let s = c.args.b.now in
    padded s 0 32 32 _
    (from_ends s 16 48 ((length s - 2) * 8) (32 - 8 * length s) _ _ c.two.ensures.0 c.two-then-len-ge2.ensures.0 (omega arith) (omega arith) (omega arith))
    (omega arith)

pub returns-then-len-eq1 : goal.returns-then-len-eq1
returns-then-len-eq1 c =
    let s = c.args.b.now in
    let x : get_or s 0 0 < 256 = omega (arith, c.type_inv.b 0) in
    rw c.from.ensures (shl_exact 8 56 64 x (omega arith) ∙ padded s 0 8 56 _ (byte_is s 0 _ refl x) (omega arith))

pub returns-else-len-eq1 : goal.returns-else-len-eq1
returns-else-len-eq1 c = sym (bits_of_out c.args.b.now 0 64 (omega arith))
