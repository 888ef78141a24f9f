-- `bits::four` meets its contract: byte after byte. Assumes nothing.
use mathlib.Core.Path.{refl}
use Prim.Native.Nat.{◌+◌, ◌*◌}
use native.Mathlib.Omega.{arith}
use Rattle.bits.proofs.Laws.{byte_is, joined}
use Rattle.bits.proofs.four.Goals as goal

pub returns : goal.returns
returns c =
    let s = c.args.b.now in
    let j = c.args.j in
    let v = c.type_inv.b in
    let w = byte_is s j _ refl (omega (arith, v j)) in
    let x = byte_is s (j + 1) _ refl (omega (arith, v (j + 1))) in
    let y = byte_is s (j + 2) _ refl (omega (arith, v (j + 2))) in
    let z = byte_is s (j + 3) _ refl (omega (arith, v (j + 3))) in
    let wx = joined s (j * 8) ((j + 1) * 8) 8 8 _ _ w x (omega arith) in
    let wxy = joined s (j * 8) ((j + 2) * 8) 16 8 _ _ wx y (omega arith) in
    (omega (arith, joined s (j * 8) ((j + 3) * 8) 24 8 _ _ wxy z (omega arith)), omega arith)
