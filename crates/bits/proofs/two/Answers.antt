-- `bits::two` meets its contract: two bytes that adjoin. Assumes nothing.
use mathlib.Core.Path.{refl, ◌∙◌}
use Prim.Native.Nat.{◌+◌, ◌*◌}
use native.Mathlib.Omega.{arith}
use Rattle.bits.proofs.Laws.{byte_is, joined}
use Rattle.bits.proofs.two.Goals as goal

pub returns : goal.returns
returns c =
    let s = c.args.b.now in
    let j = c.args.j in
    let v = c.type_inv.b in
    let x = byte_is s j _ refl (omega (arith, v j)) in
    let y = byte_is s (j + 1) _ refl (omega (arith, v (j + 1))) in
    (c.from.ensures ∙ c.from_be_bytes.ensures ∙ joined s (j * 8) ((j + 1) * 8) 8 8 _ _ x y (omega arith), omega arith)
