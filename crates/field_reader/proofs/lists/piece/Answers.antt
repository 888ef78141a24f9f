-- `field_reader::lists::piece` meets its contract: eight bits from a byte's first on are the byte. Assumes nothing.
use mathlib.Core.Path.{◌≡◌, refl, ap, ◌∙◌}
use Prim.Native.Nat.{ℕ, ◌*◌, ◌/◌, ◌<◌}
use native.Mathlib.Omega.{arith}
use lib.ListN.{get_or}
use Rattle.bits.specs.Bits.{bits_of}
use Rattle.bits.proofs.Laws.{byte_is}
use Rattle.field_reader.proofs.lists.piece.Goals as goal

pub returns-in-Some : goal.returns-in-Some
returns-in-Some c =
    let a = c.args in
    let s = a.b.now in
    let x = get_or s (a.at / 8) 0 in
    let h : x < 256 = omega (arith, c.type_inv.b (a.at / 8)) in
    let e : a.at / 8 * 8 ≡ a.at = omega arith in
    let m : 8 ≡ a.n = omega arith in
    let y : c.in-Some.byte.now ≡ x = c.in-Some.ensures.lookup.3.1 0 in
    c.from.ensures ∙ y ∙ byte_is s (a.at / 8) x refl h ∙ ap (λ (f : ℕ). bits_of s f 8) e ∙ ap (bits_of s a.at) m
