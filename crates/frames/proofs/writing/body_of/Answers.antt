-- `frames::writing::body_of` meets its contract: the four steps of Filled.antt. Assumes nothing.
use mathlib.Core.Path.{◌≡◌}
use Prim.Native.Nat.{◌+◌, ◌<◌}
use native.Mathlib.Omega.{arith}
use Rattle.frames.proofs.Filled.{with_address, with_control, with_field, with_check}
use Rattle.frames.proofs.writing.body_of.Goals as goal

pub returns : goal.returns
returns c =
    let f = c.args.frame in
    let byte : f.control < 256 = omega arith in
    let few = c.requires in
    let none : c.new-body.result.count ≡ 0 = omega arith in
    let one : c.put.new.self.count ≡ 8 = omega arith in
    let two : c.put-2.new.self.count ≡ 16 = omega arith in
    let three : c.put_bits_of.new.self.count ≡ f.count + 16 = omega arith in
    let all : c.put-3.new.self.count ≡ f.count + 32 = omega arith in
    let address = with_address f.way f.control f.field.now f.count byte few _ _ c.address_of.ensures (rw (c.new-body.ensures.0, none) at c.put.ensures.0) in
    let control = with_control f.way f.control f.field.now f.count byte few _ _ address (rw (one, c.from.ensures) at c.put-2.ensures.0) in
    let field = with_field f.way f.control f.field.now f.count byte few _ _ control (rw two at c.put_bits_of.ensures.0) in
    (rw all (with_check f.way f.control f.field.now f.count byte few _ _ _ field (rw three at c.check-sequence.ensures) (rw three at c.put-3.ensures.0)), all)
