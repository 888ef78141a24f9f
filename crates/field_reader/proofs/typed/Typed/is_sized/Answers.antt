-- `field_reader::typed::Typed::is_sized` meets its contract: a row's numbers are small, so the sum fits. Assumes nothing.
use Prim.Native.Nat.{◌*◌, ◌≤◌}
use native.Mathlib.Omega.{arith}
use Rattle.field_reader.proofs.Small.{small, steps_small}
use Rattle.field_reader.proofs.typed.Typed.is_sized.Goals as goal
use Rattle.field_reader.proofs.typed.Typed.is_sized.Goals.{After-steps}

most : (c : After-steps) → (c.args.self.now.row.step * c.steps.result ≤ 80 * 46) × (c.args.self.now.row.base ≤ 96)
most c =
    let f = c.args.self.now in
    let p = small f.bytes.now f.before f.place f.row f.values f.in_table f.its_row f.its_values in
    (steps_small f.row f.values c.steps.result p c.steps.ensures.1, p.base)

pub overflow_mul-result : goal.overflow_mul-result
overflow_mul-result c = omega (arith, most ((goal.at.overflow_mul-result c).After-steps))

pub overflow_add-result : goal.overflow_add-result
overflow_add-result c = let m = most ((goal.at.overflow_add-result c).After-steps) in omega arith

pub overflow_add-result-then-self-ne-RELAY : goal.overflow_add-result-then-self-ne-RELAY
overflow_add-result-then-self-ne-RELAY c =
    let m = most ((goal.at.overflow_add-result-then-self-ne-RELAY c).After-steps) in
    let b = c.args.self.now.near in
    omega arith
