-- `report_writer::field::count` meets its contract: neither shift loses a bit of a number below 2 ^ 20. Assumes nothing.
use Rattle.std.proofs.Common.{ℕ, ◌-◌, ◌*◌, ◌/◌, ◌^◌, ◌≤◌, arith}
use Rattle.std.proofs.Math.Nat.{mul-le-mul_left, div-mul-le_self}
use Rattle.std.proofs.Math.Pow.{pow_mono}
use Rattle.report_writer.proofs.field.count.Goals as goal

-- a number times a power that is at least 2 ^ i, or at most 2 ^ j
shifted : (n k : ℕ) → k ≤ 11 → n * 2 ^ k ≤ n * 2 ^ 11
shifted n k h = mul-le-mul_left n (pow_mono h)

halved : (n k : ℕ) → 1 ≤ k → n / 2 ^ k * 2 ≤ n
halved n k h = omega (arith, mul-le-mul_left (n / 2 ^ k) (pow_mono h), div-mul-le_self n (2 ^ k))

pub overflow_add-result : goal.overflow_add-result
overflow_add-result g c = omega (arith, shifted c.args.n (12 - g.row.END) (omega arith), halved c.args.n g.row.BITS (omega arith))

pub returns : goal.returns
returns g c = omega (arith, shifted c.args.n (12 - g.row.END) (omega arith), halved c.args.n g.row.BITS (omega arith))
