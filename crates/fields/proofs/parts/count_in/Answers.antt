-- `fields::parts::count_in` meets its contract: sums modulo 2^64 are added up. Assumes nothing.
use Rattle.std.proofs.Common.{◌≡◌, ℕ, ◌+◌, ◌%◌, ◌^◌, arith}
use Rattle.fields.specs.Table.{count_in}
use Rattle.fields.proofs.parts.count_in.Goals as goal

sums : (m a b c : ℕ) → (((m + a) % 2 ^ 64 + b) % 2 ^ 64 + c) % 2 ^ 64 ≡ (m + a + b + c) % 2 ^ 64
sums m a b c = omega arith

pub returns : goal.returns
unfolding count_in
returns c = rw (c.counted.ensures, c.counted-2.ensures, c.counted-3.ensures) (sums _ _ _ _)
