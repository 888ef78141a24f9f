-- `index::judging::doubled` meets its contract. The loop's invariant: a number is held twice in the whole exactly where, in what is left, a marked
-- number or a second one stands. Assumes nothing.
use Rattle.std.proofs.Common.{◌≡◌, drop}
use Rattle.index.specs.Table.{numbers_of, held_twice}
use Rattle.index.specs.Steps.{marked}
use Rattle.index.proofs.Twice.{again}
use Rattle.index.proofs.judging.doubled.Given as goal

abbrev pub invariant-loop-e : goal.invariant-loop-e
invariant-loop-e l = held_twice (numbers_of l.entries) ≡ again (marked l.marks) (numbers_of (drop l.e-index l.entries))
