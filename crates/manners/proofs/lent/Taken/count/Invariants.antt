-- `manners::lent::Taken::count` meets its contract: each outcome brings its breaches. Assumes nothing.
use Prim.Native.Nat.{◌-◌}
use Rattle.manners.proofs.Gathered.{Counted}
use Rattle.manners.proofs.lent.Taken.count.Given as goal

abbrev pub invariant-loop-place : goal.invariant-loop-place
invariant-loop-place g l = Counted l.self.form (g.L.Element.words l.self.held.now) l.place l.k

abbrev pub decreases-loop-place : goal.decreases-loop-place
decreases-loop-place g l = l.n - l.place
