-- `manners::lent::Taken::fill` meets its contract: each outcome brings its breaches, and they are stored behind those before. Assumes nothing.
use Prim.Native.Nat.{◌-◌, ◌≤◌}
use lib.ListN.{length}
use Rattle.reports.specs.Altitude.{form_of}
use Rattle.manners.specs.Breaches.{breaches}
use Rattle.manners.specs.Steps.{breaches_at, Filling}
use Rattle.manners.proofs.lent.Taken.fill.Given as goal

abbrev pub invariant-loop-place : goal.invariant-loop-place
invariant-loop-place g l =
    let line = g.L.Element.words l.self.held.now in
    let form = form_of l.self.form in
    record {
      inside : l.place ≤ length line;
      filling : Filling g.L.Element.said g.L.Element.WIDTH (breaches form line) (breaches_at form line l.place) l.initial.list l.k l.list;
    }

abbrev pub decreases-loop-place : goal.decreases-loop-place
decreases-loop-place g l = l.n - l.place
