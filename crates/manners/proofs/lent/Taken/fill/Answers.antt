-- `manners::lent::Taken::fill` meets its contract: each outcome brings its breaches, and they are stored behind those before. Assumes nothing.
use Rattle.std.proofs.Common.{[], ◌∷◌, sym, ◌∙◌, arith}
use Rattle.reports.specs.Altitude.{form_of}
use Rattle.manners.specs.Breaches.{breach, breaches}
use Rattle.manners.specs.Steps.{breaches_at}
use Rattle.manners.proofs.Stored.{room_for, more, full}
use Rattle.manners.proofs.Gathered.{Step, step, none_from, next_is, one_left}
use Rattle.manners.proofs.lent.Taken.fill.Goals as goal
use Rattle.manners.proofs.lent.Taken.fill.Goals.{After-outcome_at-o}

stepped : (g : _) (c : After-outcome_at-o g) → Step c.args.self.now.form (g.L.Element.words c.args.self.now.held.now) c.loop-place.place c.outcome_at-o.result
stepped g c =
    step c.args.self.now.form (g.L.Element.words c.args.self.now.held.now) c.loop-place.place c.outcome_at-o.result
    c.args.self.now.short
    c.loop-place.invariant.inside
    c.outcome_at-o.ensures

pub put-requires-clause-room : goal.put-requires-clause-room
put-requires-clause-room g c =
    room_for g.met.L.Element.laws c.loop-place.invariant.filling
    (one_left (stepped g (goal.at.put-requires-clause-room g c).After-outcome_at-o) (sym c.found_in.ensures ∙ c.in-Some.is))
    c.requires

pub put-requires-clause-in_line : goal.put-requires-clause-in_line
put-requires-clause-in_line g c =
    let short = c.args.self.now.short in
    let first = (stepped g (goal.at.put-requires-clause-in_line g c).After-outcome_at-o).first in
    omega arith

pub loop-place-smaller-in-Some : goal.loop-place-smaller-in-Some
loop-place-smaller-in-Some g c =
    let on = (stepped g (goal.at.loop-place-smaller-in-Some g c).After-outcome_at-o).onward (omega (arith, c.count_words-n.ensures, c.loop-place-test.true)) in omega arith

pub loop-place-preserved-in-Some : goal.loop-place-preserved-in-Some
loop-place-preserved-in-Some g c =
    let s = stepped g (goal.at.loop-place-preserved-in-Some g c).After-outcome_at-o in
    let is = sym c.found_in.ensures ∙ c.in-Some.is in
    let f = c.loop-place.invariant.filling in
    let line = g.L.Element.words c.args.self.now.held.now in
    let all = breaches (form_of c.args.self.now.form) line in
    let left = breaches_at (form_of c.args.self.now.form) line c.loop-place.place in
    let new = breach c.outcome_at-o.result.first c.in-Some.rule ∷ [] in
    record {
      inside = s.after;
      filling = rw c.put.ensures (more g.met.L.Element.laws {all = all} {left = left} new f (next_is s is) (room_for g.met.L.Element.laws {all = all} {left = left} f (one_left s is) c.requires));
    }

pub loop-place-smaller : goal.loop-place-smaller
loop-place-smaller g c =
    let on = (stepped g (goal.at.loop-place-smaller g c).After-outcome_at-o).onward (omega (arith, c.count_words-n.ensures, c.loop-place-test.true)) in omega arith

pub loop-place-preserved : goal.loop-place-preserved
loop-place-preserved g c =
    let s = stepped g (goal.at.loop-place-preserved g c).After-outcome_at-o in
    let is = next_is s (sym c.found_in.ensures ∙ c.in_default.is) in
    record { inside = s.after; filling = rw is at c.loop-place.invariant.filling }

pub returns-clause-all : goal.returns-clause-all
returns-clause-all g c =
    let f = c.loop-place.invariant.filling in
    let counted = f.counted in
    let none = none_from c.args.self.now.form (g.L.Element.words c.args.self.now.held.now) c.loop-place.place c.loop-place.invariant.inside (omega (arith, c.count_words-n.ensures)) in
    omega arith

pub returns-clause-said : goal.returns-clause-said
returns-clause-said g c =
    full g.met.L.Element.laws c.loop-place.invariant.filling
    (none_from c.args.self.now.form (g.L.Element.words c.args.self.now.held.now) c.loop-place.place c.loop-place.invariant.inside (omega (arith, c.count_words-n.ensures)))
