-- `manners::lent::Taken::count` meets its contract: each outcome brings its breaches. Assumes nothing.
use Rattle.std.proofs.Common.{ℕ, Bool, cond, rules, ap, sym, ◌∙◌, arith}
use Rattle.manners.specs.Steps.{count_of}
use Rattle.manners.proofs.Gathered.{Step, step, counted_more, counted_all, one_for_some}
use Rattle.manners.proofs.lent.Taken.count.Goals as goal
use Rattle.manners.proofs.lent.Taken.count.Goals.{After-outcome_at-o}

stepped : (g : _) (c : After-outcome_at-o g) → Step c.args.self.now.form (g.L.Element.words c.args.self.now.held.now) c.loop-place.place c.outcome_at-o.result
stepped g c =
    step c.args.self.now.form (g.L.Element.words c.args.self.now.held.now) c.loop-place.place c.outcome_at-o.result
    c.args.self.now.short
    c.loop-place.invariant.inside
    c.outcome_at-o.ensures

pub loop-place-smaller : goal.loop-place-smaller
loop-place-smaller g c = let on = (stepped g (goal.at.loop-place-smaller g c).After-outcome_at-o).onward (omega (arith, c.count_words-n.ensures, c.loop-place-test.true)) in omega arith

pub loop-place-preserved : goal.loop-place-preserved
loop-place-preserved g c =
    counted_more
    c.loop-place.invariant
    (omega (arith, c.count_words-n.ensures, c.loop-place-test.true))
    (stepped g (goal.at.loop-place-preserved g c).After-outcome_at-o)
    (ap count_of (sym c.found_in.ensures)
    ∙ one_for_some c.found_in.result
    ∙ ap (λ (b : Bool). cond {A = ℕ} b 1 0) (sym c.is_some.ensures)
    ∙ (let e = c.from-k.ensures in search rules))

pub returns : goal.returns
returns g c = counted_all c.loop-place.invariant (omega (arith, c.count_words-n.ensures))
