-- `frames::inserted::Part::run` meets its contract: the highest digit of the fives is the end of the run. Assumes nothing.
use Prim.Native.Nat.{◌+◌, ◌-◌, ◌≤◌}
use mathlib.Core.Path.{sym, ◌∙◌}
use lib.Count.{count_leading_zeros}
use Rattle.frames.specs.Steps.{RunIs}
use Rattle.frames.proofs.Runs.{all_clear, found}
use Rattle.frames.proofs.inserted.Part.run.Goals as goal
use Rattle.frames.proofs.inserted.Part.run.Goals.{Else-five-eq0}

run-found : (c : Else-five-eq0) → let a = c.args.self in let z = count_leading_zeros 64 c.fives-five.result in
    (63 ≤ a.count + z) × RunIs a.ones a.count a.bits (a.count + z - 63) 5
run-found c =
    let a = c.args.self in
    let h = a.in_range in
    found a.ones a.count a.bits c.behind_ones-y.result h.0 h.1 h.3 c.behind_ones-y.ensures.0
    c.fives-five.result c.fives-five.ensures c.if-five-eq0.false h.2

pub returns-then-five-eq0 : goal.returns-then-five-eq0
returns-then-five-eq0 c =
    let a = c.args.self in
    let h = a.in_range in
    all_clear a.ones a.count a.bits c.behind_ones-y.result h.0 h.1 h.3 c.behind_ones-y.ensures.0 (sym c.fives-five.ensures ∙ c.if-five-eq0.true)

pub overflow_sub-result : goal.overflow_sub-result
overflow_sub-result c = (run-found ((goal.at.overflow_sub-result c).Else-five-eq0)).0

pub returns-else-five-eq0 : goal.returns-else-five-eq0
returns-else-five-eq0 c = (run-found ((goal.at.returns-else-five-eq0 c).Else-five-eq0)).1
