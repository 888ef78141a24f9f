-- `index::judging::doubled` meets its contract. Assumes nothing.
use Rattle.std.proofs.Common.{◌+◌, drop, sym, ap, ◌∙◌, drop_of_length-le}
use Rattle.index.specs.declared.marks.Marks.{Marks}
use Rattle.index.specs.Table.{numbers_of}
use Rattle.index.specs.Steps.{marked}
use Rattle.index.proofs.Looks.{from_place, numbers_none}
use Rattle.index.proofs.Twice.{again, again_twice, second_time, first_time, passed, met_none}
use Rattle.index.proofs.judging.doubled.Goals as goal
use Rattle.index.proofs.judging.doubled.Goals.{After-loop-e, else-e-ne-UNCORRELATED-via-then-e-ne-UNCORRELATED+else-mark, else-e-ne-UNCORRELATED-via-else-e-ne-UNCORRELATED}

pub loop-e-init : goal.loop-e-init
loop-e-init c = sym (again_twice (marked c.none-marks.result) (numbers_of c.args.entries.now) c.none-marks.ensures)

pub returns-then-mark : goal.returns-then-mark
returns-then-mark c =
    sym
    (c.loop-e.invariant
    ∙ ap (again (marked c.loop-e.marks)) (from_place c.args.entries.now c.loop-e.e-index _ c.loop-e-test.true)
    ∙ second_time (marked c.loop-e.marks) _ _ c.if-e-ne-UNCORRELATED.true (sym c.mark.ensures.before ∙ c.if-mark.true))

pub loop-e-preserved : goal.loop-e-preserved
loop-e-preserved c =
    elim c.else-e-ne-UNCORRELATED.branch [
      | else-e-ne-UNCORRELATED-via-then-e-ne-UNCORRELATED+else-mark w ↦
          c.loop-e.invariant
          ∙ ap (again (marked c.loop-e.marks)) (from_place c.args.entries.now c.loop-e.e-index _ c.loop-e-test.true)
          ∙ first_time (marked c.loop-e.marks) _ _ (marked w.mark.new.self) w.if-e-ne-UNCORRELATED.true (sym w.mark.ensures.before ∙ w.if-mark.false) w.mark.ensures.now
          ∙ ap (λ (m : Marks). again (marked m) (numbers_of (drop (c.loop-e.e-index + 1) c.args.entries.now))) (sym w.marks-is)
      | else-e-ne-UNCORRELATED-via-else-e-ne-UNCORRELATED w ↦
          c.loop-e.invariant
          ∙ ap (again (marked c.loop-e.marks)) (from_place c.args.entries.now c.loop-e.e-index _ c.loop-e-test.true)
          ∙ passed (marked c.loop-e.marks) _ _ w.if-e-ne-UNCORRELATED.false
          ∙ ap (λ (m : Marks). again (marked m) (numbers_of (drop (c.loop-e.e-index + 1) c.args.entries.now))) (sym w.marks-is)
    ]

pub returns : goal.returns
returns c =
    sym
    (c.loop-e.invariant
    ∙ ap (λ es. again (marked c.loop-e.marks) (numbers_of es)) (drop_of_length-le _ c.loop-e-test.false)
    ∙ ap (again (marked c.loop-e.marks)) numbers_none
    ∙ met_none (marked c.loop-e.marks))
