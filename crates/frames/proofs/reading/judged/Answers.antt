-- `frames::reading::judged` meets its contract: each row in its order. Assumes nothing.
use mathlib.Core.Path.{sym, ap, ◌∙◌}
use native.Mathlib.Omega.{arith}
use Rattle.bits.proofs.Laws.{whole}
use Rattle.frames.specs.Reading.{found_at}
use Rattle.frames.proofs.Judging.{wrong-length, too_short, too_long, right_check, wrong-check}
use Rattle.frames.proofs.reading.judged.Goals as goal
use Rattle.frames.proofs.reading.judged.Goals.{then-body-lt-FEWEST-via-then-body-lt-FEWEST, then-body-lt-FEWEST-via-else-body-lt-FEWEST+then-body-gt-MOST}

pub returns-then-body-lt-FEWEST : goal.returns-then-body-lt-FEWEST
returns-then-body-lt-FEWEST c =
    elim c.then-body-lt-FEWEST.branch [
      | then-body-lt-FEWEST-via-then-body-lt-FEWEST w ↦
          c.nothing.ensures ∙ ap (found_at _) (wrong-length _ (too_short _ _ w.if-body-lt-FEWEST.true))
      | then-body-lt-FEWEST-via-else-body-lt-FEWEST+then-body-gt-MOST w ↦
          c.nothing.ensures ∙ ap (found_at _) (wrong-length _ (too_long _ _ w.if-body-gt-MOST.true))
    ]

pub returns-then-check-read : goal.returns-then-check-read
returns-then-check-read c =
    let k = c.check.ensures in
    let e = c.read.ensures ∙ whole _ _ 16 (omega arith) in
    c.addressed.ensures ∙ ap (found_at _) (right_check _ _ (omega arith) (omega arith) (sym k ∙ c.if-check-read.true ∙ e))

pub returns-else-check-read : goal.returns-else-check-read
returns-else-check-read c =
    let k = c.check.ensures in
    let e = c.read.ensures ∙ whole _ _ 16 (omega arith) in
    c.nothing-else-check-read.ensures ∙ ap (found_at _) (wrong-check _ _ (omega arith) (omega arith) (λ h. c.if-check-read.false (k ∙ h ∙ sym e)))
