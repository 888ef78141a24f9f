-- `frames::writing::deciding` meets its contract: each row in its order. Assumes nothing.
use mathlib.Core.Path.{◌≡◌, sym, ap, ◌∙◌}
use mathlib.Core.Bool.{false}
use native.Mathlib.Omega.{arith}
use lib.ListN.{length}
use Rattle.frames.specs.Stream.{bits_from}
use Rattle.frames.specs.Zeros.{with_zeros}
use Rattle.frames.specs.Frame.{between}
use Rattle.frames.specs.Reading.{count_over}
use Rattle.frames.specs.Writing.{given}
use Rattle.frames.proofs.Decided.{bytes_over, field_over, too_long, no_room, room}
use Rattle.frames.proofs.writing.deciding.Goals as goal
use Rattle.frames.proofs.writing.deciding.Goals.{After-with_zeros-between, Else-count_over-2, then-count_over-via-then-count_over, then-count_over-via-else-count_over+then-count_over-2}

-- the two counts are within their bits
lent-and-full : (c : Else-count_over-2) → let a = c.args in
    (count_over a.length a.count ≡ false) × (count_over (length a.frame.field.now) a.frame.count ≡ false)
lent-and-full c = (sym c.if-count_over.ensures, sym c.if-count_over-2.ensures)

-- what stands between the flags
between_is : (c : After-with_zeros-between) → let f = c.args.frame in
    bits_from c.with_zeros-between.result.bytes 0 c.with_zeros-between.result.count ≡ between (given f.way f.control f.field.now f.count)
between_is c = c.with_zeros-between.ensures.0 ∙ ap (with_zeros 0) c.body_of.ensures.0

pub returns-then-count_over-clause-err : goal.returns-then-count_over-clause-err
returns-then-count_over-clause-err c =
    elim c.then-count_over.branch [
      | then-count_over-via-then-count_over w ↦ bytes_over _ _ _ _ _ _ _ (sym w.if-count_over.ensures)
      | then-count_over-via-else-count_over+then-count_over-2 w ↦
          field_over _ _ _ _ _ _ _ (sym w.if-count_over.ensures) (sym w.if-count_over-2.ensures)
    ]

pub returns-then-frame-gt-MOST_OF_FIELD-clause-err : goal.returns-then-frame-gt-MOST_OF_FIELD-clause-err
returns-then-frame-gt-MOST_OF_FIELD-clause-err c =
    let l = lent-and-full ((goal.at.returns-then-frame-gt-MOST_OF_FIELD-clause-err c).Else-count_over-2) in
    too_long _ _ _ _ _ _ _ l.0 l.1 c.if-frame-gt-MOST_OF_FIELD.true

pub returns-then-saturating_sub-between-clause-err : goal.returns-then-saturating_sub-between-clause-err
returns-then-saturating_sub-between-clause-err c =
    let at = goal.at.returns-then-saturating_sub-between-clause-err c in
    let l = lent-and-full at.Else-count_over-2 in
    no_room _ _ _ _ _ _ _ l.0 l.1 c.if-frame-gt-MOST_OF_FIELD.false _ _ (between_is at.After-with_zeros-between)
    (omega (arith, c.saturating_sub.ensures, c.if-saturating_sub-between.true))

pub returns-clause-ok : goal.returns-clause-ok
returns-clause-ok c =
    let at = goal.at.returns-clause-ok c in
    let l = lent-and-full at.Else-count_over-2 in
    room _ _ _ _ _ _ _ l.0 l.1 c.if-frame-gt-MOST_OF_FIELD.false _ _ (between_is at.After-with_zeros-between)
    (omega (arith, c.saturating_sub.ensures, c.if-saturating_sub-between.false))
