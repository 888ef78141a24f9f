-- `field_writer::writing::write` meets its contract: a refusal leaves the bytes as they were. Assumes nothing.
use mathlib.Core.Path.{sym, ◌∙◌}
use Rattle.field_writer.proofs.Left.{placed, unplaced, left_by}
use Rattle.field_writer.proofs.writing.write.Goals as goal

pub returns-in_default-clause-left : goal.returns-in_default-clause-left
returns-in_default-clause-left c = let a = c.args in sym (unplaced a.given a.list a.text.now a.s.now c.in_default.ensures).1

pub returns-in_err-n-clause-left : goal.returns-in_err-n-clause-left
returns-in_err-n-clause-left c =
    let a = c.args in
    let g = c.in-Some.ensures in
    let w = rw (g.1, g.2, g.3) at c.answer.ensures in
    sym ((placed a.given a.list a.text.now a.s.now _ g.0).1 ∙ left_by a.given a.list a.text.now a.s.now _ _ (sym w ∙ c.in_err-n.was))

pub returns-clause-left : goal.returns-clause-left
returns-clause-left c =
    let a = c.args in
    let g = c.in-Some.ensures in
    let w = rw (g.1, g.2, g.3) at c.answer.ensures in
    rw (c.put.ensures, g.1, g.2, g.3) (sym ((placed a.given a.list a.text.now a.s.now _ g.0).1 ∙ left_by a.given a.list a.text.now a.s.now _ _ (sym w ∙ c.in_ok-n.was)))
