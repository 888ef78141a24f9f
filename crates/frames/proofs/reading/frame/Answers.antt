-- `frames::reading::frame` meets its contract: the control is the second eight bits, and the field stands behind them. Assumes nothing.
use mathlib.Core.Path.{sym, ◌∙◌}
use native.Mathlib.Omega.{arith}
use Rattle.bits.proofs.Laws.{whole, bits_of-lt}
use Rattle.frames.proofs.Judging.{frame_found}
use Rattle.frames.proofs.reading.frame.Goals as goal

pub overflow_cast-control : goal.overflow_cast-control
overflow_cast-control c = omega (arith, c.read-control.ensures ∙ whole _ 8 8 (omega arith), bits_of-lt c.args.body.now.bytes 8 8)

pub returns : goal.returns
returns c =
    let a = c.args in
    sym (frame_found a.body.now.bytes a.body.now.count _ a.place a.way c.field_of.result (omega arith) (c.read-control.ensures ∙ whole _ 8 8 (omega arith)) c.field_of.ensures)
