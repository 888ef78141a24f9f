-- `field_writer::puts::put_text` meets its contract: what is left to write, written to the bytes of now, gives what is asked. Assumes nothing.
use mathlib.Core.Path.{sym, ◌∙◌}
use native.Mathlib.Omega.{arith}
use lib.ListN.{length}
use Rattle.bits.proofs.Laws.{length-put_bits}
use Rattle.field_writer.proofs.Laws.{same_step, same_none}
use Rattle.field_writer.proofs.puts.put_text.Goals as goal

pub loop-k-preserved : goal.loop-k-preserved
loop-k-preserved c =
    let p = c.write in
    let x = c.from in
    let l = c.loop-k in
    let a = c.args in (
      rw (p.ensures, length-put_bits) l.invariant.0,
      rw (p.ensures, x.ensures) (sym (same_step l.s a.before 8 (length a.text.now) a.text.now l.k (omega arith) (omega arith)) ∙ l.invariant.1),
    )

pub returns : goal.returns
returns c = let l = c.loop-k in sym (same_none l.s _ _ _ _ _ (omega arith)) ∙ l.invariant.1
