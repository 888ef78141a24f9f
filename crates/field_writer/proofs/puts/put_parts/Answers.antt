-- `field_writer::puts::put_parts` meets its contract: what is left to write, written to the bytes of now, gives what is asked. Assumes nothing.
use mathlib.Core.Path.{◌≡◌, sym, ap, ◌∙◌}
use Prim.Native.Nat.{suc}
use native.Mathlib.Omega.{arith}
use lib.ListN.{length}
use Rattle.std.proofs.lemmas.Slice.Zip.{Zip-more, either_empty_from_Zip}
use Rattle.bits.proofs.Laws.{length-put_bits}
use Rattle.field_writer.proofs.Laws.{put_all_step, put_all_none}
use Rattle.field_writer.proofs.puts.put_parts.Goals as goal

pub loop-width-preserved : goal.loop-width-preserved
loop-width-preserved c =
    let p = c.write in
    let l = c.loop-width in
    let z = Zip-more l.width-iterator c.next.new.self c.next.result (c.in-Some.width, c.in-Some.x) c.in-Some.is c.next.ensures.steps in (
      λ k. rw z.0 at (l.invariant.0 (suc k)),
      (let f = rw z.0 at l.invariant.1 in let w = rw z.0 at (l.invariant.0 0) in omega (arith, c.from-w.ensures, f, w)),
      rw (p.ensures, length-put_bits) l.invariant.2,
      rw (p.ensures, c.from-w.ensures) (sym (put_all_step l.s l.at _ _ _ _) ∙ (rw (z.0, z.1) at l.invariant.3)),
    )

pub returns : goal.returns
returns c =
    let l = c.loop-width in
    sym (put_all_none l.s l.at _ _ (either_empty_from_Zip l.width-iterator c.next.new.self c.next.result c.in-None.is c.next.ensures.steps)) ∙ l.invariant.3
