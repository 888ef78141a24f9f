-- `field_writer::puts::fit_all` meets its contract: what the parts that are left say is what all of them say. Assumes nothing.
use mathlib.Core.Path.{◌≡◌, sym, ap, ◌∙◌}
use Prim.Native.Nat.{suc, ◌≤◌}
use lib.ListN.{get_or}
use native.Mathlib.Omega.{arith}
use Rattle.std.proofs.lemmas.Slice.Zip.{Zip-more, either_empty_from_Zip}
use Rattle.field_writer.proofs.Laws.{fit_all_good, fit_all_bad, fit_all_none, shifted_out, shifted_in}
use Rattle.field_writer.proofs.puts.fit_all.Goals as goal

pub loop-width-preserved : goal.loop-width-preserved
loop-width-preserved c =
    let l = c.loop-width in
    let z = Zip-more l.width-iterator c.next.new.self c.next.result (c.in-Some.width, c.in-Some.x) c.in-Some.is c.next.ensures.steps in (
      λ k. rw z.0 at (l.invariant.0 (suc k)),
      sym (fit_all_good _ _ _ _ (shifted_out _ _ c.if-x-width-ne0.false)) ∙ (rw (z.0, z.1) at l.invariant.1),
    )

pub returns-then-x-width-ne0 : goal.returns-then-x-width-ne0
returns-then-x-width-ne0 c =
    let l = c.loop-width in
    let z = Zip-more l.width-iterator c.next.new.self c.next.result (c.in-Some.width, c.in-Some.x) c.in-Some.is c.next.ensures.steps in
    sym (fit_all_bad _ _ _ _ (shifted_in _ _ c.if-x-width-ne0.true)) ∙ (rw (z.0, z.1) at l.invariant.1)

pub returns : goal.returns
returns c =
    let l = c.loop-width in
    sym (fit_all_none _ _ (either_empty_from_Zip l.width-iterator c.next.new.self c.next.result c.in-None.is c.next.ensures.steps)) ∙ l.invariant.1
