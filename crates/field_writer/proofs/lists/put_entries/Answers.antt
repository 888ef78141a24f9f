-- `field_writer::lists::put_entries` meets its contract: what is left to write, written to the bytes of now, gives what is asked. Assumes nothing.
use borrow.Author.Rules.{rules}
use mathlib.Core.Path.{◌≡◌, sym, ap, ◌∙◌}
use native.Mathlib.Omega.{arith}
use mir.Syntax.{w32}
use mir.Facts.{to_z-of_z}
use lib.IntN.{pos}
use lib.ListN.{length, get_or}
use lib.Seq.{get_or-take}
use Rattle.bits.proofs.Laws.{length-put_bits}
use Rattle.fields.specs.Lists.{entries_bits, entry_bits}
use Rattle.fields.proofs.Puts.{entries_bits-length}
use Rattle.field_writer.proofs.Laws.{same_step, same_none, entries_bits_at}
use Rattle.field_writer.proofs.lists.put_entries.Goals as goal

pub loop-k-preserved : goal.loop-k-preserved
loop-k-preserved c =
    let p = c.write in
    let x = c.entry_bits in
    let l = c.loop-k in
    let a = c.args in
    let m : length a.list.now ≡ 30 = search rules in
    let vs = entries_bits a.step a.n a.list.now in
    let n : length vs ≡ a.n = entries_bits-length a.step a.n a.list.now (omega arith) in
    let t = get_or-take a.n a.list.now l.k (pos 0) (omega arith) in
    let e : x.result ≡ get_or vs l.k 0 = x.ensures ∙ ap (entry_bits a.step) (to_z-of_z {w = w32} (record { sfits = c.z-1.given }) ∙ t) ∙ sym (entries_bits_at a.step a.n a.list.now l.k (omega arith) (omega arith)) in (
      rw (p.ensures, length-put_bits) l.invariant.0,
      rw (p.ensures, e) (sym (same_step l.s a.before a.step a.n vs l.k (omega arith) (omega arith)) ∙ l.invariant.1),
    )

pub returns : goal.returns
returns c = let l = c.loop-k in sym (same_none l.s _ _ _ _ _ (omega arith)) ∙ l.invariant.1
