-- `field_reader::lists::Entries::numbers` meets its contract: what stands in the array, and what is left, is the list. Assumes nothing.
use mathlib.Core.Path.{◌≡◌, sym, ◌∙◌}
use mathlib.Core.List.{[], ◌∷◌, ◌++◌, append_assoc, append-nil}
use Prim.Native.Nat.{◌+◌}
use native.Mathlib.Numerals.{add-one}
use native.Mathlib.Omega.{arith}
use lib.ListN.{take, set, length-set}
use lib.Seq.{take-suc-set, take_all}
use mir.Val.{to_z, of_z}
use mir.Facts.{to_z-of_z}
use mir.Syntax.{w32}
use Rattle.fields.specs.Lists.{entries_in}
use Rattle.field_reader.specs.Lists.{entry_at}
use Rattle.field_reader.proofs.Entries.{rest_step}
use Rattle.field_reader.proofs.lists.Entries.numbers.Goals as goal

pub loop-k-preserved : goal.loop-k-preserved
loop-k-preserved c =
    let l = c.loop-k in
    let a = c.args.self.now in
    let x = to_z w32 (of_z w32 c.at.result) in
    let e : x ≡ entry_at a.bytes.now a.before a.step a.n l.k = to_z-of_z {w = w32} (record { sfits = c.at.type_inv }) ∙ c.at.ensures in
    let t : take (l.k + 1) (set l.entry-items l.k x) ≡ take l.k l.entry-items ++ (x ∷ []) = rw add-one (take-suc-set l.entry-items l.k x (omega arith)) in (
      simp length-set l.invariant.0,
      rw (t, append_assoc, e, ← rest_step a.bytes.now a.before a.step a.n l.k (omega arith)) l.invariant.1,
    )

pub returns : goal.returns
unfolding entries_in
returns c =
    let l = c.loop-k in
    let e : l.k ≡ 30 = omega arith in
    sym (take_all 30 l.entry-items (omega arith)) ∙ sym (append-nil _) ∙ (rw e at l.invariant.1)
