-- `field_reader::lists::Entries::at` meets its contract. Assumes nothing.
use borrow.Author.Tests.{lt-ltb, le-ltb}
use mathlib.Core.Path.{sym, ap, ◌∙◌, subst}
use Prim.Native.Nat.{ℕ, ◌<◌, ◌^◌}
use native.Mathlib.Omega.{arith}
use mir.Facts.{to_z-of_z}
use mir.Syntax.{w32}
use Rattle.bits.proofs.Laws.{bits_of-lt}
use Rattle.fields.specs.Lists.{entry_of}
use Rattle.field_reader.specs.Lists.{entry_at}
use Rattle.field_reader.proofs.lists.Entries.at.Goals as goal

pub entry_of-requires : goal.entry_of-requires
entry_of-requires c =
    let a = c.args.self.now in
    (omega arith, subst (λ (x : ℕ). x < 2 ^ a.step) (sym c.piece-x.ensures) (bits_of-lt _ _ _))

pub returns-then-k-self : goal.returns-then-k-self
unfolding entry_at
returns-then-k-self c =
    simp (lt-ltb _ _ c.if-k-self.true)
    (to_z-of_z {w = w32} (record { sfits = c.entry_of.type_inv }) ∙ c.entry_of.ensures ∙ ap (entry_of _) c.piece-x.ensures)

pub returns : goal.returns
unfolding entry_at
returns c = simp (le-ltb _ _ c.if-k-self.false)
