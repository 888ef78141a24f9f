-- `field_reader::lists::entry_of` meets its contract. Assumes nothing.
use mathlib.Core.Path.{◌∙◌}
use native.Mathlib.Nat.{lt_of_lt_of_le}
use lib.Pow.{pow_mono}
use borrow.Author.Tests.{eq-eqb, ne_eqb}
use mir.Facts.{to_z-of_z}
use mir.Syntax.{w32}
use Rattle.fields.specs.Lists.{entry_of}
use Rattle.field_reader.proofs.lists.entry_of.Goals as goal

pub returns-then-step-eq8 : goal.returns-then-step-eq8
unfolding entry_of
returns-then-step-eq8 c = simp (eq-eqb _ _ c.if-step-eq8.true) (to_z-of_z {w = w32} (record { sfits = c.block_of.type_inv }) ∙ c.block_of.ensures)

pub signed_of-requires : goal.signed_of-requires
signed_of-requires c = lt_of_lt_of_le c.requires.1 (pow_mono c.requires.0)

pub returns : goal.returns
unfolding entry_of
returns c = simp (ne_eqb _ _ c.if-step-eq8.false) (to_z-of_z {w = w32} (record { sfits = c.signed_of.type_inv }) ∙ c.signed_of.ensures)
