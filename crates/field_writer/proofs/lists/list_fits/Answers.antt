-- `field_writer::lists::list_fits` meets its contract: what the numbers from k on say is what all of them say. Assumes nothing.
use borrow.Author.Rules.{rules}
use mathlib.Core.Path.{◌≡◌, sym, ap, ◌∙◌}
use Prim.Native.Nat.{ℕ, ◌-◌, ◌<◌}
use native.Mathlib.Decide.{dec_lt}
use lib.Dec.{eqb, leb}
use borrow.Author.Tests.{eq-eqb, ne_eqb, le-leb, lt-leb}
use native.Mathlib.Omega.{arith}
use lib.IntN.{pos}
use mir.Syntax.{w32}
use mir.Facts.{to_z-of_z}
use lib.ListN.{length, get_or, drop_of_length-le}
use Rattle.fields.specs.Lists.{list_fits}
use Rattle.field_writer.specs.Lists.{entry_ok}
use Rattle.field_writer.proofs.Laws.{list_fits_bad, list_fits_good}
use Rattle.field_writer.proofs.lists.list_fits.Goals as goal
use Rattle.field_writer.proofs.lists.list_fits.Goals.{After-entry_ok}

-- what the number at k says
ok : (c : After-entry_ok) →
    let l = c.loop-k in
    let a = c.args in
    entry_ok a.step a.n l.k (get_or a.list.now l.k (pos 0)) ≡ c.entry_ok.result
ok c = ap (entry_ok _ _ _) (sym (to_z-of_z {w = w32} (record { sfits = c.z-1.given }))) ∙ sym c.entry_ok.ensures

within : (n : ℕ) → leb n 30 ≡ eqb (n - 30) 0
within n = go (dec_lt 30 n)
  where
    go : Dec (30 < n) → leb n 30 ≡ eqb (n - 30) 0
    go (yes h) = lt-leb n 30 h ∙ sym (ne_eqb (n - 30) 0 (λ e. omega arith))
    go (no h) = le-leb n 30 (omega arith) ∙ sym (eq-eqb (n - 30) 0 (omega arith))

pub loop-k-preserved : goal.loop-k-preserved
loop-k-preserved c =
    let l = c.loop-k in
    let a = c.args in
    let m : length a.list.now ≡ 30 = search rules in
    sym (list_fits_good a.step a.n a.list.now l.k (omega arith) (ok ((goal.at.loop-k-preserved c).After-entry_ok) ∙ c.if-not-entry_ok.false)) ∙ l.invariant

pub returns-then-not-entry_ok : goal.returns-then-not-entry_ok
returns-then-not-entry_ok c =
    let l = c.loop-k in
    let a = c.args in
    let m : length a.list.now ≡ 30 = search rules in
    sym (list_fits_bad a.step a.n a.list.now l.k (omega arith) (ok ((goal.at.returns-then-not-entry_ok c).After-entry_ok) ∙ c.if-not-entry_ok.true)) ∙ l.invariant

pub returns : goal.returns
unfolding list_fits
returns c =
    let l = c.loop-k in
    let a = c.args in
    let m : length a.list.now ≡ 30 = search rules in
    let e : l.k ≡ 30 = omega arith in
    within a.n ∙ (rw (e, drop_of_length-le a.list.now {i = 30} (omega arith)) at l.invariant)
