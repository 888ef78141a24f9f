-- `field_items::given::Gathered::found` meets its contract. Assumes nothing.
use borrow.Author.Rules.{rules}
use borrow.Author.Tests.{le-leb, lt-leb}
use mathlib.Core.Path.{◌≡◌, refl}
use Prim.Native.Nat.{◌-◌, ◌≤◌}
use native.Mathlib.Omega.{arith}
use lib.ListN.{length, get_or-eq_default}
use Rattle.std.specs.Prelude.{None}
use Rattle.field_items.specs.Given.{found_in}
use Rattle.field_items.proofs.given.Gathered.found.Goals as goal

pub returns-in_err-k : goal.returns-in_err-k
unfolding found_in
returns-in_err-k c =
    let b : 201 ≤ c.args.item → ⊥ = rw c.in_err-k.was at c.checked_sub.ensures in
    rw (c.from_residual.ensures, lt-leb 201 c.args.item (omega arith)) refl

pub returns-then-k-lt-SLOTS : goal.returns-then-k-lt-SLOTS
unfolding found_in
returns-then-k-lt-SLOTS c =
    let b = rw c.in_ok-k.was at c.checked_sub.ensures in
    rw (le-leb 201 c.args.item b.0, b.1) refl

pub returns-else-k-lt-SLOTS : goal.returns-else-k-lt-SLOTS
unfolding found_in
returns-else-k-lt-SLOTS c =
    let a = c.args in
    let b = rw c.in_ok-k.was at c.checked_sub.ensures in
    let n : length a.self.now.0 ≡ 37 = search rules in
    rw (le-leb 201 a.item b.0, get_or-eq_default a.self.now.0 None {n = a.item - 201} (omega (arith, b.1))) refl
