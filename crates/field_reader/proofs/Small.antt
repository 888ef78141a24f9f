-- What the table says of a field whose type has a row: its numbers are small, and its parts of no bits are at fault nowhere. Assumes nothing.
use mathlib.Core.Path.{◌≡◌}
use mathlib.Core.List.{List}
use Prim.Native.Nat.{ℕ, ◌*◌, ◌≤◌, ◌<◌}
use Rattle.fields.specs.declared.Row.{Row}
use Rattle.fields.specs.Table.{row_at, widths_at, rules_at, values_of, Quiet, RowSmall}
use Rattle.fields.specs.Reading.{values_at}
use Rattle.fields.proofs.Rows.{row_small, rest_quiet, values_fit}
use Rattle.fields.proofs.Entries.{product}

pub small : (s : List ℕ) (a i : ℕ) (r : Row) (v : List ℕ) → i < 22 → r ≡ row_at i → v ≡ values_at s a i → RowSmall r v
small s a i r v h p q = rw (p, q) (row_small i (values_of s a (widths_at i)) h (values_fit s a (widths_at i)))

pub quiet : (s : List ℕ) (a i : ℕ) (v : List ℕ) → i < 22 → v ≡ values_at s a i → Quiet (widths_at i) (rules_at i) v
quiet s a i v h q = rw q (rest_quiet i (values_of s a (widths_at i)) h (values_fit s a (widths_at i)))

-- the bits of its steps
pub steps_small : (r : Row) (v : List ℕ) (n : ℕ) → RowSmall r v → n ≤ 46 → r.step * n ≤ 80 * 46
steps_small r v n p h = product r.step n 80 46 p.step h
