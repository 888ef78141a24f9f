-- What each call that reads a link data field answers, from what the reader of fields answers. Definitions only.
use Rattle.std.specs.Prelude.{ℕ, ◌-◌, ◌/◌, cond, ◌||◌, eqb, Err, None, Ok, Option, Result, Some}
use Rattle.fields.specs.declared.Record.{Record}
use Rattle.fields.specs.declared.Record.TheVariants.{Single, Relay}
use Rattle.field_items.specs.Items.{item_of, inner_of}
use Rattle.refusals.specs.declared.FieldRefusal.{FieldRefusal}

-- ---- types

abbrev pub outer_of : Record → ℕ
outer_of (Single f) = inner_of (Single f)
outer_of (Relay x f) = 0x03

abbrev pub inner_type : Result Record FieldRefusal → ℕ
inner_type (Ok r) = inner_of r
inner_type (Err q) = 0

abbrev pub type_of : Result Record FieldRefusal → ℕ
type_of (Ok r) = outer_of r
type_of (Err q) = 0

-- ---- items

abbrev pub item_in : Result Record FieldRefusal → ℕ → Option ℕ
item_in (Ok r) k = item_of r k
item_in (Err q) k = None

abbrev pub is_there : Option ℕ → ℕ
is_there (Some x) = 1
is_there None = 0

-- ---- lists

-- how many entries an accepted field of that type and count has: 9B has 16+8(N+1) bits, 9A and 96 have 16+24 times their entries
abbrev pub entries_of : ℕ → ℕ → ℕ
entries_of t count = cond (eqb t 0x9B) ((count - 16) / 8) (cond (eqb t 0x9A || eqb t 0x96) ((count - 16) / 24) 0)
