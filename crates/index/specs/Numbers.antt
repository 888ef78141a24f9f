-- The number that document 02 gives each refusal of the index, in the order of Ticket 3. Definitions only.
use Rattle.std.specs.Prelude.{ℕ}
use Rattle.index.specs.declared.IndexRefusal.{IndexRefusal}
use Rattle.index.specs.declared.IndexRefusal.TheVariants as R

abbrev pub index_number : IndexRefusal → ℕ
-- table over 512, a used entry after an unused one, or a number held twice
index_number R.TableBroken = 50
-- table full and a number other than 0 not in it
index_number R.TableFull = 51
