-- What a call on the index answers, and what the table then holds (document 02, Ticket 3): a report entered, and a number's entry found.
-- Definitions only.
use Rattle.std.specs.Prelude.{ℕ, not, cond, ◌||◌, List, [], ◌∷◌, ◌++◌, ◌≡◌, eqb, set, Option, Some, None, Result, Ok, Err}
use Rattle.rows.specs.Rows.{Row, row, first_of}
use Rattle.index.specs.declared.Entry.{Entry}
use Rattle.index.specs.declared.Indexed.{Indexed}
use Rattle.index.specs.declared.Indexed.TheVariants as I
use Rattle.index.specs.declared.IndexRefusal.{IndexRefusal}
use Rattle.index.specs.declared.IndexRefusal.TheVariants.{TableBroken, TableFull}
use Rattle.index.specs.Entries.{uncorrelated}
use Rattle.index.specs.Table.{numbers_of, holds, place_of, broken_rows}

-- ---- a report is entered

-- the rows, in order: 50; a number that is never entered; 51, "table full and a number other than 0 not in it"
abbrev pub enter_rows : List Entry → ℕ → List (Row (Result Indexed IndexRefusal))
enter_rows table x =
    broken_rows (Err TableBroken) table
    ++ (row (eqb x uncorrelated) (Ok I.Left)
    ∷ row (not (holds x (numbers_of table) || holds uncorrelated (numbers_of table))) (Err TableFull)
    ∷ [])

-- "a new number takes the first unused one. A later report replaces the earlier in its entry."
abbrev pub taken : List ℕ → ℕ → Indexed
taken numbers x = cond (holds x numbers) (I.Replaced (place_of x numbers)) (I.Entered (place_of uncorrelated numbers))

-- the answer: these rows, and where none holds, the entry that is taken
unfoldable pub indexed : List Entry → ℕ → Result Indexed IndexRefusal
indexed table x = first_of (enter_rows table x) (Ok (taken (numbers_of table) x))

-- the table after an answer: the report is in its entry, and all others are as they were
abbrev pub left_as : Result Indexed IndexRefusal → List Entry → Entry → List Entry
left_as (Ok (I.Entered i)) table e = set table i e
left_as (Ok (I.Replaced i)) table e = set table i e
left_as (Ok I.Left) table e = table
left_as (Err q) table e = table

-- what the call with a table and what an outcome brings promises
pub record Indexes (table : List Entry) (e : Entry) (answer : Result Indexed IndexRefusal) (exit : List Entry) : Type 0 where
  pub answers : answer ≡ indexed table e.number
  pub leaves : exit ≡ left_as (indexed table e.number) table e

-- ---- a number's entry is found

-- the rows, in order: 50; 0 is no number of an entry; a number that is not in the table
abbrev pub find_rows : List Entry → ℕ → List (Row (Result (Option ℕ) IndexRefusal))
find_rows table x =
    broken_rows (Err TableBroken) table
    ++ (row (eqb x uncorrelated) (Ok None) ∷ row (not (holds x (numbers_of table))) (Ok None) ∷ [])

unfoldable pub found : List Entry → ℕ → Result (Option ℕ) IndexRefusal
found table x = first_of (find_rows table x) (Ok (Some (place_of x (numbers_of table))))
