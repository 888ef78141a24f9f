-- What each call of the index answers, and what the table then holds, from what the crate `index` answers. Definitions only.
use Rattle.std.specs.Prelude.{ℕ, ◌+◌, ◌*◌, cond, List, ◌≡◌, ltb, Option, Some, None, Result, Ok, Err}
use Rattle.index.specs.declared.Entry.{Entry}
use Rattle.index.specs.declared.Indexed.{Indexed}
use Rattle.index.specs.declared.Indexed.TheVariants as I
use Rattle.index.specs.declared.IndexRefusal.{IndexRefusal}
use Rattle.index.specs.Numbers.{index_number}
use Rattle.index.specs.Entries.{uncorrelated, entry_of}
use Rattle.index.specs.Indexing.{indexed, left_as}
use Rattle.lines.specs.Links.{read_bytes_on}
use Rattle.reports.specs.Altitude.{AltitudeForm}

-- ---- what was done. No two of these numbers, the kinds' and the refusals' are the same (tests/header.rs)

abbrev entered_done : ℕ
entered_done = 123

abbrev replaced_done : ℕ
replaced_done = 124

abbrev left_done : ℕ
left_done = 125

abbrev found_done : ℕ
found_done = 126

abbrev missing_done : ℕ
missing_done = 127

-- ---- an answer as one number

-- the entries are counted in these
abbrev step : ℕ
step = 256

-- what was done, and behind it the entry where it was done
abbrev pub done_at : ℕ → ℕ → ℕ
done_at done entry = done + step * entry

abbrev pub answer_number : Result Indexed IndexRefusal → ℕ
answer_number (Ok (I.Entered i)) = done_at entered_done i
answer_number (Ok (I.Replaced i)) = done_at replaced_done i
answer_number (Ok I.Left) = left_done
answer_number (Err q) = index_number q

abbrev pub found_number : Result (Option ℕ) IndexRefusal → ℕ
found_number (Ok (Some i)) = done_at found_done i
found_number (Ok None) = missing_done
found_number (Err q) = index_number q

-- ---- the calls

-- what the outcome at the place of the line brings, with the scan number. An entry has no link number
abbrev pub entry_at : AltitudeForm → ℕ → List ℕ → ℕ → ℕ → Entry
entry_at form link bytes place scan = entry_of (read_bytes_on form link bytes place).outcome scan

-- what entering promises: this entry is entered
pub record Enters (form : AltitudeForm) (link : ℕ) (table : List Entry) (bytes : List ℕ) (place scan answer : ℕ) (exit : List Entry) : Type 0 where
  pub answers : answer ≡ answer_number (indexed table (entry_at form link bytes place scan).number)
  pub leaves : exit ≡ left_as (indexed table (entry_at form link bytes place scan).number) table (entry_at form link bytes place scan)

-- how many numbers sixteen bits have
abbrev numbers : ℕ
numbers = 65536

-- a greater number is in no entry, as 0 is in none
abbrev pub file_number : ℕ → ℕ
file_number n = cond (ltb n numbers) n uncorrelated
