-- What is claimed of the index (document 02, Ticket 3). Statements only, with what they need to be said; proofs/Claims.antt proves them.
use Rattle.std.specs.Prelude.{ℕ, ◌≤◌, ◌↔◌, ◌⊎◌, true, false, cond, List, [], ◌++◌, map, ◌≡◌, length, drop, Some, None, Ok, Err, Result}
use Rattle.rows.specs.Claims.{FirstIs}
use Rattle.words.specs.Word.{bits, bit}
use Rattle.reports.specs.declared.Report.{Report}
use Rattle.reports.specs.Altitude.{AltitudeForm}
use Rattle.reports.specs.Forms.{is_seven}
use Rattle.reports.specs.Runs.{read_run}
use Rattle.lines.specs.Line.{most as most_words, outcomes}
use Rattle.index.specs.declared.Entry.{Entry}
use Rattle.index.specs.declared.Indexed.TheVariants as I
use Rattle.index.specs.declared.IndexRefusal.{IndexRefusal}
use Rattle.index.specs.declared.IndexRefusal.TheVariants.{TableBroken, TableFull}
use Rattle.index.specs.Entries.{uncorrelated, file_of, entry_of}
use Rattle.index.specs.Table.{most, numbers_of, any_used, holds, place_of, used_in, is_broken}
use Rattle.index.specs.Indexing.{enter_rows, indexed, left_as, find_rows, found}
use Rattle.index.specs.Afresh.{afresh, over, latest, after, not_refused, shown, reports_of}
use Rattle.reports.specs.declared.RunRefusal.{RunRefusal}

-- ---- what is entered

-- the file number by the printed bits: seven words (bits 2-3 are 11) with bit 4 zero are ATCRBS, MTD or RDAS and have it in bits 66-77
abbrev pub printed_number : List ℕ → ℕ
printed_number ws = cond (is_seven ws) (cond (bit ws 4) uncorrelated (bits ws 66 77)) uncorrelated

-- the number that an accepted run brings is that one
abbrev pub NumberAsPrinted : Type 0
NumberAsPrinted = (form : AltitudeForm) (ws : List ℕ) (r : Report) → read_run form ws ≡ Ok r → file_of r ≡ printed_number ws

-- "Used entries stand first, and a new number takes the first unused one": entered at i exactly where the table is not broken, the number is neither 0
-- nor in it, and i is the first unused entry
abbrev pub EnteredExactly : Type 0
EnteredExactly =
    (table : List Entry) (x i : ℕ) →
    (indexed table x ≡ Ok (I.Entered i))
    ↔ ((is_broken table ≡ false)
    × (x ≡ uncorrelated → ⊥)
    × (holds x (numbers_of table) ≡ false)
    × (holds uncorrelated (numbers_of table) ≡ true)
    × (place_of uncorrelated (numbers_of table) ≡ i))

-- "A later report replaces the earlier in its entry": replaced at i exactly where the number is in the table, at i
abbrev pub ReplacedExactly : Type 0
ReplacedExactly =
    (table : List Entry) (x i : ℕ) →
    (indexed table x ≡ Ok (I.Replaced i))
    ↔ ((is_broken table ≡ false) × (x ≡ uncorrelated → ⊥) × (holds x (numbers_of table) ≡ true) × (place_of x (numbers_of table) ≡ i))

-- found at i exactly where the number is in the table, at i
abbrev pub FoundExactly : Type 0
FoundExactly =
    (table : List Entry) (x i : ℕ) →
    (found table x ≡ Ok (Some i))
    ↔ ((is_broken table ≡ false) × (x ≡ uncorrelated → ⊥) × (holds x (numbers_of table) ≡ true) × (place_of x (numbers_of table) ≡ i))

-- missing exactly where the number is 0, or not in the table
abbrev pub MissingExactly : Type 0
MissingExactly =
    (table : List Entry) (x : ℕ) →
    (found table x ≡ Ok None) ↔ ((is_broken table ≡ false) × ((x ≡ uncorrelated) ⊎ (holds x (numbers_of table) ≡ false)))

-- left exactly where the number is 0
abbrev pub LeftExactly : Type 0
LeftExactly = (table : List Entry) (x : ℕ) → (indexed table x ≡ Ok I.Left) ↔ ((is_broken table ≡ false) × (x ≡ uncorrelated))

-- ---- the refusals

-- each of 50 and 51 is given exactly where its row is the first that holds
abbrev pub EnterRefuses : Type 0
EnterRefuses = (table : List Entry) (x : ℕ) (q : IndexRefusal) → (indexed table x ≡ Err q) ↔ FirstIs (enter_rows table x) (Err q)

abbrev pub FindRefuses : Type 0
FindRefuses = (table : List Entry) (x : ℕ) (q : IndexRefusal) → (found table x ≡ Err q) ↔ FirstIs (find_rows table x) (Err q)

-- 50 is given exactly for a broken table, whatever the number is
abbrev pub BrokenExactly : Type 0
BrokenExactly =
    (table : List Entry) (x : ℕ) →
    ((indexed table x ≡ Err TableBroken) ↔ (is_broken table ≡ true)) × ((found table x ≡ Err TableBroken) ↔ (is_broken table ≡ true))

-- 51 is given exactly for a table that is not broken and has no unused entry, and a number other than 0 that is not in it
abbrev pub FullExactly : Type 0
FullExactly =
    (table : List Entry) (x : ℕ) →
    (indexed table x ≡ Err TableFull)
    ↔ ((is_broken table ≡ false) × (x ≡ uncorrelated → ⊥) × (holds x (numbers_of table) ≡ false) × (holds uncorrelated (numbers_of table) ≡ false))

-- both leave the table as it was
abbrev pub RefusedStays : Type 0
RefusedStays = (table : List Entry) (e : Entry) (q : IndexRefusal) → indexed table e.number ≡ Err q → left_as (indexed table e.number) table e ≡ table

-- number 0 leaves the table as it was
abbrev pub ZeroStays : Type 0
ZeroStays = (table : List Entry) (e : Entry) → e.number ≡ uncorrelated → left_as (indexed table e.number) table e ≡ table

-- ---- the table after calls

-- no entry is used
abbrev pub Unused : List Entry → Type 0
Unused table = any_used (numbers_of table) ≡ false

-- a table holds the index of the reports seen: its used entries are what is worked out afresh; they stand in front; the rest is as it was in the
-- first table, and unused
pub record HoldsIndex (seen first now : List Entry) : Type 0 where
  pub used : used_in now ≡ afresh seen
  pub is : now ≡ over seen first
  pub fits : length (afresh seen) ≤ length first
  pub rest : Unused (drop (length (afresh seen)) first)

-- from a table of unused entries, after any history of calls: the index of the reports seen and not refused
abbrev pub FromUnused : Type 0
FromUnused = (table es : List Entry) → Unused table → HoldsIndex (not_refused table es) table (after table es)

-- a table of unused entries holds the index of nothing; a table that is not broken holds that of the reports in its used entries
abbrev pub Begins : Type 0
Begins =
    ((table : List Entry) → Unused table → HoldsIndex [] table table)
    × ((table : List Entry) → is_broken table ≡ false → HoldsIndex (used_in table) table table)

-- a table that holds the index of what was seen holds, after more calls, the index of that and what they bring: so over many lines and scans
abbrev pub Onward : Type 0
Onward =
    (seen first now es : List Entry) → length first ≤ most → HoldsIndex seen first now →
    HoldsIndex (seen ++ not_refused now es) first (after now es)

-- 50 is never given for a table that calls made from one that is not broken; a table of at most 512 unused entries is such a one
abbrev pub NeverBroken : Type 0
NeverBroken =
    ((table : List Entry) → length table ≤ most → Unused table → is_broken table ≡ false)
    × ((table es : List Entry) → is_broken table ≡ false → is_broken (after table es) ≡ false)

-- where the numbers of all reports fit into the table, no call is refused: the index is that of all reports
abbrev pub RoomForAll : Type 0
RoomForAll = (table es : List Entry) → is_broken table ≡ false → length (afresh (used_in table ++ es)) ≤ length table → not_refused table es ≡ es

-- what is found is the number's last report, among those seen and not refused
abbrev pub FoundIsLatest : Type 0
FoundIsLatest =
    (table es : List Entry) (x : ℕ) → is_broken table ≡ false → (x ≡ uncorrelated → ⊥) →
    shown (found (after table es) x) (after table es) ≡ latest x (used_in table ++ not_refused table es)

-- ---- a line

-- the calls on all outcomes of a line of words, in order, leave what is worked out afresh from what was seen before and from the line's reports. A report
-- that is refused does not count; if all numbers fit, none is refused (RoomForAll). The reports are taken from the line's runs, not from the reader.
-- So it goes on line after line, from a table of unused entries (Begins)
abbrev pub OverALine : Type 0
OverALine =
    (answer : List ℕ → Result Report RunRefusal) (line : List ℕ) (scan : ℕ) (seen first now : List Entry) → length line ≤ most_words → length first ≤ most →
    HoldsIndex seen first now →
    HoldsIndex
    (seen ++ not_refused now (reports_of answer scan line))
    first
    (after now (map (λ o. entry_of o scan) (outcomes answer line)))
