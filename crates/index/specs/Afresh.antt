-- The index worked out afresh from the reports seen, without a table and its calls; and the calls one after the other (document 02, Ticket 3: "The
-- index must equal the one worked out afresh from the reports seen"). Here a report is the entry that its outcome brings; number 0 stands for none.
-- Definitions only.
use Rattle.std.specs.Prelude.{ℕ, cond, List, [], ◌∷◌, ◌++◌, map, eqb, length, take, drop, Option, Some, None, Result, Ok, Err}
use Rattle.lines.specs.Line.{what_of}
use Rattle.lines.specs.Stretches.{Run, runs}
use Rattle.index.specs.declared.Entry.{Entry}
use Rattle.index.specs.declared.Indexed.{Indexed}
use Rattle.index.specs.declared.IndexRefusal.{IndexRefusal}
use Rattle.index.specs.Entries.{uncorrelated, number_in, kind_in}
use Rattle.index.specs.Indexing.{indexed, left_as}
use Rattle.reports.specs.declared.Report.{Report}
use Rattle.reports.specs.declared.RunRefusal.{RunRefusal}

-- ---- worked out afresh

-- the last report with the number of e, among e and the reports seen after it
unfoldable pub last_of : Entry → List Entry → Entry
last_of e [] = e
last_of e (x ∷ later) = cond (eqb x.number e.number) (last_of x later) (last_of e later)

-- entries without those of a number
unfoldable pub without : ℕ → List Entry → List Entry
without n [] = []
without n (x ∷ xs) = cond (eqb x.number n) (without n xs) (x ∷ without n xs)

-- the numbers other than 0 in the order in which they were first seen, each with its last report: the first number seen, then the others
unfoldable pub afresh : List Entry → List Entry
afresh [] = []
afresh (e ∷ later) = cond (eqb e.number uncorrelated) (afresh later) (last_of e later ∷ without e.number (afresh later))

-- a table with this index in front: the rest is as it was
abbrev pub over : List Entry → List Entry → List Entry
over seen table = afresh seen ++ drop (length (afresh seen)) table

-- the last report with a number: one, or none
unfoldable pub latest : ℕ → List Entry → List Entry
latest n [] = []
latest n (e ∷ later) = cond (eqb e.number n) (last_of e later ∷ []) (latest n later)

-- ---- the calls

-- the table after calls one after the other, each with what an outcome brings
unfoldable pub after : List Entry → List Entry → List Entry
after table [] = table
after table (e ∷ es) = after (left_as (indexed table e.number) table e) es

-- e in front of es, unless its call was refused
abbrev pub unless_refused : Result Indexed IndexRefusal → Entry → List Entry → List Entry
unless_refused (Ok a) e es = e ∷ es
unless_refused (Err q) e es = es

-- of what the calls bring, that of the calls that were not refused
unfoldable pub not_refused : List Entry → List Entry → List Entry
not_refused table [] = []
not_refused table (e ∷ es) = unless_refused (indexed table e.number) e (not_refused (left_as (indexed table e.number) table e) es)

-- the entry that is found: one, or none
abbrev pub shown : Result (Option ℕ) IndexRefusal → List Entry → List Entry
shown (Ok (Some i)) table = take 1 (drop i table)
shown (Ok None) table = []
shown (Err q) table = []

-- ---- a line

-- what each run of a line brings, by its words and its place: a run that is refused brings number 0
abbrev pub brought_by : (List ℕ → Result Report RunRefusal) → ℕ → Run → Entry
brought_by answer scan r =
    let what = what_of (answer r.words) in
    record { number = number_in what; kind = kind_in what; scan = scan; place = r.place }

-- what the runs of a line bring, in order
abbrev pub reports_of : (List ℕ → Result Report RunRefusal) → ℕ → List ℕ → List Entry
reports_of answer scan line = map (brought_by answer scan) (runs line)
