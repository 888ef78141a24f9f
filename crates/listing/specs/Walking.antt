-- The walk over a recording: what one call comes to, and calls one after the other. Definitions only.
use Rattle.std.specs.Prelude.{ℕ, zero, suc, ◌+◌, ◌-◌, ◌%◌, ◌≤◌, ◌≡◌, true, false, List, [], ◌∷◌, ◌++◌, codes, eqb, ltb, length, drop, Option, Some, None, Result, Ok, Err}
use Rattle.rows.specs.Rows.{Row, row, first_of}
use Rattle.refusals.specs.Numbers.{line_number}
use Rattle.reports.specs.Kinds.{kind_of}
use Rattle.lines.specs.declared.What.{What}
use Rattle.lines.specs.declared.What.TheVariants as W
use Rattle.lines.specs.declared.Outcome.{Outcome}
use Rattle.lines.specs.Bytes.{most_bytes, words_in}
use Rattle.lines.specs.Links.{read_bytes_on}
use Rattle.listing.specs.declared.Walk.{Walk}
use Rattle.listing.specs.declared.Line.{Line}
use Rattle.listing.specs.declared.WalkError.{WalkError}
use Rattle.listing.specs.declared.WalkError.TheVariants as E
use Rattle.listing.specs.Listing.{lister_form, lister_link}
use Rattle.listing.specs.Letters.{report_line, refused_line, totals_line}

-- the place that the walk has come to, the words in reports and in refused runs before it
abbrev pub at : ℕ → ℕ → ℕ → Walk
at place reported refused = record { place = place; reported = reported; refused = refused; done = false }

abbrev pub start : Walk
start = at 0 0 0

-- nothing is left to be said
abbrev pub closed : Walk → Walk
closed w = record { place = w.place; reported = w.reported; refused = w.refused; done = true }

-- what a call comes to: a line of text and the walk behind it; nothing, as all is said; nothing, as no walk over this recording is there;
-- nothing, as the buffer may be too short
pub data Step : Type 0 where
  Says : List ℕ → Walk → Step
  Ended : Step
  Astray : Step
  Cramped : Step

-- one outcome of the reader on a line of n words: the line of a run, or, at the end, the totals
abbrev pub step_for : ℕ → Walk → What → ℕ → ℕ → ℕ → Step
step_for n w (W.Accepted r) first after named =
    Says (report_line first (kind_of r) (after - first)) (at after (w.reported + (after - first)) w.refused)
step_for n w (W.Refused q) first after named =
    Says (refused_line first (line_number q) (after - first) named) (at after w.reported (w.refused + (after - first)))
step_for n w W.End first after named = Says (totals_line (n - w.reported - w.refused) w.reported w.refused n) (closed w)

abbrev pub step_on : ℕ → Walk → Outcome → Step
step_on n w o = step_for n w o.what o.first o.after o.named

-- a call's rows: a walk that is done says nothing; LONG and ODD are all that is said; a place beyond the line's end, or more words counted
-- than lie before it, is no walk over this line
abbrev step_rows : List ℕ → Walk → List (Row Step)
step_rows bytes w =
    row w.done Ended
    ∷ row (ltb most_bytes (length bytes)) (Says (codes "LONG\n") (closed w))
    ∷ row (eqb (length bytes % 2) 1) (Says (codes "ODD\n") (closed w))
    ∷ row (ltb (length (words_in bytes)) w.place) Astray
    ∷ row (ltb w.place w.reported) Astray
    ∷ row (ltb (w.place - w.reported) w.refused) Astray
    ∷ []

-- a call: where no row holds, the reader's outcome at the place
unfoldable pub step_at : List ℕ → Walk → Step
step_at bytes w = first_of (step_rows bytes w) (step_on (length (words_in bytes)) w (read_bytes_on lister_form lister_link bytes w.place).outcome)

-- the same into a buffer of so many bytes
unfoldable pub step_in : ℕ → List ℕ → Walk → Step
step_in room bytes w = first_of (row (ltb room 64) Cramped ∷ []) (step_at bytes w)

-- ---- one call and the buffer

abbrev pub said : Step → List ℕ
said (Says line next) = line
said Ended = []
said Astray = []
said Cramped = []

abbrev pub answered : Step → Result (Option Line) WalkError
answered (Says line next) = Ok (Some (record { len = length line; next = next }))
answered Ended = Ok None
answered Astray = Err E.Astray
answered Cramped = Err E.NoRoom

-- the same before the buffer, without the line
abbrev pub came_to : Step → Result (Option Walk) WalkError
came_to (Says line next) = Ok (Some next)
came_to Ended = Ok None
came_to Astray = Err E.Astray
came_to Cramped = Err E.NoRoom

-- the answer tells how many bytes were put and where to go on; they stand at the buffer's start, and all behind them is as it was
pub record Tells (s : Step) (entry : List ℕ) (answer : Result (Option Line) WalkError) (exit : List ℕ) : Type 0 where
  pub answers : answer ≡ answered s
  pub fits : length (said s) ≤ 64
  pub leaves : exit ≡ said s ++ drop (length (said s)) entry

-- ---- calls one after the other

abbrev pub onward : Walk → Step → Walk
onward w (Says line next) = next
onward w Ended = w
onward w Astray = w
onward w Cramped = w

-- what k calls put into a buffer of at least 64 bytes, one behind the other
unfoldable pub fills : ℕ → List ℕ → Walk → List ℕ
fills zero bytes w = []
fills (suc k) bytes w = said (step_at bytes w) ++ fills k bytes (onward w (step_at bytes w))

-- where the walk is after k calls
unfoldable pub reached : ℕ → List ℕ → Walk → Walk
reached zero bytes w = w
reached (suc k) bytes w = reached k bytes (onward w (step_at bytes w))
