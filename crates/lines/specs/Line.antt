-- The line (document 01, "The line"): what is found at a place, and the calls one after the other. The reader answers it with the number of a link
-- (Links.antt). Whatever looks at a run's words is a parameter, an answer to a run; document 01's is `read_run` of an altitude form. Definitions only.
use Rattle.std.specs.Prelude.{ℕ, zero, suc, ◌+◌, Bool, true, false, cond, List, [], ◌∷◌, eqb, ltb, length, drop, Ok, Result, Err}
use Rattle.rows.specs.Rows.{Row, row, first_of}
use Rattle.refusals.specs.declared.LineRefusal.{LineRefusal}
use Rattle.refusals.specs.declared.LineRefusal.TheVariants.{LineTooLong, PlaceBeyondLine}
use Rattle.words.specs.Word.{idle}
use Rattle.reports.specs.Altitude.{AltitudeForm}
use Rattle.reports.specs.Runs.{read_run, answer_offset}
use Rattle.lines.specs.declared.What.{What}
use Rattle.lines.specs.declared.What.TheVariants as W
use Rattle.lines.specs.declared.Outcome.{Outcome}
use Rattle.reports.specs.declared.Report.{Report}
use Rattle.reports.specs.declared.RunRefusal.{RunRefusal}

-- the most words of a line
abbrev pub most : ℕ
most = 32768

-- ---- an outcome

-- what was found, the place of the run's first word, the place after its last, the place that a refusal names
abbrev pub outcome_of : What → ℕ → ℕ → ℕ → Outcome
outcome_of what first after named = record { what = what; first = first; after = after; named = named }

-- only idle words are left on a line of n words
abbrev pub end_of : ℕ → Outcome
end_of n = outcome_of W.End n n n

-- numbers 13, 2, 14 and 1 give the caller's place for all three places
abbrev pub not_taken_at : LineRefusal → ℕ → Outcome
not_taken_at q place = outcome_of (W.Refused q) place place place

abbrev pub what_of : Result Report RunRefusal → What
what_of (Ok r) = W.Accepted r
what_of (Err refusal) = W.Refused refusal.why

-- a run of n words that got this answer, with its first word at a place: a refusal names the word at its offset, a report its first word
abbrev pub placed : ℕ → ℕ → Result Report RunRefusal → Outcome
placed first n a = outcome_of (what_of a) first (first + n) (first + answer_offset a)

abbrev pub is_report : What → Bool
is_report (W.Accepted r) = true
is_report (W.Refused q) = false
is_report W.End = false

abbrev pub is_refusal : What → Bool
is_refusal (W.Accepted r) = false
is_refusal (W.Refused q) = true
is_refusal W.End = false

abbrev pub is_end : What → Bool
is_end (W.Accepted r) = false
is_end (W.Refused q) = false
is_end W.End = true

-- ---- what is found at a place

-- how many idle words stand in front
unfoldable pub gap : List ℕ → ℕ
gap [] = 0
gap (w ∷ ws) = cond (eqb w idle) (suc (gap ws)) 0

-- the words in front of the first idle word
unfoldable pub stretch : List ℕ → List ℕ
stretch [] = []
stretch (w ∷ ws) = cond (eqb w idle) [] (w ∷ stretch ws)

-- the run behind the idle words in front
abbrev pub run_in : List ℕ → List ℕ
run_in ws = stretch (drop (gap ws) ws)

-- the outcome of a run whose first word is at a place of a line of n words; no words: the end
abbrev pub outcome_at : (List ℕ → Result Report RunRefusal) → ℕ → ℕ → List ℕ → Outcome
outcome_at answer n first [] = end_of n
outcome_at answer n first (w ∷ ws) = placed first (length (w ∷ ws)) (answer (w ∷ ws))

-- the outcome of the run at a place, or behind the idle words there
abbrev pub run_at : (List ℕ → Result Report RunRefusal) → List ℕ → ℕ → Outcome
run_at answer line place = let rest = drop place line in outcome_at answer (length line) (place + gap rest) (run_in rest)

-- 1: place beyond the length of a line of n words
abbrev pub beyond : ℕ → ℕ → Row Outcome
beyond n place = row (ltb n place) (not_taken_at PlaceBeyondLine place)

-- the rows of the line and the place: 2, then 1
abbrev pub line_rows : List ℕ → ℕ → List (Row Outcome)
line_rows line place = row (ltb most (length line)) (not_taken_at LineTooLong place) ∷ beyond (length line) place ∷ []

-- what is found: these rows, and where none holds, what the run gets
unfoldable pub read_by : (List ℕ → Result Report RunRefusal) → List ℕ → ℕ → Outcome
read_by answer line place = first_of (line_rows line place) (run_at answer line place)

-- what is found of document 01's reports
abbrev pub read_at : AltitudeForm → List ℕ → ℕ → Outcome
read_at form line place = read_by (read_run form) line place

-- ---- the calls

-- the outcomes of at most k calls, the first from a place, each other from the place after the one before it, up to the end
unfoldable pub calls : (List ℕ → Result Report RunRefusal) → ℕ → List ℕ → ℕ → List Outcome
calls answer zero line place = []
calls answer (suc k) line place = let o = read_by answer line place in o ∷ cond (is_end o.what) [] (calls answer k line o.after)

-- a line of at most `most` words read from its start: as many calls as it has words, and one, which CallsEnough (Claims.antt) shows to be enough
abbrev pub outcomes : (List ℕ → Result Report RunRefusal) → List ℕ → List Outcome
outcomes answer line = calls answer (suc (length line)) line 0
