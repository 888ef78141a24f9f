-- What the readers remember of a run, and the answer that comes of it: what line.rt and answers.rt compute.
-- Definitions only; no promise of a public function names them.
use Rattle.std.specs.Prelude.{ℕ, ◌+◌, ◌-◌, ◌≤◌, ◌<◌, min, ◌≡◌, Bool, true, not, cond, List, eqb, ltb, length, take, drop, Option, Some, None}
use Rattle.refusals.specs.declared.LineRefusal.{LineRefusal}
use Rattle.refusals.specs.declared.LineRefusal.TheVariants.{PlaceBeyondLine}
use Rattle.words.specs.Word.{idle, wider_than_a_word, even, first}
use Rattle.reports.specs.Altitude.{AltitudeForm}
use Rattle.reports.specs.Runs.{judged, read_run}
use Rattle.lines.specs.declared.Outcome.{Outcome}
use Rattle.lines.specs.Line.{end_of, placed, not_taken_at, run_at}
use Rattle.line_reader.specs.declared.run.Places.{Places}

-- ---- a search

-- a word is not idle; a word has a fault: it is too wide, or even
abbrev pub not_idle : ℕ → Bool
not_idle w = not (eqb w idle)

abbrev pub faulty : ℕ → Bool
faulty w = cond (wider_than_a_word w) true (even w)

abbrev pub is_idle : ℕ → Bool
is_idle w = eqb w idle

-- whatever a call may answer about a word, the test answers it
abbrev pub Decides : (ℕ → Bool → Type 0) → (ℕ → Bool) → Type 0
Decides asked stop = (w : ℕ) (b : Bool) → w < 65536 → asked w b → b ≡ stop w

-- the place of the first word from a place of the line on at which a search stops; the line's length where there is none
abbrev pub next_at : List ℕ → ℕ → (ℕ → Bool) → ℕ
next_at line from stop = from + first stop (drop from line)

-- a search from a place up to another ended there
pub record Ended (line : List ℕ) (from to : ℕ) (stop : ℕ → Bool) (place : ℕ) : Type 0 where
  pub onward : from ≤ place
  pub within : place ≤ to
  pub there : place ≡ min to (next_at line from stop)

-- ---- a run

-- the four searches that find a run
pub record RunPlaces (line : List ℕ) (place : ℕ) (run : Places) : Type 0 where
  pub first : Ended line place (length line) not_idle run.first
  pub fault : Ended line run.first (length line) faulty run.fault
  pub after : Ended line run.fault (length line) is_idle run.after
  pub too_wide : Ended line run.fault run.after wider_than_a_word run.too_wide

-- the words of the run
abbrev pub run_words : List ℕ → Places → List ℕ
run_words line run = take (run.after - run.first) (drop run.first line)

-- ---- the answer

-- The answer to a run of n words that begin with ws. Its first word stands at the place; w is the offset of the first word that is too wide, and e
-- that of the first word with a fault (n where there is none). Where the run has no words: the end
abbrev pub answer_at : AltitudeForm → ℕ → ℕ → ℕ → ℕ → List ℕ → Outcome
answer_at form place n w e ws = cond (eqb n 0) (end_of place) (placed place n (judged form ws n w e))

-- The answer to a run that begins with these words. Where a word is too wide, 3 answers before 4 is asked, so the first fault is handed on as the
-- first even word
abbrev pub answered : AltitudeForm → Places → List ℕ → Outcome
answered form run ws =
    answer_at form run.first (run.after - run.first) (run.too_wide - run.first) (run.fault - run.first) ws

-- ---- a line, in whatever form it is lent

-- what is found on a line that holds these words: not taken for a reason, or no place of the line, or what the run gets
abbrev pub found_in : AltitudeForm → Option LineRefusal → List ℕ → ℕ → Outcome
found_in form (Some why) line place = not_taken_at why place
found_in form None line place = cond (ltb (length line) place) (not_taken_at PlaceBeyondLine place) (run_at (read_run form) line place)
