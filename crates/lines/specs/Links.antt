-- Which link an outcome came on (document 02, Ticket 7). A site has several parallel surveillance links (document 004, section 3). Whoever reads a line
-- says which one it came on, by a number from 0 to 15. The number is no part of the words. Line.antt and Bytes.antt say what is found at a place; here it
-- gets its number, and a number above 15 gets its refusal. Definitions only.
use Rattle.std.specs.Prelude.{ℕ, zero, suc, cond, List, [], ◌∷◌, ltb, length, Result}
use Rattle.rows.specs.Rows.{Row, row, first_of}
use Rattle.refusals.specs.declared.LineRefusal.TheVariants.{NoSuchLink}
use Rattle.reports.specs.Altitude.{AltitudeForm}
use Rattle.reports.specs.Runs.{read_run}
use Rattle.lines.specs.declared.Outcome.{Outcome}
use Rattle.lines.specs.declared.Received.{Received}
use Rattle.lines.specs.Line.{not_taken_at, is_end, read_by}
use Rattle.lines.specs.Bytes.{read_bytes}
use Rattle.reports.specs.declared.Report.{Report}
use Rattle.reports.specs.declared.RunRefusal.{RunRefusal}

-- the last link number; the first is 0
abbrev pub last_link : ℕ
last_link = 15

-- the number of an outcome that came on no link: 0, which is the first link's number too
abbrev pub no_link : ℕ
no_link = 0

-- an outcome, with the number of its link
abbrev pub received_on : ℕ → Outcome → Received
received_on link o = record { link = link; outcome = o }

-- 13: link number above 15; the caller's place for all three places, and link 0
abbrev pub above_last : ℕ → ℕ → Row Received
above_last link place = row (ltb last_link link) (received_on no_link (not_taken_at NoSuchLink place))

-- ---- the readers: 13 first; else what is found at the place, with the number that was given

-- whatever is found
abbrev pub on_link : ℕ → ℕ → Outcome → Received
on_link link place found = first_of (above_last link place ∷ []) (received_on link found)

-- of words, for any answer to a run
abbrev pub read_by_on : (List ℕ → Result Report RunRefusal) → ℕ → List ℕ → ℕ → Received
read_by_on answer link line place = on_link link place (read_by answer line place)

-- of words
abbrev pub read_on : AltitudeForm → ℕ → List ℕ → ℕ → Received
read_on form link line place = read_by_on (read_run form) link line place

-- of bytes
abbrev pub read_bytes_on : AltitudeForm → ℕ → List ℕ → ℕ → Received
read_bytes_on form link bytes place = on_link link place (read_bytes form bytes place)

-- ---- the calls, all with one number

-- at most k of them, the first from a place, each other from the place after the one before it, up to the end
unfoldable pub calls_on : (List ℕ → Result Report RunRefusal) → ℕ → ℕ → List ℕ → ℕ → List Received
calls_on answer link zero line place = []
calls_on answer link (suc k) line place =
    let r = read_by_on answer link line place in r ∷ cond (is_end r.outcome.what) [] (calls_on answer link k line r.outcome.after)

-- a line of at most `most` words read from its start, as `outcomes` does it
abbrev pub outcomes_on : (List ℕ → Result Report RunRefusal) → ℕ → List ℕ → List Received
outcomes_on answer link line = calls_on answer link (suc (length line)) line 0
