-- The whole listing of a recording, over the words of its line (document 01, "The C host and the lister"): said without the reader.
-- Definitions only.
use Rattle.std.specs.Prelude.{ℕ, ◌+◌, ◌%◌, List, [], ◌∷◌, ◌++◌, codes, eqb, ltb, length, Result, Ok, Err}
use Rattle.rows.specs.Rows.{row, first_of}
use Rattle.refusals.specs.Numbers.{line_number}
use Rattle.reports.specs.declared.Report.{Report}
use Rattle.reports.specs.declared.RunRefusal.{RunRefusal}
use Rattle.reports.specs.Altitude.{AltitudeForm, sign_magnitude}
use Rattle.reports.specs.Kinds.{kind_of}
use Rattle.reports.specs.Runs.{read_run}
use Rattle.lines.specs.Bytes.{most_bytes, words_in}
use Rattle.lines.specs.Stretches.{Run, runs, idle_words, reported_words, refused_words}
use Rattle.listing.specs.Letters.{report_line, refused_line, totals_line}

-- the lister reads altitudes in document 01's form: a recording does not tell its own
abbrev pub lister_form : AltitudeForm
lister_form = sign_magnitude

-- and it reads with link 0: a listing has no link number (document 02, Ticket 7)
abbrev pub lister_link : ℕ
lister_link = 0

-- the answer to the words of a run
abbrev pub answer : List ℕ → Result Report RunRefusal
answer ws = read_run lister_form ws

-- the line of a run of n words at a place that got this answer
abbrev pub line_for : ℕ → ℕ → Result Report RunRefusal → List ℕ
line_for place n (Ok r) = report_line place (kind_of r) n
line_for place n (Err refusal) = refused_line place (line_number refusal.why) n (place + refusal.offset)

-- a line for each run, in order
unfoldable pub run_lines : List Run → List ℕ
run_lines [] = []
run_lines (r ∷ rs) = line_for r.place (length r.words) (answer r.words) ++ run_lines rs

-- the listing of a line of words: its runs, then the totals
abbrev pub listing_of : List ℕ → List ℕ
listing_of line =
    run_lines (runs line) ++ totals_line (idle_words line) (reported_words answer line) (refused_words answer line) (length line)

-- the listing of a recording: over 65,536 bytes LONG, else for an odd number ODD, else that of its words
unfoldable pub listing : List ℕ → List ℕ
listing bytes =
    first_of (row (ltb most_bytes (length bytes)) (codes "LONG\n") ∷ row (eqb (length bytes % 2) 1) (codes "ODD\n") ∷ []) (listing_of (words_in bytes))
