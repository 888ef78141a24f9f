-- What a run of words is: the report that it holds, or the first refusal of document 01's table whose condition holds. Definitions only.
use Rattle.std.specs.Prelude.{ℕ, Bool, true, false, not, List, [], ◌∷◌, eqb, ltb, Ok, Result, Err}
use Rattle.rows.specs.Rows.{Row, row, first_of}
use Rattle.refusals.specs.declared.LineRefusal.{LineRefusal}
use Rattle.refusals.specs.declared.LineRefusal.TheVariants.{WordTooWide, EvenWord, UnknownForm, WrongLength, UnassignedRadar, SpareBitSet, MinusZero}
use Rattle.words.specs.Word.{wider_than_a_word, even, first}
use Rattle.reports.specs.Altitude.{AltitudeForm}
use Rattle.reports.specs.Forms.{word_count}
use Rattle.reports.specs.Records.{report_of}
use Rattle.reports.specs.Conditions.{too_wide_word, even_word, unknown_form, wrong_length, unassigned, spare_set, minus_zero}
use Rattle.reports.specs.declared.Report.{Report}
use Rattle.reports.specs.declared.RunRefusal.{RunRefusal}

-- a run is refused, with the offset of the word that is named
abbrev pub refused_at : LineRefusal → ℕ → Result Report RunRefusal
refused_at q o = Err (record { why = q; offset = o })

-- the rows that look at the words of a run of the right length: 7, 8 and 9
abbrev pub last_rows : AltitudeForm → List ℕ → List (Row (Result Report RunRefusal))
last_rows form ws =
    row (unassigned ws) (refused_at UnassignedRadar 0) ∷ row (spare_set ws) (refused_at SpareBitSet 0) ∷ row (minus_zero form ws) (refused_at MinusZero 0) ∷ []

-- the table of a run, row by row as document 01 prints it, and the answer to it. 3 and 4 name the first such word, the others the first word
abbrev pub table_of : AltitudeForm → List ℕ → List (Row (Result Report RunRefusal))
table_of form ws =
    row (too_wide_word ws) (refused_at WordTooWide (first wider_than_a_word ws))
    ∷ row (even_word ws) (refused_at EvenWord (first even ws))
    ∷ row (unknown_form ws) (refused_at UnknownForm 0)
    ∷ row (wrong_length ws) (refused_at WrongLength 0)
    ∷ last_rows form ws

abbrev pub read_run : AltitudeForm → List ℕ → Result Report RunRefusal
read_run form ws = first_of (table_of form ws) (Ok (report_of form ws))

-- ---- the same from what a reader of a line remembers

-- the table for n words that begin ws, of which the first one that is too wide is at w and the first even one at e (n where there is none)
abbrev pub table : AltitudeForm → List ℕ → ℕ → ℕ → ℕ → List (Row (Result Report RunRefusal))
table form ws n w e =
    row (ltb w n) (refused_at WordTooWide w)
    ∷ row (ltb e n) (refused_at EvenWord e)
    ∷ row (unknown_form ws) (refused_at UnknownForm 0)
    ∷ row (not (eqb n (word_count ws))) (refused_at WrongLength 0)
    ∷ last_rows form ws

-- JudgedIsRead (Claims.antt) says that this is the answer to the whole run
abbrev pub judged : AltitudeForm → List ℕ → ℕ → ℕ → ℕ → Result Report RunRefusal
judged form ws n w e = first_of (table form ws n w e) (Ok (report_of form ws))

-- ---- what an answer says

-- the offset of the word that is named, the first for a report
abbrev pub answer_offset : Result Report RunRefusal → ℕ
answer_offset (Ok r) = 0
answer_offset (Err refusal) = refusal.offset

abbrev pub is_accepted : Result Report RunRefusal → Bool
is_accepted (Ok r) = true
is_accepted (Err refusal) = false
