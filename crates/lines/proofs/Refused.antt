-- Each refusal exactly under its condition, with the places that it gives: the claims ReaderRefuses, ByteReaderRefuses, WriterRefuses and
-- ByteWriterRefuses, by the law of rows. Assumes nothing.
use Rattle.std.specs.Prelude.{Ok, Result, Err}
use Prim.Native.Nat.{ℕ, ◌+◌}
use mathlib.Core.Path.{◌≡◌, refl, ap, sym, ◌∙◌}
use mathlib.Core.Bool.{Bool, true, false, not, cond}
use mathlib.Core.Logic.{◌↔◌}
use mathlib.Core.List.{List, [], ◌∷◌, ◌++◌}
use lib.Dec.{ltb}
use lib.ListN.{length, drop}
use Rattle.rows.specs.Rows.{Row, first_of, each}
use Rattle.rows.specs.Claims.{FirstIs}
use Rattle.rows.proofs.Claims as law
use Rattle.reports.specs.Altitude.{AltitudeForm}
use Rattle.reports.specs.Records.{report_of}
use Rattle.reports.specs.Runs.{table_of, read_run}
use Rattle.lines.specs.declared.Outcome.{Outcome}
use Rattle.lines.specs.declared.Received.{Received}
use Rattle.lines.specs.Line.{is_refusal, placed, gap, run_in, outcome_at, line_rows, read_by}
use Rattle.lines.specs.Bytes.{words_in, byte_rows, read_bytes}
use Rattle.lines.specs.Links.{last_link, received_on, above_last, on_link}
use Rattle.lines.specs.Writing.{writer_rows, wrote_after, write_at}
use Rattle.lines.specs.ByteWriting.{byte_writer_rows, write_bytes}
use Rattle.lines.specs.Rows.{run_rows}
use Rattle.lines.specs.Claims.{ReaderRefuses, ByteReaderRefuses, PlacesGiven, WriterRefuses, ByteWriterRefuses}
use Rattle.reports.specs.declared.Report.{Report}
use Rattle.reports.specs.declared.RunRefusal.{RunRefusal}
use Rattle.lines.specs.declared.NotWritten.{NotWritten}
use Rattle.lines.specs.Writing.{not_written}

-- ---- the readers: the link's row, their own rows, and behind them those of the run

abbrev accepts : Received → Bool
accepts r = not (is_refusal r.outcome.what)

-- where no row of a run holds: its report, or the end
abbrev pub other : AltitudeForm → ℕ → ℕ → List ℕ → Outcome
other form = outcome_at (λ ws. Ok (report_of form ws))

accepted : (form : AltitudeForm) (n f : ℕ) (run : List ℕ) → not (is_refusal (other form n f run).what) ≡ true
accepted form n f [] = refl
accepted form n f (w ∷ ws) = refl

pub by_run : (form : AltitudeForm) (n f : ℕ) (run : List ℕ) → first_of (run_rows form f run) (other form n f run) ≡ outcome_at (read_run form) n f run
by_run form n f [] = refl
by_run form n f (w ∷ ws) = law.each_of (Result Report RunRefusal) Outcome (placed f (length (w ∷ ws))) (table_of form (w ∷ ws)) (Ok (report_of form (w ∷ ws)))

-- one row in front, and the link of every other one
linked : (link place : ℕ) (rows : List (Row Outcome)) (o : Outcome)
    → first_of (above_last link place ∷ each (received_on link) rows) (received_on link o) ≡ on_link link place (first_of rows o)
linked link place rows o = ap (cond (ltb last_link link) (above_last link place).answer) (law.each_of Outcome Received (received_on link) rows o)

reads : (link place : ℕ) (rows : List (Row Outcome)) (form : AltitudeForm) (n f : ℕ) (run : List ℕ) (r : Received) → is_refusal r.outcome.what ≡ true
    → (on_link link place (first_of rows (outcome_at (read_run form) n f run)) ≡ r)
    ↔ FirstIs (above_last link place ∷ each (received_on link) (rows ++ run_rows form f run)) r
reads link place rows form n f run r h =
    let all = rows ++ run_rows form f run in
    let e = linked link place all (other form n f run)
    ∙ ap (on_link link place) (law.joined Outcome rows (run_rows form f run) (other form n f run) ∙ ap (first_of rows) (by_run form n f run)) in
    let k = law.refused_exactly Received accepts (above_last link place ∷ each (received_on link) all) (received_on link (other form n f run)) r (accepted form n f run) (ap not h) in
    (λ x. k.0 (e ∙ x), λ x. sym e ∙ k.1 x)

pub reader_refuses : ReaderRefuses
unfolding read_by
reader_refuses form link line place =
    let rest = drop place line in reads link place (line_rows line place) form (length line) (place + gap rest) (run_in rest)

pub byte_reader_refuses : ByteReaderRefuses
unfolding read_bytes
byte_reader_refuses form link bytes place =
    let rest = drop place (words_in bytes) in reads link place (byte_rows bytes place) form (length (words_in bytes)) (place + gap rest) (run_in rest)

pub places_given : PlacesGiven
places_given = record { refused_run = λ first n o q. refl; report = λ first n r. refl; not_taken = λ q place. refl }

-- ---- the writers

abbrev wrote : Result ℕ NotWritten → Bool
wrote (Ok p) = true
wrote (Err refusal) = false

pub writer_refuses : WriterRefuses
unfolding write_at
writer_refuses form line place r q p = law.refused_exactly (Result ℕ NotWritten) wrote (writer_rows form line place r) (wrote_after form place r) (not_written q p) refl refl

pub byte_writer_refuses : ByteWriterRefuses
unfolding write_bytes
byte_writer_refuses form bytes place r q p =
    law.refused_exactly (Result ℕ NotWritten) wrote (byte_writer_rows form bytes place r) (wrote_after form place r) (not_written q p) refl refl
