-- Each refusal is given exactly under its condition: the first row of the table that holds answers. And the reader needs seven words.
-- Assumes nothing.
use Rattle.std.specs.Prelude.{Ok, Result}
use Prim.Native.Nat.{ℕ}
use mathlib.Core.Path.{◌≡◌, refl}
use mathlib.Core.Logic.{◌↔◌}
use mathlib.Core.List.{List}
use lib.ListN.{length}
use Rattle.rows.specs.Claims.{NoneHolds}
use Rattle.rows.proofs.Claims as law
use Rattle.words.specs.Word.{wider_than_a_word, even, first}
use Rattle.words.proofs.Faults.{first_good, good_first, not_too_wide, not_even}
use Rattle.reports.specs.declared.Report.{Report}
use Rattle.reports.specs.Altitude.{AltitudeForm}
use Rattle.reports.specs.Records.{height_of, four_of, seven_of, report_of}
use Rattle.reports.specs.Conditions.{four_zeros, height_spares, seven_spares, zeros, HasLayout}
use Rattle.reports.specs.Runs.{table_of, read_run, is_accepted}
use Rattle.reports.specs.Claims.{RefusedExactly, AcceptedExactly, FirstSeven, JudgedIsRead}
use Rattle.reports.specs.declared.RunRefusal.{RunRefusal}
use Rattle.reports.specs.Runs.{refused_at}

-- ---- a refusal

pub refused_exactly : RefusedExactly
refused_exactly form ws q o = law.refused_exactly (Result Report RunRefusal) is_accepted (table_of form ws) (Ok (report_of form ws)) (refused_at q o) refl refl

-- ---- a report

-- a report as an answer, so that its type is known
abbrev accepted_as : Report → Result Report RunRefusal
accepted_as r = Ok r

accepted_by_rows : (form : AltitudeForm) (ws : List ℕ) (r : Report) → (read_run form ws ≡ Ok r) ↔ (NoneHolds (table_of form ws) × (accepted_as (report_of form ws) ≡ Ok r))
accepted_by_rows form ws r =
    law.accepted_exactly (Result Report RunRefusal) is_accepted (table_of form ws) (Ok (report_of form ws)) (Ok r) (refl, (refl, (refl, (refl, (refl, (refl, (refl, tt))))))) refl

-- an accepted run has a layout, and is what it is read as
pub accepted_layout : (form : AltitudeForm) (ws : List ℕ) (r : Report) → read_run form ws ≡ Ok r → HasLayout form ws × (report_of form ws ≡ r)
accepted_layout form ws r h =
    let k = (accepted_by_rows form ws r).0 h in
    let n = k.0 in
    let same = k.1 in (
      record {
        good = first_good ws n.0 n.1.0;
        known = n.1.1.0;
        whole = n.1.1.1.0;
        assigned = n.1.1.1.1.0;
        spares = n.1.1.1.1.1.0;
        altitude = n.1.1.1.1.1.1.0;
      },
      cc,
    )

pub layout_accepted : (form : AltitudeForm) (ws : List ℕ) → HasLayout form ws → read_run form ws ≡ Ok (report_of form ws)
layout_accepted form ws h =
    (accepted_by_rows form ws (report_of form ws)).1
    ((good_first wider_than_a_word not_too_wide ws h.good, (good_first even not_even ws h.good, (h.known, (h.whole, (h.assigned, (h.spares, (h.altitude, tt))))))), refl)

pub accepted_exactly : AcceptedExactly
accepted_exactly form ws = (λ h. (accepted_layout form ws h.0 h.1).0, λ h. (report_of form ws, layout_accepted form ws h))

-- ---- the first seven words

pub first_seven : FirstSeven
unfolding height_of four_of seven_of report_of four_zeros height_spares seven_spares zeros
first_seven form ws n w e = refl

pub judged_is_read : JudgedIsRead
judged_is_read form ws = first_seven form ws (length ws) (first wider_than_a_word ws) (first even ws)
