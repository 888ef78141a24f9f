-- `line_reader::run::Places::answer` meets its contract. Assumes nothing.
use Rattle.std.specs.Prelude.{Result}
use Prim.Native.Nat.{◌-◌, ◌≤◌}
use mathlib.Core.Path.{sym, subst}
use Rattle.reports.specs.Altitude.{form_of}
use Rattle.reports.specs.Runs.{answer_offset}
use Rattle.line_reader.proofs.Places.{offset_within}
use native.Mathlib.Omega.{arith}
use Rattle.line_reader.proofs.run.Places.answer.Goals as goal
use Rattle.reports.specs.declared.Report.{Report}
use Rattle.reports.specs.declared.RunRefusal.{RunRefusal}

pub set_at-requires : goal.set_at-requires
set_at-requires c =
    let x = c.args in
    let s = x.self in (
      omega arith,
      subst (λ (r : Result Report RunRefusal). answer_offset r ≤ s.after - s.first) (sym c.judge-answer.ensures)
          (offset_within (form_of x.form) x.words.now (s.after - s.first) (s.too_wide - s.first) (s.fault - s.first)),
    )
