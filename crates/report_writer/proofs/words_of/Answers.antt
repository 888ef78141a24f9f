-- `report_writer::words_of` meets its contract, by the law of proofs/Made.antt. Assumes nothing.
use mathlib.Core.Path.{ap, sym, ◌∙◌}
use Rattle.reports.specs.Altitude.{form_of}
use Rattle.reports.specs.Layouts.{layout_of}
use Rattle.reports.proofs.Widths.{twelve}
use Rattle.reports.specs.declared.Words.TheVariants.{Four, Seven}
use Rattle.std.specs.Result.{result_map_both}
use Rattle.report_writer.proofs.Made.{handed, handed_out, mapped}
use Rattle.report_writer.proofs.words_of.Goals as goal

pub returns-in-Four : goal.returns-in-Four
returns-in-Four c =
    mapped Four c.words_or_refusal.result c.map.result c.map.ensures.cases ∙ ap (result_map_both Four (λ e. e)) c.words_or_refusal.ensures
    ∙ sym (ap handed c.in-Four.is) ∙ ap handed c.data_of.ensures ∙ handed_out (layout_of (form_of c.args.form) c.args.report) (twelve (form_of c.args.form) c.args.report)

pub returns-in-Seven : goal.returns-in-Seven
returns-in-Seven c =
    mapped Seven c.words_or_refusal-in-Seven.result c.map-in-Seven.result c.map-in-Seven.ensures.cases ∙ ap (result_map_both Seven (λ e. e)) c.words_or_refusal-in-Seven.ensures
    ∙ sym (ap handed c.in-Seven.is) ∙ ap handed c.data_of.ensures ∙ handed_out (layout_of (form_of c.args.form) c.args.report) (twelve (form_of c.args.form) c.args.report)
