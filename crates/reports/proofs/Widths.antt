-- Each layout has twelve bits a word. Assumes nothing.
use mathlib.Core.Path.{◌≡◌, refl}
use mathlib.Core.Bool.{true}
use mathlib.Core.List.{[], ◌∷◌}
use Rattle.words.specs.Layout.{twelve_each}
use Rattle.reports.specs.declared.Height.{Height}
use Rattle.reports.specs.declared.Height.TheVariants as H
use Rattle.reports.specs.declared.Report.{Report}
use Rattle.reports.specs.declared.Report.TheVariants as R
use Rattle.reports.specs.Altitude.{AltitudeForm}
use Rattle.reports.specs.Layouts.{last_word, layout_of}

twelve_last : (form : AltitudeForm) (h : Height) → twelve_each (last_word form h ∷ []) ≡ true
twelve_last form (H.Altitude z) = refl
twelve_last form (H.Carried n) = refl
twelve_last form (H.Cd c n) = refl
twelve_last form (H.Mtd c n) = refl
twelve_last form (H.Rdas c n) = refl

pub twelve : (form : AltitudeForm) (r : Report) → twelve_each (layout_of form r) ≡ true
twelve form (R.Search s) = refl
twelve form (R.Strobe s) = refl
twelve form (R.Map m) = refl
twelve form (R.Status s) = refl
twelve form (R.Rtqc s) = refl
twelve form (R.Dabs d) = twelve_last form d.height
twelve form (R.Atcrbs a) = twelve_last form a.height
twelve form (R.Mtd m) = refl
twelve form (R.Rdas r) = refl
