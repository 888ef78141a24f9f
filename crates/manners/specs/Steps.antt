-- What a step of the code leaves to the next one. No promise of a public function names these. Definitions only.
use Rattle.std.specs.Prelude.{ℕ, ◌+◌, ◌*◌, Bool, not, cond, List, [], ◌∷◌, ◌++◌, ◌≡◌, ltb, length, take, drop, Option, Some, None, Result, Ok, Err}
use Rattle.rows.specs.Rows.{row, first_of}
use Rattle.words.specs.Tests.{all}
use Rattle.reports.specs.declared.Height.{Height}
use Rattle.reports.specs.Altitude.{AltitudeForm}
use Rattle.reports.specs.Layouts.{mode_c_of, radar}
use Rattle.lines.specs.Stretches.{runs_at, gathered}
use Rattle.manners.specs.declared.Rule.{Rule}
use Rattle.manners.specs.declared.Rule.TheVariants as R
use Rattle.manners.specs.declared.MannersRefusal.TheVariants.{ListTooSmall}
use Rattle.manners.specs.declared.NotListed.{NotListed}
use Rattle.manners.specs.declared.NotListed.TheVariants as N
use Rattle.manners.specs.Rules.{is_sea_level}
use Rattle.manners.specs.Breaches.{Breach, breaches_of}

-- ---- the rules that a record of each kind can break

abbrev pub atcrbs_found : Bool → Height → Option Rule
atcrbs_found mode3a h =
    first_of (row (all (radar h ∷ mode3a ∷ [])) (Some R.SubstitutionMode3a) ∷ row (is_sea_level h) (Some R.ModeCAllZeros) ∷ []) None

abbrev pub dabs_found : Bool → Height → Option Rule
dabs_found relay h = first_of (row (all (relay ∷ not (mode_c_of h) ∷ [])) (Some R.RelayWithoutModeC) ∷ []) None

abbrev pub map_found : ℕ → ℕ → Option Rule
map_found start stop = first_of (row (ltb stop start) (Some R.MapStopBelowStart) ∷ []) None

-- ---- the loops

abbrev pub count_of : Option Rule → ℕ
count_of None = 0
count_of (Some rule) = 1

-- the breaches of the runs from a place on
abbrev pub breaches_at : AltitudeForm → List ℕ → ℕ → List Breach
breaches_at form line place = gathered (breaches_of form) (runs_at line place)

-- a list that is being filled with all breaches, each so many numbers wide: k stand in it, some are left, and behind them all is as it was
pub record Filling {A : Type 0} (said : List Breach → List A) (width : ℕ) (all left : List Breach) (entry : List A) (k : ℕ) (list : List A) : Type 0 where
  pub counted : k + length left ≡ length all
  pub front : take (k * width) list ++ said left ≡ said all
  pub behind : drop (k * width) list ≡ drop (k * width) entry
  pub long : length list ≡ length entry

-- ---- the list that is lent

-- all are in the list, which has so many wide for each; or it is too small for them, and stays
pub record ListsAll {A : Type 0} (width : ℕ) (all : List Breach) (said : List Breach → List A) (entry : List A) (answer : Result ℕ NotListed) (exit : List A) : Type 0 where
  pub answers : answer ≡ cond (ltb (length entry) (length all * width)) (Err (N.List ListTooSmall (length all))) (Ok (length all))
  pub leaves : exit ≡ cond (ltb (length entry) (length all * width)) entry (said all ++ drop (length all * width) entry)
