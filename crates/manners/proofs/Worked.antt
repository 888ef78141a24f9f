-- The worked runs, one by one, by computing. Assumes nothing.
use Prim.Native.Nat.{ℕ}
use mathlib.Core.Path.{◌≡◌, refl}
use mathlib.Core.List.{List, [], ◌∷◌, ◌++◌}
use lib.Count.{ones}
use Rattle.words.specs.Word.{first}
use Rattle.reports.specs.declared.altitude.Form.{Form}
use Rattle.reports.specs.declared.altitude.Form.TheVariants as O
use Rattle.reports.specs.Altitude.{form_of}
use Rattle.reports.specs.Conditions.{four_zeros, height_spares, seven_spares, zeros}
use Rattle.lines.specs.Stretches.{Run, gathered}
use Rattle.manners.specs.declared.Rule.TheVariants as R
use Rattle.manners.specs.Breaches.{breach, breaches_of, numbers_of}
use Rattle.manners.specs.Claims.{Worked}

abbrev at : ℕ → List ℕ → Run
at place words = record { place = place; words = words }

abbrev substitution : Run
substitution = at 1 (3331 ∷ 1 ∷ 1 ∷ 1 ∷ 1281 ∷ 38 ∷ 3080 ∷ [])

abbrev relayed : Run
relayed = at 9 (3584 ∷ 1 ∷ 1 ∷ 32 ∷ 334 ∷ 1030 ∷ 1 ∷ [])

abbrev relayed_cd : Run
relayed_cd = at 17 (3587 ∷ 1 ∷ 1 ∷ 32 ∷ 334 ∷ 1030 ∷ 8 ∷ [])

abbrev even_word : Run
even_word = at 25 (1 ∷ 400 ∷ 1 ∷ 396 ∷ [])

abbrev all_zeros : Run
all_zeros = at 31 (3457 ∷ 1 ∷ 1 ∷ 1 ∷ 1281 ∷ 44 ∷ 1 ∷ [])

abbrev sea_level : Run
sea_level = at 39 (3713 ∷ 1 ∷ 1 ∷ 32 ∷ 334 ∷ 1030 ∷ 1 ∷ [])

abbrev equal : Run
equal = at 47 (1 ∷ 400 ∷ 1 ∷ 400 ∷ [])

abbrev below : Run
below = at 52 (1 ∷ 400 ∷ 1 ∷ 397 ∷ [])

of_substitution : (f : Form) → breaches_of (form_of f) substitution ≡ breach 1 R.SubstitutionMode3a ∷ []
unfolding first four_zeros height_spares seven_spares zeros ones
of_substitution O.SignMagnitude = refl
of_substitution O.TwosComplement = refl

of_relayed : (f : Form) → breaches_of (form_of f) relayed ≡ breach 9 R.RelayWithoutModeC ∷ []
unfolding first four_zeros height_spares seven_spares zeros ones
of_relayed O.SignMagnitude = refl
of_relayed O.TwosComplement = refl

of_relayed_cd : (f : Form) → breaches_of (form_of f) relayed_cd ≡ breach 17 R.RelayWithoutModeC ∷ []
unfolding first four_zeros height_spares seven_spares zeros ones
of_relayed_cd O.SignMagnitude = refl
of_relayed_cd O.TwosComplement = refl

of_sea_level : (f : Form) → breaches_of (form_of f) sea_level ≡ []
unfolding first four_zeros height_spares seven_spares zeros ones
of_sea_level O.SignMagnitude = refl
of_sea_level O.TwosComplement = refl

of_even_word : (f : Form) → breaches_of (form_of f) even_word ≡ []
unfolding first four_zeros height_spares seven_spares zeros ones
of_even_word O.SignMagnitude = refl
of_even_word O.TwosComplement = refl

of_all_zeros : (f : Form) → breaches_of (form_of f) all_zeros ≡ breach 31 R.ModeCAllZeros ∷ []
unfolding first four_zeros height_spares seven_spares zeros ones
of_all_zeros O.SignMagnitude = refl
of_all_zeros O.TwosComplement = refl

of_equal : (f : Form) → breaches_of (form_of f) equal ≡ []
unfolding first four_zeros height_spares seven_spares zeros ones
of_equal O.SignMagnitude = refl
of_equal O.TwosComplement = refl

of_below : (f : Form) → breaches_of (form_of f) below ≡ breach 52 R.MapStopBelowStart ∷ []
unfolding first four_zeros height_spares seven_spares zeros ones
of_below O.SignMagnitude = refl
of_below O.TwosComplement = refl

pub worked : Worked
unfolding gathered numbers_of
worked f =
    λ i. numbers_of
    (of_substitution f i
    ++ (of_relayed f i
    ++ (of_relayed_cd f i ++ (of_even_word f i ++ (of_all_zeros f i ++ (of_sea_level f i ++ (of_equal f i ++ (of_below f i ++ []))))))))
