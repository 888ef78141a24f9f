-- A word's number is its data where every value fits its field, and above 4095 where one does not.
-- Assumes nothing.
use Prim.Native.Nat.{◌+◌, ◌≤◌, ◌<◌, ◌^◌}
use mathlib.Core.Path.{◌≡◌, refl}
use mathlib.Core.Bool.{Bool, true, false, cond}
use mathlib.Core.List.{List, [], ◌∷◌}
use native.Mathlib.Nat.{div-eq_of_lt}
use native.Mathlib.Omega.{arith}
use borrow.Author.Tests.{ltb-true, ltb-false}
use Rattle.std.proofs.lemmas.Nat.{le-div, pow_pos}
use Rattle.words.specs.Layout.{Field, flag, count, rest, fixed, fitting, joined, fitting_all}
use Rattle.words.proofs.Layouts.{both}
use Rattle.report_writer.specs.Data.{overrun, overrun_all, data_or_more}

fit_overrun : (f : Field) → fitting f ≡ true → overrun f ≡ 0
fit_overrun (flag b) h = refl
fit_overrun (count k n) h = div-eq_of_lt (ltb-true n (2 ^ k) h)
fit_overrun (rest k n) h = refl
fit_overrun (fixed k n) h = div-eq_of_lt (ltb-true n (2 ^ k) h)

unfit_overrun : (f : Field) → fitting f ≡ false → 1 ≤ overrun f
unfit_overrun (flag b) h = cc
unfit_overrun (count k n) h = le-div 1 n (2 ^ k) (pow_pos k) (omega (arith, ltb-false n (2 ^ k) h))
unfit_overrun (rest k n) h = cc
unfit_overrun (fixed k n) h = le-div 1 n (2 ^ k) (pow_pos k) (omega (arith, ltb-false n (2 ^ k) h))

fit_none : (fs : List Field) → fitting_all fs ≡ true → overrun_all fs ≡ 0
fit_none [] h = refl
fit_none (f ∷ fs) h = let k = both (fitting f) (fitting_all fs) h in omega (arith, fit_overrun f k.0, fit_none fs k.1)

unfit_some : (fs : List Field) → fitting_all fs ≡ false → 1 ≤ overrun_all fs
unfit_some [] h = cc
unfit_some (f ∷ fs) h = go (fitting f) refl h (unfit_some fs)
  where
    go : (b : Bool) → fitting f ≡ b → cond b (fitting_all fs) false ≡ false → (fitting_all fs ≡ false → 1 ≤ overrun_all fs) → 1 ≤ overrun f + overrun_all fs
    go true e r more = let m = more r in omega arith
    go false e r more = omega (arith, unfit_overrun f e)

pub fit_data : (fs : List Field) → fitting_all fs ≡ true → data_or_more fs ≡ joined fs
fit_data fs h = omega (arith, fit_none fs h)

pub unfit_data : (fs : List Field) → fitting_all fs ≡ false → 4095 < data_or_more fs
unfit_data fs h = omega (arith, unfit_some fs h)
