-- A number leads back to what it names, by lists in the numbers' order: so no two share one. Assumes nothing.
use Prim.Native.Nat.{ℕ, ◌-◌}
use mathlib.Core.Path.{◌≡◌, refl, sym, ap, ◌∙◌}
use mathlib.Core.Bool.{cond}
use mathlib.Core.List.{[], ◌∷◌}
use lib.Dec.{T, ltb, ltb→lt}
use lib.ListN.{get_or}
use Rattle.refusals.specs.declared.LineRefusal.TheVariants as L
use Rattle.refusals.specs.declared.FieldRefusal.TheVariants as F
use Rattle.frames.specs.declared.FrameRefusal.TheVariants as R
use Rattle.index.specs.declared.IndexRefusal.TheVariants as X
use Rattle.manners.specs.declared.MannersRefusal.TheVariants as M
use Rattle.reports.specs.declared.kinds.Kind.TheVariants as K
use Rattle.claims.specs.Numbers.{Named, line, field, frame, index, manners, kind, number_of, NumbersDiffer, NoNumberIsZero}

-- 1 to 11, 13 and 14 (12 is free: here it leads to what 13 names); 20 to 31; 40 to 46; 50 and 51; 52; 101 to 115
abbrev named : ℕ → Named
named n =
    cond (ltb n 20)
    (line
    (get_or
    (L.PlaceBeyondLine
    ∷ L.LineTooLong
    ∷ L.WordTooWide
    ∷ L.EvenWord
    ∷ L.UnknownForm
    ∷ L.WrongLength
    ∷ L.UnassignedRadar
    ∷ L.SpareBitSet
    ∷ L.MinusZero
    ∷ L.NoRoom
    ∷ L.ValueTooLarge
    ∷ L.NoSuchLink
    ∷ L.NoSuchLink
    ∷ [])
    (n - 1)
    L.OddByteCount))
    (cond (ltb n 40)
    (field
    (get_or
    (F.CountOutOfRange
    ∷ F.WrongByteCount
    ∷ F.BitAfterCount
    ∷ F.UnknownType
    ∷ F.TypeNotCarried
    ∷ F.WrongDirection
    ∷ F.WrongBitCount
    ∷ F.SpareBitSet
    ∷ F.ValueNotInUse
    ∷ F.NotRelayed
    ∷ F.NotWritable
    ∷ [])
    (n - 20)
    F.NoRoom))
    (cond (ltb n 50)
    (frame
    (get_or
    (R.WrongLength ∷ R.ZeroMissing ∷ R.UnknownAddress ∷ R.WrongCheck ∷ R.CountOrFlag ∷ R.NoClosingFlag ∷ [])
    (n - 40)
    R.NoRoom))
    (cond (ltb n 100)
    (get_or (index X.TableBroken ∷ index X.TableFull ∷ []) (n - 50) (manners M.ListTooSmall))
    (kind
    (get_or
    (K.Search
    ∷ K.Strobe
    ∷ K.Map
    ∷ K.Status
    ∷ K.Rtqc
    ∷ K.Dabs
    ∷ K.DabsCd
    ∷ K.DabsMtd
    ∷ K.DabsRdas
    ∷ K.Atcrbs
    ∷ K.AtcrbsCd
    ∷ K.AtcrbsMtd
    ∷ K.AtcrbsRdas
    ∷ K.Mtd
    ∷ [])
    (n - 101)
    K.Rdas)))))

back : (a : Named) → (named (number_of a) ≡ a) × T (ltb 0 (number_of a))
back (line L.NoSuchLink) = (refl, tt)
back (line L.LineTooLong) = (refl, tt)
back (line L.OddByteCount) = (refl, tt)
back (line L.PlaceBeyondLine) = (refl, tt)
back (line L.WordTooWide) = (refl, tt)
back (line L.EvenWord) = (refl, tt)
back (line L.UnknownForm) = (refl, tt)
back (line L.WrongLength) = (refl, tt)
back (line L.UnassignedRadar) = (refl, tt)
back (line L.SpareBitSet) = (refl, tt)
back (line L.MinusZero) = (refl, tt)
back (line L.ValueTooLarge) = (refl, tt)
back (line L.NoRoom) = (refl, tt)
back (field F.CountOutOfRange) = (refl, tt)
back (field F.WrongByteCount) = (refl, tt)
back (field F.BitAfterCount) = (refl, tt)
back (field F.UnknownType) = (refl, tt)
back (field F.TypeNotCarried) = (refl, tt)
back (field F.WrongDirection) = (refl, tt)
back (field F.NotRelayed) = (refl, tt)
back (field F.WrongBitCount) = (refl, tt)
back (field F.SpareBitSet) = (refl, tt)
back (field F.ValueNotInUse) = (refl, tt)
back (field F.NotWritable) = (refl, tt)
back (field F.NoRoom) = (refl, tt)
back (frame R.CountOrFlag) = (refl, tt)
back (frame R.ZeroMissing) = (refl, tt)
back (frame R.NoClosingFlag) = (refl, tt)
back (frame R.WrongLength) = (refl, tt)
back (frame R.WrongCheck) = (refl, tt)
back (frame R.UnknownAddress) = (refl, tt)
back (frame R.NoRoom) = (refl, tt)
back (index X.TableBroken) = (refl, tt)
back (index X.TableFull) = (refl, tt)
back (manners M.ListTooSmall) = (refl, tt)
back (kind K.Search) = (refl, tt)
back (kind K.Strobe) = (refl, tt)
back (kind K.Map) = (refl, tt)
back (kind K.Status) = (refl, tt)
back (kind K.Rtqc) = (refl, tt)
back (kind K.Dabs) = (refl, tt)
back (kind K.DabsCd) = (refl, tt)
back (kind K.DabsMtd) = (refl, tt)
back (kind K.DabsRdas) = (refl, tt)
back (kind K.Atcrbs) = (refl, tt)
back (kind K.AtcrbsCd) = (refl, tt)
back (kind K.AtcrbsMtd) = (refl, tt)
back (kind K.AtcrbsRdas) = (refl, tt)
back (kind K.Mtd) = (refl, tt)
back (kind K.Rdas) = (refl, tt)

pub numbers_differ : NumbersDiffer
numbers_differ a b same = sym (back a).0 ∙ ap named same ∙ (back b).0

pub no_number_is_zero : NoNumberIsZero
no_number_is_zero a = ltb→lt 0 (number_of a) (back a).1
