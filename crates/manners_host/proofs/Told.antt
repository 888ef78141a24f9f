-- How many breaches an answer tells, never more than a line can have; and the claim TakenApart. Assumes nothing.
use Prim.Native.Nat.{ℕ, ◌%◌, ◌≤◌, ◌<◌}
use mathlib.Core.Path.{◌≡◌, refl}
use mathlib.Core.Bool.{Bool, true, false, cond}
use mathlib.Core.List.{List}
use native.Mathlib.Omega.{arith}
use lib.Dec.{eqb, ltb}
use lib.ListN.{length}
use borrow.Author.Tests.{ltb-false}
use Rattle.std.specs.Prelude.{Result, Ok, Err}
use Rattle.refusals.specs.declared.LineRefusal.{LineRefusal}
use Rattle.refusals.specs.declared.LineRefusal.TheVariants as L
use Rattle.refusals.specs.Numbers.{line_number}
use Rattle.reports.specs.Altitude.{AltitudeForm}
use Rattle.lines.specs.Bytes.{most_bytes, words_in, bytes_of}
use Rattle.lines.proofs.ByteWords.{words_length}
use Rattle.manners.specs.declared.NotListed.{NotListed}
use Rattle.manners.specs.declared.NotListed.TheVariants as N
use Rattle.manners.specs.declared.MannersRefusal.{MannersRefusal}
use Rattle.manners.specs.declared.MannersRefusal.TheVariants as M
use Rattle.manners.specs.Numbers.{manners_number}
use Rattle.manners.specs.Breaches.{breaches, numbers_of}
use Rattle.manners.specs.Listing.{most_breaches, count_in, listed_bytes}
use Rattle.manners.proofs.Exactly.{no_more}
use Rattle.manners_host.specs.Calls.{step}
use Rattle.manners_host.specs.Claims.{TakenApart}

abbrev Few : Result ℕ NotListed → Type 0
Few a = count_in a ≤ most_breaches

by_rows : (a b c : Bool) (n : ℕ) → (a ≡ false → n ≤ most_breaches)
    → Few (cond a (Err (N.Line L.LineTooLong)) (cond b (Err (N.Line L.OddByteCount)) (cond c (Err (N.List M.ListTooSmall n)) (Ok n))))
by_rows true b c n h = omega arith
by_rows false true c n h = omega arith
by_rows false false true n h = h refl
by_rows false false false n h = h refl

pub few_told : (form : AltitudeForm) (bytes : List ℕ) (room : ℕ) → Few (listed_bytes form bytes room)
unfolding listed_bytes
few_told form bytes room =
    by_rows (ltb most_bytes (length bytes)) (eqb (length bytes % 2) 1) (ltb room (length (bytes_of (numbers_of (breaches form (words_in bytes))))))
    (length (breaches form (words_in bytes)))
    (λ t.
    let m = ltb-false most_bytes (length bytes) t in
    let w = words_length bytes in
    no_more.in_any form (words_in bytes) (omega arith))

-- a refusal's number is less than what breaches are counted in
pub under_step : (q : MannersRefusal) → manners_number q < step
under_step M.ListTooSmall = omega arith

line_under_step : (q : LineRefusal) → line_number q < step
line_under_step L.NoSuchLink = omega arith
line_under_step L.LineTooLong = omega arith
line_under_step L.OddByteCount = omega arith
line_under_step L.PlaceBeyondLine = omega arith
line_under_step L.WordTooWide = omega arith
line_under_step L.EvenWord = omega arith
line_under_step L.UnknownForm = omega arith
line_under_step L.WrongLength = omega arith
line_under_step L.UnassignedRadar = omega arith
line_under_step L.SpareBitSet = omega arith
line_under_step L.MinusZero = omega arith
line_under_step L.ValueTooLarge = omega arith
line_under_step L.NoRoom = omega arith

pub taken_apart : TakenApart
taken_apart (Ok n) = (omega arith, omega arith)
taken_apart (Err (N.Line q)) = let u = line_under_step q in (omega arith, omega arith)
taken_apart (Err (N.List q n)) = let u = under_step q in (omega arith, omega arith)
