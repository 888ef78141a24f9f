-- Two's complement: what a number of 64 bits stands for, and the machine's conversions that say it. Assumes nothing.
use mathlib.Core.Path.{◌≡◌, ap, sym, subst, ◌∙◌}
use Prim.Native.Nat.{ℕ, suc, ◌-◌, ◌≤◌, ◌<◌, ◌^◌}
use native.Mathlib.Omega.{arith}
use native.Mathlib.Decide.{dec_lt}
use borrow.Author.Tests.{lt-ltb, le-ltb}
use lib.IntN.{ℤ, pos, negsuc}
use mir.Syntax.{w16, w64}
use mir.Val.{SFits, to_z}
use mir.Facts.{to_z_pos, to_z-neg}
use Rattle.std.specs.Prelude.{Result, Ok, Err}
use Rattle.std.specs.Result.{OkIff, result_unwrap_or}
use Rattle.words.proofs.Tests.{picked, passed}
use Rattle.report_items.specs.Given.{as_signed}

pub low : (h v : ℕ) → v < h → as_signed h v ≡ pos v
unfolding as_signed
low h v l = picked _ _ (lt-ltb v h l)

pub high : (h v : ℕ) → h ≤ v → 18446744073709551615 - v < h → as_signed h v ≡ negsuc (18446744073709551615 - v)
unfolding as_signed
high h v l m = passed _ _ (le-ltb v h l) ∙ picked _ _ (lt-ltb (18446744073709551615 - v) h m)

out : (h v : ℕ) → h ≤ v → h ≤ 18446744073709551615 - v → as_signed h v ≡ pos 0
unfolding as_signed
out h v l m = passed _ _ (le-ltb v h l) ∙ passed _ _ (le-ltb (18446744073709551615 - v) h m)

-- what 64 bits stand for, in the lower half and in the upper
upper : (v : ℕ) → 9223372036854775808 ≤ v → v < 2 ^ 64 → to_z w64 v ≡ negsuc (18446744073709551615 - v)
upper v l h =
    let e : v ≡ 18446744073709551616 - suc (18446744073709551615 - v) = omega arith in
    ap (to_z w64) e ∙ to_z-neg w64 (18446744073709551615 - v) (omega arith)

pub signed_is : (v : ℕ) → v < 2 ^ 64 → to_z w64 v ≡ as_signed 9223372036854775808 v
signed_is v h = go (dec_lt v 9223372036854775808)
  where
    go : Dec (v < 9223372036854775808) → to_z w64 v ≡ as_signed 9223372036854775808 v
    go (yes l) = to_z_pos w64 l ∙ sym (low 9223372036854775808 v l)
    go (no l) = upper v (omega arith) h ∙ sym (high 9223372036854775808 v (omega arith) (omega arith))

-- where sixteen bits hold it, they hold that; else it counts as 0
pub narrowed : {E : Type 0} (v : ℕ) (r : Result ℤ E) → v < 2 ^ 64 → OkIff r (SFits w16 (to_z w64 v)) (to_z w64 v) → result_unwrap_or r (pos 0) ≡ as_signed 32768 v
narrowed v r h o = go (dec_lt v 9223372036854775808) r o
  where
    go : {E : Type 0} → Dec (v < 9223372036854775808) → (r : Result ℤ E) → OkIff r (SFits w16 (to_z w64 v)) (to_z w64 v) → result_unwrap_or r (pos 0) ≡ as_signed 32768 v
    go (yes l) (Ok x) (f, e) =
        let g : SFits w16 (pos v) = subst (SFits w16) (to_z_pos w64 l) f in
        e ∙ to_z_pos w64 l ∙ sym (low 32768 v g.sfits)
    go (no l) (Ok x) (f, e) =
        let u = upper v (omega arith) h in
        let g : SFits w16 (negsuc (18446744073709551615 - v)) = subst (SFits w16) u f in
        e ∙ u ∙ sym (high 32768 v (omega arith) g.sfits)
    go (yes l) (Err e) n =
        let m : v < 32768 → ⊥ = λ k. n (subst (SFits w16) (sym (to_z_pos w64 l)) (record { sfits = k })) in
        sym (out 32768 v (omega arith) (omega arith))
    go (no l) (Err e) n =
        let m : 18446744073709551615 - v < 32768 → ⊥ = λ k. n (subst (SFits w16) (sym (upper v (omega arith) h)) (record { sfits = k })) in
        sym (out 32768 v (omega arith) (omega arith))
