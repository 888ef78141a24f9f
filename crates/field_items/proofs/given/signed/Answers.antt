-- `field_items::given::signed` meets its contract: what 32 bits hold is held with its sign. Assumes nothing.
use mathlib.Core.Path.{◌≡◌, ap, sym, subst, ◌∙◌}
use Prim.Native.Nat.{ℕ, suc, ◌-◌, ◌≤◌, ◌<◌, ◌^◌}
use native.Mathlib.Omega.{arith}
use native.Mathlib.Decide.{dec_lt}
use borrow.Author.Tests.{lt-ltb, le-ltb}
use lib.IntN.{ℤ, pos, negsuc}
use mir.Syntax.{w32, w64}
use mir.Val.{SFits, to_z}
use mir.Facts.{to_z_pos, to_z-neg, to_z-of_z}
use Rattle.std.specs.Prelude.{Result, Ok, Err}
use Rattle.std.specs.Result.{OkIff, result_unwrap_or}
use Rattle.field_items.specs.Given.{signed_of}
use Rattle.field_items.proofs.given.signed.Goals as goal

-- the three cases
plain : (x : ℕ) → x < 2147483648 → signed_of x ≡ pos x
unfolding signed_of
plain x h = simp (lt-ltb _ _ h)

below : (x : ℕ) → 2147483648 ≤ x → 18446744073709551615 - x < 2147483648 → signed_of x ≡ negsuc (18446744073709551615 - x)
unfolding signed_of
below x h l = simp (le-ltb _ _ h, lt-ltb _ _ l)

beyond : (x : ℕ) → 2147483648 ≤ x → 2147483648 ≤ 18446744073709551615 - x → signed_of x ≡ negsuc 2147483647
unfolding signed_of
beyond x h l = simp (le-ltb _ _ h, le-ltb _ _ l)

-- what 64 bits stand for in the upper half
upper : (v : ℕ) → 9223372036854775808 ≤ v → v < 2 ^ 64 → to_z w64 v ≡ negsuc (18446744073709551615 - v)
upper v l h =
    let e : v ≡ 18446744073709551616 - suc (18446744073709551615 - v) = omega arith in
    ap (to_z w64) e ∙ to_z-neg w64 (18446744073709551615 - v) (omega arith)

narrowed : {E : Type 0} (v : ℕ) (r : Result ℤ E) → v < 2 ^ 64 → OkIff r (SFits w32 (to_z w64 v)) (to_z w64 v) → result_unwrap_or r (negsuc 2147483647) ≡ signed_of v
narrowed v r h o = go (dec_lt v 9223372036854775808) r o
  where
    go : {E : Type 0} → Dec (v < 9223372036854775808) → (r : Result ℤ E) → OkIff r (SFits w32 (to_z w64 v)) (to_z w64 v) → result_unwrap_or r (negsuc 2147483647) ≡ signed_of v
    go (yes l) (Ok x) (f, e) =
        let g : SFits w32 (pos v) = subst (SFits w32) (to_z_pos w64 l) f in
        e ∙ to_z_pos w64 l ∙ sym (plain v g.sfits)
    go (no l) (Ok x) (f, e) =
        let u = upper v (omega arith) h in
        let g : SFits w32 (negsuc (18446744073709551615 - v)) = subst (SFits w32) u f in
        e ∙ u ∙ sym (below v (omega arith) g.sfits)
    go (yes l) (Err e) n =
        let m : v < 2147483648 → ⊥ = λ k. n (subst (SFits w32) (sym (to_z_pos w64 l)) (record { sfits = k })) in
        sym (beyond v (omega arith) (omega arith))
    go (no l) (Err e) n =
        let m : 18446744073709551615 - v < 2147483648 → ⊥ = λ k. n (subst (SFits w32) (sym (upper v (omega arith) h)) (record { sfits = k })) in
        sym (beyond v (omega arith) (omega arith))

pub returns : goal.returns
returns c =
    let e = to_z-of_z {w = w64} (record { sfits = c.cast_signed.type_inv }) ∙ c.cast_signed.ensures in
    to_z-of_z {w = w32} (record { sfits = c.unwrap_or.type_inv })
    ∙ c.unwrap_or.ensures
    ∙ narrowed c.args.x c.try_from.result c.ranges.x.fits (rw e at c.try_from.ensures)
