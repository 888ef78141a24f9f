-- `frames::flag::near` meets its contract: no flag begins before p. Assumes nothing.
use mathlib.Core.Path.{◌≡◌, sym, ◌∙◌}
use mathlib.Core.List.{List}
use Prim.Native.Nat.{ℕ, ◌+◌, ◌*◌, ◌%◌, ◌<◌}
use native.Mathlib.Decide.{dec_lt}
use native.Mathlib.Omega.{arith}
use Rattle.bits.specs.Bits.{bit_at}
use Rattle.bits.proofs.Laws.{whole, bits_of-lt}
use Rattle.frames.specs.Steps.{NoFlags}
use Rattle.frames.proofs.Flagged.{eight_on}
use Rattle.frames.proofs.flag.near.Goals as goal
use Rattle.frames.proofs.flag.near.Invariants.{Sought}

module _ {b : List ℕ} {from to p eight : ℕ} (s : Sought b from to p eight) where
  small : eight < 256
  small = rw s.is (bits_of-lt b p 8)

  -- none there, and it goes on one place
  on : (eight ≡ 0x7E → ⊥) → p < to → (x : ℕ) → x ≡ bit_at b (p + 8) → Sought b from to (p + 1) (eight * 2 % 256 + x)
  on n l x e =
      record {
        later = omega (arith, s.later);
        within = omega arith;
        is = rw (e, s.is) (sym (eight_on b p));
        none = passed;
      }
    where
      passed : NoFlags b from (p + 1)
      passed q h m f = go (dec_lt q p)
        where
          go : Dec (q < p) → ⊥
          go (yes k) = s.none q h k f
          go (no k) = let z : q ≡ p = omega arith in n (s.is ∙ (rw z at f))

pub loop-p-init : goal.loop-p-init
loop-p-init c =
    record {
      later = omega arith;
      within = omega arith;
      is = c.read-eight.ensures ∙ whole _ _ 8 (omega arith);
      none = λ q l h. absurd (omega arith);
    }

pub overflow_mul-eight : goal.overflow_mul-eight
overflow_mul-eight c = omega (arith, small c.loop-p.invariant)

pub loop-p-preserved : goal.loop-p-preserved
loop-p-preserved c = on c.loop-p.invariant c.if-eight-eq-FLAG.false (omega arith) c.bit.result c.bit.ensures.0
