-- Bits 6, 12 and 79 to 90 of DABS and ATCRBS: the words hold the height that they are read as, and are read as the height that they hold.
-- Assumes nothing.
use Prim.Native.Nat.{ℕ, ◌<◌}
use mathlib.Core.Path.{◌≡◌, refl, sym, ap, ◌∙◌, subst}
use mathlib.Core.Bool.{Bool, true, false, cond}
use mathlib.Core.List.{List}
use native.Mathlib.Nat.{mod-lt}
use native.Mathlib.Omega.{arith}
use borrow.Author.Tests.{eqb-true}
use lib.Dec.{eqb, lit<}
use lib.IntN.{ℤ}
use Rattle.words.specs.Word.{bits, bit}
use Rattle.words.specs.Layout.{StandFrom}
use Rattle.words.proofs.Fields.{flagged, unflagged}
use Rattle.reports.specs.declared.Height.{Height}
use Rattle.reports.specs.declared.Height.TheVariants as H
use Rattle.reports.specs.Altitude.{AltitudeForm, Sound}
use Rattle.reports.specs.Forms.{seven_words, cd_code, mtd_code, rdas_code, mtd_search_code, rdas_search_code, is_seven, radar_code, is_cd, is_mtd, is_rdas}
use Rattle.reports.specs.Records.{height_of}
use Rattle.reports.specs.Layouts.{last_word, mode_c_of, radar}
use Rattle.reports.specs.Conditions.{unassigned, height_spares, minus_zero}
use Rattle.reports.proofs.Tests.{by_conds, number_holds, holds_not, bit_one, bit_zero, ◌&◌}

-- ---- what bits 12 and 88 to 90 tell

code_is : (b : Bool) (m k : ℕ) → k < 8 → cond b m 8 ≡ k → (b ≡ true) × (m ≡ k)
code_is true m k l e = (refl, e)
code_is false m k l e = absurd (omega arith)

-- bit 12 is one, and bits 88 to 90 are k
pub tells : (ws : List ℕ) (k : ℕ) → k < 8 → radar_code ws ≡ k → (bits ws 12 12 ≡ 1) × (bits ws 88 90 ≡ k)
tells ws k l h = let t = code_is (bit ws 12) (bits ws 88 90) k l h in (eqb-true _ 1 t.0, t.1)

-- ---- from words to the height

-- the words hold the height h
abbrev pub Stands : AltitudeForm → List ℕ → Height → Type 0
Stands form ws h = (bits ws 6 6 ≡ cond (mode_c_of h) 1 0) × (bits ws 12 12 ≡ cond (radar h) 1 0) × StandFrom 79 (last_word form h) ws

module _ (form : AltitudeForm) (sound : Sound form) (ws : List ℕ) (two : bits ws 2 3 ≡ seven_words) where
  abbrev Laid79 : Height → ℕ → Type 0
  Laid79 h n = n ≡ 0 → Stands form ws h

  -- where none of the three stands in, bit 12 is zero
  pub height_laid : (is_cd ws ≡ false → is_mtd ws ≡ false → is_rdas ws ≡ false → bit ws 12 ≡ false) → minus_zero form ws ≡ false → Laid79 (height_of form ws) (height_spares ws)
  unfolding height_of height_spares
  height_laid other sign =
      by_conds Laid79 (is_cd ws) (λ k z. let t = tells ws cd_code (lit< tt) (number_holds (is_seven ws) _ _ k) in (flagged _, t.0, refl & z & t.1 & tt))
      (λ n1. by_conds Laid79 (is_mtd ws) (λ k z. let t = tells ws mtd_code (lit< tt) (number_holds (is_seven ws) _ _ k) in (flagged _, t.0, refl & z & t.1 & tt))
      (λ n2. by_conds Laid79 (is_rdas ws) (λ k z. let t = tells ws rdas_code (lit< tt) (number_holds (is_seven ws) _ _ k) in (flagged _, t.0, refl & z & t.1 & tt))
      (λ n3. plain (other n1 n2 n3) (bit ws 6) refl)))
    where
      plain : bit ws 12 ≡ false → (b : Bool) → bit ws 6 ≡ b → Laid79 (cond b (H.Altitude (form.altitude (bits ws 79 90))) (H.Carried (bits ws 79 90))) 0
      plain none true k z = (
        bit_one _ k,
        bit_zero _ none,
        sym (sound.again (bits ws 79 90) (mod-lt _ (lit< tt)) (let m = simp (two, none, k) at sign in holds_not (form.refused (bits ws 79 90)) m)) & tt,
      )
      plain none false k z = (bit_zero _ k, bit_zero _ none, refl & tt)

  -- ---- from the height to words

  -- the words pass as the height h
  pub record Held79 (h : Height) : Type 0 where
    pub same : height_of form ws ≡ h
    pub spare : height_spares ws ≡ 0
    pub assigned : unassigned ws ≡ false
    pub altitude : minus_zero form ws ≡ false
    -- it is no search's code
    pub beacon : (eqb (radar_code ws) mtd_search_code ≡ false) × (eqb (radar_code ws) rdas_search_code ≡ false)

  -- an altitude that stands in twelve bits has them
  twelve_bits : (z : ℤ) → bits ws 79 90 ≡ form.bits_of z → form.bits_of z < 4096
  twelve_bits z e = subst (λ (n : ℕ). n < 4096) e (mod-lt _ (lit< tt))

  pub height_held : (h : Height) → Stands form ws h → Held79 h
  unfolding height_of height_spares
  height_held (H.Altitude z) s =
      let b = sound.back z (twelve_bits z s.2.0) in
      record {
        same = simp (two, s.0, s.1) (ap H.Altitude (ap form.altitude s.2.0 ∙ b.1));
        spare = simp (two, s.1);
        assigned = simp (two, s.1);
        altitude = simp (two, s.0, s.1, s.2.0, b.0);
        beacon = (simp s.1, simp s.1);
      }
  height_held (H.Carried n) s = record {
    same = simp (two, s.0, s.1, s.2.0);
    spare = simp (two, s.1);
    assigned = simp (two, s.1);
    altitude = simp (two, s.0, s.1);
    beacon = (simp s.1, simp s.1);
  }
  height_held (H.Cd m n) s = record {
    same = simp (two, s.0, s.1, s.2.0, s.2.1.1.0, unflagged);
    spare = simp (two, s.1, s.2.1.0, s.2.1.1.0);
    assigned = simp (two, s.1, s.2.1.1.0);
    altitude = simp (two, s.1);
    beacon = (simp (s.1, s.2.1.1.0), simp (s.1, s.2.1.1.0));
  }
  height_held (H.Mtd m n) s = record {
    same = simp (two, s.0, s.1, s.2.0, s.2.1.1.0, unflagged);
    spare = simp (two, s.1, s.2.1.0, s.2.1.1.0);
    assigned = simp (two, s.1, s.2.1.1.0);
    altitude = simp (two, s.1);
    beacon = (simp (s.1, s.2.1.1.0), simp (s.1, s.2.1.1.0));
  }
  height_held (H.Rdas m n) s = record {
    same = simp (two, s.0, s.1, s.2.0, s.2.1.1.0, unflagged);
    spare = simp (two, s.1, s.2.1.0, s.2.1.1.0);
    assigned = simp (two, s.1, s.2.1.1.0);
    altitude = simp (two, s.1);
    beacon = (simp (s.1, s.2.1.1.0), simp (s.1, s.2.1.1.0));
  }
