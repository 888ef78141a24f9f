-- The claims of specs/Claims.antt, each by going through the rows. Assumes nothing.
use Prim.Native.Nat.{ℕ}
use mathlib.Core.Bool.{Bool, true, false, cond}
use mathlib.Core.List.{List, [], ◌∷◌}
use mathlib.Core.Logic.{◌⊎◌, inl, inr, ⊎_elim}
use mathlib.Core.Path.{◌≡◌, refl, sym, ap, ◌∙◌}
use native.Mathlib.Omega.{arith}
use Rattle.rows.specs.Rows.{Row, first_of}
use Rattle.rows.specs.Claims.{FirstIs, NoneHolds, Refusing, RefusedExactly, AcceptedExactly, Joined, Each}

-- what is accepted is no refusal
pub differ : {X : Type 0} → true ≡ false → X
differ e = absurd (let z : ◌≡◌ {A = ℕ} 0 1 = cc in omega arith)

module _ {A : Type 0} (accepts : A → Bool) where
  apart : {X : Type 0} (a b : A) → accepts a ≡ true → accepts b ≡ false → a ≡ b → X
  apart a b good bad e = differ (sym good ∙ ap accepts e ∙ bad)

  -- one row, by whether it holds
  step : (b : Bool) (x y a : A) → cond b x y ≡ a → ((b ≡ true) × (x ≡ a)) ⊎ ((b ≡ false) × (y ≡ a))
  step true x y a e = inl (refl, e)
  step false x y a e = inr (refl, e)

  refused_first : (rows : List (Row A)) (other a : A) → accepts other ≡ true → accepts a ≡ false → first_of rows other ≡ a → FirstIs rows a
  refused_first [] other a good bad e = apart other a good bad e
  refused_first (x ∷ rows) other a good bad e =
      ⊎_elim (λ k. inl k) (λ k. inr (k.0, refused_first rows other a good bad k.1)) (step x.holds x.answer (first_of rows other) a e)

  first_refused : (rows : List (Row A)) (other a : A) → FirstIs rows a → first_of rows other ≡ a
  first_refused [] other a h = absurd h
  first_refused (x ∷ rows) other a (inl k) = rw k.0 k.1
  first_refused (x ∷ rows) other a (inr k) = rw k.0 (first_refused rows other a k.1)

  accepted_none : (rows : List (Row A)) (other a : A) → Refusing accepts rows → accepts a ≡ true → first_of rows other ≡ a → NoneHolds rows × (other ≡ a)
  accepted_none [] other a bad good e = (tt, e)
  accepted_none (x ∷ rows) other a bad good e =
      ⊎_elim (λ k. apart a x.answer good bad.0 (sym k.1))
      (λ k. let m = accepted_none rows other a bad.1 good k.1 in ((k.0, m.0), m.1))
      (step x.holds x.answer (first_of rows other) a e)

  none_accepted : (rows : List (Row A)) (other a : A) → NoneHolds rows → other ≡ a → first_of rows other ≡ a
  none_accepted [] other a h e = e
  none_accepted (x ∷ rows) other a h e = rw h.0 (none_accepted rows other a h.1 e)

pub refused_exactly : RefusedExactly
refused_exactly A accepts rows other a good bad = (refused_first accepts rows other a good bad, first_refused accepts rows other a)

pub accepted_exactly : AcceptedExactly
accepted_exactly A accepts rows other a bad good = (accepted_none accepts rows other a bad good, λ h. none_accepted accepts rows other a h.0 h.1)

pub joined : Joined
joined A [] more other = refl
joined A (x ∷ rows) more other = ap (cond x.holds x.answer) (joined A rows more other)

pub each_of : Each
each_of A B f [] other = refl
each_of A B f (x ∷ rows) other = ap (cond x.holds (f x.answer)) (each_of A B f rows other) ∙ go x.holds (first_of rows other)
  where
    go : (b : Bool) (y : A) → cond b (f x.answer) (f y) ≡ f (cond b x.answer y)
    go true y = refl
    go false y = refl
