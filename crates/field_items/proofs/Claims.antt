-- The claims of specs/Claims.antt. Assumes nothing.
use Rattle.std.specs.Prelude.{None, Option, Some}
use Prim.Native.Nat.{ℕ, ◌%◌}
use mathlib.Core.Path.{◌≡◌, refl, sym, ap, ◌∙◌}
use mathlib.Core.Bool.{Bool, true, false, cond, ◌&&◌}
use mathlib.Core.List.{List}
use mathlib.Core.Logic.{◌⊎◌, inl, inr}
use native.Mathlib.Omega.{arith}
use lib.Dec.{eqb}
use lib.ListN.{length}
use borrow.Author.Tests.{eq-eqb, ne_eqb, eqb-true}
use Rattle.pairs.specs.Pairs.{Pair, pairs_in, find_in, gathered_from}
use Rattle.fields.specs.declared.Field.{Field}
use Rattle.fields.specs.declared.Record.{Record}
use Rattle.fields.specs.declared.Record.TheVariants.{Single, Relay}
use Rattle.fields.specs.Table.{table, rows, widths, widths_at, rules, rules_at, place_from, place_of, by_place, has_fault}
use Rattle.fields.specs.Writing.{field_in, head_fits, fit_all, takes_at, takes, written_of}
use Rattle.field_items.specs.Items.{items_of, items_of_field, inner_of}
use Rattle.field_items.specs.Given.{found_in, field_given, relay_by, record_given, covers, fits, unfit, checked_at, given}
use Rattle.field_items.specs.Claims.{ItemsByName, Holds, OwnItems, NothingPassedOver, UnfitRefused}
use Rattle.field_items.proofs.Count.{Covers, nothing_else, both, covers_is, is_covered, record_apart}
use Rattle.field_items.proofs.Own.{by_name, place_no, place-of, no_sensor, found_of, made}

pub items_by_name : ItemsByName
items_by_name = by_name

-- ---- a record's own items

-- a relay's items but the sensor are those of the field inside
inside : (x : ℕ) (f : Field) (n : ℕ) → (n ≡ 237 → ⊥) → find_in n (items_of (Relay x f)) ≡ find_in n (items_of_field f)
unfolding find_in
inside x f n z = rw (ne_eqb 237 n (λ e. z (sym e))) refl

told_sensor : (ps : List Pair) → found_in (gathered_from 201 ps) 237 ≡ find_in 237 ps
told_sensor ps = found_of ps 237 (omega arith) (omega arith)

-- what is made of them
made_of : (r : Record) (ps : List Pair) → ((n : ℕ) → find_in n ps ≡ find_in n (items_of r)) → record_given (gathered_from 201 ps) (place_no (field_in r)) ≡ r
unfolding find_in
made_of (Single f) ps h = ap (λ (x : Option ℕ). relay_by x (field_given (gathered_from 201 ps) (place_no f))) (told_sensor ps ∙ h 237 ∙ no_sensor f) ∙ ap Single (made f ps (λ n z. h n))
made_of (Relay x f) ps h =
    ap (λ (y : Option ℕ). relay_by y (field_given (gathered_from 201 ps) (place_no f))) (told_sensor ps ∙ h 237) ∙ ap (Relay x) (made f ps (λ n z. h n ∙ inside x f n z))

pub own_items : OwnItems
unfolding given checked_at fits
own_items r s l h m =
    let ps = pairs_in s in
    let e = made_of r ps h.each in
    rw (eq-eqb _ _ m, eq-eqb _ _ h.whole, place-of (field_in r), e, eq-eqb (inner_of r) (inner_of r) refl, eq-eqb _ _ h.many, is_covered ps (items_of r) (record_apart r) (λ n v f. h.each n ∙ f)) refl

-- ---- what is made of what is given

-- a record that it fits
held : (t : ℕ) (s : List ℕ) (r : Record) → length s % 16 ≡ 0 → fits t (length (pairs_in s)) (gathered_from 201 (pairs_in s)) r ≡ true → Holds s r × (inner_of r ≡ t)
unfolding fits
held t s r w e =
    let ps = pairs_in s in
    let qs = items_of r in
    let a = both (eqb (inner_of r) t) (eqb (length ps) (length qs) && covers (gathered_from 201 ps) qs) e in
    let b = both (eqb (length ps) (length qs)) (covers (gathered_from 201 ps) qs) a.1 in
    let m = eqb-true (length ps) (length qs) b.0 in
    let c : Covers ps qs = covers_is ps qs (record_apart r) b.1 in
    (record { whole = w; many = m; each = nothing_else qs ps (record_apart r) c m }, eqb-true (inner_of r) t a.0)

module _ (t : ℕ) (s l : List ℕ) where
  abbrev Wanted : Record → Type 0
  Wanted r = (r ≡ unfit) ⊎ (Holds s r × (inner_of r ≡ t) × (length l ≡ 240))

  chosen : (r : Record) (b : Bool) → fits t (length (pairs_in s)) (gathered_from 201 (pairs_in s)) r ≡ b → length s % 16 ≡ 0 → length l ≡ 240 → Wanted (cond b r unfit)
  chosen r true e w m = let h = held t s r w e in inr (h.0, h.1, m)
  chosen r false e w m = inl refl

  placed : (p : Option ℕ) → length s % 16 ≡ 0 → length l ≡ 240 → Wanted (by_place unfit (checked_at t (pairs_in s)) p)
  unfolding checked_at
  placed None w m = inl refl
  placed (Some i) w m =
      let r = record_given (gathered_from 201 (pairs_in s)) i in
      chosen r (fits t (length (pairs_in s)) (gathered_from 201 (pairs_in s)) r) refl w m

  counted_off : (b : Bool) → eqb (length s % 16) 0 ≡ b → length l ≡ 240 → Wanted (cond b (by_place unfit (checked_at t (pairs_in s)) (place_of t)) unfit)
  counted_off true e m = placed (place_of t) (eqb-true _ _ e) m
  counted_off false e m = inl refl

pub nothing_passed_over : NothingPassedOver
unfolding given
nothing_passed_over t s l = go (eqb (length l) 240) refl
  where
    go : (b : Bool) → eqb (length l) 240 ≡ b → (given t s l ≡ unfit) ⊎ (Holds s (given t s l) × (inner_of (given t s l) ≡ t) × (length l ≡ 240))
    go true e = rw e (counted_off t s l (eqb (length s % 16) 0) refl (eqb-true _ _ e))
    go false e = rw e (inl refl)

-- ---- what is no record

pub unfit_refused : UnfitRefused
unfolding written_of takes takes_at head_fits fit_all has_fault rules_at rules widths_at widths place_from rows table
unfit_refused l t s = refl
