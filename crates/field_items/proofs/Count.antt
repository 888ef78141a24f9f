-- As many pairs as a record has items, among which each of its items is found, are its items and nothing else: one more would be one too
-- many. Assumes nothing.
use Rattle.std.specs.Prelude.{None, Option, Some}
use Prim.Native.Nat.{ℕ, suc, ◌≤◌, zero-le}
use mathlib.Core.Path.{◌≡◌, refl, sym, ap, ◌∙◌}
use mathlib.Core.Bool.{Bool, true, false, cond, ◌&&◌}
use mathlib.Core.List.{List, [], ◌∷◌}
use native.Mathlib.Decide.{ℕ_discrete}
use native.Mathlib.Omega.{arith}
use lib.Dec.{T, eqb, leb, leb→le}
use lib.ListN.{length}
use borrow.Author.Tests.{eq-eqb, ne_eqb, eqb-true}
use Rattle.pairs.specs.Pairs.{Pair, find_in, gathered_from}
use Rattle.fields.specs.declared.Field.{Field}
use Rattle.fields.specs.declared.Field.TheVariants as F
use Rattle.fields.specs.declared.Record.{Record}
use Rattle.fields.specs.declared.Record.TheVariants.{Single, Relay}
use Rattle.fields.specs.Table.{table, rows, place_from}
use Rattle.fields.proofs.Rows.{both_left, both_right}
use Rattle.field_items.specs.Items.{item_table, items_at, pairs_by, items_of_field, items_of}
use Rattle.field_items.specs.Given.{found_in, same_found, covers}
use Rattle.field_items.proofs.Own.{no_sensor, found_of}

-- ---- pairs with numbers that differ

abbrev missing : Option ℕ → Bool
missing (Some v) = false
missing None = true

missing_is : (x : Option ℕ) → T (missing x) → x ≡ None
missing_is (Some v) t = absurd t
missing_is None t = refl

-- each number is an item's, and none stands twice
abbrev pub apart : List Pair → Bool
apart [] = true
apart (p ∷ ps) = (leb 201 p.0 && leb p.0 237) && (missing (find_in p.0 ps) && apart ps)

-- the first of such pairs has an item's number, and those behind are such pairs
first : (q : Pair) (qs : List Pair) → T (apart (q ∷ qs)) → (201 ≤ q.0) × (q.0 ≤ 237) × (find_in q.0 qs ≡ None) × T (apart qs)
first q qs t =
    let a = both_left (leb 201 q.0 && leb q.0 237) (missing (find_in q.0 qs) && apart qs) t in
    let b = both_right (leb 201 q.0 && leb q.0 237) (missing (find_in q.0 qs) && apart qs) t in (
      leb→le 201 q.0 (both_left (leb 201 q.0) (leb q.0 237) a),
      leb→le q.0 237 (both_right (leb 201 q.0) (leb q.0 237) a),
      missing_is _ (both_left (missing (find_in q.0 qs)) (apart qs) b),
      both_right (missing (find_in q.0 qs)) (apart qs) b,
    )

-- a search passes over a pair with another number
past : (p : Pair) (ps : List Pair) (n : ℕ) → (p.0 ≡ n → ⊥) → find_in n (p ∷ ps) ≡ find_in n ps
unfolding find_in
past p ps n h = rw (ne_eqb p.0 n h) refl

here : (p : Pair) (ps : List Pair) (n : ℕ) → p.0 ≡ n → find_in n (p ∷ ps) ≡ Some p.1
unfolding find_in
here p ps n h = rw (eq-eqb p.0 n h) refl

-- ---- counting

-- without the first pair that has the number
abbrev without : ℕ → List Pair → List Pair
without n [] = []
without n (p ∷ ps) = cond (eqb p.0 n) ps (p ∷ without n ps)

without_length : (n v : ℕ) (ps : List Pair) → find_in n ps ≡ Some v → length ps ≡ suc (length (without n ps))
unfolding find_in
without_length n v [] e = absurd (let z : ◌≡◌ {A = ℕ} 0 1 = cc in omega arith)
without_length n v (p ∷ ps) e = go (eqb p.0 n) refl (without_length n v ps)
  where
    go : (b : Bool) → eqb p.0 n ≡ b → (find_in n ps ≡ Some v → length ps ≡ suc (length (without n ps))) → suc (length ps) ≡ suc (length (cond b ps (p ∷ without n ps)))
    go true q h = refl
    go false q h = ap suc (h (rw q at e))

without_other : (n m : ℕ) (ps : List Pair) → (n ≡ m → ⊥) → find_in m (without n ps) ≡ find_in m ps
unfolding find_in
without_other n m [] z = refl
without_other n m (p ∷ ps) z = go (eqb p.0 n) refl (without_other n m ps z)
  where
    go : (b : Bool) → eqb p.0 n ≡ b → find_in m (without n ps) ≡ find_in m ps → find_in m (cond b ps (p ∷ without n ps)) ≡ find_in m (p ∷ ps)
    go true q h = sym (past p ps m (λ e. z (sym (eqb-true _ _ q) ∙ e)))
    go false q h = ap (λ (x : Option ℕ). cond (eqb p.0 m) (Some p.1) x) h

-- everything of qs is found in ps
abbrev pub Covers : List Pair → List Pair → Type 0
Covers ps qs = (n v : ℕ) → find_in n qs ≡ Some v → find_in n ps ≡ Some v

-- numbers that differ
abbrev Apart : List Pair → Type 0
Apart [] = Unit {0}
Apart (q ∷ qs) = (find_in q.0 qs ≡ None) × Apart qs

apart_is : (ps : List Pair) → T (apart ps) → Apart ps
apart_is [] t = tt
apart_is (p ∷ ps) t = let f = first p ps t in (f.2, apart_is ps f.3)

-- what is found behind a pair has another number than it
other : (q : Pair) (qs : List Pair) → find_in q.0 qs ≡ None → (n v : ℕ) → find_in n qs ≡ Some v → q.0 ≡ n → ⊥
other q qs a n v f d = never (find_in n qs) v f (ap (λ (k : ℕ). find_in k qs) (sym d) ∙ a)
  where
    never : (x : Option ℕ) (v : ℕ) → x ≡ Some v → x ≡ None → ⊥
    never x v f g = let z : ◌≡◌ {A = ℕ} 0 1 = cc in omega arith

-- what covers pairs covers those behind the first
behind : (q : Pair) (qs ps : List Pair) → find_in q.0 qs ≡ None → Covers ps (q ∷ qs) → Covers ps qs
behind q qs ps a h n v f = h n v (past q qs n (other q qs a n v f) ∙ f)

fewer : (qs ps : List Pair) → Apart qs → Covers ps qs → length qs ≤ length ps
fewer [] ps a h = zero-le
fewer (q ∷ qs) ps a h =
    let e = h q.0 q.1 (here q qs q.0 refl) in
    let less : length qs ≤ length (without q.0 ps) = fewer qs (without q.0 ps) a.1 (λ n v f. without_other q.0 n ps (other q qs a.0 n v f) ∙ behind q qs ps a.0 h n v f) in
    omega (arith, without_length q.0 q.1 ps e)

-- nothing else is there
pub nothing_else : (qs ps : List Pair) → T (apart qs) → Covers ps qs → length ps ≡ length qs → (n : ℕ) → find_in n ps ≡ find_in n qs
nothing_else qs ps t h m n = go (find_in n qs) (find_in n ps) refl refl
  where
    more : (v : ℕ) → find_in n ps ≡ Some v → find_in n qs ≡ None → Covers ps ((n, v) ∷ qs)
    more v e f k w g = cond (ℕ_discrete n k)
      where
        cond : Dec (n ≡ k) → find_in k ps ≡ Some w
        cond (yes q) = ap (λ (j : ℕ). find_in j ps) (sym q) ∙ e ∙ sym (here (n, v) qs k q) ∙ g
        cond (no q) = h k w (sym (past (n, v) qs k q) ∙ g)

    go : (x y : Option ℕ) → find_in n qs ≡ x → find_in n ps ≡ y → find_in n ps ≡ find_in n qs
    go (Some v) y f g = h n v f ∙ sym f
    go None None f g = g ∙ sym f
    go None (Some v) f g = absurd (omega (arith, fewer ((n, v) ∷ qs) ps (f, apart_is qs t) (more v g f)))

-- ---- what a comparison says

same_is : (x y : Option ℕ) → same_found x y ≡ true → x ≡ y
same_is (Some a) (Some b) e = ap Some (eqb-true a b e)
same_is (Some a) None e = absurd (let z : ◌≡◌ {A = ℕ} 0 1 = cc in omega arith)
same_is None (Some b) e = absurd (let z : ◌≡◌ {A = ℕ} 0 1 = cc in omega arith)
same_is None None e = refl

pub both : (a b : Bool) → (a && b) ≡ true → (a ≡ true) × (b ≡ true)
both true b e = (refl, e)
both false b e = absurd (let z : ◌≡◌ {A = ℕ} 0 1 = cc in omega arith)

-- what is gathered covers the items that the test says it covers
pub covers_is : (ps qs : List Pair) → T (apart qs) → covers (gathered_from 201 ps) qs ≡ true → Covers ps qs
unfolding find_in covers
covers_is ps [] t e n v f = absurd (let z : ◌≡◌ {A = ℕ} 0 1 = cc in omega arith)
covers_is ps (q ∷ qs) t e n v f =
    let i = first q qs t in
    let b = both (same_found (found_in (gathered_from 201 ps) q.0) (Some q.1)) (covers (gathered_from 201 ps) qs) e in
    go (ℕ_discrete q.0 n) (sym (found_of ps q.0 i.0 i.1) ∙ same_is _ _ b.0) (covers_is ps qs i.3 b.1 n v)
  where
    go : Dec (q.0 ≡ n) → find_in q.0 ps ≡ Some q.1 → (find_in n qs ≡ Some v → find_in n ps ≡ Some v) → find_in n ps ≡ Some v
    go (yes d) g h = ap (λ (k : ℕ). find_in k ps) (sym d) ∙ g ∙ sym (here q qs n d) ∙ f
    go (no d) g h = h (sym (past q qs n d) ∙ f)

-- and the test says it of all that it covers
pub is_covered : (ps qs : List Pair) → T (apart qs) → Covers ps qs → covers (gathered_from 201 ps) qs ≡ true
unfolding covers
is_covered ps [] t h = refl
is_covered ps (q ∷ qs) t h =
    let i = first q qs t in
    let g : found_in (gathered_from 201 ps) q.0 ≡ Some q.1 = found_of ps q.0 i.0 i.1 ∙ h q.0 q.1 (here q qs q.0 refl) in
    rw (g, eq-eqb q.1 q.1 refl) (is_covered ps qs i.3 (behind q qs ps i.2 h))

-- ---- a record's items

field_apart : (f : Field) → T (apart (items_of_field f))
unfolding find_in pairs_by items_of_field place_from rows table item_table items_at
field_apart (F.TacticalUplink a b c d e) = tt
field_apart (F.ElmUplink a b c d f) = tt
field_apart (F.DownlinkRequest a b c d e) = tt
field_apart (F.IdRequest a b) = tt
field_apart (F.CapabilityRequest a b) = tt
field_apart (F.Cancellation a b c d) = tt
field_apart (F.Test a) = tt
field_apart (F.AltimeterCorrection b) = tt
field_apart (F.AtcFailure a) = tt
field_apart (F.SensorFailure a c) = tt
field_apart (F.DabsControlState a b c) = tt
field_apart (F.AtcrbsControlState a b) = tt
field_apart (F.RejectionNotice a b c) = tt
field_apart (F.DeliveryNotice a b c) = tt
field_apart (F.TacticalDownlink a b) = tt
field_apart (F.ElmDownlink a c) = tt
field_apart (F.Utility a c) = tt
field_apart (F.Capability a b c d) = tt
field_apart (F.IdCode a c) = tt
field_apart (F.TestResponse a) = tt
field_apart (F.ControllerAlert a b c d e f g h i j) = tt

pub record_apart : (r : Record) → T (apart (items_of r))
record_apart (Single f) = field_apart f
record_apart (Relay x f) = rw (no_sensor f) (field_apart f)
