-- A lent table: what the searches in it find is what a look answers, and what a look answers is what the two calls answer. Assumes nothing.
use Prim.Native.Nat.{ℕ, ◌<◌, ◌≤◌}
use mathlib.Core.Bool.{true, false, not, cond}
use mathlib.Core.List.{List}
use mathlib.Core.Path.{◌≡◌, sym, ap, ◌∙◌}
use native.Mathlib.Omega.{arith}
use borrow.Author.Tests.{lt-ltb, le-ltb, eq-eqb, ne_eqb}
use lib.Dec.{eqb}
use lib.ListN.{length, take, drop}
use Rattle.std.specs.Prelude.{Option, Some, None, Result, Ok, Err}
use Rattle.std.specs.Option.{unwrap_or, ok_or}
use Rattle.words.proofs.Tests.{by_test}
use Rattle.index.specs.declared.Entry.{Entry}
use Rattle.index.specs.declared.Indexed.TheVariants as I
use Rattle.index.specs.declared.IndexRefusal.{IndexRefusal}
use Rattle.index.specs.declared.IndexRefusal.TheVariants.{TableBroken, TableFull}
use Rattle.index.specs.declared.judging.Sound.{Sound}
use Rattle.index.specs.Entries.{uncorrelated}
use Rattle.index.specs.Table.{most, numbers_of, any_used, holds, place_of, used_after_unused, held_twice, is_broken}
use Rattle.index.specs.Indexing.{indexed, find_rows, found}
use Rattle.index.specs.Steps.{placed, some_used, looked_in, IsWithin}
use Rattle.index.proofs.Looks.{as_many, held_place, gap_is, front_twice, front_numbers, rest_numbers, some_is, placed_is}
use Rattle.index.proofs.Sound.{behind, answered}

-- ---- a search

module _ (x : ℕ) (table : List Entry) where
  -- a number that is held is found where it stands
  pub placed_some : {i : ℕ} → placed x table ≡ Some i → (holds x (numbers_of table) ≡ true) × (place_of x (numbers_of table) ≡ i)
  placed_some {i} h =
      by_test (holds x (numbers_of table))
      (λ t.
      let is : ◌≡◌ {A = Option ℕ} (Some (place_of x (numbers_of table))) (Some i) = rw t at (sym (placed_is x table) ∙ h) in
      let at : place_of x (numbers_of table) ≡ i = cc in
      (t, at))
      (λ t. let no : ◌≡◌ {A = Option ℕ} None (Some i) = rw t at (sym (placed_is x table) ∙ h) in (cc, cc))

  pub placed_none : placed x table ≡ None → holds x (numbers_of table) ≡ false
  placed_none h =
      by_test (holds x (numbers_of table))
      (λ t. let no : ◌≡◌ {A = Option ℕ} (Some (place_of x (numbers_of table))) None = rw t at (sym (placed_is x table) ∙ h) in cc)
      (λ t. t)

  -- in the table
  pub placed_within : length table ≤ most → IsWithin (length table) (placed x table)
  placed_within m =
      by_test (holds x (numbers_of table))
      (λ t. rw (placed_is x table, t) (omega (arith, (held_place x (numbers_of table)).0 t, as_many table), m))
      (λ t. rw (placed_is x table, t) tt)

-- a place that is there, or the refusal
pub had_some : (q : IndexRefusal) {i : ℕ} (o : Option ℕ) → ◌≡◌ {A = Result ℕ IndexRefusal} (Ok i) (ok_or o q) → o ≡ Some i
had_some q (Some j) e = cc
had_some q None e = cc

pub had_none : (q : IndexRefusal) {r : IndexRefusal} (o : Option ℕ) → ◌≡◌ {A = Result ℕ IndexRefusal} (Err r) (ok_or o q) → (o ≡ None) × (r ≡ q)
had_none q (Some j) e = (cc, cc)
had_none q None e = (cc, cc)

-- ---- a look, by the first unused entry

module _ (table : List Entry) where
  up_to_is : unwrap_or (placed uncorrelated table) (length table) ≡ place_of uncorrelated (numbers_of table)
  up_to_is =
      by_test (holds uncorrelated (numbers_of table))
      (λ t. rw (placed_is uncorrelated table, t))
      (λ t. rw (placed_is uncorrelated table, t) (sym ((held_place uncorrelated (numbers_of table)).1 t ∙ as_many table)))

  pub long_broken : most < length table → is_broken table ≡ true
  long_broken h = rw (lt-ltb most (length table) h)

  module _ (free : ℕ) (is : free ≡ unwrap_or (placed uncorrelated table) (length table)) (short : length table ≤ most) where
    gap_there : used_after_unused (numbers_of table) ≡ some_used (drop free table)
    gap_there =
        rw (is, up_to_is)
        (gap_is (numbers_of table) ∙ sym (some_is (drop (place_of uncorrelated (numbers_of table)) table) ∙ ap any_used (rest_numbers (place_of uncorrelated (numbers_of table)) table)))

    pub gap_broken : some_used (drop free table) ≡ true → is_broken table ≡ true
    gap_broken u = rw (le-ltb most (length table) short, gap_there ∙ u)

    twice_there : some_used (drop free table) ≡ false → held_twice (numbers_of table) ≡ held_twice (numbers_of (take free table))
    twice_there u =
        let p = place_of uncorrelated (numbers_of table) in
        let none : any_used (drop p (numbers_of table)) ≡ false = sym (gap_is (numbers_of table)) ∙ gap_there ∙ u in
        rw (is, up_to_is) (sym (ap held_twice (front_numbers p table) ∙ front_twice (numbers_of table) none))

    pub twice_broken : some_used (drop free table) ≡ false → held_twice (numbers_of (take free table)) ≡ true → is_broken table ≡ true
    twice_broken u t = rw (le-ltb most (length table) short, gap_there ∙ u, twice_there u ∙ t)

    pub not_broken : some_used (drop free table) ≡ false → held_twice (numbers_of (take free table)) ≡ false → is_broken table ≡ false
    not_broken u t = rw (le-ltb most (length table) short, gap_there ∙ u, twice_there u ∙ t)

module _ (table : List Entry) (x : ℕ) where
  pub looks_broken : is_broken table ≡ true → looked_in table x ≡ Err TableBroken
  unfolding looked_in
  looks_broken b = rw b

  pub looks_sound : is_broken table ≡ false → looked_in table x ≡ Ok (record { free = placed uncorrelated table; at = placed x table })
  unfolding looked_in
  looks_sound b = rw b

  -- ---- the calls, by what a look answers

  refused_both : is_broken table ≡ true → (indexed table x ≡ Err TableBroken) × (found table x ≡ Err TableBroken)
  unfolding found
  refused_both b =
      (answered table x ∙ rw b, behind (Err TableBroken) table (drop 3 (find_rows table x)) (Ok (Some (place_of x (numbers_of table)))) ∙ rw b)

  pub refused : {q : IndexRefusal} → looked_in table x ≡ Err q → (indexed table x ≡ Err q) × (found table x ≡ Err q)
  unfolding looked_in
  refused {q} h =
      by_test (is_broken table)
      (λ b. let is : ◌≡◌ {A = Result Sound IndexRefusal} (Err TableBroken) (Err q) = rw b at h in let k = refused_both b in (let e = k.0 in cc, let e = k.1 in cc))
      (λ b. let no : ◌≡◌ {A = Result Sound IndexRefusal} (Ok (record { free = placed uncorrelated table; at = placed x table })) (Err q) = rw b at h in (cc, cc))

  module _ {s : Sound} (h : looked_in table x ≡ Ok s) where
    -- it is not broken, and the two places are what is found
    is_sound : (is_broken table ≡ false) × (s ≡ record { free = placed uncorrelated table; at = placed x table })
    unfolding looked_in
    is_sound =
        by_test (is_broken table)
        (λ b. let no : ◌≡◌ {A = Result Sound IndexRefusal} (Err TableBroken) (Ok s) = rw b at h in (cc, cc))
        (λ b. let is : ◌≡◌ {A = Result Sound IndexRefusal} (Ok (record { free = placed uncorrelated table; at = placed x table })) (Ok s) = rw b at h in (b, cc))

    pub at_place : {i : ℕ} → s.at ≡ Some i → (holds x (numbers_of table) ≡ true) × (place_of x (numbers_of table) ≡ i)
    at_place e = placed_some x table (sym (ap (λ (s : Sound). s.at) is_sound.1) ∙ e)

    pub free_place : {i : ℕ} → s.free ≡ Some i
        → (holds uncorrelated (numbers_of table) ≡ true) × (place_of uncorrelated (numbers_of table) ≡ i)
    free_place e = placed_some uncorrelated table (sym (ap (λ (s : Sound). s.free) is_sound.1) ∙ e)

    not_held : s.at ≡ None → holds x (numbers_of table) ≡ false
    not_held e = placed_none x table (sym (ap (λ (s : Sound). s.at) is_sound.1) ∙ e)

    not_free : s.free ≡ None → holds uncorrelated (numbers_of table) ≡ false
    not_free e = placed_none uncorrelated table (sym (ap (λ (s : Sound). s.free) is_sound.1) ∙ e)

    pub left : x ≡ uncorrelated → indexed table x ≡ Ok I.Left
    left z = answered table x ∙ rw (is_sound.0, eq-eqb x uncorrelated z)

    pub replaced : {i : ℕ} → (x ≡ uncorrelated → ⊥) → s.at ≡ Some i → indexed table x ≡ Ok (I.Replaced i)
    replaced z e = let k = at_place e in answered table x ∙ rw (is_sound.0, ne_eqb x uncorrelated z, k.0, k.1)

    pub entered : {i : ℕ} → (x ≡ uncorrelated → ⊥) → s.at ≡ None → s.free ≡ Some i → indexed table x ≡ Ok (I.Entered i)
    entered z e f = let k = free_place f in answered table x ∙ rw (is_sound.0, ne_eqb x uncorrelated z, not_held e, k.0, k.1)

    pub full : (x ≡ uncorrelated → ⊥) → s.at ≡ None → s.free ≡ None → indexed table x ≡ Err TableFull
    full z e f = answered table x ∙ rw (is_sound.0, ne_eqb x uncorrelated z, not_held e, not_free f)

    -- of a number that is looked for
    shown_by : found table x ≡ cond (eqb x uncorrelated) (Ok None) (cond (not (holds x (numbers_of table))) (Ok None) (Ok (Some (place_of x (numbers_of table)))))
    unfolding found
    shown_by = behind (Err TableBroken) table (drop 3 (find_rows table x)) (Ok (Some (place_of x (numbers_of table)))) ∙ rw is_sound.0

    pub none_found : x ≡ uncorrelated → found table x ≡ Ok None
    none_found z = shown_by ∙ rw (eq-eqb x uncorrelated z)

    pub finds : (x ≡ uncorrelated → ⊥) → found table x ≡ Ok s.at
    finds z =
        shown_by
        ∙ rw (ne_eqb x uncorrelated z)
        (by_test (holds x (numbers_of table))
        (λ t. rw (t, is_sound.1, placed_is x table, t))
        (λ t. rw (t, is_sound.1, placed_is x table, t)))
