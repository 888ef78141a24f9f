-- One call, and then any history of calls, on a table of at most 512 entries that holds an index: it holds the index with the reports that were not
-- refused, and where that has room, none is refused. Assumes nothing.
use Prim.Native.Nat.{◌≤◌, ◌<◌}
use mathlib.Core.Bool.{true, false}
use mathlib.Core.List.{List, [], ◌∷◌, ◌++◌, append-nil}
use mathlib.Core.Logic.{◌⊎◌, inl, inr, ⊎_elim}
use mathlib.Core.Path.{◌≡◌, refl, sym, ap, ◌∙◌}
use native.Mathlib.Omega.{arith}
use lib.Dec.{eqb}
use lib.ListN.{length, length-append}
use lib.Seq.{append_snoc, set_at}
use Rattle.std.specs.Prelude.{Result, Ok, Err}
use Rattle.words.proofs.Tests.{passed, by_test}
use Rattle.index.specs.declared.Entry.{Entry}
use Rattle.index.specs.declared.Indexed.{Indexed}
use Rattle.index.specs.declared.Indexed.TheVariants as I
use Rattle.index.specs.declared.IndexRefusal.{IndexRefusal}
use Rattle.index.specs.declared.IndexRefusal.TheVariants.{TableFull}
use Rattle.index.specs.Entries.{uncorrelated}
use Rattle.index.specs.Table.{most, numbers_of, holds, place_of, is_broken}
use Rattle.index.specs.Indexing.{indexed, left_as}
use Rattle.index.specs.Afresh.{afresh, after, unless_refused, not_refused}
use Rattle.index.specs.Claims.{Unused}
use Rattle.index.proofs.Afresh.{added, afresh_more, afresh_grows, afresh_distinct, Lacks}
use Rattle.index.proofs.Sound.{unused_first, held_front, sound, answered, replaces, appends, unused_there, none_unused}

-- entries in front, in place of as many of the first table; the rest is as it was there, and unused
pub record Stands (xs first now : List Entry) : Type 0 where
  pub old : List Entry
  pub rest : List Entry
  pub was : first ≡ old ++ rest
  pub many : length old ≡ length xs
  pub is : now ≡ xs ++ rest
  pub unused : Unused rest

-- a call that is not refused: its report is in the index
record Takes (seen first now : List Entry) (e : Entry) : Type 0 where
  counted : (es : List Entry) → unless_refused (indexed now e.number) e es ≡ e ∷ es
  stands : Stands (afresh (seen ++ (e ∷ []))) first (left_as (indexed now e.number) now e)

-- a call that is refused: its report would not fit
record Full (seen first now : List Entry) (e : Entry) : Type 0 where
  refused : indexed now e.number ≡ Err TableFull
  over : length first < length (afresh (seen ++ (e ∷ [])))

module _ (first : List Entry) (small : length first ≤ most) where
  -- it is not broken
  pub stays_sound : (seen now : List Entry) → Stands (afresh seen) first now → is_broken now ≡ false
  stays_sound seen now s =
      let n = ap length s.was in
      rw s.is
      (sound (afresh seen) s.rest (afresh_distinct seen) s.unused (rw length-append (omega (arith, length-append s.old s.rest))))

  module _ (seen now : List Entry) (e : Entry) (s : Stands (afresh seen) first now) where
    -- a call with an answer that is no refusal
    takes : (a : Result Indexed IndexRefusal) → indexed now e.number ≡ a → ((es : List Entry) → unless_refused a e es ≡ e ∷ es)
        → Stands (afresh (seen ++ (e ∷ []))) first (left_as a now e)
        → Takes seen first now e ⊎ Full seen first now e
    takes a q c st = inl (record { counted = λ es. rw q (c es); stands = rw q st })

    -- a number other than 0
    module _ (z : eqb e.number uncorrelated ≡ false) where
      more : afresh (seen ++ (e ∷ [])) ≡ added (afresh seen) e
      more = afresh_more seen e ∙ passed _ _ z

      held : holds e.number (numbers_of now) ≡ holds e.number (numbers_of (afresh seen))
      held = rw s.is (held_front e.number z (afresh seen) s.rest s.unused)

      -- it is in the index
      again : holds e.number (numbers_of (afresh seen)) ≡ true → Takes seen first now e ⊎ Full seen first now e
      again h =
          let k = replaces (afresh seen) s.rest e h in
          takes (Ok (I.Replaced (place_of e.number (numbers_of now)))) (answered now e.number ∙ rw (stays_sound seen now s, z, held, h)) (λ es. refl)
          (rw more
          (record { old = s.old; rest = s.rest; was = s.was; many = s.many ∙ sym k.1; is = rw s.is k.0; unused = s.unused }))

      -- it is not: by whether an entry is unused
      new : Lacks e.number (afresh seen) → (rest : List Entry) → s.rest ≡ rest → Takes seen first now e ⊎ Full seen first now e
      new l [] r =
          let none : holds uncorrelated (numbers_of now) ≡ false = rw (s.is, r, append-nil) (none_unused (afresh seen) (afresh_distinct seen)) in
          let n = ap length s.was in
          let m = s.many in
          let k = ap length r in
          inr
          (record {
            refused = answered now e.number ∙ rw (stays_sound seen now s, z, held, l, none);
            over = rw (more, appends (afresh seen) e l, length-append) (omega (arith, length-append s.old s.rest));
          })
      new l (x ∷ rest) r =
          let u = unused_first x rest (rw r at s.unused) in
          let there = unused_there (afresh seen) x rest (afresh_distinct seen) u.0 in
          let some : holds uncorrelated (numbers_of now) ≡ true = rw (s.is, r) there.0 in
          let place : place_of uncorrelated (numbers_of now) ≡ length (afresh seen) = rw (s.is, r) there.1 in
          let m = s.many in
          takes (Ok (I.Entered (length (afresh seen)))) (answered now e.number ∙ rw (stays_sound seen now s, z, held, l, some, place)) (λ es. refl)
          (rw (more, appends (afresh seen) e l)
          (record {
            old = s.old ++ (x ∷ []);
            rest = rest;
            was = rw (append_snoc, ← r) s.was;
            many = simp length-append (omega arith);
            is = rw (s.is, r, append_snoc) (set_at (afresh seen) x rest e (length (afresh seen)) refl);
            unused = u.1;
          }))

    step : Takes seen first now e ⊎ Full seen first now e
    step =
        by_test (eqb e.number uncorrelated)
        (λ z. takes (Ok I.Left) (answered now e.number ∙ rw (stays_sound seen now s, z)) (λ es. refl) (rw (afresh_more seen e, z) s))
        (λ z. by_test (holds e.number (numbers_of (afresh seen))) (again z) (λ l. new z l s.rest refl))

  -- ---- a history of calls

  pub calls_stand : (es seen now : List Entry) → Stands (afresh seen) first now → Stands (afresh (seen ++ not_refused now es)) first (after now es)
  unfolding after not_refused
  calls_stand [] seen now s = rw append-nil s
  calls_stand (e ∷ es) seen now s =
      ⊎_elim
      (λ (t : Takes seen first now e). rw (t.counted, ← append_snoc) (calls_stand es (seen ++ (e ∷ [])) (left_as (indexed now e.number) now e) t.stands))
      (λ (f : Full seen first now e). rw f.refused (calls_stand es seen now s))
      (step seen now e s)

  -- a call that is refused would leave more entries than the table has
  pub room : (es seen now : List Entry) → Stands (afresh seen) first now → length (afresh (seen ++ es)) ≤ length first → not_refused now es ≡ es
  unfolding not_refused
  room [] seen now s h = refl
  room (e ∷ es) seen now s h =
      let longer = afresh_grows (seen ++ (e ∷ [])) es in
      let same = ap (λ (l : List Entry). length (afresh l)) (append_snoc seen e es) in
      ⊎_elim
      (λ (t : Takes seen first now e).
      rw t.counted
      (ap (λ (l : List Entry). e ∷ l) (room es (seen ++ (e ∷ [])) (left_as (indexed now e.number) now e) t.stands (omega arith))))
      (λ (f : Full seen first now e). absurd (omega arith))
      (step seen now e s)
