-- What a list holds after stores: numbers stored one by one, and breaches one after the other, each so many wide. Assumes nothing.
use Prim.Native.Nat.{ℕ, suc, ◌+◌, ◌*◌, ◌≤◌}
use native.Mathlib.Nat.{zero-mul, add-mul, mul-le-mul_right}
use mathlib.Core.Path.{◌≡◌, refl, ap, sym, ◌∙◌}
use mathlib.Core.List.{List, [], ◌∷◌, ◌++◌, append-nil, append_assoc}
use native.Mathlib.Omega.{arith}
use lib.ListN.{length, take, drop, set, length-append, length-drop, take-append-drop}
use lib.Seq.{sets-eq, length-take-le, take_at, drop_at, drop-drop}
use Rattle.std.specs.Prelude.{Option, Some, None}
use Rattle.manners.specs.declared.Rule.{Rule}
use Rattle.manners.specs.Breaches.{Breach, list_of}
use Rattle.manners.specs.Lent.{LentLaws, stored}
use Rattle.manners.specs.Steps.{count_of, Filling}

-- ---- numbers

stored_is : (l : List ℕ) (i : ℕ) (vs : List ℕ) → take i l ++ vs ++ drop (i + length vs) l ≡ stored l i vs
stored_is l i vs =
    ap (λ (r : List ℕ). take i l ++ vs ++ r) (sym (drop-drop (length vs) i l)) ∙ append_assoc (take i l) vs (drop (length vs) (drop i l))

pub two_stores : (l : List ℕ) (i a b : ℕ) → i + 2 ≤ length l → set (set l i a) (i + 1) b ≡ stored l i (a ∷ b ∷ [])
two_stores l i a b h =
    ap (λ (j : ℕ). set (set l i a) j b) (let z : i + 1 ≡ suc i = omega arith in z) ∙ sets-eq (a ∷ b ∷ []) l i h ∙ stored_is l i (a ∷ b ∷ [])

pub four_stores : (l : List ℕ) (i a b c d : ℕ) → i + 4 ≤ length l → set (set (set (set l i a) (i + 1) b) (i + 2) c) (i + 3) d ≡ stored l i (a ∷ b ∷ c ∷ d ∷ [])
four_stores l i a b c d h =
    let e : i + 1 ≡ suc i = omega arith in
    let f : i + 2 ≡ suc (suc i) = omega arith in
    let g : i + 3 ≡ suc (suc (suc i)) = omega arith in
    (λ t. set (set (set (set l i a) (e t) b) (f t) c) (g t) d) ∙ sets-eq (a ∷ b ∷ c ∷ d ∷ []) l i h ∙ stored_is l i (a ∷ b ∷ c ∷ d ∷ [])

-- ---- breaches

-- what is found is so many breaches
pub count_listed : (p : ℕ) (x : Option Rule) → length (list_of p x) ≡ count_of x
count_listed p None = refl
count_listed p (Some rule) = refl

-- ---- the list, breach after breach

module _ {A : Type 0} {said : List Breach → List A} {width : ℕ} (laws : LentLaws said width)
    {all : List Breach} {entry : List A} where
  pub begun : Filling said width all all entry 0 entry
  begun = record { counted = omega arith; front = ap (λ (j : ℕ). take j entry ++ said all) (zero-mul width); behind = refl; long = refl }

  -- what is found next is stored behind what stands there
  pub more : {left rest : List Breach} (new : List Breach) {k : ℕ} {list : List A} → Filling said width all left entry k list → left ≡ new ++ rest
      → (k + length new) * width ≤ length list → Filling said width all rest entry (k + length new) (stored list (k * width) (said new))
  more {left} {rest} new {k} {list} f e room =
      let at = k * width in
      let c = length new in
      let ws = said new in
      let n = laws.each new in
      let m = add-mul k c width in
      let t = length-take-le at list (omega arith) in
      let front = take at list ++ ws in
      let l : length front ≡ (k + c) * width = length-append (take at list) ws ∙ (let z : length (take at list) + length ws ≡ (k + c) * width = omega arith in z) in
      let back = drop (length ws) (drop at list) in
      let is : stored list at ws ≡ front ++ back = sym (append_assoc (take at list) ws back) in
      record {
        counted = let z = ap length e ∙ length-append new rest in let y = f.counted in omega arith;
        front =
            ap (λ (q : List A). take ((k + c) * width) q ++ said rest) is
            ∙ ap (λ (q : List A). q ++ said rest) (take_at front back ((k + c) * width) l)
            ∙ append_assoc (take at list) ws (said rest)
            ∙ ap (λ (q : List A). take at list ++ q) (sym (ap said e ∙ laws.joins new rest))
            ∙ f.front;
        behind =
            ap (drop ((k + c) * width)) is
            ∙ drop_at front back ((k + c) * width) l
            ∙ ap (drop (length ws)) f.behind
            ∙ drop-drop (length ws) at entry
            ∙ ap (λ (j : ℕ). drop j entry) (let z : at + length ws ≡ (k + c) * width = omega arith in z);
        long =
            ap length is
            ∙ length-append front back
            ∙ (let d = length-drop (length ws) (drop at list) in let g = length-drop at list in let o = f.long in let z : length front + length back ≡ length entry = omega arith in z);
      }

  -- where one is left, and there is room for all, there is room for one more
  pub room_for : {left : List Breach} {k : ℕ} {list : List A} → Filling said width all left entry k list → 1 ≤ length left → length all * width ≤ length entry
      → (k + 1) * width ≤ length list
  room_for {left} {k} f one room =
      let counted = f.counted in
      let long = f.long in
      let more : (k + 1) * width ≤ length all * width = mul-le-mul_right width (let z : k + 1 ≤ length all = omega arith in z) in
      omega arith

  -- where none is left all are in the list, and behind them is what was there
  pub full : {left : List Breach} {k : ℕ} {list : List A} → Filling said width all left entry k list → length left ≡ 0 → list ≡ said all ++ drop (k * width) entry
  full {left} {k} {list} f e =
      let front : take (k * width) list ≡ said all =
      sym (append-nil (take (k * width) list)) ∙ ap (λ (q : List A). take (k * width) list ++ q) (sym (none_left left e)) ∙ f.front in
      sym (take-append-drop (k * width) list) ∙ (λ i. front i ++ f.behind i)
    where
      none_left : (bs : List Breach) → length bs ≡ 0 → said bs ≡ []
      none_left [] z = laws.none
      none_left (b ∷ bs) z = absurd (omega arith)
