-- Each kind of line and list keeps the laws of Lent.antt: 16-bit numbers, a word each, and bytes, two a word. Assumes nothing.
-- Proofs, not definitions: the impls name them in code, so they stand here.
use Prim.Native.Nat.{ℕ, ◌*◌, ◌/◌, ◌%◌}
use mathlib.Core.Path.{◌≡◌, refl, ap, ◌∙◌}
use mathlib.Core.List.{List, [], ◌∷◌, ◌++◌}
use native.Mathlib.Omega.{arith}
use lib.ListN.{length}
use Rattle.lines.specs.Bytes.{bytes_of}
use Rattle.lines.proofs.ByteWords.{bytes_length}
use Rattle.manners.specs.Numbers.{rule_number}
use Rattle.manners.specs.Breaches.{Breach, numbers_of}
use Rattle.manners.specs.Lent.{LentLaws}

pub bytes_append : (ws vs : List ℕ) → bytes_of (ws ++ vs) ≡ bytes_of ws ++ bytes_of vs
unfolding bytes_of
bytes_append [] vs = refl
bytes_append (w ∷ ws) vs = ap (λ (l : List ℕ). w / 256 % 256 ∷ w % 256 ∷ l) (bytes_append ws vs)

numbers_append : (cs bs : List Breach) → numbers_of (cs ++ bs) ≡ numbers_of cs ++ numbers_of bs
unfolding numbers_of
numbers_append [] bs = refl
numbers_append (c ∷ cs) bs = ap (λ (l : List ℕ). c.place ∷ rule_number c.rule ∷ l) (numbers_append cs bs)

numbers_length : (bs : List Breach) → length (numbers_of bs) ≡ length bs * 2
unfolding numbers_of
numbers_length [] = refl
numbers_length (b ∷ bs) = let h = numbers_length bs in omega arith

pub wide_laws : LentLaws numbers_of 2
unfolding numbers_of
wide_laws = record { some = omega arith; none = refl; joins = numbers_append; each = numbers_length }

pub byte_laws : LentLaws (λ bs. bytes_of (numbers_of bs)) 4
unfolding numbers_of bytes_of
byte_laws = record {
  some = omega arith;
  none = refl;
  joins = λ cs bs. ap bytes_of (numbers_append cs bs) ∙ bytes_append (numbers_of cs) (numbers_of bs);
  each = λ bs. bytes_length (numbers_of bs) ∙ (let h = numbers_length bs in let z : length (numbers_of bs) * 2 ≡ length bs * 4 = omega arith in z);
}
