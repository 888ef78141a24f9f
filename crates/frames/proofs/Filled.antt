-- Zeros that are filled with bits from the first on: how a body is made. Assumes nothing.
use Prim.Native.Nat.{ℕ, zero, suc, ◌+◌, ◌-◌, ◌*◌, ◌/◌, ◌%◌, ◌^◌, ◌≤◌, ◌<◌}
use mathlib.Core.Path.{◌≡◌, refl, sym, ap, ◌∙◌}
use mathlib.Core.Bool.{Bool, false}
use mathlib.Core.List.{List, [], ◌∷◌, ◌++◌, append_assoc, append-nil}
use mathlib.Core.Logic.{inr}
use native.Mathlib.Nat.{zero-div}
use native.Mathlib.Omega.{arith}
use lib.Dec.{lit<}
use lib.ListN.{length, get_or, replicate, length-append, length-replicate}
use Rattle.bits.specs.Bits.{bit_at, bits_of, put_bit, put_bits}
use Rattle.fields.specs.declared.Direction.{Direction}
use Rattle.fields.specs.declared.Direction.TheVariants.{ToSensor, FromSensor}
use Rattle.frames.specs.Stream.{bits_from, put_all, number, digits}
use Rattle.frames.specs.Check.{check_of}
use Rattle.frames.specs.Frame.{Frame, address_number, message, body}
use Rattle.frames.specs.Writing.{given}
use Rattle.frames.proofs.Numbered.{length_digits, number_digits}
use Rattle.frames.proofs.Checked.{length-check_of}
use Rattle.frames.proofs.Streamed.{length-bits_from, put_all_bytes, put_all_snoc, put_all_other, put_there, bits_from-put_all}
use Rattle.frames.proofs.Chunks.{zero_bytes, digits_of, put_number, put-bits, fill_more}

-- so many bytes of zeros
abbrev pub zeros : ℕ → List ℕ
zeros m = replicate m 0

-- 255 bytes that hold these bits, and zeros behind them
abbrev pub filled : List Bool → List ℕ
filled xs = put_all (zeros 255) 0 xs

-- bits more, as the number that they make
pub filled_more : (xs ys : List Bool) (s : List ℕ) (v p n : ℕ) → s ≡ filled xs → length xs ≡ p → length ys ≡ n → v ≡ number ys
    → put_bits s p n v ≡ filled (xs ++ ys)
filled_more xs ys s v p n e k l i =
    ap (λ (t : List ℕ). put_bits t p n v) e
    ∙ put-bits (filled xs) p n v ys (put_all_bytes (zeros 255) 0 xs (zero_bytes 255)) l i
    ∙ fill_more (zeros 255) xs ys p k

-- bits more of a stretch, as many as there is room for
pub filled_read : (m : ℕ) (xs : List Bool) (s b : List ℕ) (at p k v : ℕ) → s ≡ put_all (zeros m) 0 xs → length xs ≡ at → v ≡ bits_of b p k
    → put_bits s at k v ≡ put_all (zeros m) 0 (xs ++ bits_from b p k)
filled_read m xs s b at p k v e l is =
    ap (λ (t : List ℕ). put_bits t at k v) e ∙ put_number (put_all (zeros m) 0 xs) at k v (put_all_bytes (zeros m) 0 xs (zero_bytes m))
    ∙ ap (put_all (put_all (zeros m) 0 xs) at) (ap (digits k) is ∙ digits_of b p k) ∙ fill_more (zeros m) xs (bits_from b p k) at l

-- behind them zeros are there already
zeros_at : (m j : ℕ) → get_or (zeros m) j 0 ≡ 0
zeros_at zero j = refl
zeros_at (suc m) zero = refl
zeros_at (suc m) (suc j) = zeros_at m j

zero_at : (m p : ℕ) → bit_at (zeros m) p ≡ 0
unfolding bit_at
zero_at m p = rw (zeros_at m (p / 8), zero-div (2 ^ (7 - p % 8))) refl

filled_zero : (m : ℕ) (xs : List Bool) → put_all (zeros m) 0 (xs ++ (false ∷ [])) ≡ put_all (zeros m) 0 xs
filled_zero m xs =
    let s = put_all (zeros m) 0 xs in
    let z : bit_at s (0 + length xs) ≡ 0 = put_all_other (zeros m) 0 xs (0 + length xs) (inr (omega arith)) ∙ zero_at m (0 + length xs) in
    put_all_snoc (zeros m) 0 xs false ∙ ap (put_bit s (0 + length xs)) (sym z) ∙ put_there s (0 + length xs)

pub filled_zeros : (m : ℕ) (xs : List Bool) (n : ℕ) → put_all (zeros m) 0 (xs ++ replicate n false) ≡ put_all (zeros m) 0 xs
filled_zeros m xs zero = ap (put_all (zeros m) 0) (append-nil xs)
filled_zeros m xs (suc n) =
    ap (put_all (zeros m) 0) (sym (append_assoc xs (false ∷ []) (replicate n false))) ∙ filled_zeros m (xs ++ (false ∷ [])) n ∙ filled_zero m xs

-- and they are there
pub filled_are : (m : ℕ) (xs : List Bool) (s : List ℕ) (n : ℕ) → s ≡ put_all (zeros m) 0 xs → length xs ≡ n → n ≤ m * 8 → bits_from s 0 n ≡ xs
filled_are m xs s n e k h =
    let room : 0 + length xs ≤ length (zeros m) * 8 = rw (length-replicate {A = ℕ} m 0) (omega (arith, k)) in
    ap (λ (t : List ℕ). bits_from t 0 n) e ∙ ap (bits_from (put_all (zeros m) 0 xs) 0) (sym k) ∙ bits_from-put_all (zeros m) 0 xs room

-- ---- a body

address_lt : (w : Direction) → address_number w < 256
address_lt ToSensor = lit< tt
address_lt FromSensor = lit< tt

module _ (way : Direction) (control : ℕ) (field : List ℕ) (n : ℕ) (byte : control < 256) (few : n ≤ 2008) where
  abbrev f : Frame
  f = given way control field n

  abbrev head : List Bool
  head = digits 8 (address_number way) ++ digits 8 control

  length-head : length head ≡ 16
  length-head = length-append (digits 8 (address_number way)) (digits 8 control) ∙ rw (length_digits 8 (address_number way), length_digits 8 control) refl

  length_message : length (message f) ≡ n + 16
  length_message =
      ap length (sym (append_assoc (digits 8 (address_number way)) (digits 8 control) (bits_from field 0 n)))
      ∙ length-append head (bits_from field 0 n) ∙ rw (length-head, length-bits_from field 0 n) (omega arith)

  -- the four steps: address, control, field, check sequence
  pub with_address : (v : ℕ) (t : List ℕ) → v ≡ address_number way → t ≡ put_bits (zeros 255) 0 8 v → t ≡ filled (digits 8 (address_number way))
  unfolding put_all
  with_address v t e put =
      put
      ∙ put-bits (zeros 255) 0 8 v (digits 8 (address_number way)) (zero_bytes 255) (length_digits 8 (address_number way))
      (e ∙ sym (number_digits 8 (address_number way) (address_lt way)))

  pub with_control : (s t : List ℕ) → s ≡ filled (digits 8 (address_number way)) → t ≡ put_bits s 8 8 control → t ≡ filled head
  with_control s t e put =
      put
      ∙ filled_more (digits 8 (address_number way)) (digits 8 control) s control 8 8 e (length_digits 8 (address_number way)) (length_digits 8 control)
      (sym (number_digits 8 control byte))

  pub with_field : (s t : List ℕ) → s ≡ filled head → t ≡ put_all s 16 (bits_from field 0 n) → t ≡ filled (message f)
  with_field s t e put =
      put ∙ ap (λ (u : List ℕ). put_all u 16 (bits_from field 0 n)) e ∙ fill_more (zeros 255) head (bits_from field 0 n) 16 length-head
      ∙ ap filled (append_assoc (digits 8 (address_number way)) (digits 8 control) (bits_from field 0 n))

  pub with_check : (s t : List ℕ) (v : ℕ) → s ≡ filled (message f) → v ≡ number (check_of (bits_from s 0 (n + 16))) → t ≡ put_bits s (n + 16) 16 v
      → bits_from t 0 (n + 32) ≡ body f
  with_check s t v e is put =
      let m = filled_are 255 (message f) s (n + 16) e length_message (omega arith) in
      let k = length-check_of (message f) in
      filled_are 255 (body f) t (n + 32)
      (put ∙ filled_more (message f) (check_of (message f)) s v (n + 16) 16 e length_message k (is ∙ ap (λ (b : List Bool). number (check_of b)) m))
      (length-append (message f) (check_of (message f)) ∙ rw (length_message, k) (omega arith))
      (omega arith)
