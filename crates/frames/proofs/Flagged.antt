-- Flags in a stream of lent bytes: where one begins, by the number that eight bits make; what lies behind neighbouring flags; how far it is to the
-- first one. For the reader's code. Assumes nothing.
use Prim.Native.Nat.{ℕ, ◌+◌, ◌-◌, ◌*◌, ◌%◌, ◌^◌, ◌≤◌, ◌<◌}
use mathlib.Core.Path.{◌≡◌, refl, sym, ap, ◌∙◌}
use mathlib.Core.Bool.{Bool, true, false}
use mathlib.Core.List.{List, [], ◌∷◌, ◌++◌}
use native.Mathlib.Decide.{dec_lt, ℕ_discrete}
use native.Mathlib.Omega.{arith}
use borrow.Author.Tests.{eq-eqb, ne_eqb}
use lib.Dec.{eqb, lit<}
use lib.ListN.{length, drop}
use Rattle.bits.specs.Bits.{bit_at, bits_of}
use Rattle.bits.proofs.Laws.{bits_of_join, bits_of-lt}
use Rattle.frames.specs.Stream.{bits_from, digits}
use Rattle.frames.specs.Frame.{flag}
use Rattle.frames.specs.Reading.{begins, past_flags, up_to_flag, stream_at}
use Rattle.frames.proofs.Tests.{differ}
use Rattle.frames.proofs.Numbered.{length_digits, number_digits, begins_number, begins_short, begins_eq}
use Rattle.frames.proofs.Streamed.{length-bits_from, take-bits_from, drop-bits_from, number_bits_from, stream_cons}

-- bits begin with those of a number exactly where they make it
pub begins_by_number : (s : List ℕ) (p m n v : ℕ) → n ≤ m → v < 2 ^ n → begins (digits n v) (bits_from s p m) ≡ eqb v (bits_of s p n)
begins_by_number s p m n v h l =
    let k = length_digits n v in
    begins_number (digits n v) (bits_from s p m) (rw (k, length-bits_from s p m) h)
    ∙ rw (k, number_digits n v l, take-bits_from s p n m h, number_bits_from s p n) refl

-- fewer than eight bits are no flag
pub no_flag_short : (s : List ℕ) (count p : ℕ) → count - p < 8 → begins flag (stream_at s count p) ≡ false
unfolding digits
no_flag_short s count p h = begins_short flag (stream_at s count p) (rw (length-bits_from s p (count - p)) h)

-- a flag is eight bits
pub flag_room : (s : List ℕ) (count p : ℕ) → begins flag (stream_at s count p) ≡ true → 8 ≤ count - p
flag_room s count p h = go (dec_lt (count - p) 8)
  where
    go : Dec (count - p < 8) → 8 ≤ count - p
    go (yes l) = differ (sym h ∙ no_flag_short s count p l)
    go (no l) = omega arith

-- of eight bits and more, the first eight tell
by_number : (s : List ℕ) (count p : ℕ) → 8 ≤ count - p → begins flag (stream_at s count p) ≡ eqb 0x7E (bits_of s p 8)
by_number s count p h = begins_by_number s p (count - p) 8 0x7E h (lit< tt)

pub flag_is : (s : List ℕ) (count p : ℕ) → 8 ≤ count - p → bits_of s p 8 ≡ 0x7E → begins flag (stream_at s count p) ≡ true
flag_is s count p h e = by_number s count p h ∙ eq-eqb _ _ (sym e)

pub flag_not : (s : List ℕ) (count p : ℕ) → 8 ≤ count - p → (bits_of s p 8 ≡ 0x7E → ⊥) → begins flag (stream_at s count p) ≡ false
flag_not s count p h n = by_number s count p h ∙ ne_eqb _ _ (λ e. n (sym e))

pub flag_told : (s : List ℕ) (count p v : ℕ) → 8 ≤ count - p → v ≡ bits_of s p 8 → eqb v 0x7E ≡ begins flag (stream_at s count p)
flag_told s count p v h e = go (ℕ_discrete v 0x7E)
  where
    go : Dec (v ≡ 0x7E) → eqb v 0x7E ≡ begins flag (stream_at s count p)
    go (yes f) = eq-eqb _ _ f ∙ sym (flag_is s count p h (sym e ∙ f))
    go (no n) = ne_eqb _ _ n ∙ sym (flag_not s count p h (λ f. n (e ∙ f)))

-- ---- behind neighbouring flags

pub past_none : (s : List Bool) → begins flag s ≡ false → past_flags 0 s ≡ s
unfolding past_flags
past_none [] h = refl
past_none (b ∷ s) h = rw h refl

past_flag : (s : List Bool) → past_flags 0 (flag ++ s) ≡ past_flags 0 s
unfolding past_flags digits begins
past_flag s = refl

pub past_one : (s : List ℕ) (count p : ℕ) → begins flag (stream_at s count p) ≡ true
    → past_flags 0 (stream_at s count p) ≡ past_flags 0 (stream_at s count (p + 8))
unfolding digits
past_one s count p h =
    let e : count - p - 8 ≡ count - (p + 8) = omega arith in
    ap (past_flags 0) (begins_eq flag (stream_at s count p) h) ∙ past_flag (drop 8 (stream_at s count p))
    ∙ ap (past_flags 0) (drop-bits_from s p 8 (count - p) (flag_room s count p h) ∙ ap (bits_from s (p + 8)) e)

-- ---- up to the first flag

-- the eight bits one place on
pub eight_on : (s : List ℕ) (p : ℕ) → bits_of s (p + 1) 8 ≡ bits_of s p 8 * 2 % 256 + bit_at s (p + 8)
unfolding bits_of
eight_on s p =
    let e : p + 1 + 7 ≡ p + 8 = omega arith in
    ap (λ (k : ℕ). bits_of s (p + 1) 7 * 2 + bit_at s k) e ∙ shape _ _ _ _ (bits_of_join s p 1 7) (bits_of-lt s (p + 1) 7)
  where
    shape : (a x y d : ℕ) → a ≡ x * 128 + y → y < 128 → y * 2 + d ≡ a * 2 % 256 + d
    shape a x y d e h = omega arith

pub up-to-flag : (s : List Bool) → begins flag s ≡ true → up_to_flag s ≡ []
unfolding up_to_flag digits begins
up-to-flag s h = ap up_to_flag (begins_eq flag s h)

pub up_to_next : (s : List ℕ) (count p : ℕ) → p < count → begins flag (stream_at s count p) ≡ false
    → p + length (up_to_flag (stream_at s count p)) ≡ p + 1 + length (up_to_flag (stream_at s count (p + 1)))
unfolding up_to_flag
up_to_next s count p l h =
    let e = stream_cons s count p l in
    let n : begins flag (eqb (bit_at s p) 1 ∷ stream_at s count (p + 1)) ≡ false = ap (begins flag) (sym e) ∙ h in
    ap (λ (t : List Bool). p + length (up_to_flag t)) e ∙ rw n (omega arith)

-- in fewer than eight bits none begins
up_to_short : (s : List Bool) → length s < 8 → up_to_flag s ≡ s
unfolding up_to_flag digits
up_to_short [] h = refl
up_to_short (b ∷ s) h = rw (begins_short flag (b ∷ s) h) (ap (λ (t : List Bool). b ∷ t) (up_to_short s (omega arith)))

pub up_to_end : (s : List ℕ) (count p : ℕ) → p ≤ count → count - p < 8 → p + length (up_to_flag (stream_at s count p)) ≡ count
up_to_end s count p l h =
    let n = length-bits_from s p (count - p) in
    let e = up_to_short (stream_at s count p) (rw n h) in
    rw (e, n) (omega arith)
