-- What the steps of the reader and of the writer leave to the next one; no caller of theirs sees it. Definitions only.
use Rattle.std.specs.Prelude.{ℕ, ◌+◌, ◌-◌, ◌*◌, ◌/◌, ◌%◌, ◌^◌, ◌≤◌, ◌<◌, ◌≡◌, Bool, false, cond, List, [], ◌∷◌, length, replicate, Ok}
use Rattle.std.specs.Int.Bits.{bit_and, bit_xor}
use Rattle.bits.specs.Bits.{bits_of, put_bits}
use Rattle.fields.specs.declared.Direction.{Direction}
use Rattle.frames.specs.Stream.{bits_from, put_all, number, digits}
use Rattle.frames.specs.Check.{preset, feed}
use Rattle.frames.specs.declared.FrameRefusal.TheVariants as R
use Rattle.frames.specs.declared.Found.{Found}
use Rattle.frames.specs.declared.inserted.Filled.{Filled}
use Rattle.frames.specs.declared.inserted.Run.{Run}
use Rattle.frames.specs.Zeros.{ones, zeros_out, zero_missing}
use Rattle.frames.specs.Reading.{Answer, accepted, refused, unknown_address, frame_in, read_bits, found_at}
use Rattle.frames.specs.Frame.{between}
use Rattle.frames.specs.Writing.{given, write_frame}

-- ---- the reader and the writer

-- a stretch in which no zero is missing, without its inserted zeros: how many bits, and the bits in 255 bytes, as many as there is room for
pub record BodyIs (stretch : List Bool) (bytes : List ℕ) (count : ℕ) : Type 0 where
  pub none_missing : zero_missing 0 stretch ≡ false
  pub count_is : count ≡ length (zeros_out 0 stretch)
  pub bytes_are : bytes ≡ put_all (replicate 255 0) 0 (zeros_out 0 stretch)

-- the answer of a body whose length and check sequence are right
abbrev pub addressed_body : List Bool → Answer
addressed_body b = cond (unknown_address b) (refused R.UnknownAddress) (accepted (frame_in b))

-- what is found at a place in bits that begin with a flag, if the count is not over the lent bits
abbrev pub behind_flag : ℕ → List Bool → Found
behind_flag place s = let o = read_bits false s in found_at (place + o.on) o.answer

-- what the writer decides where it writes: its answer, and the m bits that it puts between the flags
pub record DecidedIs
    (len count place : ℕ) (way : Direction) (control : ℕ) (field : List ℕ) (n : ℕ) (closing : ℕ) (bytes : List ℕ) (m : ℕ) : Type 0 where
  pub closing_is : Ok closing ≡ write_frame len count place way control field n
  pub between_is : bits_from bytes 0 m ≡ between (given way control field n)

-- ---- inserted zeros, by runs of bits

-- the digits of a number that are a one behind four ones
unfoldable pub fives_in : ℕ → ℕ
fives_in y = let two = bit_and y (y / 2) in bit_and (bit_and two (two / 4)) (y / 16)

-- with n ones in front of the bits, no bit of them stands behind five ones, and then o ones stand in front of what follows
abbrev pub Passes : ℕ → List Bool → ℕ → Type 0
Passes n [] o = n ≡ o
Passes n (b ∷ s) o = (n ≡ 5 → ⊥) × Passes (ones n b) s o

-- of m bits that make the number x, the first k are such
pub record RunIs (n m x k o : ℕ) : Type 0 where
  pub some : 0 < k
  pub within : k ≤ m
  pub few : o ≤ 5
  pub passes : Passes n (digits k (x / 2 ^ (m - k))) o

-- of the bits left from p on, with n ones in front of them, those of the run are such, and stand behind what was put
pub record RunPut {N : ℕ} (b : List ℕ) (p left n : ℕ) (old : Filled N) (run : Run) (new : Filled N) : Type 0 where
  pub some : 0 < run.bits
  pub within : run.bits ≤ left
  pub few : run.ones ≤ 5
  pub passes : Passes n (bits_from b p run.bits) run.ones
  pub put : new.bytes ≡ put_bits old.bytes old.count run.bits (bits_of b p run.bits)
  pub counted : new.count ≡ old.count + run.bits

-- ---- the check sequence, by bytes

-- the register of the check sequence, as a number, when the first n bits are fed
abbrev pub register_at : List ℕ → ℕ → ℕ
register_at s n = number (feed preset (bits_from s 0 n))

-- the remainder of eight bits that moved out of that register: x^16 is x^12 + x^5 + 1, and the four bits that x^12 moves out again come to the same
-- once more
abbrev pub remainder_of : ℕ → ℕ
remainder_of x = let y = bit_xor x (x / 16) in bit_xor (bit_xor (y * 4096 % 65536) (y * 32)) y

-- ---- flags, by windows

-- r tells where six ones stand in a row in w: it is not below the lightest of each six, and not so large that there is no room for them
pub record SixOnes (w r : ℕ) : Type 0 where
  pub marks : (k : ℕ) → w / 2 ^ k % 64 ≡ 63 → 2 ^ k ≤ r
  pub below : r ≤ w / 2 ^ 5

-- from a place on up to another, no flag begins
abbrev pub NoFlags : List ℕ → ℕ → ℕ → Type 0
NoFlags bytes from to = (p : ℕ) → from ≤ p → p < to → bits_of bytes p 8 ≡ 0b01111110 → ⊥
