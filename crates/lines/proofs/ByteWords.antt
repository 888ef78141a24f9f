-- The words that bytes hold: how many, and which; and that bytes are read and written as the line of those words: the claim BytesAsWords.
-- Assumes nothing.
use Prim.Native.Nat.{ℕ, zero, suc, ◌+◌, ◌*◌, ◌/◌, ◌%◌, ◌<◌}
use mathlib.Core.Path.{◌≡◌, refl, ap, sym, ◌∙◌}
use mathlib.Core.Bool.{false}
use mathlib.Core.List.{List, [], ◌∷◌}
use native.Mathlib.Omega.{arith}
use lib.Dec.{eqb}
use lib.ListN.{length, get_or}
use borrow.Author.Tests.{le-ltb, ne_eqb}
use Rattle.words.proofs.Tests.{passed}
use Rattle.lines.specs.Line.{most, read_by}
use Rattle.lines.specs.Bytes.{most_bytes, words_in, bytes_of, read_bytes}
use Rattle.lines.specs.Writing.{write_at}
use Rattle.lines.specs.ByteWriting.{write_bytes}
use Rattle.lines.specs.Claims.{BytesAsWords}

pub words_length : (bs : List ℕ) → length (words_in bs) ≡ length bs / 2
unfolding words_in
words_length [] = refl
words_length (a ∷ []) = refl
words_length (a ∷ b ∷ bs) = let h = words_length bs in omega arith

pub bytes_length : (ws : List ℕ) → length (bytes_of ws) ≡ length ws * 2
unfolding bytes_of
bytes_length [] = refl
bytes_length (w ∷ ws) = let h = bytes_length ws in omega arith

pub word_at : (bs : List ℕ) (i : ℕ) → i < length (words_in bs) → get_or (words_in bs) i 0 ≡ get_or bs (i * 2) 0 * 256 + get_or bs (i * 2 + 1) 0
unfolding words_in
word_at [] i h = absurd (omega arith)
word_at (a ∷ []) i h = absurd (omega arith)
word_at (a ∷ b ∷ bs) zero h = refl
word_at (a ∷ b ∷ bs) (suc i) h =
    let e : suc i * 2 ≡ suc (suc (i * 2)) = omega arith in
    let f : suc i * 2 + 1 ≡ suc (suc (i * 2 + 1)) = omega arith in
    word_at bs i (omega arith)
    ∙ ap (λ (k : ℕ). get_or (a ∷ b ∷ bs) k 0 * 256 + get_or bs (i * 2 + 1) 0) (sym e)
    ∙ ap (λ (k : ℕ). get_or (a ∷ b ∷ bs) (suc i * 2) 0 * 256 + get_or (a ∷ b ∷ bs) k 0) (sym f)

pub bytes_as_words : BytesAsWords
unfolding read_by read_bytes write_at write_bytes
bytes_as_words form bytes place r few even =
    let n = words_length bytes in
    let two = le-ltb most_bytes (length bytes) few in
    let fourteen : eqb (length bytes % 2) 1 ≡ false = ne_eqb (length bytes % 2) 1 (λ q. omega arith) in
    let words = le-ltb most (length (words_in bytes)) (omega arith) in (
      passed _ _ two ∙ passed _ _ fourteen ∙ sym (passed _ _ words),
      passed _ _ two ∙ passed _ _ fourteen ∙ sym (passed _ _ words),
    )
