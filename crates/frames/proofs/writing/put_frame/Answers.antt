-- `frames::writing::put_frame` meets its contract: a flag, what stands between, a flag, each behind the other. Assumes nothing.
use Prim.Native.Nat.{ℕ, ◌+◌}
use mathlib.Core.Path.{◌≡◌, sym, ap, ◌∙◌}
use mathlib.Core.Bool.{Bool}
use mathlib.Core.List.{List, ◌++◌}
use native.Mathlib.Omega.{arith}
use lib.ListN.{length}
use Rattle.bits.specs.Bits.{put_bits, Bytes}
use Rattle.frames.specs.Stream.{put_all}
use Rattle.frames.specs.Frame.{flag}
use Rattle.frames.proofs.Numbered.{length_digits}
use Rattle.frames.proofs.Streamed.{length-bits_from, put_all_bytes, put_all-append}
use Rattle.frames.proofs.Chunks.{are_bytes, put_number}
use Rattle.frames.proofs.writing.put_frame.Goals as goal

three : (s : List ℕ) (place end : ℕ) (bs : List Bool) (t u v : List ℕ) → Bytes s → place + 8 + length bs ≡ end
    → t ≡ put_bits s place 8 0x7E → u ≡ put_all t (place + 8) bs → v ≡ put_bits u end 8 0x7E → v ≡ put_all s place (flag ++ (bs ++ flag))
three s place end bs t u v b e p q r =
    let k : place + length flag ≡ place + 8 = ap (λ (n : ℕ). place + n) (length_digits 8 0x7E) in
    let one : t ≡ put_all s place flag = p ∙ put_number s place 8 0x7E b in
    let two : u ≡ put_all (put_all s place flag) (place + 8) bs = q ∙ ap (λ (x : List ℕ). put_all x (place + 8) bs) one in
    let bytes : Bytes u = rw two (put_all_bytes _ (place + 8) bs (put_all_bytes s place flag b)) in
    r ∙ put_number u end 8 0x7E bytes
    ∙ sym
    (put_all-append s place flag (bs ++ flag) ∙ ap (λ (n : ℕ). put_all (put_all s place flag) n (bs ++ flag)) k
    ∙ put_all-append (put_all s place flag) (place + 8) bs flag ∙ ap (λ (n : ℕ). put_all (put_all (put_all s place flag) (place + 8) bs) n flag) e
    ∙ ap (λ (x : List ℕ). put_all x end flag) (sym two))

pub returns : goal.returns
returns c =
    let a = c.args in
    three a.s.now a.place a.end _ _ _ _ (are_bytes a.s.now (λ j. grind arith)) (rw (length-bits_from a.between.now.bytes 0 a.between.now.count) c.requires.0)
    c.write.ensures c.copy_bits.ensures c.write-2.ensures
