-- What is written is read, and what is read is written: for parts of any widths, and for the records of all types.
-- Assumes nothing.
use Rattle.std.proofs.Common.{◌≡◌, ℕ, zero, suc, ◌+◌, ◌*◌, ◌/◌, ◌%◌, ◌<◌, ◌≤◌, Bool, true, false, cond, ◌&&◌, eqb, List, [], ◌∷◌, length, get_or, replicate, sym, refl, ap, ◌∙◌, inl, inr, arith, lit<, eqb-true, Some}
use native.Mathlib.Decide.{dec_lt, ℕ_discrete}
use lib.ListN.{length-replicate}
use Rattle.bits.specs.Bits.{bit_at, bits_of, put_bit, put_bits, Bytes}
use Rattle.bits.proofs.Laws.{bit_at_lt, bits_of-put_bits, bits_of-put_bits_other, length-put_bit, length-put_bits, put_bit_same, put_bits_other, put_bits_bytes, bits_tell_bytes}
use Rattle.fields.specs.declared.Field.{Field}
use Rattle.fields.specs.declared.Field.TheVariants as F
use Rattle.fields.specs.Table.{table, rows, row_at, place_from, place_of, widths, widths_at, rules, rules_at, values_of, fault_of, has_fault}
use Rattle.fields.specs.Records.{field_at, field_of, numbers_of}
use Rattle.fields.specs.Reading.{values_at}
use Rattle.fields.specs.Writing.{put_all}
use Rattle.fields.proofs.Rows.{Fit}
use Rattle.fields.specs.Writing.{sum_of}
use Rattle.fields.proofs.Puts.{length-put_all, both_false}

-- ---- parts that were written read back

-- what lies before the parts stays
put_all_before : (s : List ℕ) (a : ℕ) (ws vs : List ℕ) (p : ℕ) → p < a → bit_at (put_all s a ws vs) p ≡ bit_at s p
unfolding put_all
put_all_before s a [] vs p h = refl
put_all_before s a (w ∷ ws) [] p h = refl
put_all_before s a (w ∷ ws) (v ∷ vs) p h =
    put_all_before (put_bits s a w v) (a + w) ws vs p (omega arith) ∙ put_bits_other s a w v p (inl h)

put_all_field : (s : List ℕ) (a : ℕ) (ws vs : List ℕ) (g m : ℕ) → g + m ≤ a → bits_of (put_all s a ws vs) g m ≡ bits_of s g m
unfolding put_all
put_all_field s a [] vs g m h = refl
put_all_field s a (w ∷ ws) [] g m h = refl
put_all_field s a (w ∷ ws) (v ∷ vs) g m h =
    put_all_field (put_bits s a w v) (a + w) ws vs g m (omega arith) ∙ bits_of-put_bits_other s a w v g m (inl h)

pub parts_read : (s : List ℕ) (a : ℕ) (ws vs : List ℕ) → a + sum_of ws ≤ length s * 8 → Fit ws vs → values_of (put_all s a ws vs) a ws ≡ vs
unfolding put_all values_of
parts_read s a [] [] r f = refl
parts_read s a [] (v ∷ vs) r f = absurd f
parts_read s a (w ∷ ws) [] r f = absurd f
parts_read s a (w ∷ ws) (v ∷ vs) r f =
    let t = put_bits s a w v in
    let q : a + w + sum_of ws ≤ length t * 8 = rw length-put_bits (omega arith) in
    let h : bits_of (put_all t (a + w) ws vs) a w ≡ v =
    put_all_field t (a + w) ws vs a w (omega arith) ∙ bits_of-put_bits s a w v (omega arith) f.0 in
    rw (h, parts_read t (a + w) ws vs q f.1)

-- ---- parts that were read write back

-- a field's own bits, written
put_read : (z s : List ℕ) (a w p : ℕ) → a + w ≤ length z * 8 → a ≤ p → p < a + w → bit_at (put_bits z a w (bits_of s a w)) p ≡ bit_at s p
unfolding put_bits bits_of
put_read z s a zero p r h k = absurd (omega arith)
put_read z s a (suc w) p r h k =
    let d = bit_at s (a + w) in
    let v = bits_of s a w * 2 + d in
    let low : v % 2 ≡ d = omega (arith, bit_at_lt s (a + w)) in
    let high : v / 2 ≡ bits_of s a w = omega (arith, bit_at_lt s (a + w)) in
    let y = put_bit z (a + w) d in
    let n : length y ≡ length z = length-put_bit z (a + w) d in
    rw (low, high) (go (ℕ_discrete p (a + w)) (put_read y s a w p (omega arith) h))
  where
    go : Dec (p ≡ a + w) → (p < a + w → bit_at (put_bits (put_bit z (a + w) (bit_at s (a + w))) a w (bits_of s a w)) p ≡ bit_at s p)
        → bit_at (put_bits (put_bit z (a + w) (bit_at s (a + w))) a w (bits_of s a w)) p ≡ bit_at s p
    go (yes e) more =
        rw e
        (put_bits_other (put_bit z (a + w) (bit_at s (a + w))) a w (bits_of s a w) (a + w) (inr (omega arith))
        ∙ put_bit_same z (a + w) (bit_at s (a + w)) (omega arith) (bit_at_lt s (a + w)))
    go (no f) more = more (omega arith)

parts_bits : (z s : List ℕ) (a : ℕ) (ws : List ℕ) (p : ℕ) → a + sum_of ws ≤ length z * 8 → a ≤ p → p < a + sum_of ws →
    bit_at (put_all z a ws (values_of s a ws)) p ≡ bit_at s p
unfolding put_all values_of
parts_bits z s a [] p r h k = absurd (omega arith)
parts_bits z s a (w ∷ ws) p r h k =
    go (dec_lt p (a + w)) (λ l. parts_bits (put_bits z a w (bits_of s a w)) s (a + w) ws p (rw length-put_bits (omega arith)) l (omega arith))
  where
    go : Dec (p < a + w) → (a + w ≤ p → bit_at (put_all (put_bits z a w (bits_of s a w)) (a + w) ws (values_of s (a + w) ws)) p ≡ bit_at s p)
        → bit_at (put_all (put_bits z a w (bits_of s a w)) (a + w) ws (values_of s (a + w) ws)) p ≡ bit_at s p
    go (yes l) more = put_all_before (put_bits z a w (bits_of s a w)) (a + w) ws (values_of s (a + w) ws) p l ∙ put_read z s a w p (omega arith) h l
    go (no l) more = more (omega arith)

pub zeros_bytes : (n : ℕ) → Bytes (replicate n 0)
zeros_bytes zero = tt
zeros_bytes (suc n) = (omega arith, zeros_bytes n)

pub put_all_bytes : (s : List ℕ) (a : ℕ) (ws vs : List ℕ) → Bytes s → Bytes (put_all s a ws vs)
unfolding put_all
put_all_bytes s a [] vs b = b
put_all_bytes s a (w ∷ ws) [] b = b
put_all_bytes s a (w ∷ ws) (v ∷ vs) b = put_all_bytes (put_bits s a w v) (a + w) ws vs (put_bits_bytes s a w v b)

-- whole bytes are what their parts write
pub parts_write : (s ws : List ℕ) → Bytes s → sum_of ws ≡ length s * 8 → put_all (replicate (length s) 0) 0 ws (values_of s 0 ws) ≡ s
parts_write s ws b n =
    let z = replicate {A = ℕ} (length s) 0 in
    let t = put_all z 0 ws (values_of s 0 ws) in
    let k : length z ≡ length s = length-replicate (length s) 0 in
    let m : length t ≡ length s = length-put_all z 0 ws (values_of s 0 ws) ∙ k in
    bits_tell_bytes t s (put_all_bytes z 0 ws (values_of s 0 ws) (zeros_bytes (length s))) b m
    (λ p l. parts_bits z s 0 ws p (omega arith) (omega arith) (omega arith))

-- ---- records

-- where a record's type stands
abbrev pub place_in : Field → ℕ
place_in (F.TacticalUplink a b c d e) = 0
place_in (F.ElmUplink a b c d f) = 1
place_in (F.DownlinkRequest a b c d e) = 2
place_in (F.IdRequest a b) = 3
place_in (F.CapabilityRequest a b) = 4
place_in (F.Cancellation a b c d) = 5
place_in (F.Test a) = 6
place_in (F.AltimeterCorrection b) = 7
place_in (F.AtcFailure a) = 8
place_in (F.SensorFailure a c) = 9
place_in (F.DabsControlState a b c) = 10
place_in (F.AtcrbsControlState a b) = 11
place_in (F.RejectionNotice a b c) = 12
place_in (F.DeliveryNotice a b c) = 13
place_in (F.TacticalDownlink a b) = 14
place_in (F.ElmDownlink a c) = 15
place_in (F.Utility a c) = 16
place_in (F.Capability a b c d) = 17
place_in (F.IdCode a c) = 18
place_in (F.TestResponse a) = 19
place_in (F.ControllerAlert a b c d e f g h i j) = 20

-- a record's spares are zero
abbrev pub spares_zero : List ℕ → List ℕ → Bool
spares_zero [] vs = true
spares_zero (r ∷ rs) [] = true
spares_zero (r ∷ rs) (v ∷ vs) = cond (eqb r 1) (eqb v 0) true && spares_zero rs vs

-- what holds of every record, case by case
own : (f : Field) → (field_of (place_in f) (numbers_of f) ≡ f) × (place_of (get_or (numbers_of f) 0 0) ≡ Some (place_in f)) × (place_in f < 21) × (spares_zero (rules_at (place_in f)) (numbers_of f) ≡ true)
unfolding field_at table rows place_from rules rules_at
own (F.TacticalUplink a b c d e) = (refl, refl, lit< tt, refl)
own (F.ElmUplink a b c d f) = (refl, refl, lit< tt, refl)
own (F.DownlinkRequest a b c d e) = (refl, refl, lit< tt, refl)
own (F.IdRequest a b) = (refl, refl, lit< tt, refl)
own (F.CapabilityRequest a b) = (refl, refl, lit< tt, refl)
own (F.Cancellation a b c d) = (refl, refl, lit< tt, refl)
own (F.Test a) = (refl, refl, lit< tt, refl)
own (F.AltimeterCorrection b) = (refl, refl, lit< tt, refl)
own (F.AtcFailure a) = (refl, refl, lit< tt, refl)
own (F.SensorFailure a c) = (refl, refl, lit< tt, refl)
own (F.DabsControlState a b c) = (refl, refl, lit< tt, refl)
own (F.AtcrbsControlState a b) = (refl, refl, lit< tt, refl)
own (F.RejectionNotice a b c) = (refl, refl, lit< tt, refl)
own (F.DeliveryNotice a b c) = (refl, refl, lit< tt, refl)
own (F.TacticalDownlink a b) = (refl, refl, lit< tt, refl)
own (F.ElmDownlink a c) = (refl, refl, lit< tt, refl)
own (F.Utility a c) = (refl, refl, lit< tt, refl)
own (F.Capability a b c d) = (refl, refl, lit< tt, refl)
own (F.IdCode a c) = (refl, refl, lit< tt, refl)
own (F.TestResponse a) = (refl, refl, lit< tt, refl)
own (F.ControllerAlert a b c d e f g h i j) = (refl, refl, lit< tt, refl)

-- the values of its parts make the record
pub record_back : (f : Field) → field_of (place_in f) (numbers_of f) ≡ f
record_back f = (own f).0

-- its type has its place, which is no relay's
pub place_back : (f : Field) → place_of (get_or (numbers_of f) 0 0) ≡ Some (place_in f)
place_back f = (own f).1

pub place_low : (f : Field) → place_in f < 21
place_low f = (own f).2

pub spares-zero : (f : Field) → spares_zero (rules_at (place_in f)) (numbers_of f) ≡ true
spares-zero f = (own f).3

-- the values with zero for the spares
abbrev masked : List ℕ → List ℕ → List ℕ
masked [] vs = vs
masked (r ∷ rs) [] = []
masked (r ∷ rs) (v ∷ vs) = cond (eqb r 1) 0 v ∷ masked rs vs

abbrev named : ℕ → List ℕ → List ℕ
named c [] = []
named c (v ∷ vs) = c ∷ vs

spare_zero : (r v : ℕ) → eqb (fault_of r v) 1 ≡ false → cond (eqb r 1) 0 v ≡ v
spare_zero r v h = go (eqb r 1) refl
  where
    zero_of : (b : Bool) → eqb v 0 ≡ b → eqb (cond b 0 1) 1 ≡ false → 0 ≡ v
    zero_of true e q = sym (eqb-true v 0 e)
    zero_of false e q = absurd (let z : ◌≡◌ {A = ℕ} 0 1 = cc in omega arith)

    go : (b : Bool) → eqb r 1 ≡ b → cond (eqb r 1) 0 v ≡ v
    go true e = rw e (zero_of (eqb v 0) refl (rw e at h))
    go false e = rw e refl

masked_same : (rs vs : List ℕ) → length rs ≡ length vs → has_fault 1 rs vs ≡ false → masked rs vs ≡ vs
unfolding has_fault
masked_same [] vs n h = refl
masked_same (r ∷ rs) [] n h = refl
masked_same (r ∷ rs) (v ∷ vs) n h =
    let o = both_false (eqb (fault_of r v) 1) (has_fault 1 rs vs) h in
    let e = spare_zero r v o.0 in
    let m = masked_same rs vs (omega arith) o.1 in
    rw (e, m) refl

-- what holds at every place, case by case: a record of read values has those values again, but for its type and its spares; and the first of
-- the values is the type
at_place : (s : List ℕ) (a i : ℕ) → i < 21
    → (numbers_of (field_of i (values_at s a i)) ≡ masked (rules_at i) (named (row_at i).code (values_at s a i)))
    × (get_or (values_at s a i) 0 0 ≡ bits_of s a 8)
    × (length (rules_at i) ≡ length (values_at s a i))
    × (named (get_or (values_at s a i) 0 0) (values_at s a i) ≡ values_at s a i)
unfolding table rows row_at widths widths_at rules rules_at values_of field_at
at_place s a zero h = (refl, refl, refl, refl)
at_place s a (suc zero) h = (refl, refl, refl, refl)
at_place s a (suc (suc zero)) h = (refl, refl, refl, refl)
at_place s a (suc (suc (suc zero))) h = (refl, refl, refl, refl)
at_place s a (suc (suc (suc (suc zero)))) h = (refl, refl, refl, refl)
at_place s a (suc (suc (suc (suc (suc zero))))) h = (refl, refl, refl, refl)
at_place s a (suc (suc (suc (suc (suc (suc zero)))))) h = (refl, refl, refl, refl)
at_place s a (suc (suc (suc (suc (suc (suc (suc zero))))))) h = (refl, refl, refl, refl)
at_place s a (suc (suc (suc (suc (suc (suc (suc (suc zero)))))))) h = (refl, refl, refl, refl)
at_place s a (suc (suc (suc (suc (suc (suc (suc (suc (suc zero))))))))) h = (refl, refl, refl, refl)
at_place s a (suc (suc (suc (suc (suc (suc (suc (suc (suc (suc zero)))))))))) h = (refl, refl, refl, refl)
at_place s a (suc (suc (suc (suc (suc (suc (suc (suc (suc (suc (suc zero))))))))))) h = (refl, refl, refl, refl)
at_place s a (suc (suc (suc (suc (suc (suc (suc (suc (suc (suc (suc (suc zero)))))))))))) h = (refl, refl, refl, refl)
at_place s a (suc (suc (suc (suc (suc (suc (suc (suc (suc (suc (suc (suc (suc zero))))))))))))) h = (refl, refl, refl, refl)
at_place s a (suc (suc (suc (suc (suc (suc (suc (suc (suc (suc (suc (suc (suc (suc zero)))))))))))))) h = (refl, refl, refl, refl)
at_place s a (suc (suc (suc (suc (suc (suc (suc (suc (suc (suc (suc (suc (suc (suc (suc zero))))))))))))))) h = (refl, refl, refl, refl)
at_place s a (suc (suc (suc (suc (suc (suc (suc (suc (suc (suc (suc (suc (suc (suc (suc (suc zero)))))))))))))))) h = (refl, refl, refl, refl)
at_place s a (suc (suc (suc (suc (suc (suc (suc (suc (suc (suc (suc (suc (suc (suc (suc (suc (suc zero))))))))))))))))) h = (refl, refl, refl, refl)
at_place s a (suc (suc (suc (suc (suc (suc (suc (suc (suc (suc (suc (suc (suc (suc (suc (suc (suc (suc zero)))))))))))))))))) h = (refl, refl, refl, refl)
at_place s a (suc (suc (suc (suc (suc (suc (suc (suc (suc (suc (suc (suc (suc (suc (suc (suc (suc (suc (suc zero))))))))))))))))))) h = (refl, refl, refl, refl)
at_place s a (suc (suc (suc (suc (suc (suc (suc (suc (suc (suc (suc (suc (suc (suc (suc (suc (suc (suc (suc (suc zero)))))))))))))))))))) h = (refl, refl, refl, refl)
at_place s a (suc (suc (suc (suc (suc (suc (suc (suc (suc (suc (suc (suc (suc (suc (suc (suc (suc (suc (suc (suc (suc i))))))))))))))))))))) h = absurd (omega arith)

pub first_eight : (s : List ℕ) (a i : ℕ) → i < 21 → get_or (values_at s a i) 0 0 ≡ bits_of s a 8
first_eight s a i h = (at_place s a i h).1

pub values_back : (s : List ℕ) (a i : ℕ) → i < 21 → bits_of s a 8 ≡ (row_at i).code → has_fault 1 (rules_at i) (values_at s a i) ≡ false
    → numbers_of (field_of i (values_at s a i)) ≡ values_at s a i
values_back s a i h c z =
    let q = at_place s a i h in
    let e : named (row_at i).code (values_at s a i) ≡ values_at s a i = ap (λ (x : ℕ). named x (values_at s a i)) (sym c ∙ sym q.1) ∙ q.3 in
    q.0 ∙ ap (masked (rules_at i)) e ∙ masked_same (rules_at i) (values_at s a i) q.2 z
