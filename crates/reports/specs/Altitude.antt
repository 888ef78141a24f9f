-- How twelve bits hold an altitude in hundreds of feet (document 004, 4.1.17): document 01's form, and the other one of document 02, Ticket 5.
-- Everything above takes the form as a parameter, but the lister, which has document 01's. Definitions only.
use Rattle.std.specs.Prelude.{ℕ, ◌+◌, ◌-◌, ◌/◌, ◌%◌, ◌<◌, ◌≡◌, Bool, true, false, cond, [], ◌∷◌, eqb, leb, ℤ, pos, negsuc, neg_ℤ, nat_abs, ◌-ℤ◌}
use Rattle.words.specs.Tests.{all}
use Rattle.reports.specs.declared.altitude.Form.{Form}
use Rattle.reports.specs.declared.altitude.Form.TheVariants as F

pub record AltitudeForm : Type 0 where
  -- these twelve bits are no altitude (refusal 9)
  pub refused : ℕ → Bool
  -- the altitude that twelve bits say
  pub altitude : ℕ → ℤ
  -- the twelve bits that say an altitude; 4096, which no twelve bits are, where none do (refusal 11)
  pub bits_of : ℤ → ℕ

-- what is asked of a form: the two ways undo each other
pub record Sound (form : AltitudeForm) : Type 0 where
  pub back : (z : ℤ) → form.bits_of z < 4096 → (form.refused (form.bits_of z) ≡ false) × (form.altitude (form.bits_of z) ≡ z)
  pub again : (n : ℕ) → n < 4096 → form.refused n ≡ false → form.bits_of (form.altitude n) ≡ n

-- ---- document 01: a sign, 1 negative, and eleven bits; -2047 to 2047

-- the first of twelve bits, and the other eleven
abbrev pub sign : ℕ → Bool
sign n = eqb (n / 2048) 1

abbrev pub magnitude : ℕ → ℕ
magnitude n = n % 2048

abbrev pub signed : Bool → ℕ → ℤ
signed s n = cond s (neg_ℤ (pos n)) (pos n)

abbrev pub negative : ℤ → Bool
negative (pos n) = false
negative (negsuc n) = true

abbrev pub sign_magnitude : AltitudeForm
sign_magnitude = record {
  refused = λ n. all (sign n ∷ eqb (magnitude n) 0 ∷ []);
  altitude = λ n. signed (sign n) (magnitude n);
  bits_of = λ z. cond (leb (nat_abs z) 2047) (cond (negative z) 2048 0 + nat_abs z) 4096;
}

-- ---- document 02, Ticket 5: twelve bits in two's complement; -2048 to 2047, and every pattern is an altitude

-- the first bit weighs -2048, the other eleven what they weigh in document 01's form
abbrev pub twos_complement : AltitudeForm
twos_complement = record {
  refused = λ n. false;
  altitude = λ n. cond (sign n) (pos (magnitude n) -ℤ pos 2048) (pos (magnitude n));
  bits_of = λ z. cond (negative z) (cond (leb (nat_abs z) 2048) (4096 - nat_abs z) 4096) (cond (leb (nat_abs z) 2047) (nat_abs z) 4096);
}

-- ---- the two by name and by number

-- what the code's name of a form stands for
abbrev pub form_of : Form → AltitudeForm
form_of F.SignMagnitude = sign_magnitude
form_of F.TwosComplement = twos_complement

-- the number that a C program passes for a form
abbrev pub form_number : Form → ℕ
form_number F.SignMagnitude = 0
form_number F.TwosComplement = 1

-- and the form that any number stands for: 0 document 01's, any other the new one
abbrev pub form_numbered : ℕ → Form
form_numbered n = cond (eqb n 0) F.SignMagnitude F.TwosComplement

abbrev pub chosen : ℕ → AltitudeForm
chosen n = form_of (form_numbered n)
