-- What stands behind the parts, and the bits of each step. Assumes nothing.
use Rattle.std.proofs.Common.{◌≡◌, ◌≢◌, Bool, true, false, cond, eqb, refl, arith, eqb-true}
use Rattle.fields.specs.declared.Row.{Row}
use Rattle.fields.specs.declared.Behind.{Behind}
use Rattle.fields.specs.declared.Behind.TheVariants.{Nothing, Text, Blocks, Numbers}
use Rattle.fields.specs.Table.{behind_of}

abbrev of : Bool → Bool → Bool → Behind
of a b c = cond a Nothing (cond b Text (cond c Blocks Numbers))

pub is_text : (r : Row) → behind_of r ≡ Text → eqb r.step 80 ≡ true
is_text r = go (eqb r.step 0) (eqb r.step 80) (eqb r.step 8)
  where
    go : (a b c : Bool) → of a b c ≡ Text → b ≡ true
    go true b c e = cc
    go false true c e = refl
    go false false true e = cc
    go false false false e = cc

pub no_text : (r : Row) → behind_of r ≢ Text → eqb r.step 80 ≡ false
no_text r ne = go (eqb r.step 0) (eqb r.step 80) (eqb r.step 8) refl refl ne
  where
    go : (a b c : Bool) → eqb r.step 0 ≡ a → eqb r.step 80 ≡ b → of a b c ≢ Text → b ≡ false
    go true true c p q f = absurd (let x = eqb-true _ _ p in let y = eqb-true _ _ q in omega arith)
    go a false c p q f = refl
    go false true c p q f = absurd (f refl)

pub is_blocks : (r : Row) → behind_of r ≡ Blocks → eqb r.step 8 ≡ true
is_blocks r = go (eqb r.step 0) (eqb r.step 80) (eqb r.step 8)
  where
    go : (a b c : Bool) → of a b c ≡ Blocks → c ≡ true
    go true b c e = cc
    go false true c e = cc
    go false false true e = refl
    go false false false e = cc

pub no_blocks : (r : Row) → behind_of r ≢ Blocks → eqb r.step 8 ≡ false
no_blocks r ne = go (eqb r.step 0) (eqb r.step 80) (eqb r.step 8) refl refl refl ne
  where
    go : (a b c : Bool) → eqb r.step 0 ≡ a → eqb r.step 80 ≡ b → eqb r.step 8 ≡ c → of a b c ≢ Blocks → c ≡ false
    go true b true p q s f = absurd (let x = eqb-true _ _ p in let y = eqb-true _ _ s in omega arith)
    go false true true p q s f = absurd (let x = eqb-true _ _ q in let y = eqb-true _ _ s in omega arith)
    go false false true p q s f = absurd (f refl)
    go a b false p q s f = refl
