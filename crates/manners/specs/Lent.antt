-- The laws of what a line and its list of breaches are lent as: 16-bit numbers, or bytes. Definitions only.
use Rattle.std.specs.Prelude.{ℕ, ◌*◌, ◌<◌, List, [], ◌++◌, ◌≡◌, length, take, drop}
use Rattle.manners.specs.Breaches.{Breach}

-- a list with these in it from a position on, and all others as they were
abbrev pub stored : {A : Type 0} → List A → ℕ → List A → List A
stored list at new = take at list ++ (new ++ drop (length new) (drop at list))

-- breaches are told one after the other, each so many wide
pub record LentLaws {A : Type 0} (said : List Breach → List A) (width : ℕ) : Type 0 where
  pub some : 0 < width
  pub none : said [] ≡ []
  pub joins : (cs bs : List Breach) → said (cs ++ bs) ≡ said cs ++ said bs
  pub each : (bs : List Breach) → length (said bs) ≡ length bs * width
