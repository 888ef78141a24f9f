-- `manners::lent::Taken::list` meets its contract. A list with room for as many breaches as the line can have has room for all. Assumes nothing.
use Rattle.std.proofs.Common.{ℕ, ◌*◌, ◌/◌, ◌≤◌, length, arith}
use native.Mathlib.Nat.{mul-le-mul_right, div-mul-le_self, le_trans}
use Rattle.reports.specs.Altitude.{form_of}
use Rattle.manners.specs.Breaches.{breaches}
use Rattle.manners.proofs.Exactly.{no_more}
use Rattle.manners.proofs.lent.Taken.list.Goals as goal
use Rattle.manners.proofs.lent.Taken.list.Goals.{then-room-most_in+else-room-all+else-all-eq0, else-room-most_in}

has_room : (a n w : ℕ) → a ≤ n / w → a * w ≤ n
has_room a n w h = le_trans (mul-le-mul_right w h) (div-mul-le_self n w)

pub fill-requires : goal.fill-requires
fill-requires g c =
    let line = g.L.Element.words c.args.self.now.held.now in
    let all = length (breaches (form_of c.args.self.now.form) line) in
    let most = no_more.in_words (form_of c.args.self.now.form) line in
    let fits : all ≤ length c.args.list.now / c.WIDTH.result =
    elim c.if-room-most_in.branch [
      | then-room-most_in+else-room-all+else-all-eq0 w ↦ omega (arith, w.count-all.ensures, w.if-room-all.false)
      | else-room-most_in w ↦ omega (arith, c.most_in.ensures, c.count_words.ensures, w.if-room-most_in.false)
    ]
    in
    rw c.WIDTH.ensures at (has_room all (length c.args.list.now) c.WIDTH.result fits)
