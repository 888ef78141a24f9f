-- What holds of what is found at a place, said of what the readers answer there with a link number. Assumes nothing.
use Prim.Native.Nat.{ℕ, ◌≤◌}
use mathlib.Core.Path.{◌≡◌, sym, ap, ◌∙◌, subst}
use mathlib.Core.Bool.{false}
use mathlib.Core.Logic.{◌↔◌}
use lib.Dec.{ltb}
use borrow.Author.Tests.{ltb-false}
use Rattle.rows.proofs.Claims.{differ}
use Rattle.words.proofs.Tests.{picked, by_test}
use Rattle.reports.specs.declared.Report.{Report}
use Rattle.lines.specs.declared.What.TheVariants as W
use Rattle.lines.specs.declared.Outcome.{Outcome}
use Rattle.lines.specs.declared.Received.{Received}
use Rattle.lines.specs.Line.{is_refusal}
use Rattle.lines.specs.Links.{last_link, on_link}
use Rattle.lines.proofs.Linked.{given}

module _ (link place : ℕ) (found : Outcome) where
  -- what is no refusal was read with a number that a link has
  taken : is_refusal (on_link link place found).outcome.what ≡ false → link ≤ last_link
  taken e =
      by_test (ltb last_link link)
      (λ t. differ (sym (ap (λ (r : Received). is_refusal r.outcome.what) (picked _ _ t)) ∙ e))
      (λ t. ltb-false last_link link t)

  is_found : link ≤ last_link → (on_link link place found).outcome ≡ found
  is_found h = ap (λ (r : Received). r.outcome) (given link place found h)

  pub end_on : (P : Type 0) → (found.what ≡ W.End) ↔ P → ((on_link link place found).outcome.what ≡ W.End) ↔ ((link ≤ last_link) × P)
  end_on P k = (
    λ e. let t = taken (ap is_refusal e) in (t, k.0 (sym (ap (λ (o : Outcome). o.what) (is_found t)) ∙ e)),
    λ h. ap (λ (o : Outcome). o.what) (is_found h.0) ∙ k.1 h.1,
  )

  pub report_on : (P : Outcome → Type 0) (r : Report) → (found.what ≡ W.Accepted r → P found)
      → (on_link link place found).outcome.what ≡ W.Accepted r → P (on_link link place found).outcome
  report_on P r f e =
      let g = is_found (taken (ap is_refusal e)) in
      subst P (sym g) (f (sym (ap (λ (o : Outcome). o.what) g) ∙ e))
