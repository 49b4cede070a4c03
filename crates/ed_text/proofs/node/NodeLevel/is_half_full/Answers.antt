use Rattle.std.proofs.Common.{◌≡◌, ℕ, ◌≤◌, ◌*◌, List, length, arith, ap, subst, ◌∙◌}
use Rattle.std.proofs.Math.Nat.{mul-le-mul_right, le_trans}
use Rattle.std.proofs.lemmas.Bool.Decides.{nat_tests}
use Rattle.ed_text.proofs.HalfFull.{half_full_len}
use Rattle.ed_text.proofs.node.NodeLevel.is_half_full.Goals as goal

pub returns : goal.returns
returns g c = λ h.
    let f = g.C.Level.units in
    let w = g.C.Level.least in
    let items = c.self.inside.row.value.items in
    let same : c.as_slice-row.result.now ≡ items = c.as_slice-row.ensures.value ∙ ap (λ v. v.items) c.deref.ensures in
    let n : 8 ≤ length items = grind (arith, nat_tests, h, ap length same) in
    let m : 8 * w ≤ length items * w = mul-le-mul_right w n in
    let all = c.self.invariant.4 (omega (arith, n)) in
    let P : List ℕ → Type 0 = λ l. 8 * w ≤ length l in
    subst P c.self.view_is (le_trans m (half_full_len f w items all))
