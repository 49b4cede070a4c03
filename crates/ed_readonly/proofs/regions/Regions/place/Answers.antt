use Rattle.std.proofs.Common.{◌≡◌, ℕ, ◌<◌, List, length, get_or, nat_eq, nat_lt, true, false, sym, ap, ◌∙◌, rules, arith}
use Rattle.std.proofs.lemmas.List.{get_or_default}
use Rattle.std.specs.List.{list_any}
use Rattle.std.specs.List.Sorted.{IsNonDecreasingBy, IsPartitionPoint}
use Rattle.std.proofs.lemmas.List.Sorted.{IsPartitionPoint-from_clause, IsPartitionedBy-ltb}
use Rattle.ed_base.specs.Denial.{Region}
use Rattle.ed_readonly.specs.LiveRegions.{is_numbered}
use Rattle.ed_readonly.proofs.Numbering.{absent, numbers_rise}
use Rattle.ed_readonly.proofs.regions.Regions.place.Goals as goal
use Rattle.ed_readonly.proofs.regions.Regions.place.Goals.{else-at-len-via-then-at-len+else-eq, else-at-len-via-else-at-len}

pub returns-else-at-len-clause-live : goal.returns-else-at-len-clause-live
returns-else-at-len-clause-live c =
    let items : List Region = c.self.inside.list.items in
    let number : ℕ = c.args.number in
    let at : ℕ = c.partition_point-at.result in
    let rise : IsNonDecreasingBy (λ (r : Region). r.number) items = numbers_rise 0 c.self.inside.given items c.self.invariant.numbered in
    let parts : IsPartitionPoint (λ (r : Region). nat_lt r.number number ≡ true) (λ (r : Region). nat_lt r.number number ≡ false) items at =
    IsPartitionPoint-from_clause (λ (r : Region). nat_lt r.number number) items at (rw c.deref.ensures.value at c.partition_point-at.ensures.partitioned) (IsPartitionedBy-ltb (λ (r : Region). r.number) items number rise) (λ a r f' k. search rules) in
    let differs : (d : Region) → at < length items → nat_eq (get_or items at d).number number ≡ false =
    elim c.else-at-len.branch [
      | else-at-len-via-then-at-len+else-eq w ↦ (λ d within.
          let here : get_or items at d ≡ w.index.result.now = get_or_default items at d w.index.result.now within ∙ sym w.index.ensures in
          let other : nat_eq w.index.result.now.number number ≡ false = ap (λ n. nat_eq n number) (sym w.number.ensures) ∙ sym w.eq.ensures ∙ w.if-eq.false in
          rw here other)
      | else-at-len-via-else-at-len w ↦ (λ d within. absurd (omega (arith, w.if-at-len.false)))
    ] in
    let gone : list_any (is_numbered number) items ≡ false = absent 0 c.self.inside.given items number at c.self.invariant.numbered (omega arith) parts.0 parts.1 differs in
    rw (← c.self.view_is) (sym gone)
