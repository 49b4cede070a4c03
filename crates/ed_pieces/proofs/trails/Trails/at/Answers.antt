-- The runs that begin at the place or before it stand first, and only the last of them can hold the place.
use Rattle.std.proofs.Common.{◌≡◌, ◌+◌, ◌-◌, ◌<◌, [], length, nat_le, nat_lt, true, false, get_or, refl, sym, ap, ◌∙◌, rules, arith, if◌then◌else◌}
use Rattle.std.specs.List.Sorted.{IsPartitionPoint}
use Rattle.std.proofs.lemmas.List.Sorted.{IsPartitionedBy-leb, IsPartitionPoint-from_clause}
use Rattle.std.proofs.lemmas.Bool.Decides.{nat_tests}
use Rattle.ed_base.specs.Spans.{end_of}
use Rattle.ed_pieces.specs.Trails.{AreRising, trail_in}
use Rattle.ed_pieces.specs.declared.trails.TrailRun.{TrailRun}
use Rattle.ed_pieces.proofs.Marking.{rising_starts, none_begun, last_begun}
use Rattle.ed_pieces.proofs.trails.Trails.at.Goals as goal
use Rattle.ed_pieces.proofs.trails.Trails.at.Goals.{After-partition_point-begun}

rising : (c : After-partition_point-begun) → AreRising 0 c.as_slice-runs.result.now
rising c = rw c.as_slice-runs.ensures c.self.invariant

point : (c : After-partition_point-begun) → IsPartitionPoint (λ (w : TrailRun). nat_le w.span.start c.args.place ≡ true) (λ (w : TrailRun). nat_le w.span.start c.args.place ≡ false) c.as_slice-runs.result.now c.partition_point-begun.result
point c =
    IsPartitionPoint-from_clause (λ (w : TrailRun). nat_le w.span.start c.args.place) c.as_slice-runs.result.now c.partition_point-begun.result c.partition_point-begun.ensures.partitioned
    (IsPartitionedBy-leb (λ (w : TrailRun). w.span.start) c.as_slice-runs.result.now c.args.place (rising_starts 0 c.as_slice-runs.result.now (rising c)))
    (λ a r f' k. search rules)

same : (c : After-partition_point-begun) → c.as_slice-runs.result.now ≡ c.args.self.now
same c = c.as_slice-runs.ensures ∙ c.self.view_is

pub returns-then-begun-eq0 : goal.returns-then-begun-eq0
returns-then-begun-eq0 c =
    let d : After-partition_point-begun = (goal.at.returns-then-begun-eq0 c).After-partition_point-begun in
    let none : c.partition_point-begun.result ≡ 0 = c.if-begun-eq0.true in
    sym (ap (λ ws. trail_in ws c.args.place) (sym (same d)) ∙ none_begun 0 c.args.place c.as_slice-runs.result.now (rising d) (λ k e l m. (point d).1 k e (omega arith) m))

-- the last run that begins at the place or before it
module _ (c : After-partition_point-begun) (x : TrailRun) (some : c.partition_point-begun.result ≡ 0 → ⊥) (is : x ≡ get_or c.as_slice-runs.result.now (c.partition_point-begun.result - 1) x) where
  begun : nat_le x.span.start c.args.place ≡ true
  begun = rw (← is) at ((point c).0 (c.partition_point-begun.result - 1) x (omega arith) (omega arith))

  found : trail_in c.args.self.now c.args.place ≡ (if nat_lt c.args.place (end_of x.span) then x.trail else [])
  found =
      let one : c.partition_point-begun.result - 1 + 1 ≡ c.partition_point-begun.result = omega arith in
      let within : c.partition_point-begun.result - 1 < length c.as_slice-runs.result.now = omega (arith, c.partition_point-begun.ensures.bound) in
      let last = last_begun 0 c.args.place c.as_slice-runs.result.now (c.partition_point-begun.result - 1) x (rising c) within
      (λ k e l m. (point c).0 k e l (omega arith))
      (λ k e l m. (point c).1 k e (omega arith) m) in
      ap (λ ws. trail_in ws c.args.place) (sym (same c)) ∙ (rw (← is) at last)

pub overflow_sub-place : goal.overflow_sub-place
overflow_sub-place c =
    let b : nat_le c.index-runs-begun.result.span.start c.args.place ≡ true = begun (goal.at.overflow_sub-place c).After-partition_point-begun c.index-runs-begun.result c.if-begun-eq0.false c.index-runs-begun.is in
    grind (arith, nat_tests)

pub returns-then-place-run : goal.returns-then-place-run
returns-then-place-run c =
    let d : After-partition_point-begun = (goal.at.returns-then-place-run c).After-partition_point-begun in
    let b : nat_le c.index-runs-begun.result.span.start c.args.place ≡ true = begun d c.index-runs-begun.result c.if-begun-eq0.false c.index-runs-begun.is in
    let a = c.if-place-run.true in
    let t : nat_lt c.args.place (end_of c.index-runs-begun.result.span) ≡ true = grind (arith, nat_tests, a) in
    c.as_slice.ensures ∙ sym (found d c.index-runs-begun.result c.if-begun-eq0.false c.index-runs-begun.is ∙ rw t refl)

pub returns : goal.returns
returns c =
    let d : After-partition_point-begun = (goal.at.returns c).After-partition_point-begun in
    let b : nat_le c.index-runs-begun.result.span.start c.args.place ≡ true = begun d c.index-runs-begun.result c.if-begun-eq0.false c.index-runs-begun.is in
    let a = c.if-place-run.false in
    let f : nat_lt c.args.place (end_of c.index-runs-begun.result.span) ≡ false = grind (arith, nat_tests, a) in
    sym (found d c.index-runs-begun.result c.if-begun-eq0.false c.index-runs-begun.is ∙ rw f refl)
