-- The runs rise, so those that end at the place or before it stand first.
use Rattle.std.proofs.Common.{◌≡◌, ◌≤◌, nat_le, true, false, get_or, subst, rules, arith}
use Rattle.std.proofs.lemmas.Bool.{leb-true}
use Rattle.std.specs.List.Sorted.{IsPartitionPoint}
use Rattle.std.proofs.lemmas.List.Sorted.{IsPartitionedBy-leb, IsPartitionPoint-from_clause}
use Rattle.ed_base.specs.Spans.{end_of}
use Rattle.ed_pieces.specs.declared.trails.TrailRun.{TrailRun}
use Rattle.ed_members.proofs.HandingUp.{ends_rise}
use Rattle.ed_members.proofs.Putting.{read_at}
use Rattle.ed_members.proofs.ways.first_behind.Goals as goal

pub returns-clause-before : goal.returns-clause-before
returns-clause-before c = λ i r below is.
    let point : IsPartitionPoint (λ (r : TrailRun). nat_le (end_of r.span) c.args.place ≡ true) (λ (r : TrailRun). nat_le (end_of r.span) c.args.place ≡ false) c.args.runs.now c.partition_point.result =
    IsPartitionPoint-from_clause (λ (r : TrailRun). nat_le (end_of r.span) c.args.place) c.args.runs.now c.partition_point.result c.partition_point.ensures.partitioned
    (IsPartitionedBy-leb (λ (r : TrailRun). end_of r.span) c.args.runs.now c.args.place (ends_rise 0 c.args.runs.now c.requires)) (λ a r f' k. search rules) in
    let low : end_of (get_or c.args.runs.now i r).span ≤ c.args.place = leb-true _ _ (point.0 i r (omega arith) below) in
    subst (λ (x : TrailRun). end_of x.span ≤ c.args.place) (read_at c.args.runs.now i r r is) low
