-- The starts rise, so the lines that start at the position or before it stand first.
use Rattle.std.proofs.Common.{◌≡◌, nat_le, true, false, drop, sym, ap, ◌∙◌, rules}
use Rattle.std.specs.List.{count_by}
use Rattle.std.specs.List.Sorted.{IsNonDecreasingBy, IsPartitionPoint}
use Rattle.std.proofs.lemmas.List.Sorted.{IsPartitionedBy-leb, IsPartitionPoint-from_clause}
use Rattle.ed_base.specs.declared.edit.LineSpan.{LineSpan}
use Rattle.ed_lines.proofs.Counted.{count_behind, line_of_counted}
use Rattle.ed_lines.proofs.table.Lines.line_of.Goals as goal
use Rattle.ed_lines.proofs.table.Lines.line_of.Goals.{After-saturating_sub}

counted : (c : After-saturating_sub) → c.saturating_sub.result ≡ count_by (λ (l : LineSpan). nat_le l.span.start c.args.position) (drop 1 c.args.self.now)
counted c =
    let rising : IsNonDecreasingBy (λ (l : LineSpan). l.span.start) c.as_slice-lines.result.now = rw c.as_slice-lines.ensures c.self.invariant.0 in
    let point : IsPartitionPoint (λ (l : LineSpan). nat_le l.span.start c.args.position ≡ true) (λ (l : LineSpan). nat_le l.span.start c.args.position ≡ false) c.as_slice-lines.result.now c.partition_point-started.result =
    IsPartitionPoint-from_clause (λ (l : LineSpan). nat_le l.span.start c.args.position) c.as_slice-lines.result.now c.partition_point-started.result c.partition_point-started.ensures.partitioned (IsPartitionedBy-leb (λ (l : LineSpan). l.span.start) c.as_slice-lines.result.now c.args.position rising) (λ a r f' k. search rules) in
    c.saturating_sub.ensures
    ∙ sym (count_behind (λ (l : LineSpan). nat_le l.span.start c.args.position) c.as_slice-lines.result.now c.partition_point-started.result c.partition_point-started.ensures.bound point.0 point.1)
    ∙ ap (λ ls. count_by (λ (l : LineSpan). nat_le l.span.start c.args.position) (drop 1 ls)) (c.as_slice-lines.ensures ∙ c.self.view_is)

pub returns-clause-line : goal.returns-clause-line
returns-clause-line c = counted (goal.at.returns-clause-line c).After-saturating_sub

pub returns-clause-of_text : goal.returns-clause-of_text
returns-clause-of_text c = λ units is. counted (goal.at.returns-clause-of_text c).After-saturating_sub ∙ line_of_counted units c.args.position c.args.self.now is
