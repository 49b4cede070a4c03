-- The runs that begin before the place stand first, and the last of them tells how many shown places stand before.
use Rattle.std.proofs.Common.{◌≡◌, ◌+◌, ◌-◌, ◌<◌, ◌≤◌, nat_lt, true, false, List, length, slice_index_or, sym, ap, subst, ◌∙◌, rules, arith}
use Rattle.std.specs.List.Sorted.{IsPartitionPoint}
use Rattle.std.proofs.lemmas.Bool.{ltb-true, ltb-false}
use Rattle.std.proofs.lemmas.List.Sorted.{IsPartitionedBy-ltb, IsPartitionPoint-from_clause}
use Rattle.ed_base.specs.declared.edit.Span.{Span}
use Rattle.ed_base.specs.Spans.{end_of}
use Rattle.ed_layers.specs.Hidden.{hidden_by, nearest}
use Rattle.ed_spans.specs.SpanSets.{held_below}
use Rattle.ed_spans.proofs.EndLemmas.{apart_at}
use Rattle.ed_elide.proofs.FlagLemmas.{length_flags}
use Rattle.ed_elide.proofs.NearestLemmas.{apart_rises, held_none_begun, length_before, nearest_is, nearest_last}
use Rattle.ed_elide.proofs.hidden.Hidden.nearest.Goals as goal
use Rattle.ed_elide.proofs.hidden.Hidden.nearest.Goals.{After-partition_point-begun, After-saturating_sub}

abbrev no_span : Span
no_span = record { start = 0; len = 0 }

-- which of the runs begin before the place
point : (c : After-partition_point-begun) → IsPartitionPoint (λ (s : Span). nat_lt s.start c.args.place ≡ true) (λ (s : Span). nat_lt s.start c.args.place ≡ false) c.self.inside.spans.items c.partition_point-begun.result
point c =
    subst (λ (ss : List Span). IsPartitionPoint (λ (s : Span). nat_lt s.start c.args.place ≡ true) (λ (s : Span). nat_lt s.start c.args.place ≡ false) ss c.partition_point-begun.result) c.as_slice-spans.ensures.value
    (IsPartitionPoint-from_clause (λ (s : Span). nat_lt s.start c.args.place) c.as_slice-spans.result.now c.partition_point-begun.result c.partition_point-begun.ensures.partitioned
    (IsPartitionedBy-ltb (λ (s : Span). s.start) c.as_slice-spans.result.now c.args.place (rw c.as_slice-spans.ensures.value (apart_rises 0 c.self.inside.len c.self.inside.spans.items c.self.invariant.apart)))
    (λ a r f' k. search rules))

within : (c : After-partition_point-begun) → c.args.place ≤ c.self.inside.len
within c = omega (arith, c.requires, ap length c.self.view_is, length_flags c.self.inside.len c.self.inside.spans.items)

pub returns-then-begun-eq0 : goal.returns-then-begun-eq0
returns-then-begun-eq0 c =
    let d : After-partition_point-begun = (goal.at.returns-then-begun-eq0 c).After-partition_point-begun in
    let none : held_below c.args.place c.self.inside.spans.items ≡ 0 =
    held_none_begun 0 c.self.inside.len c.args.place c.self.inside.spans.items no_span c.self.invariant.apart (λ some. ltb-false (slice_index_or c.self.inside.spans.items 0 no_span).start c.args.place ((point d).1 0 no_span (omega arith) some)) in
    let is : nearest (hidden_by c.self.inside.len c.self.inside.spans.items) c.args.place ≡ c.args.place = omega (arith, none, nearest_is c.self.inside.len c.args.place c.self.inside.spans.items c.self.invariant.apart (within d)) in
    sym is ∙ ap (λ fs. nearest fs c.args.place) c.self.view_is

-- the last run that begins before the place
module _ (c : After-partition_point-begun) (some : c.partition_point-begun.result ≡ 0 → ⊥) where
  below : c.partition_point-begun.result - 1 < length c.self.inside.spans.items
  below = omega (arith, some, c.partition_point-begun.ensures.bound, ap length c.as_slice-spans.ensures.value)

  begun : (slice_index_or c.self.inside.spans.items (c.partition_point-begun.result - 1) no_span).start < c.args.place
  begun = ltb-true (slice_index_or c.self.inside.spans.items (c.partition_point-begun.result - 1) no_span).start c.args.place ((point c).0 (c.partition_point-begun.result - 1) no_span (omega arith) (omega (arith, some)))

  ends : end_of (slice_index_or c.self.inside.spans.items (c.partition_point-begun.result - 1) no_span) ≤ c.self.inside.len
  ends = (apart_at 0 c.self.inside.len (c.partition_point-begun.result - 1) c.self.inside.spans.items no_span c.self.invariant.apart below).1

  told : slice_index_or c.self.inside.places.items (c.partition_point-begun.result - 1) 0 + (c.args.place - end_of (slice_index_or c.self.inside.spans.items (c.partition_point-begun.result - 1) no_span)) ≡ nearest c.args.self.now c.args.place
  told =
      nearest_last c.self.inside.len c.args.place (c.partition_point-begun.result - 1) c.self.inside.spans.items c.self.inside.places.items no_span c.self.invariant.apart (within c) c.self.invariant.places below begun
      (λ more. ltb-false (slice_index_or c.self.inside.spans.items (c.partition_point-begun.result - 1 + 1) no_span).start c.args.place ((point c).1 (c.partition_point-begun.result - 1 + 1) no_span (omega (arith, some)) more))
      ∙ ap (λ fs. nearest fs c.args.place) c.self.view_is

  near : nearest c.args.self.now c.args.place ≤ c.args.place
  near = omega (arith, nearest_is c.self.inside.len c.args.place c.self.inside.spans.items c.self.invariant.apart (within c), ap (λ fs. nearest fs c.args.place) c.self.view_is)

pub bounds-places-begun : goal.bounds-places-begun
bounds-places-begun c =
    omega (arith, below (goal.at.bounds-places-begun c).After-partition_point-begun c.if-begun-eq0.false, ap length c.as_slice-places.ensures.value, ap length c.self.invariant.places, length_before 0 0 c.self.inside.spans.items)

pub overflow_add-last : goal.overflow_add-last
overflow_add-last c =
    rw c.as_slice-spans.ensures.value (omega (arith, ends (goal.at.overflow_add-last c).After-partition_point-begun c.if-begun-eq0.false, c.self.invariant.short))

-- the sum that is answered
sum : (c : After-saturating_sub) → slice_index_or c.as_slice-places.result.now (c.partition_point-begun.result - 1) 0 + c.saturating_sub.result ≡ nearest c.args.self.now c.args.place
sum c =
    rw (c.as_slice-places.ensures.value, c.saturating_sub.ensures, c.as_slice-spans.ensures.value) (told (goal.at.returns c).After-partition_point-begun c.if-begun-eq0.false)

pub overflow_add-result : goal.overflow_add-result
overflow_add-result c = omega (arith, sum c, near (goal.at.overflow_add-result c).After-partition_point-begun c.if-begun-eq0.false, c.ranges.place.fits)

pub returns : goal.returns
returns c = sum c
