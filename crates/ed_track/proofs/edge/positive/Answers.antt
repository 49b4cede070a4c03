use Rattle.std.proofs.Common.{◌≡◌, ◌+◌, ◌-◌, ◌<◌, ◌≤◌, ◌^◌, sym, arith}
use Rattle.ed_base.specs.Tracking.{positive_edge}
use Rattle.ed_track.specs.Ways.{way_step, from_len, to_len}
use Rattle.ed_track.proofs.WayEdges.{from_len_fits, to_len_fits, part_end_within, positive_reaches, positive_alone, positive_by}
use Rattle.ed_track.proofs.edge.positive.Goals as goal
use Rattle.ed_track.proofs.edge.positive.Goals.{After-count_before-before, After-part_at-last, Then-before-eq0}

reaches : (c : After-count_before-before) → positive_edge (way_step c.args.way c.args.changes.now) c.args.p ≤ to_len c.args.way c.args.changes.now
reaches c = positive_reaches c.args.way c.args.changes.now c.count_before-before.ensures.normal c.args.p c.requires

fits : (c : After-count_before-before) → from_len c.args.way c.args.changes.now < 2 ^ 32
fits c = from_len_fits c.args.way c.args.changes.now c.count_before-before.ensures.normal c.count_before-before.ensures.short

-- the edge by the last change that begins at or before the place
edge : (c : After-part_at-last) → positive_edge (way_step c.args.way c.args.changes.now) c.args.p ≡ c.part_at-last.result.to + c.part_at-last.result.to_len + (c.args.p - (c.part_at-last.result.from + c.part_at-last.result.from_len))
edge c =
    positive_by c.args.way c.args.changes.now c.count_before-before.ensures.normal c.args.p c.requires c.count_before-before.result c.part_at-last.result (omega arith) c.part_at-last.ensures
    (λ l below. omega (arith, c.from.ensures, c.count_before-before.ensures.before l below))
    (λ l above below. omega (arith, c.from.ensures, c.count_before-before.ensures.after l above below))

-- it lies in the text that is reached
edge_fits : (c : After-part_at-last) → c.part_at-last.result.to + c.part_at-last.result.to_len + (c.args.p - (c.part_at-last.result.from + c.part_at-last.result.from_len)) < 2 ^ 32
edge_fits c = omega (arith, edge c, positive_reaches c.args.way c.args.changes.now c.count_before-before.ensures.normal c.args.p c.requires, to_len_fits c.args.way c.args.changes.now c.count_before-before.ensures.normal c.count_before-before.ensures.short)

alone : (c : Then-before-eq0) → c.args.p ≡ positive_edge (way_step c.args.way c.args.changes.now) c.args.p
alone c =
    sym (positive_alone c.args.way c.args.changes.now c.count_before-before.ensures.normal c.args.p c.requires
    (λ l below. omega (arith, c.from.ensures, c.if-before-eq0.true, c.count_before-before.ensures.after l (omega arith) below)))

pub returns-then-before-eq0-clause-edge : goal.returns-then-before-eq0-clause-edge
returns-then-before-eq0-clause-edge c = alone c

pub returns-then-before-eq0-clause-within : goal.returns-then-before-eq0-clause-within
returns-then-before-eq0-clause-within c =
    omega (arith, alone c, reaches (goal.at.returns-then-before-eq0-clause-within c).After-count_before-before)

pub overflow_add-result : goal.overflow_add-result
overflow_add-result c = omega (arith, edge_fits (goal.at.overflow_add-result c).After-part_at-last)

pub overflow_add-last : goal.overflow_add-last
overflow_add-last c =
    omega (arith, fits (goal.at.overflow_add-last c).After-count_before-before, part_end_within c.args.way c.args.changes.now c.count_before-before.ensures.normal c.args.p c.requires (c.count_before-before.result - 1) c.part_at-last.result c.part_at-last.ensures)

pub overflow_add-result-2 : goal.overflow_add-result-2
overflow_add-result-2 c =
    omega (arith, c.saturating_sub.ensures, edge_fits (goal.at.overflow_add-result-2 c).After-part_at-last)

pub returns-clause-edge : goal.returns-clause-edge
returns-clause-edge c =
    omega (arith, c.saturating_sub.ensures, edge (goal.at.returns-clause-edge c).After-part_at-last)

pub returns-clause-within : goal.returns-clause-within
returns-clause-within c =
    omega (arith, c.saturating_sub.ensures, edge (goal.at.returns-clause-within c).After-part_at-last, reaches (goal.at.returns-clause-within c).After-count_before-before)

pub returns-clause-fits : goal.returns-clause-fits
returns-clause-fits c = fits (goal.at.returns-clause-fits c).After-count_before-before

pub returns-then-before-eq0-clause-fits : goal.returns-then-before-eq0-clause-fits
returns-then-before-eq0-clause-fits c =
    fits (goal.at.returns-then-before-eq0-clause-fits c).After-count_before-before
