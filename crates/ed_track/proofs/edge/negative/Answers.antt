use Rattle.std.proofs.Common.{◌≡◌, ◌+◌, ◌-◌, ◌<◌, ◌≤◌, ◌^◌, sym, arith}
use Rattle.ed_base.specs.Tracking.{negative_edge}
use Rattle.ed_track.specs.Ways.{way_step, from_len, to_len}
use Rattle.ed_track.proofs.WayEdges.{from_len_fits, to_len_fits, part_end_within, negative_reaches, negative_alone, negative_in, negative_behind}
use Rattle.ed_track.proofs.edge.negative.Goals as goal
use Rattle.ed_track.proofs.edge.negative.Goals.{After-count_before-before, Then-before-eq0, Then-p-end, Else-p-end}

reaches : (c : After-count_before-before) → negative_edge (way_step c.args.way c.args.changes.now) c.args.p ≤ to_len c.args.way c.args.changes.now
reaches c = negative_reaches c.args.way c.args.changes.now c.count_before-before.ensures.normal c.args.p c.requires

reached_fits : (c : After-count_before-before) → to_len c.args.way c.args.changes.now < 2 ^ 32
reached_fits c = to_len_fits c.args.way c.args.changes.now c.count_before-before.ensures.normal c.count_before-before.ensures.short

fits : (c : After-count_before-before) → from_len c.args.way c.args.changes.now < 2 ^ 32
fits c = from_len_fits c.args.way c.args.changes.now c.count_before-before.ensures.normal c.count_before-before.ensures.short

-- no change begins before the place
alone : (c : Then-before-eq0) → c.args.p ≡ negative_edge (way_step c.args.way c.args.changes.now) c.args.p
alone c =
    sym (negative_alone c.args.way c.args.changes.now c.count_before-before.ensures.normal c.args.p c.requires
    (λ l below. omega (arith, c.from.ensures, c.if-before-eq0.true, c.count_before-before.ensures.after l (omega arith) below)))

-- the place lies in the last change that begins before it, or at its end
in_part : (c : Then-p-end) → c.part_at-last.result.to ≡ negative_edge (way_step c.args.way c.args.changes.now) c.args.p
in_part c =
    sym (negative_in c.args.way c.args.changes.now c.count_before-before.ensures.normal c.args.p c.requires c.count_before-before.result c.part_at-last.result (omega arith) c.part_at-last.ensures
    (λ l below. omega (arith, c.from.ensures, c.count_before-before.ensures.before l below))
    (λ l above below. omega (arith, c.from.ensures, c.count_before-before.ensures.after l above below))
    c.if-p-end.true)

-- it lies behind it
behind : (c : Else-p-end) → c.part_at-last.result.to + c.part_at-last.result.to_len + (c.args.p - (c.part_at-last.result.from + c.part_at-last.result.from_len)) ≡ negative_edge (way_step c.args.way c.args.changes.now) c.args.p
behind c =
    sym (negative_behind c.args.way c.args.changes.now c.count_before-before.ensures.normal c.args.p c.requires c.count_before-before.result c.part_at-last.result (omega arith) c.part_at-last.ensures
    (λ l below. omega (arith, c.from.ensures, c.count_before-before.ensures.before l below))
    (λ l above below. omega (arith, c.from.ensures, c.count_before-before.ensures.after l above below))
    c.if-p-end.false)

pub returns-then-before-eq0-clause-edge : goal.returns-then-before-eq0-clause-edge
returns-then-before-eq0-clause-edge c = alone c

pub returns-then-before-eq0-clause-within : goal.returns-then-before-eq0-clause-within
returns-then-before-eq0-clause-within c =
    omega (arith, alone c, reaches (goal.at.returns-then-before-eq0-clause-within c).After-count_before-before)

pub returns-then-before-eq0-clause-fits : goal.returns-then-before-eq0-clause-fits
returns-then-before-eq0-clause-fits c =
    fits (goal.at.returns-then-before-eq0-clause-fits c).After-count_before-before

pub overflow_add-end : goal.overflow_add-end
overflow_add-end c =
    omega (arith, fits (goal.at.overflow_add-end c).After-count_before-before, part_end_within c.args.way c.args.changes.now c.count_before-before.ensures.normal c.args.p c.requires (c.count_before-before.result - 1) c.part_at-last.result c.part_at-last.ensures)

pub overflow_add-result : goal.overflow_add-result
overflow_add-result c =
    omega (arith, behind (goal.at.overflow_add-result c).Else-p-end, reaches (goal.at.overflow_add-result c).After-count_before-before, reached_fits (goal.at.overflow_add-result c).After-count_before-before)

pub overflow_add-result-else-p-end : goal.overflow_add-result-else-p-end
overflow_add-result-else-p-end c =
    omega (arith, behind (goal.at.overflow_add-result-else-p-end c).Else-p-end, reaches (goal.at.overflow_add-result-else-p-end c).After-count_before-before, reached_fits (goal.at.overflow_add-result-else-p-end c).After-count_before-before)

pub returns-then-p-end-clause-edge : goal.returns-then-p-end-clause-edge
returns-then-p-end-clause-edge c = in_part c

pub returns-then-p-end-clause-within : goal.returns-then-p-end-clause-within
returns-then-p-end-clause-within c =
    omega (arith, in_part c, reaches (goal.at.returns-then-p-end-clause-within c).After-count_before-before)

pub returns-then-p-end-clause-fits : goal.returns-then-p-end-clause-fits
returns-then-p-end-clause-fits c = fits (goal.at.returns-then-p-end-clause-fits c).After-count_before-before

pub returns-else-p-end-clause-edge : goal.returns-else-p-end-clause-edge
returns-else-p-end-clause-edge c = behind (goal.at.returns-else-p-end-clause-edge c).Else-p-end

pub returns-else-p-end-clause-within : goal.returns-else-p-end-clause-within
returns-else-p-end-clause-within c =
    omega (arith, behind (goal.at.returns-else-p-end-clause-within c).Else-p-end, reaches (goal.at.returns-else-p-end-clause-within c).After-count_before-before)

pub returns-else-p-end-clause-fits : goal.returns-else-p-end-clause-fits
returns-else-p-end-clause-fits c = fits (goal.at.returns-else-p-end-clause-fits c).After-count_before-before
