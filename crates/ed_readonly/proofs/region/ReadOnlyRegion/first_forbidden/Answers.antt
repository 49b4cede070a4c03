-- One of two changes, or none.
use Rattle.std.proofs.Common.{sym, ap, ◌∙◌, arith}
use Rattle.ed_readonly.proofs.Bisected.{found_first, found_next, found_none}
use Rattle.ed_readonly.proofs.region.ReadOnlyRegion.first_forbidden.Goals as goal

pub returns-then-forbids_at : goal.returns-then-forbids_at
returns-then-forbids_at c =
    found_first c.args.self.now c.requires.normal.0 c.args.changes.now c.count_ending_before-first.result c.requires.normal.1
    (λ i l. omega (arith, c.count_ending_before-first.ensures.before i l, ap (λ r. r.span.start) c.self.view_is))
    (λ l. omega (arith, c.count_ending_before-first.ensures.next l, ap (λ r. r.span.start) c.self.view_is)) c.count_ending_before-first.ensures.within
    (sym c.forbids_at.ensures ∙ c.if-forbids_at.true)

pub returns-then-forbids_at-2 : goal.returns-then-forbids_at-2
returns-then-forbids_at-2 c =
    found_next c.args.self.now c.requires.normal.0 c.args.changes.now c.count_ending_before-first.result c.requires.normal.1
    (λ i l. omega (arith, c.count_ending_before-first.ensures.before i l, ap (λ r. r.span.start) c.self.view_is))
    (λ l. omega (arith, c.count_ending_before-first.ensures.next l, ap (λ r. r.span.start) c.self.view_is)) c.count_ending_before-first.ensures.within
    (sym c.forbids_at.ensures ∙ c.if-forbids_at.false) (sym c.forbids_at-2.ensures ∙ c.if-forbids_at-2.true)

pub returns : goal.returns
returns c =
    found_none c.args.self.now c.requires.normal.0 c.args.changes.now c.count_ending_before-first.result c.requires.normal.1
    (λ i l. omega (arith, c.count_ending_before-first.ensures.before i l, ap (λ r. r.span.start) c.self.view_is))
    (λ l. omega (arith, c.count_ending_before-first.ensures.next l, ap (λ r. r.span.start) c.self.view_is)) c.count_ending_before-first.ensures.within
    (sym c.forbids_at.ensures ∙ c.if-forbids_at.false) (sym c.forbids_at-2.ensures ∙ c.if-forbids_at-2.false)
