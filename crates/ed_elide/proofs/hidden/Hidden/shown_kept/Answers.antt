-- The kept runs of the source, restricted to what was shown, then to what is shown next.
use Rattle.std.proofs.Common.{◌≡◌, ◌-◌, ◌<◌, ◌≤◌, ◌^◌, length, sym, ap, subst, ◌∙◌, arith}
use Rattle.ed_base.specs.ChangeList.{new_len}
use Rattle.ed_kept.specs.Kept.{ArePairsRising, pairs_of}
use Rattle.ed_kept.proofs.RunLemmas.{runs_pairs}
use Rattle.ed_layers.specs.Hidden.{nearest}
use Rattle.ed_spans.specs.SpanSets.{held_below}
use Rattle.ed_spans.proofs.EndLemmas.{apart_later}
use Rattle.ed_elide.specs.AfterStep.{shown_pairs}
use Rattle.ed_elide.specs.Pairs.{placed_in, turned}
use Rattle.ed_elide.proofs.ShownPairs.{pairs_within, placed_rising, turned_rising, twice_placed, twice_rising}
use Rattle.ed_elide.proofs.NearestLemmas.{held_zero}
use Rattle.ed_elide.proofs.RankLemmas.{nearest_within}
use Rattle.ed_elide.proofs.hidden.Hidden.shown_kept.Goals as goal
use Rattle.ed_elide.proofs.hidden.Hidden.shown_kept.Goals.{In_ok-behind, In_ok-by_new, In_ok-both}

kept_rising : (c : In_ok-behind) → ArePairsRising 0 0 (length c.args.self.now) (length c.args.next.now) (pairs_of c.in_ok-kept.kept.items)
kept_rising c = rw (← c.requires.old, ← c.requires.new) (runs_pairs 0 0 c.args.source_step.now.old_len (new_len c.args.source_step.now) c.in_ok-kept.kept.items c.in_ok-kept.ensures.rising)

short : (c : In_ok-behind) → (length c.args.self.now < 2 ^ 32) × (length c.args.next.now < 2 ^ 32)
short c = (omega (arith, c.kept_by.ensures.old_short, c.requires.old), omega (arith, c.kept_by.ensures.normal.fits, c.requires.new))

pub parts_within-requires-clause-rising : goal.parts_within-requires-clause-rising
parts_within-requires-clause-rising c =
    let d : In_ok-behind = (goal.at.parts_within-requires-clause-rising c).In_ok-behind in
    rw c.deref.ensures.value (pairs_within (length c.args.self.now) (length c.args.next.now) (2 ^ 32 - 1) (2 ^ 32 - 1) (pairs_of c.in_ok-kept.kept.items) (omega (arith, (short d).0)) (omega (arith, (short d).1)) (kept_rising d))

pub parts_within-requires-clause-apart : goal.parts_within-requires-clause-apart
parts_within-requires-clause-apart c =
    let d : In_ok-behind = (goal.at.parts_within-requires-clause-apart c).In_ok-behind in
    rw c.deref-2.ensures.value (apart_later 0 (length c.args.self.now) (2 ^ 32 - 1) c.in_ok-before.before.items (omega (arith, (short d).0)) c.in_ok-before.ensures.apart)

-- the pairs by the new places, of which the old ones are shown
by_new : (c : In_ok-by_new) → pairs_of c.in_ok-by_new.by_new.items ≡ turned (placed_in 0 c.in_ok-before.before.items (pairs_of c.in_ok-kept.kept.items))
by_new c =
    c.in_ok-by_new.ensures ∙ ap (λ rs. turned (pairs_of rs)) c.deref-3.ensures.value ∙ ap turned (c.in_ok-old_shown.ensures ∙ ap (λ ss. placed_in 0 ss (pairs_of c.deref.result.now)) c.deref-2.ensures.value ∙ ap (λ rs. placed_in 0 c.in_ok-before.before.items (pairs_of rs)) c.deref.ensures.value)

pub parts_within-requires-2-clause-rising : goal.parts_within-requires-2-clause-rising
parts_within-requires-2-clause-rising c =
    let d : In_ok-behind = (goal.at.parts_within-requires-2-clause-rising c).In_ok-behind in
    let e : In_ok-by_new = (goal.at.parts_within-requires-2-clause-rising c).In_ok-by_new in
    let few : held_below (length c.args.self.now) c.in_ok-before.before.items ≤ length c.args.self.now = omega (arith, c.in_ok-before.ensures.near (length c.args.self.now) (omega arith), nearest_within c.args.self.now (length c.args.self.now) (omega arith)) in
    let placed : ArePairsRising 0 0 (held_below (length c.args.self.now) c.in_ok-before.before.items) (length c.args.next.now) (placed_in 0 c.in_ok-before.before.items (pairs_of c.in_ok-kept.kept.items)) =
    subst (λ x. ArePairsRising x 0 (held_below (length c.args.self.now) c.in_ok-before.before.items) (length c.args.next.now) (placed_in 0 c.in_ok-before.before.items (pairs_of c.in_ok-kept.kept.items))) (held_zero c.in_ok-before.before.items)
    (placed_rising 0 (length c.args.self.now) 0 0 (length c.args.self.now) (length c.args.next.now) c.in_ok-before.before.items (pairs_of c.in_ok-kept.kept.items) c.in_ok-before.ensures.apart (kept_rising d)) in
    rw (c.deref-4.ensures.value, by_new e)
    (pairs_within (length c.args.next.now) (held_below (length c.args.self.now) c.in_ok-before.before.items) (2 ^ 32 - 1) (2 ^ 32 - 1) (turned (placed_in 0 c.in_ok-before.before.items (pairs_of c.in_ok-kept.kept.items))) (omega (arith, (short d).1)) (omega (arith, (short d).0, few))
    (turned_rising 0 0 (held_below (length c.args.self.now) c.in_ok-before.before.items) (length c.args.next.now) (placed_in 0 c.in_ok-before.before.items (pairs_of c.in_ok-kept.kept.items)) placed))

pub parts_within-requires-2-clause-apart : goal.parts_within-requires-2-clause-apart
parts_within-requires-2-clause-apart c =
    let d : In_ok-behind = (goal.at.parts_within-requires-2-clause-apart c).In_ok-behind in
    rw c.deref-5.ensures.value (apart_later 0 (length c.args.next.now) (2 ^ 32 - 1) c.in_ok-behind.behind.items (omega (arith, (short d).1)) c.in_ok-behind.ensures.apart)

both : (c : In_ok-both) → pairs_of c.in_ok-by_new.by_new.items ≡ turned (placed_in 0 c.in_ok-before.before.items (pairs_of c.in_ok-kept.kept.items)) → pairs_of c.in_ok-both.both.items ≡ turned (placed_in 0 c.in_ok-behind.behind.items (turned (placed_in 0 c.in_ok-before.before.items (pairs_of c.in_ok-kept.kept.items))))
both c by_new_is =
    c.in_ok-both.ensures ∙ ap (λ rs. turned (pairs_of rs)) c.deref-6.ensures.value
    ∙ ap turned (c.in_ok-both_shown.ensures ∙ ap (λ ss. placed_in 0 ss (pairs_of c.deref-4.result.now)) c.deref-5.ensures.value ∙ ap (λ rs. placed_in 0 c.in_ok-behind.behind.items (pairs_of rs)) c.deref-4.ensures.value ∙ ap (placed_in 0 c.in_ok-behind.behind.items) by_new_is)

pub returns-clause-pairs : goal.returns-clause-pairs
returns-clause-pairs c =
    both (goal.at.returns-clause-pairs c).In_ok-both (by_new (goal.at.returns-clause-pairs c).In_ok-by_new)
    ∙ twice_placed c.args.self.now c.args.next.now (length c.args.self.now) (length c.args.next.now) c.in_ok-before.before.items c.in_ok-behind.behind.items c.in_ok-before.ensures.shown c.in_ok-before.ensures.near c.in_ok-behind.ensures.shown c.in_ok-behind.ensures.near
    0 0 (pairs_of c.in_ok-kept.kept.items) (kept_rising (goal.at.returns-clause-pairs c).In_ok-behind)
    ∙ ap (shown_pairs c.args.self.now c.args.next.now) c.in_ok-kept.ensures.kept

pub returns-clause-rising : goal.returns-clause-rising
returns-clause-rising c =
    rw (both (goal.at.returns-clause-rising c).In_ok-both (by_new (goal.at.returns-clause-rising c).In_ok-by_new))
    (twice_rising c.args.self.now c.args.next.now (length c.args.self.now) (length c.args.next.now) (nearest c.args.self.now (length c.args.self.now)) (nearest c.args.next.now (length c.args.next.now)) c.in_ok-before.before.items c.in_ok-behind.behind.items (pairs_of c.in_ok-kept.kept.items)
    c.in_ok-before.ensures.apart c.in_ok-behind.ensures.apart (sym (c.in_ok-before.ensures.near (length c.args.self.now) (omega arith))) (sym (c.in_ok-behind.ensures.near (length c.args.next.now) (omega arith))) (kept_rising (goal.at.returns-clause-rising c).In_ok-behind))
