-- The gaps of what the gaps or the others hold.
use Rattle.std.proofs.Common.{◌≡◌, ◌^◌, ◌-◌, Bool, true, false, not, ◌||◌, ◌&&◌, ◌∙◌, refl, ap, arith}
use Rattle.ed_spans.specs.SpanSets.{AreApartFrom, in_spans}
use Rattle.ed_spans.proofs.EndLemmas.{apart_within}
use Rattle.ed_spans.proofs.sets.difference.Goals as goal
use Rattle.ed_spans.proofs.sets.difference.Goals.{After-deref}

apart : (c : After-deref) → AreApartFrom 0 c.args.len c.deref.result.now
apart c = rw c.deref.ensures.value c.in_ok-between.ensures.apart

pub union-requires-clause-first : goal.union-requires-clause-first
union-requires-clause-first c = apart_within 0 c.args.len (2 ^ 32 - 1) c.deref.result.now (omega (arith, c.ranges.len.fits)) (apart c)

pub gaps-requires-2 : goal.gaps-requires-2
gaps-requires-2 c = record { apart = rw c.deref-2.ensures.value (c.in_ok-all.ensures.apart c.args.len (apart_within 0 c.args.len c.args.len c.deref.result.now (omega arith) (apart (goal.at.gaps-requires-2 c).After-deref)) c.requires.within) }

pub returns-clause-holds : goal.returns-clause-holds
returns-clause-holds c q below =
    c.in_ok-left.ensures.holds q below ∙ ap (λ ss. not (in_spans ss q)) c.deref-2.ensures.value ∙ ap not (c.in_ok-all.ensures.holds q ∙ ap (λ b. b || in_spans c.args.others.now q) (ap (λ ss. in_spans ss q) c.deref.ensures.value ∙ c.in_ok-between.ensures.holds q below))
    ∙ not_or (in_spans c.args.spans.now q) (in_spans c.args.others.now q)
  where
    not_or : (x y : Bool) → not (not x || y) ≡ (x && not y)
    not_or true y = refl
    not_or false y = refl
