use Rattle.std.proofs.Common.{◌≡◌, ◌++◌, ◌∙◌, ◌^◌, ◌-◌, ap, rules}
use Rattle.std.proofs.lemmas.List.Elements.{All-append}
use Rattle.ed_spans.specs.SpanSets.{EndsWithin, in_spans}
use Rattle.ed_spans.proofs.PlaceLemmas.{spans_append}
use Rattle.ed_spans.proofs.sets.union.Goals as goal
use Rattle.ed_spans.proofs.sets.union.Goals.{After-deref}

all : (c : After-deref) → c.deref.result.now ≡ c.args.first.now ++ c.args.second.now
all c = search rules

pub join-requires : goal.join-requires
join-requires c = record { within = rw (all c) (All-append (EndsWithin (2 ^ 32 - 1)) c.args.first.now c.args.second.now c.requires.first c.requires.second) }

pub returns-clause-holds : goal.returns-clause-holds
returns-clause-holds c q = c.in_ok-joined.ensures.holds q ∙ ap (λ ss. in_spans ss q) (all (goal.at.returns-clause-holds c).After-deref) ∙ spans_append c.args.first.now c.args.second.now q

pub returns-clause-apart : goal.returns-clause-apart
returns-clause-apart c n one two = c.in_ok-joined.ensures.apart n (rw (all (goal.at.returns-clause-apart c).After-deref) (All-append (EndsWithin n) c.args.first.now c.args.second.now one two))
