-- The start that is kept.
use Rattle.std.proofs.Common.{◌∙◌, get_or, ap, arith}
use Rattle.ed_layers.specs.Records.{placement}
use Rattle.ed_members.proofs.Places.{PlaceKept, place_kept, same_span, there_kept}
use Rattle.ed_members.proofs.members.Members.place.Goals as goal
use Rattle.ed_members.proofs.members.Members.place.Goals.{After-len_of}

pub bounds-starts-i : goal.bounds-starts-i
bounds-starts-i c = there_kept c.self.inside.list.items c.args.self.now c.self.inside.starts.items c.as_slice-starts.result.now c.self.inside.total c.args.i c.self.inside.order c.self.invariant c.self.view_is c.as_slice-starts.ensures.value c.requires

kept : (c : After-len_of) → PlaceKept c.args.self.now c.as_slice-starts.result.now c.args.i c.index-members-i.result
kept c =
    place_kept c.self.inside.list.items c.args.self.now c.self.inside.starts.items c.as_slice-starts.result.now c.self.inside.total c.args.i c.index-members-i.result c.self.inside.order c.self.invariant c.self.view_is
    c.as_slice-starts.ensures.value c.requires
    (c.index-members-i.is ∙ ap (λ xs. get_or xs c.args.i c.index-members-i.result) (c.as_slice-members.ensures.value ∙ c.self.view_is))

pub returns-clause-place : goal.returns-clause-place
returns-clause-place c = same_span _ _ (placement c.args.self.now c.args.i) (kept c).start (c.len_of.ensures ∙ (kept c).len)

pub returns-clause-within : goal.returns-clause-within
returns-clause-within c = omega (arith, (kept c).within, c.len_of.ensures)
