use Rattle.std.proofs.Common.{◌≡◌, ◌<◌, ℕ, List, length, map, sym, ap, ◌∙◌, subst, slice_set, slice_index_or}
use Rattle.ed_held.specs.declared.held.Held.{Held}
use Rattle.ed_climb.specs.Group.{MayTurn}
use Rattle.ed_held.specs.Making.{known_grown}
use Rattle.ed_held.specs.Moves.{CanMake}
use Rattle.ed_held.specs.Seen.{known}
use Rattle.ed_climb.proofs.Advanced.{element}
use Rattle.ed_climb.proofs.Committed.{known_set, matched_below, set_turning}
use Rattle.ed_climb.proofs.making.make.Goals as goal

pub returns-clause-known : goal.returns-clause-known
returns-clause-known c =
    let bs : List Held = c.args.buffers.now in
    let index : c.next.inside.0.0.0 ≡ c.args.next.buffer = ap (λ m. m.buffer) c.next.view_is in
    let there : c.args.next.buffer < length bs = matched_below (λ h. CanMake h c.args.next.planned) bs c.args.next.buffer c.requires in
    let e = element bs c.args.next.buffer c.next.inside.0.0.0 c.index-buffers-next.result c.index-buffers-next.result index there c.index-buffers-next.is in
    ap (λ j. map known (slice_set bs j c.commit.new.self)) index ∙ known_set (λ k. known_grown k c.args.next) bs c.args.next.buffer (slice_index_or bs c.next.inside.0.0.0 c.index-buffers-next.result) c.commit.new.self e.0 c.commit.ensures.known

pub returns-clause-turning : goal.returns-clause-turning
returns-clause-turning c =
    let bs : List Held = c.args.buffers.now in
    let index : c.next.inside.0.0.0 ≡ c.args.next.buffer = ap (λ m. m.buffer) c.next.view_is in
    let there : c.args.next.buffer < length bs = matched_below (λ h. CanMake h c.args.next.planned) bs c.args.next.buffer c.requires in
    let e = element bs c.args.next.buffer c.next.inside.0.0.0 c.index-buffers-next.result c.index-buffers-next.result index there c.index-buffers-next.is in
    subst (λ j. (b : ℕ) → MayTurn bs b → MayTurn (slice_set bs j c.commit.new.self) b) (sym index) (set_turning bs c.args.next.buffer (slice_index_or bs c.next.inside.0.0.0 c.index-buffers-next.result) c.commit.new.self e.0 c.commit.ensures.turning)
