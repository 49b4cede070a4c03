use Rattle.std.proofs.Common.{ℕ, List, map, sym, ap, ◌∙◌, subst, slice_set, slice_index_or}
use Rattle.std.specs.Prelude.{Option, MatchOption}
use Rattle.std.specs.Option.{option_map_or}
use Rattle.ed_held.specs.declared.held.Held.{Held}
use Rattle.ed_held.specs.Making.{CanTurn, known_turned}
use Rattle.ed_climb.specs.Group.{MayTurn, set_known}
use Rattle.ed_held.specs.Seen.{known}
use Rattle.ed_climb.proofs.Advanced.{element}
use Rattle.ed_climb.proofs.Committed.{known_set, matched_below}
use Rattle.ed_climb.proofs.making.turn.Goals as goal

pub returns-in-Some-clause-known : goal.returns-in-Some-clause-known
returns-in-Some-clause-known c =
    let bs : List Held = c.args.buffers.now in
    let may : MayTurn bs c.in-Some.buffer = subst (λ (o : Option ℕ). MatchOption o (Unit {0}) (MayTurn bs)) c.in-Some.is c.requires in
    let e = element bs c.in-Some.buffer c.buffer.inside.0 c.index-buffers-buffer.result c.index-buffers-buffer.result c.buffer.view_is (matched_below CanTurn bs c.in-Some.buffer may) c.index-buffers-buffer.is in
    ap (λ j. map known (slice_set bs j c.turn.new.self)) c.buffer.view_is
    ∙ known_set known_turned bs c.in-Some.buffer (slice_index_or bs c.buffer.inside.0 c.index-buffers-buffer.result) c.turn.new.self e.0 c.turn.ensures
    ∙ ap (λ (o : Option ℕ). option_map_or (λ b. set_known known_turned b (map known bs)) o (map known bs)) (sym c.in-Some.is)
