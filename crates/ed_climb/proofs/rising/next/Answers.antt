use Rattle.std.proofs.Common.{◌≡◌, ℕ, List, map, Some, sym, ap, ◌∙◌, subst, slice_get, slice_set, slice_index_or}
use Rattle.ed_layers.specs.Records.{sources_of}
use Rattle.ed_members.specs.Steps.{steps_seen}
use Rattle.ed_held.specs.Advancing.{Advances, CanGoOn}
use Rattle.ed_held.specs.declared.held.Held.{Held}
use Rattle.ed_held.specs.Moves.{snapshot_after}
use Rattle.ed_held.specs.Seen.{known, last_of}
use Rattle.ed_climb.specs.Climbing.{HasRisen, source_snapshots}
use Rattle.ed_climb.proofs.Advanced.{element, map_set, risen_by}
use Rattle.ed_climb.proofs.rising.next.Goals as goal

pub planned-requires : goal.planned-requires
planned-requires c =
    let bs : List Held = c.args.buffers.now in
    let old : Held = slice_index_or bs c.buffer.inside.0 c.index-buffers-index.result in
    let e : (slice_get bs c.args.buffer ≡ Some old) × (c.index-all-index.result ≡ old) = element bs c.args.buffer c.buffer.inside.0 c.index-buffers-index.result c.index-all-index.result c.buffer.view_is c.requires.there c.index-all-index.is in
    let snaps : c.deref.result.now ≡ source_snapshots bs c.args.moves.now (known old) =
    c.deref.ensures.value ∙ c.in_ok-sources.ensures ∙ ap (λ (vs : List (ℕ × ℕ)). map (λ v. snapshot_after bs c.args.moves.now v.0) vs) (c.sources.ensures ∙ ap (λ (h : Held). sources_of (last_of (known h).buffer)) e.1) in
    subst (λ ss. CanGoOn (known old).number (steps_seen c.args.steps.now) ss (last_of (known old).buffer)) (sym snaps) (c.requires.can old e.0).1

pub returns-clause-same : goal.returns-clause-same
returns-clause-same c =
    let bs : List Held = c.args.buffers.now in
    let old : Held = slice_index_or bs c.buffer.inside.0 c.index-buffers-index.result in
    let e : (slice_get bs c.args.buffer ≡ Some old) × (c.index-all-index.result ≡ old) = element bs c.args.buffer c.buffer.inside.0 c.index-buffers-index.result c.index-all-index.result c.buffer.view_is c.requires.there c.index-all-index.is in
    map_set _ bs c.buffer.inside.0 old c.planned.new.held (ap (slice_get bs) c.buffer.view_is ∙ e.0) c.planned.ensures.same

pub returns-clause-risen : goal.returns-clause-risen
returns-clause-risen c = λ h is.
    let bs : List Held = c.args.buffers.now in
    let old : Held = slice_index_or bs c.buffer.inside.0 c.index-buffers-index.result in
    let e : (slice_get bs c.args.buffer ≡ Some old) × (c.index-all-index.result ≡ old) = element bs c.args.buffer c.buffer.inside.0 c.index-buffers-index.result c.index-all-index.result c.buffer.view_is c.requires.there c.index-all-index.is in
    let snaps : c.deref.result.now ≡ source_snapshots bs c.args.moves.now (known old) =
    c.deref.ensures.value ∙ c.in_ok-sources.ensures ∙ ap (λ (vs : List (ℕ × ℕ)). map (λ v. snapshot_after bs c.args.moves.now v.0) vs) (c.sources.ensures ∙ ap (λ (h : Held). sources_of (last_of (known h).buffer)) e.1) in
    let advanced : Advances (steps_seen c.args.steps.now) (source_snapshots bs c.args.moves.now (known old)) old c.planned.new.held c.planned.result =
    subst (λ ss. Advances (steps_seen c.args.steps.now) ss old c.planned.new.held c.planned.result) snaps c.planned.ensures in
    let given : HasRisen bs (slice_set bs c.args.buffer c.planned.new.held) c.args.moves.now (steps_seen c.args.steps.now) c.args.buffer old c.planned.result =
    risen_by bs c.args.moves.now (steps_seen c.args.steps.now) c.args.buffer old c.planned.new.held c.planned.result advanced in
    let both : Some old ≡ Some h = sym e.0 ∙ is in
    let same : old ≡ h = cc in
    subst (λ x. HasRisen bs (slice_set bs c.buffer.inside.0 c.planned.new.held) c.args.moves.now (steps_seen c.args.steps.now) c.args.buffer x c.planned.result) same
    (subst (λ j. HasRisen bs (slice_set bs j c.planned.new.held) c.args.moves.now (steps_seen c.args.steps.now) c.args.buffer old c.planned.result) (sym c.buffer.view_is) given)
