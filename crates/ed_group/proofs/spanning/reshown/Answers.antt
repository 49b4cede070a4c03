use Rattle.std.proofs.Common.{◌≡◌, List, Some, refl, sym, ap, ◌∙◌, subst, slice_get, slice_set, slice_index_or}
use Rattle.ed_held.specs.declared.held.Held.{Held}
use Rattle.ed_group.specs.Spanning.{HasReshown}
use Rattle.ed_climb.proofs.Advanced.{element, map_set}
use Rattle.ed_group.proofs.spanning.reshown.Goals as goal

pub returns-clause-same : goal.returns-clause-same
returns-clause-same c =
    let bs : List Held = c.args.buffers.now in
    let old : Held = slice_index_or bs c.buffer.inside.0 c.index-buffers-buffer.result in
    let e : (slice_get bs c.args.buffer ≡ Some old) × (c.index-buffers-buffer.result ≡ old) = element bs c.args.buffer c.buffer.inside.0 c.index-buffers-buffer.result c.index-buffers-buffer.result c.buffer.view_is c.requires.there c.index-buffers-buffer.is in
    map_set _ bs c.buffer.inside.0 old c.respan.new.held (ap (slice_get bs) c.buffer.view_is ∙ e.0) c.respan.ensures.same

pub returns-clause-reshown : goal.returns-clause-reshown
returns-clause-reshown c = λ h is.
    let bs : List Held = c.args.buffers.now in
    let old : Held = slice_index_or bs c.buffer.inside.0 c.index-buffers-buffer.result in
    let e : (slice_get bs c.args.buffer ≡ Some old) × (c.index-buffers-buffer.result ≡ old) = element bs c.args.buffer c.buffer.inside.0 c.index-buffers-buffer.result c.index-buffers-buffer.result c.buffer.view_is c.requires.there c.index-buffers-buffer.is in
    let given : HasReshown c.args.sources.now bs (slice_set bs c.args.buffer c.respan.new.held) c.args.buffer old c.args.first c.args.removed c.args.members c.respan.result =
    record { held = c.respan.new.held; set = refl; shown = c.respan.ensures } in
    let both : Some old ≡ Some h = sym e.0 ∙ is in
    let same : old ≡ h = cc in
    subst (λ x. HasReshown c.args.sources.now bs (slice_set bs c.buffer.inside.0 c.respan.new.held) c.args.buffer x c.args.first c.args.removed c.args.members c.respan.result) same
    (subst (λ j. HasReshown c.args.sources.now bs (slice_set bs j c.respan.new.held) c.args.buffer old c.args.first c.args.removed c.args.members c.respan.result) (sym c.buffer.view_is) given)
