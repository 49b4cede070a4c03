use Rattle.std.proofs.Common.{◌≡◌, List, Some, refl, sym, ap, ◌∙◌, subst, slice_get, slice_set, slice_index_or}
use Rattle.ed_held.specs.declared.held.Held.{Held}
use Rattle.ed_group.specs.Hiding.{HasHiddenAt}
use Rattle.ed_climb.proofs.Advanced.{element, map_set}
use Rattle.ed_group.proofs.eliding.hidden_at.Goals as goal

pub rehide-requires : goal.rehide-requires
rehide-requires c =
    let bs : List Held = c.args.buffers.now in
    let old : Held = slice_index_or bs c.buffer.inside.0 c.index-buffers-buffer.result in
    let e : (slice_get bs c.args.buffer ≡ Some old) × (c.index-buffers-buffer.result ≡ old) = element bs c.args.buffer c.buffer.inside.0 c.index-buffers-buffer.result c.index-buffers-buffer.result c.buffer.view_is c.requires.there c.index-buffers-buffer.is in
    c.requires.can old e.0

pub returns-clause-same : goal.returns-clause-same
returns-clause-same c =
    let bs : List Held = c.args.buffers.now in
    let old : Held = slice_index_or bs c.buffer.inside.0 c.index-buffers-buffer.result in
    let e : (slice_get bs c.args.buffer ≡ Some old) × (c.index-buffers-buffer.result ≡ old) = element bs c.args.buffer c.buffer.inside.0 c.index-buffers-buffer.result c.index-buffers-buffer.result c.buffer.view_is c.requires.there c.index-buffers-buffer.is in
    map_set _ bs c.buffer.inside.0 old c.rehide.new.held (ap (slice_get bs) c.buffer.view_is ∙ e.0) c.rehide.ensures.same

pub returns-clause-hidden : goal.returns-clause-hidden
returns-clause-hidden c = λ h is.
    let bs : List Held = c.args.buffers.now in
    let old : Held = slice_index_or bs c.buffer.inside.0 c.index-buffers-buffer.result in
    let e : (slice_get bs c.args.buffer ≡ Some old) × (c.index-buffers-buffer.result ≡ old) = element bs c.args.buffer c.buffer.inside.0 c.index-buffers-buffer.result c.index-buffers-buffer.result c.buffer.view_is c.requires.there c.index-buffers-buffer.is in
    let given : HasHiddenAt c.args.sources.now bs (slice_set bs c.args.buffer c.rehide.new.held) c.args.buffer old c.args.hidden c.rehide.result =
    record { held = c.rehide.new.held; set = refl; hidden = c.rehide.ensures } in
    let both : Some old ≡ Some h = sym e.0 ∙ is in
    let same : old ≡ h = cc in
    subst (λ x. HasHiddenAt c.args.sources.now bs (slice_set bs c.buffer.inside.0 c.rehide.new.held) c.args.buffer x c.args.hidden c.rehide.result) same
    (subst (λ j. HasHiddenAt c.args.sources.now bs (slice_set bs j c.rehide.new.held) c.args.buffer old c.args.hidden c.rehide.result) (sym c.buffer.view_is) given)
