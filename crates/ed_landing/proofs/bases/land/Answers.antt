use Rattle.std.proofs.Common.{◌≡◌, List, map, Ok, Err, Some, refl, sym, ap, ◌∙◌, subst, slice_get, slice_set, slice_index_or}
use Rattle.ed_callbacks.specs.HookLists.{hook_table}
use Rattle.ed_held.specs.declared.held.Held.{Held}
use Rattle.ed_held.specs.Seen.{known}
use Rattle.ed_climb.proofs.Advanced.{element}
use Rattle.ed_landing.specs.Bases.{HasLandedAmong}
use Rattle.ed_landing.proofs.OneBase.{found_same, landed_err, landed_known, landed_lost, landed_ok}
use Rattle.ed_landing.proofs.bases.land.Goals as goal

pub returns-in_err-add_step-in-Ok-clause-same : goal.returns-in_err-add_step-in-Ok-clause-same
returns-in_err-add_step-in-Ok-clause-same g c =
    let bs : List Held = c.args.buffers.now in
    let old : Held = slice_index_or bs c.buffer.inside.0 c.index-buffers-buffer.result in
    let e : (slice_get bs c.args.buffer ≡ Some old) × (c.index-buffers-buffer.result ≡ old) = element bs c.args.buffer c.buffer.inside.0 c.index-buffers-buffer.result c.index-buffers-buffer.result c.buffer.view_is c.requires.there c.index-buffers-buffer.is in
    ap (λ j. map known (slice_set bs j c.landing.new.held)) c.buffer.view_is ∙ landed_known (hook_table c.args.hooks.now) bs c.args.moves.now.items c.args.buffer c.args.pieces.now old c.landing.new.held c.landing.result e.0 c.landing.ensures

pub returns-in_err-add_step-in-Ok-clause-landed : goal.returns-in_err-add_step-in-Ok-clause-landed
returns-in_err-add_step-in-Ok-clause-landed g c = λ h is.
    let bs : List Held = c.args.buffers.now in
    let old : Held = slice_index_or bs c.buffer.inside.0 c.index-buffers-buffer.result in
    let e : (slice_get bs c.args.buffer ≡ Some old) × (c.index-buffers-buffer.result ≡ old) = element bs c.args.buffer c.buffer.inside.0 c.index-buffers-buffer.result c.index-buffers-buffer.result c.buffer.view_is c.requires.there c.index-buffers-buffer.is in
    subst (λ j. HasLandedAmong (hook_table c.args.hooks.now) bs (slice_set bs j c.landing.new.held) c.args.moves.now.items c.add_step.new.moves.items c.args.buffer h c.args.pieces.now c.from_residual.result) (sym c.buffer.view_is)
    (subst (λ y. HasLandedAmong (hook_table c.args.hooks.now) bs (slice_set bs c.args.buffer c.landing.new.held) c.args.moves.now.items c.add_step.new.moves.items c.args.buffer y c.args.pieces.now c.from_residual.result) (found_same bs c.args.buffer old h e.0 is) (landed_lost (hook_table c.args.hooks.now) bs c.args.moves.now.items c.args.buffer c.args.pieces.now old c.landing.new.held c.landing.result c.add_step.new.moves.items c.from_residual.result c.from_residual.ensures.0 c.from_residual.ensures.1 c.landing.ensures))

pub returns-in_ok-add_step-in-Ok-clause-same : goal.returns-in_ok-add_step-in-Ok-clause-same
returns-in_ok-add_step-in-Ok-clause-same g c =
    let bs : List Held = c.args.buffers.now in
    let old : Held = slice_index_or bs c.buffer.inside.0 c.index-buffers-buffer.result in
    let e : (slice_get bs c.args.buffer ≡ Some old) × (c.index-buffers-buffer.result ≡ old) = element bs c.args.buffer c.buffer.inside.0 c.index-buffers-buffer.result c.index-buffers-buffer.result c.buffer.view_is c.requires.there c.index-buffers-buffer.is in
    ap (λ j. map known (slice_set bs j c.landing.new.held)) c.buffer.view_is ∙ landed_known (hook_table c.args.hooks.now) bs c.args.moves.now.items c.args.buffer c.args.pieces.now old c.landing.new.held c.landing.result e.0 c.landing.ensures

pub returns-in_ok-add_step-in-Ok-clause-landed : goal.returns-in_ok-add_step-in-Ok-clause-landed
returns-in_ok-add_step-in-Ok-clause-landed g c = λ h is.
    let bs : List Held = c.args.buffers.now in
    let old : Held = slice_index_or bs c.buffer.inside.0 c.index-buffers-buffer.result in
    let e : (slice_get bs c.args.buffer ≡ Some old) × (c.index-buffers-buffer.result ≡ old) = element bs c.args.buffer c.buffer.inside.0 c.index-buffers-buffer.result c.index-buffers-buffer.result c.buffer.view_is c.requires.there c.index-buffers-buffer.is in
    subst (λ j. HasLandedAmong (hook_table c.args.hooks.now) bs (slice_set bs j c.landing.new.held) c.args.moves.now.items c.add_step.new.moves.items c.args.buffer h c.args.pieces.now (Ok tt)) (sym c.buffer.view_is)
    (subst (λ y. HasLandedAmong (hook_table c.args.hooks.now) bs (slice_set bs c.args.buffer c.landing.new.held) c.args.moves.now.items c.add_step.new.moves.items c.args.buffer y c.args.pieces.now (Ok tt)) (found_same bs c.args.buffer old h e.0 is) (landed_ok (hook_table c.args.hooks.now) bs c.args.moves.now.items c.args.buffer c.args.pieces.now old c.landing.new.held c.in-Ok.step c.add_step.new.moves.items c.in-Ok.ensures c.in_ok-add_step-in-Ok.ensures.moves))

pub returns-in-Err-clause-same : goal.returns-in-Err-clause-same
returns-in-Err-clause-same g c =
    let bs : List Held = c.args.buffers.now in
    let old : Held = slice_index_or bs c.buffer.inside.0 c.index-buffers-buffer.result in
    let e : (slice_get bs c.args.buffer ≡ Some old) × (c.index-buffers-buffer.result ≡ old) = element bs c.args.buffer c.buffer.inside.0 c.index-buffers-buffer.result c.index-buffers-buffer.result c.buffer.view_is c.requires.there c.index-buffers-buffer.is in
    ap (λ j. map known (slice_set bs j c.landing.new.held)) c.buffer.view_is ∙ landed_known (hook_table c.args.hooks.now) bs c.args.moves.now.items c.args.buffer c.args.pieces.now old c.landing.new.held c.landing.result e.0 c.landing.ensures

pub returns-in-Err-clause-landed : goal.returns-in-Err-clause-landed
returns-in-Err-clause-landed g c = λ h is.
    let bs : List Held = c.args.buffers.now in
    let old : Held = slice_index_or bs c.buffer.inside.0 c.index-buffers-buffer.result in
    let e : (slice_get bs c.args.buffer ≡ Some old) × (c.index-buffers-buffer.result ≡ old) = element bs c.args.buffer c.buffer.inside.0 c.index-buffers-buffer.result c.index-buffers-buffer.result c.buffer.view_is c.requires.there c.index-buffers-buffer.is in
    subst (λ j. HasLandedAmong (hook_table c.args.hooks.now) bs (slice_set bs j c.landing.new.held) c.args.moves.now.items c.args.moves.now.items c.args.buffer h c.args.pieces.now (Err c.in-Err.fault)) (sym c.buffer.view_is)
    (subst (λ y. HasLandedAmong (hook_table c.args.hooks.now) bs (slice_set bs c.args.buffer c.landing.new.held) c.args.moves.now.items c.args.moves.now.items c.args.buffer y c.args.pieces.now (Err c.in-Err.fault)) (found_same bs c.args.buffer old h e.0 is) (landed_err (hook_table c.args.hooks.now) bs c.args.moves.now.items c.args.buffer c.args.pieces.now old c.landing.new.held c.in-Err.fault c.args.moves.now.items c.in-Err.ensures refl))
