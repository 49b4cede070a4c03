use Rattle.std.proofs.Common.{◌≡◌, ◌∙◌}
use Rattle.std.proofs.lemmas.Result.{IfOk-weaker}
use Rattle.ed_layers.specs.Mapping.{up_span}
use Rattle.ed_map.proofs.ShownLemmas.{there_is}
use Rattle.ed_map.proofs.UpSteps.{found_images, images_are}
use Rattle.ed_map.proofs.up.up_span.Goals as goal

pub returns : goal.returns
returns g c =
    let record_at = g.L.Layers.record_at c.args.layers.now in
    let rank = g.L.Layers.rank c.args.layers.now in
    let r = there_is (record_at c.args.top c.args.v) c.requires in
    let are = found_images record_at rank c.args.of c.args.span c.args.top c.args.v c.in_ok-at.at c.find_images.new.known.items c.remove-found.result c.in_ok-at.ensures c.remove-found.ensures.value in
    let is = images_are record_at rank c.args.of c.args.span c.args.top c.args.v r.0 c.remove-found.result.spans.items r.1 are in
    IfOk-weaker c.of.result (λ l. l ≡ c.remove-found.result.spans.items) (λ l. l ≡ up_span record_at c.args.top c.args.v c.args.span c.args.of) (λ l e. e ∙ is) c.of.ensures
