use Rattle.std.proofs.Common.{◌≡◌, ℕ, ◌-◌, ◌^◌, List, ap, sym, subst, ◌∙◌, arith}
use Rattle.std.specs.Prelude.{All}
use Rattle.std.proofs.lemmas.Result.{IfOk-weaker}
use Rattle.ed_base.specs.declared.edit.Span.{Span}
use Rattle.ed_base.specs.Spans.{end_of}
use Rattle.ed_base.specs.Runs.{runs}
use Rattle.ed_layers.specs.Mapping.{lower_len, down_span}
use Rattle.ed_spans.specs.SpanSets.{EndsWithin, in_spans}
use Rattle.std.proofs.Common.{◌++◌}
use Rattle.ed_map.specs.Down.{down_within}
use Rattle.ed_map.proofs.MappedSpans.{down_span_runs, down_ends}
use Rattle.ed_map.proofs.LowerSteps.{lower_short}
use Rattle.ed_map.proofs.down.down_span.Goals as goal

pub join-requires : goal.join-requires
join-requires g c =
    let r = g.L.Layers.record_at c.args.layers.now in
    let found = c.deref.ensures.value ∙ c.in_ok-put_images.ensures.images ∙ ap (λ xs. xs ++ down_within r 9 c.args.to c.args.top c.args.v c.args.span.start (end_of c.args.span)) c.new-images.ensures.items in
    let ends = down_ends r (g.L.Layers.rank c.args.layers.now) c.in_ok-put_images.ensures.layers c.in_ok-put_images.ensures.one c.args.top c.args.v c.args.span c.args.to c.requires.is c.requires.there c.requires.within in
    let short = lower_short r (g.L.Layers.rank c.args.layers.now) c.in_ok-put_images.ensures.layers c.args.to c.args.top c.args.v c.requires.is c.requires.there in
    let P : List Span → Type 0 = λ xs. All (EndsWithin (2 ^ 32 - 1)) xs in
    record { within = subst P (sym found) (λ k d below. omega (arith, ends k d below, short)) }

pub returns : goal.returns
returns g c =
    let r = g.L.Layers.record_at c.args.layers.now in
    let found = c.deref.ensures.value ∙ c.in_ok-put_images.ensures.images ∙ ap (λ xs. xs ++ down_within r 9 c.args.to c.args.top c.args.v c.args.span.start (end_of c.args.span)) c.new-images.ensures.items in
    let ends = down_ends r (g.L.Layers.rank c.args.layers.now) c.in_ok-put_images.ensures.layers c.in_ok-put_images.ensures.one c.args.top c.args.v c.args.span c.args.to c.requires.is c.requires.there c.requires.within in
    let n : ℕ = lower_len r c.args.top c.args.v c.args.to in
    let P : List Span → Type 0 = λ xs. All (EndsWithin n) xs in
    let is = c.in_ok-joined.ensures.runs n (subst P (sym found) ends) ∙ ap (λ xs. runs (in_spans xs) n) found ∙ sym (down_span_runs r (g.L.Layers.rank c.args.layers.now) c.in_ok-put_images.ensures.layers c.args.top c.args.v c.args.span c.args.to c.requires.is c.requires.there c.requires.within) in
    IfOk-weaker c.of.result (λ spans. spans ≡ c.in_ok-joined.joined.items) (λ spans. spans ≡ down_span r c.args.top c.args.v c.args.span c.args.to) (λ spans e. e ∙ is) c.of.ensures
