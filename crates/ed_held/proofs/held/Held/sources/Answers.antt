use Rattle.std.proofs.Common.{◌-◌, length, map, sym, ap, ◌∙◌}
use Rattle.ed_layers.specs.Records.{sources_of}
use Rattle.ed_project.specs.Records.{version_at}
use Rattle.ed_held.specs.Seen.{base_record, known, last_of}
use Rattle.ed_held.specs.declared.held.Held.{Held}
use Rattle.ed_held.proofs.KindLemmas.{base_sources, projection_last}
use Rattle.ed_held.proofs.held.Held.sources.Goals as goal

pub returns-in-Base : goal.returns-in-Base
returns-in-Base c =
    let vs = c.in-Base.field-0.chain.versions in
    sym (ap (λ (h : Held). sources_of (last_of (known h).buffer)) c.in-Base.is ∙ base_sources vs (length (map base_record vs) - 1))

pub returns-in-Projection : goal.returns-in-Projection
returns-in-Projection c =
    c.as_slice.ensures ∙ c.sources.ensures ∙ ap (λ v. (version_at c.in-Projection.projection.versions v).sources) c.now.ensures.version
    ∙ sym (ap (λ (h : Held). sources_of (last_of (known h).buffer)) c.in-Projection.is
    ∙ ap sources_of (projection_last c.in-Projection.projection c.in-Projection.turns c.now.ensures.some))
