use Rattle.std.proofs.Common.{sym, ap, ◌∙◌}
use Rattle.ed_held.specs.Seen.{known}
use Rattle.ed_held.proofs.KindLemmas.{base_unzoned}
use Rattle.ed_held.proofs.held.Held.remove_region.Goals as goal

pub returns-clause-same : goal.returns-clause-same
returns-clause-same c = λ dead.
    base_unzoned c.in-Base.base c.remove_region.new.self c.args.region c.remove_region.result c.remove_region.ensures.live c.remove_region.ensures.regions c.remove_region.ensures.chain dead ∙ ap known (sym c.in-Base.is)
