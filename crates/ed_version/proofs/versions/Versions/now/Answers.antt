use Rattle.ed_version.proofs.Linking.{lead_count}
use Rattle.ed_version.proofs.versions.Versions.now.Goals as goal

pub returns-clause-steps : goal.returns-clause-steps
returns-clause-steps g c = rw (← c.self.view_is) (lead_count g.V.HasText.units c.self.inside.versions.items c.self.inside.changes.items c.self.invariant.0)
