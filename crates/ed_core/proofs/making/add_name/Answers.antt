use Rattle.std.proofs.Common.{◌∙◌}
use Rattle.ed_core.proofs.Names.{new-key}
use Rattle.ed_core.proofs.making.add_name.Goals as goal

pub returns-clause-ok : goal.returns-clause-ok
returns-clause-ok c = c.in_ok-insert.ensures.keys ∙ new-key c.args.names.now.keys c.args.name c.requires
