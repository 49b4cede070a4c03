use Rattle.ed_elide.proofs.RankLemmas.{hidden_told}
use Rattle.ed_elide.proofs.hidden.Hidden.is_hidden.Goals as goal

pub returns : goal.returns
returns c = hidden_told c.args.self.now c.args.place c.nearest.result c.nearest-2.result c.requires c.nearest.ensures c.nearest-2.ensures
