use Rattle.std.proofs.Common.{length, sym, ap, ◌∙◌}
use Rattle.ed_elide.proofs.FlagLemmas.{length_flags}
use Rattle.ed_elide.proofs.hidden.Hidden.len.Goals as goal

pub returns : goal.returns
returns c = sym (length_flags c.self.inside.len c.self.inside.spans.items) ∙ ap length c.self.view_is
