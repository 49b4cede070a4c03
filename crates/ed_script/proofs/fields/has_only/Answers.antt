use Rattle.std.proofs.Common.{◌∙◌}
use Rattle.ed_script.proofs.Keys.{have_only-keys}
use Rattle.ed_script.proofs.fields.has_only.Goals as goal

pub returns-in-Some : goal.returns-in-Some
returns-in-Some c = rw (← c.in-Some.ensures) (c.are_listed.ensures ∙ have_only-keys (λ k. k.now) c.args.keys.now c.in-Some.members.now.entries)
