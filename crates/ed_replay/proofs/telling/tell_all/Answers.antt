use Rattle.std.proofs.Common.{sym, subst}
use Rattle.ed_callbacks.specs.HookLists.{hook_table}
use Rattle.ed_replay.specs.Lawful.{AreLawful}
use Rattle.ed_replay.proofs.Legal.{lawful_done}
use Rattle.ed_replay.proofs.telling.tell_all.Goals as goal

pub returns-in_default-clause-lawful : goal.returns-in_default-clause-lawful
returns-in_default-clause-lawful g c =
    subst (AreLawful (hook_table c.args.hooks.now)) (sym c.in_default.ensures.err)
    (lawful_done (hook_table c.args.hooks.now) c.loop-command.core c.loop-command.entries.items c.loop-command.invariant.lawful)
