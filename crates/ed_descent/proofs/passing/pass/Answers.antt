use Rattle.std.proofs.Common.{◌<◌, ℕ, length, subst, sym}
use Rattle.std.specs.Prelude.{All}
use Rattle.ed_base.specs.declared.piece.Piece.{Piece}
use Rattle.ed_callbacks.specs.HookLists.{hook_table}
use Rattle.ed_held.specs.Seen.{stock}
use Rattle.ed_descent.specs.Sends.{sent_on}
use Rattle.ed_descent.proofs.HeldFacts.{sent_on_there}
use Rattle.ed_descent.proofs.passing.pass.Goals as goal

pub put_all-requires : goal.put_all-requires
put_all-requires g c =
    subst (All (λ (p : ℕ × Piece). p.0 < length c.args.boxes.now.items)) (sym c.in_ok-sent.ensures.sent)
    (subst (λ n. All (λ (p : ℕ × Piece). p.0 < n) (sent_on (hook_table c.args.hooks.now) (stock c.args.buffers.now) c.args.buffer c.deref.result.now)) (sym c.requires.boxes) (sent_on_there (hook_table c.args.hooks.now) c.args.buffers.now c.args.buffer c.deref.result.now c.requires.ready c.requires.there))
