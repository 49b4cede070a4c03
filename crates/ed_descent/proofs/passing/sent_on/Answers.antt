use Rattle.std.proofs.Common.{◌≡◌, ℕ, ◌∙◌, subst, sym}
use Rattle.std.specs.Prelude.{Ok, Err, slice_index_or, Vec}
use Rattle.std.specs.declared.alloc.Global.{Global}
use Rattle.ed_base.specs.declared.piece.Piece.{Piece}
use Rattle.ed_callbacks.specs.HookLists.{hook_table}
use Rattle.ed_layers.specs.Pieces.{arrived}
use Rattle.ed_layers.specs.Records.{members_len}
use Rattle.ed_layers.specs.Sending.{sending_fault}
use Rattle.ed_descent.specs.Refusals.{Refuses}
use Rattle.ed_descent.proofs.HeldFacts.{base_fault, base_sent, carrier_fault, carrier_sent, ends, few, found, not_found, put_in, short, within}
use Rattle.ed_descent.proofs.Told.{told_err, told_ok}
use Rattle.ed_descent.proofs.passing.sent_on.Goals.{in-None, in-Some-resolver}
use Rattle.ed_descent.proofs.passing.sent_on.Goals as goal

pub returns-in_default-clause-fault : goal.returns-in_default-clause-fault
returns-in_default-clause-fault g c =
    let at : c.index-buffers-buffer.result ≡ slice_index_or c.args.buffers.now c.args.buffer c.index-buffers-buffer.result = subst (λ b. c.index-buffers-buffer.result ≡ slice_index_or c.args.buffers.now b c.index-buffers-buffer.result) c.buffer.view_is c.index-buffers-buffer.is in
    rw (base_fault c.args.buffers.now c.args.buffer c.index-buffers-buffer.result c.requires.there at c.in_default.ensures.carrier c.args.pieces.now) tt

pub returns-in_default-clause-sent : goal.returns-in_default-clause-sent
returns-in_default-clause-sent g c =
    let at : c.index-buffers-buffer.result ≡ slice_index_or c.args.buffers.now c.args.buffer c.index-buffers-buffer.result = subst (λ b. c.index-buffers-buffer.result ≡ slice_index_or c.args.buffers.now b c.index-buffers-buffer.result) c.buffer.view_is c.index-buffers-buffer.is in
    c.new.ensures.items ∙ sym (base_sent c.args.buffers.now c.args.buffer c.index-buffers-buffer.result c.requires.there at c.in_default.ensures.carrier c.args.pieces.now (hook_table c.args.hooks.now))

pub send-requires-clause-few : goal.send-requires-clause-few
send-requires-clause-few g c =
    let at : c.index-buffers-buffer.result ≡ slice_index_or c.args.buffers.now c.args.buffer c.index-buffers-buffer.result = subst (λ b. c.index-buffers-buffer.result ≡ slice_index_or c.args.buffers.now b c.index-buffers-buffer.result) c.buffer.view_is c.index-buffers-buffer.is in
    few c.args.buffers.now c.args.buffer c.index-buffers-buffer.result c.requires.there at c.requires.ready c.in-Some.ensures.carrier c.in-Some.members.now c.in-Some.ensures.members

pub send-requires-clause-bounds : goal.send-requires-clause-bounds
send-requires-clause-bounds g c =
    let at : c.index-buffers-buffer.result ≡ slice_index_or c.args.buffers.now c.args.buffer c.index-buffers-buffer.result = subst (λ b. c.index-buffers-buffer.result ≡ slice_index_or c.args.buffers.now b c.index-buffers-buffer.result) c.buffer.view_is c.index-buffers-buffer.is in
    ends c.args.buffers.now c.args.buffer c.index-buffers-buffer.result c.requires.there at c.requires.ready c.in-Some.ensures.carrier c.in-Some.members.now c.in-Some.ensures.members

pub send-requires-clause-short : goal.send-requires-clause-short
send-requires-clause-short g c =
    let at : c.index-buffers-buffer.result ≡ slice_index_or c.args.buffers.now c.args.buffer c.index-buffers-buffer.result = subst (λ b. c.index-buffers-buffer.result ≡ slice_index_or c.args.buffers.now b c.index-buffers-buffer.result) c.buffer.view_is c.index-buffers-buffer.is in
    short c.args.buffers.now c.args.buffer c.index-buffers-buffer.result c.requires.there at c.requires.ready c.in-Some.ensures.carrier c.in-Some.members.now c.in-Some.ensures.members

pub send-requires-clause-within : goal.send-requires-clause-within
send-requires-clause-within g c =
    let at : c.index-buffers-buffer.result ≡ slice_index_or c.args.buffers.now c.args.buffer c.index-buffers-buffer.result = subst (λ b. c.index-buffers-buffer.result ≡ slice_index_or c.args.buffers.now b c.index-buffers-buffer.result) c.buffer.view_is c.index-buffers-buffer.is in
    within c.args.buffers.now c.args.buffer c.index-buffers-buffer.result c.requires.there at c.requires.ready c.in-Some.ensures.carrier c.in-Some.members.now c.in-Some.ensures.members c.args.pieces.now c.requires.arrived

pub send-requires-clause-put_in : goal.send-requires-clause-put_in
send-requires-clause-put_in g c =
    let at : c.index-buffers-buffer.result ≡ slice_index_or c.args.buffers.now c.args.buffer c.index-buffers-buffer.result = subst (λ b. c.index-buffers-buffer.result ≡ slice_index_or c.args.buffers.now b c.index-buffers-buffer.result) c.buffer.view_is c.index-buffers-buffer.is in
    put_in c.args.buffers.now c.args.buffer c.index-buffers-buffer.result c.requires.there at c.requires.ready c.in-Some.ensures.carrier c.in-Some.members.now c.in-Some.ensures.members c.args.pieces.now c.requires.arrived

pub returns-in-Ok-clause-fault : goal.returns-in-Ok-clause-fault
returns-in-Ok-clause-fault g c =
    let at : c.index-buffers-buffer.result ≡ slice_index_or c.args.buffers.now c.args.buffer c.index-buffers-buffer.result = subst (λ b. c.index-buffers-buffer.result ≡ slice_index_or c.args.buffers.now b c.index-buffers-buffer.result) c.buffer.view_is c.index-buffers-buffer.is in
    subst (λ o. Refuses o (Ok c.in-Ok.sent)) (carrier_fault c.args.buffers.now c.args.buffer c.index-buffers-buffer.result c.requires.there at c.requires.ready c.in-Some.ensures.carrier c.in-Some.members.now c.in-Some.ensures.members c.args.pieces.now)
    (told_ok c.args.buffer (sending_fault c.args.buffer c.in-Some.members.now (arrived c.args.pieces.now (members_len c.in-Some.members.now))) c.in-Ok.sent c.in-Ok.sent c.in-Ok.ensures.fault)

pub returns-in-Ok-clause-sent : goal.returns-in-Ok-clause-sent
returns-in-Ok-clause-sent g c =
    let at : c.index-buffers-buffer.result ≡ slice_index_or c.args.buffers.now c.args.buffer c.index-buffers-buffer.result = subst (λ b. c.index-buffers-buffer.result ≡ slice_index_or c.args.buffers.now b c.index-buffers-buffer.result) c.buffer.view_is c.index-buffers-buffer.is in
    c.in-Ok.ensures.sent ∙ carrier_sent c.args.buffers.now c.args.buffer c.index-buffers-buffer.result c.requires.there at c.requires.ready c.in-Some.ensures.carrier c.in-Some.members.now c.in-Some.ensures.members c.args.pieces.now (hook_table c.args.hooks.now) _
    (elim c.match-resolver.branch [
      | in-Some-resolver w ↦ found _ _ c.match-resolver.resolver w.resolver-resolver.result c.resolver.result _ w.in-Some-resolver.name w.as_str.result.now _ w.resolver-is w.resolver-resolver.ensures.rules w.as_str.ensures.text w.in-Some-resolver.is c.resolver.ensures
      | in-None w ↦ not_found _ _ c.match-resolver.resolver c.resolver.result _ _ w.resolver-is w.in-None.is c.resolver.ensures
    ])

pub returns-in-Err-clause-fault : goal.returns-in-Err-clause-fault
returns-in-Err-clause-fault g c =
    let at : c.index-buffers-buffer.result ≡ slice_index_or c.args.buffers.now c.args.buffer c.index-buffers-buffer.result = subst (λ b. c.index-buffers-buffer.result ≡ slice_index_or c.args.buffers.now b c.index-buffers-buffer.result) c.buffer.view_is c.index-buffers-buffer.is in
    subst (λ o. Refuses {X = Vec (ℕ × Piece) Global} o (Err c.told.result)) (carrier_fault c.args.buffers.now c.args.buffer c.index-buffers-buffer.result c.requires.there at c.requires.ready c.in-Some.ensures.carrier c.in-Some.members.now c.in-Some.ensures.members c.args.pieces.now)
    (rw c.told.ensures (told_err (Vec (ℕ × Piece) Global) (Vec (ℕ × Piece) Global) c.args.buffer (sending_fault c.args.buffer c.in-Some.members.now (arrived c.args.pieces.now (members_len c.in-Some.members.now))) c.in-Err.fault c.in-Err.ensures.fault))
