use Rattle.std.proofs.Common.{◌≡◌, true, List, Ok, Err, sym, ap, ◌∙◌}
use Rattle.ed_members.specs.Steps.{steps_seen}
use Rattle.ed_held.specs.declared.moves.Move.{Move}
use Rattle.ed_climb.specs.Climbing.{goes}
use Rattle.ed_climb.proofs.Turned.{steps_are, can_turn, has_turned, went}
use Rattle.ed_climb.proofs.climbing.turn.Goals as goal

pub rise-requires-clause-can : goal.rise-requires-clause-can
rise-requires-clause-can c = λ h is.
    let ms : List Move = c.args.moves.now.items in
    let does : goes ms c.args.buffer h ≡ true = sym (c.if-not-goes.ensures h is ∙ ap (λ xs. goes xs c.args.buffer h) c.deref.ensures.value) in
    can_turn c.args.buffers.now c.deref-2.result.now ms (steps_seen c.deref-3.result.now) h c.deref-2.ensures.value (steps_are c.deref-3.result.now c.args.steps.now.items ms c.deref-3.ensures.value c.requires.seen) (c.requires.can h is does)

pub returns-in_ok-add-in-Ok-clause-turned : goal.returns-in_ok-add-in-Ok-clause-turned
returns-in_ok-add-in-Ok-clause-turned c = λ h is.
    let ms : List Move = c.args.moves.now.items in
    let does : goes ms c.args.buffer h ≡ true = sym (c.if-not-goes.ensures h is ∙ ap (λ xs. goes xs c.args.buffer h) c.deref.ensures.value) in
    went c.args.buffers.now c.rise.new.buffers ms c.add.new.moves.items c.args.buffer h (Ok tt) does (
      c.in-Ok.next,
      c.in-Ok.trails,
      c.in_ok-add-in-Ok.ensures.moves,
      has_turned c.args.buffers.now c.rise.new.buffers c.deref-2.result.now ms (steps_seen c.deref-3.result.now) c.args.buffer h (Ok (c.in-Ok.next, c.in-Ok.trails)) c.deref-2.ensures.value
          (steps_are c.deref-3.result.now c.args.steps.now.items ms c.deref-3.ensures.value c.requires.seen) (c.in-Ok.ensures.risen h is),
    )

pub returns-in-Err-clause-turned : goal.returns-in-Err-clause-turned
returns-in-Err-clause-turned c = λ h is.
    let ms : List Move = c.args.moves.now.items in
    let does : goes ms c.args.buffer h ≡ true = sym (c.if-not-goes.ensures h is ∙ ap (λ xs. goes xs c.args.buffer h) c.deref.ensures.value) in
    went c.args.buffers.now c.rise.new.buffers ms ms c.args.buffer h (Err c.in-Err.fault) does
    (has_turned c.args.buffers.now c.rise.new.buffers c.deref-2.result.now ms (steps_seen c.deref-3.result.now) c.args.buffer h (Err c.in-Err.fault) c.deref-2.ensures.value
    (steps_are c.deref-3.result.now c.args.steps.now.items ms c.deref-3.ensures.value c.requires.seen) (c.in-Err.ensures.risen h is))
