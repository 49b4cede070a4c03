use Rattle.std.proofs.Common.{ap, ◌∙◌}
use Rattle.std.specs.Prelude.{is_some}
use Rattle.ed_machine.specs.State.{number_of}
use Rattle.ed_core.proofs.Commands.{buffer_taken, is-taken, is-free, same-base}
use Rattle.ed_core.proofs.Doing.{does_as, refused_does}
use Rattle.ed_core.proofs.state.Core.make_buffer.Goals as goal

pub returns-then-is_some : goal.returns-then-is_some
returns-then-is_some c = λ hooks. refused_does _ c.args.self.now _ (buffer_taken hooks c.args.self.now c.args.name.now c.args.text.now (is-taken c.args.self.now c.args.name.now _ c.number_of.ensures.number c.if-is_some.ensures))

pub add_base-requires : goal.add_base-requires
add_base-requires c = ap (λ n. is_some (number_of c.args.self.now n)) c.in_ok-kept.ensures ∙ is-free c.args.self.now c.args.name.now _ c.number_of.ensures.number c.if-is_some.ensures

pub returns : goal.returns
returns c = λ hooks. does_as _ _ c.args.self.now c.add_base.new.self c.add_base.result (same-base hooks c.args.self.now _ c.args.name.now _ c.args.text.now c.in_ok-kept.ensures c.as_slice.ensures (is-free c.args.self.now c.args.name.now _ c.number_of.ensures.number c.if-is_some.ensures) c.add_base.ensures.within) c.add_base.ensures.reply c.add_base.ensures.state c.add_base.ensures.err c.add_base.ensures.stay
