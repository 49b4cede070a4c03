use Rattle.std.proofs.Common.{sym, ap, ◌∙◌}
use Rattle.ed_machine.specs.Accepted.{Outcome}
use Rattle.ed_core.proofs.Doing.{refused_does}
use Rattle.ed_core.proofs.RegionTelling.{gone_missing, gone_carrier, gone_absent, gone_step}
use Rattle.ed_core.proofs.state.Core.remove_region.Goals as goal

pub returns-in_default : goal.returns-in_default
returns-in_default c = λ hooks. refused_does _ c.args.self.now _ (gone_missing hooks c.args.self.now c.args.name.now c.args.region c.in_default.ensures.number)

pub returns-then-not-is_base : goal.returns-then-not-is_base
returns-then-not-is_base c = λ hooks. refused_does _ c.args.self.now _ (gone_carrier hooks c.args.self.now c.args.name.now c.args.region c.in-Some.buffer c.in-Some.ensures.number (sym c.if-not-is_base.ensures))

pub returns-then-take_region : goal.returns-then-take_region
returns-then-take_region c = λ hooks.
    let gone = gone_step hooks c.args.self.now c.args.name.now c.args.region c.in-Some.buffer c.in-Some.ensures.number (sym c.if-not-is_base.ensures) (sym c.if-take_region.ensures.live) c.take_region.ensures.whole in
    record {
      reply = ap (λ (o : Outcome). o.reply) (sym gone);
      state = c.take_region.ensures.state ∙ ap (λ (o : Outcome). o.state) (sym gone);
      err = tt;
      stay = c.take_region.ensures.stay;
    }

pub returns : goal.returns
returns c = λ hooks.
    let gone = gone_absent hooks c.args.self.now c.args.name.now c.args.region c.in-Some.buffer c.in-Some.ensures.number (sym c.if-not-is_base.ensures) (sym c.if-take_region.ensures.live) in
    record {
      reply = ap (λ (o : Outcome). o.reply) (sym gone);
      state = c.take_region.ensures.same c.if-take_region.false ∙ ap (λ (o : Outcome). o.state) (sym gone);
      err = tt;
      stay = c.take_region.ensures.stay;
    }
