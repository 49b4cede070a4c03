use Rattle.std.proofs.Common.{◌∙◌, ap, sym}
use Rattle.ed_base.specs.Numbers.{is_among}
use Rattle.ed_risen.proofs.Sources.{put_listed}
use Rattle.ed_group.proofs.listing.put_source.Goals as goal

pub returns-in_ok-push-in-Tracked : goal.returns-in_ok-push-in-Tracked
returns-in_ok-push-in-Tracked c = put_listed c.args.sources.now.items c.push.new.self.items c.args.member.now c.in-Tracked.source c.in-Tracked.bounds c.in-Tracked.mode c.in-Tracked.is c.in_ok-push-in-Tracked.ensures.items (ap (is_among c.in-Tracked.source) (sym c.deref.ensures.value) ∙ sym c.is_listed.ensures ∙ c.if-not-is_listed.true)
