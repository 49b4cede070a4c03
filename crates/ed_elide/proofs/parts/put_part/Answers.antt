use Rattle.std.proofs.Common.{◌≡◌, ◌∙◌, ◌+◌, ◌-◌, max, min, refl, ap, arith}
use Rattle.ed_base.specs.Spans.{end_of}
use Rattle.ed_kept.specs.Kept.{pairs_of, kept_run}
use Rattle.ed_kept.proofs.Rising.{pairs_push}
use Rattle.ed_elide.proofs.parts.put_part.Goals as goal

pub returns-in_ok-push : goal.returns-in_ok-push
returns-in_ok-push c =
    let start : c.max-start.result ≡ max c.args.run.old c.args.span.start = omega (arith, c.max-start.ensures) in
    let end : c.min-end.result ≡ min (c.args.run.old + c.args.run.len) (end_of c.args.span) = omega (arith, c.min-end.ensures) in
    ap pairs_of c.in_ok-push.ensures.items
    ∙ pairs_push c.args.list.now.items (kept_run (c.args.from + (c.max-start.result - c.args.span.start)) (c.args.run.new + (c.max-start.result - c.args.run.old)) (c.min-end.result - c.max-start.result))
    ∙ rw (start, end) refl
