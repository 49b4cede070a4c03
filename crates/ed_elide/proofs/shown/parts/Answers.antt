use Rattle.std.proofs.Common.{length}
use Rattle.ed_base.specs.declared.edit.Span.{Span}
use Rattle.ed_spans.proofs.EndLemmas.{apart_at}
use Rattle.ed_elide.proofs.shown.parts.Goals as goal

abbrev no_span : Span
no_span = record { start = 0; len = 0 }

pub slice-requires : goal.slice-requires
slice-requires c = (apart_at 0 (length c.args.text.now) c.loop-span.span-index c.args.spans.now no_span c.requires c.loop-span-test.true).1
